use Rattle.std.proofs.Common.{◌≡◌, map, take}
use Rattle.pf_vocabulary.proofs.name_column.column.push_heading.Given as goal

-- the texts so far are fields of the record
abbrev pub invariant-loop-text : goal.invariant-loop-text
invariant-loop-text l = l.table ≡ record { text = l.fn.table.text; fields = map (λ text. text.now) (take l.text-index l.texts) }
