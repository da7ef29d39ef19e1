use Rattle.std.proofs.Common.{◌≡◌, map, take}
use Rattle.pf_text.proofs.table.Table.push_texts.Given as goal

-- the texts so far are fields of the next record
abbrev pub invariant-loop-text : goal.invariant-loop-text
invariant-loop-text l = l.self ≡ record { text = l.fn.self.text; fields = map (λ text. text.now) (take l.text-index l.texts) }
