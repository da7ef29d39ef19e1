use Rattle.std.proofs.Common.{◌≡◌, ◌∷◌, map, take}
use Rattle.std.specs.Fmt.{decimal}
use Rattle.pf_report.proofs.script.push_words.Given as goal

-- the numbers so far are fields of the record
abbrev pub invariant-loop-number : goal.invariant-loop-number
invariant-loop-number l = l.table ≡ record { text = l.fn.table.text; fields = l.word ∷ map decimal (take l.number-index l.numbers) }
