use Rattle.std.proofs.Common.{◌≡◌, ◌++◌, map, take}
use Rattle.pf_convert.proofs.conversion.report.push_texts.Given as goal

abbrev pub invariant-loop-text : goal.invariant-loop-text
invariant-loop-text l = l.row ≡ l.fn.row ++ map (λ text. text.now) (take l.text-index l.texts)
