use Rattle.std.proofs.Common.{◌≡◌, ◌++◌, map, take}
use Rattle.pf_convert.proofs.fit.table.push_all.Given as goal

abbrev pub invariant-loop-words : goal.invariant-loop-words
invariant-loop-words l = l.row ≡ l.fn.row ++ map (λ words. words.now) (take l.words-index l.all)
