use Rattle.std.proofs.Common.{◌≡◌, ◌++◌, map, take}
use Rattle.pf_why_text.proofs.ranks.push_texts.Given as goal

-- the texts so far stand there
abbrev pub invariant-loop-text : goal.invariant-loop-text
invariant-loop-text l = l.row ≡ l.fn.row ++ map (λ text. text.now) (take l.text-index l.texts)
