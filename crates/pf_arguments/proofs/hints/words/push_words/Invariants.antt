use Rattle.std.proofs.Common.{◌≡◌, ◌++◌, drop}
use Rattle.std.specs.List.{flat_map}
use Rattle.pf_arguments.specs.Hints.Words.{spaced_word}
use Rattle.pf_arguments.proofs.hints.words.push_words.Given as goal

-- the words so far, and those that are left, are all
abbrev pub invariant-loop-word : goal.invariant-loop-word
invariant-loop-word g l =
    l.text.items ++ flat_map (λ w. spaced_word (g.S.AsStr.text w)) (drop l.word-index l.words)
    ≡ l.fn.text.items ++ flat_map (λ w. spaced_word (g.S.AsStr.text w)) l.words
