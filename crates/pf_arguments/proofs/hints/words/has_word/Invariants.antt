use Rattle.std.proofs.Common.{◌≡◌, drop}
use Rattle.std.specs.List.{list_any}
use Rattle.std.specs.Str.{bytes_eq}
use Rattle.pf_arguments.proofs.hints.words.has_word.Given as goal

-- none of those so far is it
abbrev pub invariant-loop-word : goal.invariant-loop-word
invariant-loop-word g l =
    list_any (λ w. bytes_eq l.name (g.S.AsStr.text w)) (drop l.word-index l.words) ≡ list_any (λ w. bytes_eq l.name (g.S.AsStr.text w)) l.words
