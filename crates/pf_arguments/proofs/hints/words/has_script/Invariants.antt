use Rattle.std.proofs.Common.{◌≡◌, drop}
use Rattle.std.specs.List.{list_any}
use Rattle.pf_arguments.specs.Hints.Words.{is_script}
use Rattle.pf_arguments.proofs.hints.words.has_script.Given as goal

-- none of those so far names a script
abbrev pub invariant-loop-word : goal.invariant-loop-word
invariant-loop-word g l =
    list_any (λ w. is_script (g.S.AsStr.text w)) (drop l.word-index l.words) ≡ list_any (λ w. is_script (g.S.AsStr.text w)) l.words
