use Rattle.std.proofs.Common.{◌≡◌, drop}
use Rattle.std.specs.List.{list_all}
use Rattle.pf_text.specs.FileName.{is_plain}
use Rattle.pf_arguments.proofs.hints.words.are_plain.Given as goal

-- those so far are shown as they are
abbrev pub invariant-loop-word : goal.invariant-loop-word
invariant-loop-word g l =
    list_all (λ w. is_plain (g.S.AsStr.text w)) (drop l.word-index l.words) ≡ list_all (λ w. is_plain (g.S.AsStr.text w)) l.words
