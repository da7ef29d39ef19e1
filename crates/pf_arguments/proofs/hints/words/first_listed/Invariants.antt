use Rattle.std.proofs.Common.{◌≡◌, drop, map}
use Rattle.std.specs.Prelude.{find}
use Rattle.pf_arguments.specs.Hints.Words.{before_equals, is_list_word}
use Rattle.pf_arguments.proofs.hints.words.first_listed.Given as goal

-- none of those so far is one
abbrev pub invariant-loop-word : goal.invariant-loop-word
invariant-loop-word g l =
    find is_list_word (map before_equals (map g.S.AsStr.text (drop l.word-index l.words))) ≡ find is_list_word (map before_equals (map g.S.AsStr.text l.words))
