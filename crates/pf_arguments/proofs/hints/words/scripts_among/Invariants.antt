use Rattle.std.proofs.Common.{◌≡◌, ◌++◌, drop, map}
use Rattle.std.specs.List.{filter}
use Rattle.pf_arguments.specs.Hints.Words.{is_script}
use Rattle.pf_arguments.proofs.hints.words.scripts_among.Given as goal

-- the scripts so far, and those that are left, are all
abbrev pub invariant-loop-word : goal.invariant-loop-word
invariant-loop-word g l =
    map (λ s. s.now) l.scripts.items ++ filter is_script (map g.S.AsStr.text (drop l.word-index l.words)) ≡ filter is_script (map g.S.AsStr.text l.words)
