use Rattle.std.proofs.Common.{◌≡◌, ◌++◌, take}
use Rattle.std.specs.List.{flat_map}
use Rattle.pf_session_lines.specs.Words.{word_line}
use Rattle.pf_session_lines.proofs.reason.push_lines.Given as goal

abbrev pub invariant-loop-word : goal.invariant-loop-word
invariant-loop-word l = l.text.items ≡ l.fn.text.items ++ flat_map (λ w. word_line w.now) (take l.word-index l.words)
