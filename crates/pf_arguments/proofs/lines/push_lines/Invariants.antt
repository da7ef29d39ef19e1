use Rattle.std.proofs.Common.{◌≡◌, ◌++◌}
use Rattle.std.specs.List.{flat_map}
use Rattle.pf_arguments.specs.Lines.{shown_character}
use Rattle.pf_arguments.proofs.lines.push_lines.Given as goal

-- what is shown are the characters so far
abbrev pub invariant-loop-character : goal.invariant-loop-character
invariant-loop-character l = l.text.items ≡ l.fn.text.items ++ flat_map shown_character l.yielded
