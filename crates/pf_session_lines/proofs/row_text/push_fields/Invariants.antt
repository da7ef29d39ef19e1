use Rattle.std.proofs.Common.{◌≡◌, ◌++◌, take, codes}
use Rattle.std.specs.List.{flat_map}
use Rattle.pf_session_lines.proofs.row_text.push_fields.Given as goal

-- so many fields were written
abbrev pub invariant-loop-place : goal.invariant-loop-place
invariant-loop-place l = l.line.items ≡ l.fn.line.items ++ flat_map (λ f. codes "," ++ f) (take l.place l.fields)
