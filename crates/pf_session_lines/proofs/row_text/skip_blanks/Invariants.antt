use Rattle.std.proofs.Common.{◌≡◌, drop}
use Rattle.pf_session_lines.specs.Lines.{skip_blanks}
use Rattle.pf_session_lines.proofs.row_text.skip_blanks.Given as goal

-- blanks alone stand before
abbrev pub invariant-loop-place : goal.invariant-loop-place
invariant-loop-place l = skip_blanks (drop l.place l.line) ≡ skip_blanks l.line
