use Rattle.std.proofs.Common.{◌≡◌, ◌++◌, drop, false}
use Rattle.pf_session_lines.specs.Lines.{parted}
use Rattle.pf_session_lines.proofs.row_text.push_parted.Given as goal

-- what was written and what is left are all of it
abbrev pub invariant-loop-byte : goal.invariant-loop-byte
invariant-loop-byte l =
    l.text.items ++ parted l.place.quoted l.place.is_behind (drop l.byte-index l.line) ≡ l.fn.text.items ++ parted false false l.line
