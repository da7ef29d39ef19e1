use Rattle.std.proofs.Common.{◌≡◌, ◌+◌, length}
use Rattle.pf_session_turns.specs.Opening.{behind_rows}
use Rattle.pf_session_turns.proofs.in_rows.take_rows.Given as goal

-- after what is left the session is the same
abbrev pub invariant-rows : goal.invariant-rows
invariant-rows l = record {
  same : behind_rows l.session l.number l.rows.rows ≡ behind_rows l.fn.session l.first l.fn.rows.rows;
  counted : l.number + length l.rows.rows ≡ l.first + length l.fn.rows.rows;
}

abbrev pub decreases-rows : goal.decreases-rows
decreases-rows l = length l.rows.rows
