use Rattle.std.proofs.Common.{◌-◌, ◌≡◌, ◌<◌, ◌≤◌, ◌++◌, length}
use Rattle.std.specs.List.{flat_map}
use Rattle.pf_code.specs.Array.{row_text, rows_between}
use Rattle.pf_code.proofs.rows.RowLinesPieces.next_piece.Given as goal

-- what the piece has and the rows left are the text that was left, and the piece is not empty once a row was passed
abbrev pub invariant-loop-at : goal.invariant-loop-at
invariant-loop-at l = record {
  whole : l.text.items ++ flat_map (row_text l.snapshot.state.plan.settings.processors) (rows_between l.snapshot l.at l.to) ≡ l.fn.self;
  within : l.at ≤ l.to;
  behind : l.self-inside.at ≤ l.at;
  some : l.self-inside.at < l.at → 0 < length l.text.items;
}

abbrev pub decreases-loop-at : goal.decreases-loop-at
decreases-loop-at l = l.to - l.at
