use Rattle.std.specs.Prelude.{◌≡◌, ◌≤◌, vec_len, []}
use Rattle.std.specs.Vec.{vec_capacity}
use Rattle.pf_board.specs.Passes.{new_passes}
use Rattle.pf_board.specs.Views.{first_view}
use Rattle.pf_board.proofs.board.Board.make_passes.Given as goal

abbrev pub invariant-loop-number : goal.invariant-loop-number
invariant-loop-number g l = record {
  made : l.passes.items ≡ new_passes l.fn.self.id l.fn.terms l.number;
  size : vec_len l.passes ≡ l.number;
  room : l.fn.count ≤ vec_capacity l.passes;
  board : l.first.table_id ≡ l.fn.self.id;
  first : l.first.me ≡ (first_view l.fn.terms l.number, []);
}
