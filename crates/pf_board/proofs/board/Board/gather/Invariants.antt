use Rattle.std.specs.Prelude.{◌≡◌, ◌++◌}
use Rattle.std.specs.Vec.Iter.{into_iter_items}
use Rattle.pf_board.specs.Closed.{hands_in}
use Rattle.pf_board.specs.Passes.{AreOf}
use Rattle.pf_board.proofs.board.Board.gather.Given as goal

abbrev pub invariant-loop-pass : goal.invariant-loop-pass
invariant-loop-pass g l = record {
  board : l.host.table_id ≡ l.fn.host.table_id;
  id : l.host.id ≡ l.fn.host.id;
  view : l.host.me ≡ (record l.fn.host.me.0 { guests = l.host.me.0.guests }, l.fn.host.me.1);
  hands : l.host.me.0.guests ++ hands_in (into_iter_items l.pass-iterator) ≡ l.fn.host.me.0.guests ++ hands_in l.fn.passes.items;
  of : AreOf l.fn.self.id (into_iter_items l.pass-iterator);
}
