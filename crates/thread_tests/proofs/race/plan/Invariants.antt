use Rattle.std.specs.Prelude.{◌≡◌, ◌+◌, ◌≤◌, length, true, []}
use Rattle.thread_tests.specs.Entries.{IsFreshFrom}
use Rattle.thread_tests.proofs.race.plan.Given as goal

abbrev pub invariant-loop : goal.invariant-loop
invariant-loop l = record {
  board : (l.keeper.board ≡ l.fn.board.id) × (l.pass.board ≡ l.fn.board.id);
  here : (l.keeper.has_turn ≡ true) × (l.keeper.left ≡ []);
  some : 1 ≤ l.next;
  most : l.next ≤ 100001;
  long : length l.keeper.seen + 1 ≤ l.next;
  fresh : IsFreshFrom l.next l.keeper.seen;
}
