use Rattle.std.specs.Prelude.{◌≡◌, ◌+◌, ℕ}
use Rattle.pf_heap.specs.Table.{HasTable, IsListing}
use Rattle.pf_heap.proofs.table.Roots.list.Given as goal

abbrev pub invariant-loop-step : goal.invariant-loop-step
invariant-loop-step l =
    (can : HasTable l.fn.nodes l.self) (bound : ℕ) → bound + l.step ≡ 16 → IsListing l.nodes can.trees can.others l.link bound
