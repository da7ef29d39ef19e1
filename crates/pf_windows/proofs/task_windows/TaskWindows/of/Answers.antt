use Rattle.std.proofs.Common.{◌≡◌, ◌≤◌, sym, subst}
use Rattle.std.specs.Prelude.{length}
use Rattle.pf_tally.proofs.Ledgers.{can_miss}
use Rattle.pf_windows.proofs.task_windows.TaskWindows.of.Goals as goal

pub invariant_of-result : goal.invariant_of-result
invariant_of-result c = (
  can_miss c.args.task c.args.ran.now c.args.events.now c.args.slots.now c.in_ok-delays.delays.items c.requires c.in_ok-delays.ensures,
  c.end_of.ensures.most,
  subst (λ xs. length xs ≤ c.args.slots.now) (sym c.in_ok-from_slice.ensures.items) c.requires.ran_within,
)
