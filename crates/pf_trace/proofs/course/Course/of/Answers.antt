use Rattle.std.proofs.Common.{◌≤◌, sym, subst}
use Rattle.std.specs.Prelude.{length}
use Rattle.std.specs.List.Sorted.{IsNonDecreasing}
use Rattle.pf_tally.proofs.Ledgers.{can_miss}
use Rattle.pf_trace.proofs.course.Course.of.Goals as goal

pub invariant_of-result : goal.invariant_of-result
invariant_of-result c = (
  can_miss c.args.task c.args.ran.now c.args.events.now c.args.now c.in_ok-delays.delays.items c.requires c.in_ok-delays.ensures,
  c.end_of.ensures.most,
  subst (λ xs. length xs ≤ c.args.now) (sym c.in_ok-from_slice.ensures.items) c.requires.ran_within,
  subst IsNonDecreasing (sym c.in_ok-from_slice.ensures.items) c.requires.ran_rise,
)
