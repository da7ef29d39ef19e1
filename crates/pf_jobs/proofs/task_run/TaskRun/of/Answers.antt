use Rattle.std.proofs.Common.{◌<◌, ℕ, List, All, sym, subst}
use Rattle.pf_scenario.specs.declared.settings.TheConstants.{WIDE_HORIZON}
use Rattle.pf_tally.proofs.Ledgers.{can_miss}
use Rattle.pf_jobs.proofs.task_run.TaskRun.of.Goals as goal

pub invariant_of-result : goal.invariant_of-result
invariant_of-result c =
    let P : List ℕ → Type 0 = All (λ q. q < WIDE_HORIZON) in (
      can_miss c.args.task c.args.ran.now c.args.events.now c.args.now c.in_ok-delays.delays.items c.requires.can c.in_ok-delays.ensures,
      subst P (sym c.in_ok-from_slice.ensures.items) c.requires.slots,
    )
