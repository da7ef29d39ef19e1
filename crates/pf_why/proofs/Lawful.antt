-- The laws of rankings.
use Rattle.std.proofs.Common.{◌∙◌, ◌<◌, length, sym, ap, subst, arith}
use Rattle.std.proofs.lemmas.Bool.Decides.{nat_tests}
use Rattle.std.proofs.lemmas.List.{get_or_default}
use Rattle.pf_order.specs.Priority.{priority_cmp}
use Rattle.pf_run.specs.Record.{Slot}
use Rattle.pf_run.specs.Run.{IsRun}
use Rattle.pf_run.specs.Computed.{run_of}
use Rattle.pf_run.proofs.Runs.{computed_length, run_is_computed}
use Rattle.pf_laws.proofs.PromiseLemmas.Shifts.{no_slot}
use Rattle.pf_why.specs.Laws.{FirstOnesRun, RulesDecide}
use Rattle.pf_why.proofs.First.{first_ones_run}

pub the_first_ones_run : FirstOnesRun
the_first_ones_run s n t d scenario within =
    let long = computed_length s n scenario in
    let run : IsRun s (length (run_of s n)) (run_of s n) = subst (λ m. IsRun s m (run_of s n)) (sym long) (run_is_computed s n scenario) in
    let lt : t < length (run_of s n) = omega (arith, long, within) in
    first_ones_run s scenario (run_of s n) run t lt
    ∙ ap (λ (z : Slot). z.picks) (get_or_default (run_of s n) t no_slot d lt)

pub rules_decide : RulesDecide
unfolding priority_cmp
rules_decide x y first = grind (arith, nat_tests)
