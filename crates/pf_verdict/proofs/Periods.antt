-- Each task that is told of has a period of at least a slot; and so has the worst one.
use Rattle.std.proofs.Common.{suc, ◌≤◌, Bool, true, false, if◌then◌else◌, Option, None, Some, List, [], ◌∷◌, length, map, filter_map, fold, All, arith, sym, subst}
use Rattle.std.specs.Prelude.{IfSome}
use Rattle.std.proofs.lemmas.List.Elements.{All-map}
use Rattle.std.proofs.lemmas.List.Sorted.{All-permutation}
use Rattle.pf_weight.specs.Share.{IsShare}
use Rattle.pf_run.specs.Inside.{Joined, join_of}
use Rattle.pf_run.specs.Record.{denials_of}
use Rattle.pf_run.specs.Run.{events_in_force}
use Rattle.pf_run.specs.Computed.{run_of}
use Rattle.pf_run.specs.RunRows.{AreOfRun}
use Rattle.pf_run.proofs.Runs.{run_is_computed}
use Rattle.pf_tally.specs.Figures.{figures_of, figures_of_task, processors_in}
use Rattle.pf_scenario.proofs.Sorting.{sorted_keeps}
use Rattle.pf_tally.specs.Lags.{task_cmp, by_task}
use Rattle.pf_tally.specs.declared.figures.Figures.{Figures}
use Rattle.pf_tally.proofs.Joined.{log_shares}
use Rattle.pf_tally.proofs.InForce.{standing_is_log}
use Rattle.pf_desk.specs.Desk.{Seen}
use Rattle.pf_verdict.specs.declared.worst.Rated.{Rated}
use Rattle.pf_verdict.specs.Worst.{exceeds, lag_of, worse}

-- Use: what is told of the tasks of a run.
pub periods : (seen : Seen) → AreOfRun seen.state.plan seen.state.now seen.rows seen.denials →
    All (λ (f : Figures). 1 ≤ f.period) (figures_of seen.state.plan (run_of seen.state.plan seen.state.now) seen.rows)
unfolding figures_of
periods seen are =
    let s = seen.state.plan in
    let n = seen.state.now in
    let r = run_of s n in
    let run = run_is_computed s n are.scenario in
    let joined : List Joined = filter_map (join_of s.settings.base) (events_in_force s r (length r)) in
    let shares : All (λ (j : Joined). IsShare j.weight) joined =
    subst (λ m. All (λ (j : Joined). IsShare j.weight) (filter_map (join_of s.settings.base) (events_in_force s r m))) (sym run.slots)
    (log_shares s.settings n (events_in_force s r n) (standing_is_log s n (denials_of r) are.scenario are.within)) in
    let sorted : All (λ (j : Joined). IsShare j.weight) (by_task joined) =
    All-permutation (λ (j : Joined). IsShare j.weight) joined (by_task joined) (sorted_keeps task_cmp joined) shares in
    All-map (λ (f : Figures). 1 ≤ f.period) (λ j. figures_of_task r (processors_in seen.rows j.task) (events_in_force s r (length r)) j) (by_task joined)
    (λ k d lt. let share = sorted k d lt in omega (arith, share.some, share.within))

abbrev pub HasPeriod : Option Rated → Type 0
HasPeriod worst = IfSome worst (λ w. 1 ≤ w.period)

worse_kept : (o : Option Rated) (next : Rated) → HasPeriod o → 1 ≤ next.period → HasPeriod (worse o next)
worse_kept None next before more = more
worse_kept (Some found) next before more = by (exceeds next.value next.period found.value found.period) where
  by : (b : Bool) → 1 ≤ (if b then next else found).period
  by true = more
  by false = before

-- Use: the worst of these tasks.
pub worst_kept : (o : Option Rated) (figures : List Figures) → HasPeriod o → All (λ (f : Figures). 1 ≤ f.period) figures →
    HasPeriod (fold worse o (map lag_of figures))
worst_kept o [] before all = before
worst_kept o (f ∷ fs) before all =
    worst_kept (worse o (lag_of f)) fs (worse_kept o (lag_of f) before (all 0 f (omega arith))) (λ k d lt. all (suc k) d (omega (arith, lt)))
