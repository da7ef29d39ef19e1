-- A subtask runs no sooner than its release by the shift that stays, less its task's early.
use Rattle.std.proofs.Common.{◌≡◌, ℕ, suc, ◌+◌, ◌<◌, ◌≤◌, true, List, length, take, get_or, Contains, arith, ap, ◌∙◌, subst, inr, ⊎_elim}
use Rattle.std.proofs.lemmas.List.Elements.{All-contains, Contains-append_cases}
use Rattle.pf_window.specs.Window.{release_of}
use Rattle.pf_order.specs.Priority.{Priority}
use Rattle.pf_scenario.specs.Event.{slot_of, is_leave_of}
use Rattle.pf_scenario.specs.Scenario.{Plan}
use Rattle.pf_scenario.specs.Edit.{IsScenario}
use Rattle.pf_scenario.specs.declared.event.Numbered.{Numbered}
use Rattle.pf_run.specs.Record.{Slot, runs, done}
use Rattle.pf_run.specs.Inside.{Joined, member_of, shift_of, count_of, eligible_from}
use Rattle.pf_run.specs.Run.{events_in_force, IsRun}
use Rattle.pf_tally.proofs.Joined.{inside_joined}
use Rattle.pf_tally.proofs.Fronts.{Splits, splits}
use Rattle.pf_tally.proofs.Members.{joined_of, one_joined}
use Rattle.pf_laws.proofs.PromiseLemmas.Shifts.{no_slot, sub_at, shift_at, settled}
use Rattle.pf_tally.proofs.Slots.{RunsBy, runs_by, inside_stays}
use Rattle.pf_laws.proofs.PromiseLemmas.Joining.{all_joined, joins_at_most}
use Rattle.pf_laws.proofs.PromiseLemmas.Choosing.{chosen, chosen_first, chosen_picks, joined_at_end, eligible_is, front_length, sub_front, shift_front}

module _ (s : Plan) (scenario : IsScenario s) (r : List Slot) (run : IsRun s (length r) r) where
  abbrev base : ℕ
  base = s.settings.base

  abbrev end_now : List Numbered
  end_now = events_in_force s r (length r)

  module _ (v : ℕ) (lt : v < length r) where
    abbrev now : List Numbered
    now = events_in_force s r (suc v)

    abbrev front : List Slot
    front = take v r

    -- what holds of a task that runs in slot v
    pub record RunsInTime (j : Joined) : Type 0 where
      pub from : j.slot ≤ v
      pub after : release_of j.weight (suc (done r j.task v)) + shift_of r end_now j (suc (done r j.task v)) ≤ v + j.early
      pub stays : (x : Numbered) → Contains end_now x → is_leave_of j.task x.event ≡ true → v < slot_of x.event

    pub runs_in_time : (j : Joined) → Contains (all_joined s r) j → runs j.task (get_or r v no_slot) ≡ true → RunsInTime j
    runs_in_time j at running =
        let by : RunsBy base (count_of s.settings.processors now) front now (get_or r v no_slot) (chosen s scenario r run v lt)
        (chosen_first s scenario r run v lt) (chosen_picks s scenario r run v lt) j.task =
        runs_by base (count_of s.settings.processors now) front now (get_or r v no_slot) (chosen s scenario r run v lt)
        (chosen_first s scenario r run v lt) (chosen_picks s scenario r run v lt) j.task running in
        let number : by.ready.task_of.task ≡ j.task = ap (λ (k : Priority). k.task) by.ready.is ∙ by.number in
        let joined : Contains (joined_of base now) by.ready.task_of = inside_joined base now by.ready.task_of by.ready.inside in
        let same : by.ready.task_of ≡ j =
        one_joined base end_now by.ready.task_of j (joins_at_most s scenario r j.task)
        (joined_at_end s scenario r run v lt by.ready.task_of joined) at number in
        let eligible : eligible_from (member_of front now j) ≤ length front =
        subst (λ k. eligible_from (member_of front now k) ≤ length front) same by.ready.eligible in
        let stays : shift_of r end_now j (sub_at r j v) ≡ shift_at s r j v =
        settled s scenario (length r) r run v lt j (subst (λ k. Contains (joined_of base now) k) same joined) (inr running) in
        let sub : sub_at r j v ≡ suc (done r j.task v) = omega arith in
        record {
          from = omega (arith, eligible, eligible_is front now j, front_length s scenario r run v lt);
          after = omega (
            arith,
            eligible,
            eligible_is front now j,
            front_length s scenario r run v lt,
            shift_front s scenario r run v lt j,
            stays,
            ap (λ i. release_of j.weight i) (sub_front s scenario r run v lt j),
            ap (λ i. release_of j.weight i) sub,
            ap (λ i. shift_of r end_now j i) sub,
          );
          stays = λ x among leaves.
              let rest : Splits s r (suc v) (length r) = splits s r (suc v) (length r) lt in
              ⊎_elim
              (λ sooner.
              absurd (inside_stays base now by.ready.task_of x by.ready.inside sooner (ap (λ u. is_leave_of u x.event) number ∙ leaves)))
              (λ later. omega (arith, All-contains (λ y. suc v ≤ slot_of y.event) rest.rest x rest.later later))
              (Contains-append_cases now rest.rest x (subst (λ zs. Contains zs x) rest.is among));
        }
