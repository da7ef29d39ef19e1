-- A subtask that runs may do so: by the shift that stays.
use Rattle.std.proofs.Common.{◌≡◌, ℕ, suc, ◌+◌, ◌-◌, ◌<◌, ◌≤◌, true, max, List, length, take, get_or, count_by, All, Contains, arith, refl, ap, sym, ◌∙◌, subst, inr}
use Rattle.std.proofs.lemmas.List.{take-take, length-take-le, length-map}
use Rattle.pf_window.specs.Window.{release_of}
use Rattle.pf_scenario.specs.Event.{slot_of}
use Rattle.pf_scenario.specs.Scenario.{Plan}
use Rattle.pf_scenario.specs.Edit.{IsScenario}
use Rattle.pf_scenario.specs.declared.event.Numbered.{Numbered}
use Rattle.pf_run.specs.Record.{Slot, runs, done, next_sub}
use Rattle.pf_run.specs.Inside.{Joined, ready, member_of, shift_of, count_of, eligible_from}
use Rattle.pf_run.specs.Run.{events_in_force, pick_of_key, IsRun}
use Rattle.pf_run.proofs.Firsts.{first_few}
use Rattle.pf_tally.proofs.Joined.{inside_joined}
use Rattle.pf_tally.proofs.Members.{joined_of}
use Rattle.pf_tally.proofs.Fronts.{standing_below}
use Rattle.pf_laws.proofs.PromiseLemmas.Shifts.{no_slot, shift-slots, sub_at, shift_at, settled}
use Rattle.pf_tally.proofs.Slots.{RunsBy, runs_by}
use Rattle.pf_laws.proofs.PromiseLemmas.Joining.{all_joined, task_at, task_at-joined}
use Rattle.pf_laws.proofs.PromiseLemmas.Choosing.{chosen, chosen_first, chosen_picks, joined_at_end}
use Rattle.pf_laws.specs.Necessity.Bound.{first_of}

member-eligible : (q : List Slot) (xs : List Numbered) (j : Joined) →
    eligible_from (member_of q xs j) ≡ max j.slot (release_of j.weight (next_sub q j.task) + shift_of q xs j (next_sub q j.task) - j.early)
unfolding member_of
member-eligible q xs j = refl

done-front : (r : List Slot) (task u v : ℕ) → u ≤ v → done (take v r) task u ≡ done r task u
unfolding done
done-front r task u v le = ap (count_by (runs task)) (take-take u v r le)

module _ (s : Plan) (scenario : IsScenario s) (r : List Slot) (run : IsRun s (length r) r) (v : ℕ) (lt : v < length r) where
  abbrev now : List Numbered
  now = events_in_force s r (suc v)

  abbrev front : List Slot
  front = take v r

  pub few_picks : length (get_or r v no_slot).picks ≤ count_of s.settings.processors now
  few_picks =
      omega (
        arith,
        ap length (chosen_picks s scenario r run v lt),
        length-map (chosen s scenario r run v lt) pick_of_key,
        first_few (count_of s.settings.processors now) (ready s.settings.base front now) (chosen s scenario r run v lt)
            (chosen_first s scenario r run v lt),
      )

  eligible : (j : Joined) (i : ℕ) → Contains (joined_of s.settings.base now) j → runs j.task (get_or r v no_slot) ≡ true →
      done r j.task v ≡ i → eligible_from (member_of front now j) ≤ length front →
      first_of r (events_in_force s r (length r)) j (suc i) ≤ v
  eligible j i at running had from =
      let long : length front ≡ v = length-take-le v r (omega (arith, lt)) in
      let sub : next_sub front j.task ≡ sub_at r j v =
      ap (λ n. n + 1) (ap (λ u. done front j.task u) long ∙ done-front r j.task v v (omega arith)) in
      let early : All (λ x. slot_of x.event ≤ v) now = λ k d within. omega (arith, standing_below s r (suc v) k d within) in
      let shift : shift_of front now j (next_sub front j.task) ≡ shift_at s r j v =
      ap (λ k. shift_of front now j k) sub
      ∙ shift-slots front r now j (sub_at r j v) v early (λ u le. done-front r j.task u v le) in
      let stays : shift_of r (events_in_force s r (length r)) j (sub_at r j v) ≡ shift_at s r j v =
      settled s scenario (length r) r run v lt j at (inr running) in
      let next : sub_at r j v ≡ suc i = omega (arith, had) in
      omega (
        arith,
        from,
        long,
        member-eligible front now j,
        shift,
        stays,
        ap (release_of j.weight) sub,
        ap (release_of j.weight) next,
        ap (λ k. shift_of r (events_in_force s r (length r)) j k) next,
      )

  pub runs_eligible : (j : Joined) (i : ℕ) → Contains (all_joined s r) j → runs j.task (get_or r v no_slot) ≡ true →
      done r j.task v ≡ i → first_of r (events_in_force s r (length r)) j (suc i) ≤ v
  runs_eligible j i at running had =
      let by : RunsBy s.settings.base (count_of s.settings.processors now) front now (get_or r v no_slot) (chosen s scenario r run v lt)
      (chosen_first s scenario r run v lt) (chosen_picks s scenario r run v lt) j.task =
      runs_by s.settings.base (count_of s.settings.processors now) front now (get_or r v no_slot) (chosen s scenario r run v lt)
      (chosen_first s scenario r run v lt) (chosen_picks s scenario r run v lt) j.task running in
      let k = by.ready.task_of in
      let at_now : Contains (joined_of s.settings.base now) k = inside_joined s.settings.base now k by.ready.inside in
      let number : k.task ≡ j.task = ap (λ z. z.task) by.ready.is ∙ by.number in
      let same : k ≡ j =
      sym (task_at-joined s scenario r k (joined_at_end s scenario r run v lt k at_now)) ∙ ap (task_at s r) number
      ∙ task_at-joined s scenario r j at in
      eligible j i (subst (λ z. Contains (joined_of s.settings.base now) z) same at_now) running had
      (subst (λ (z : Joined). eligible_from (member_of front now z) ≤ length front) same by.ready.eligible)
