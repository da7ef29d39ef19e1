-- A subtask ran before a slot by its picks where it did so by the count of its task's quanta.
use Rattle.std.proofs.Common.{◌≡◌, ℕ, zero, suc, ◌+◌, ◌<◌, ◌≤◌, ◌==◌, ◌&&◌, Bool, true, false, not, nat_le, nat_lt, cond, if◌then◌else◌, Option, None, Some, List, [], ◌∷◌, length, position, get_or, Contains, arith, refl, ap, ◌∙◌, subst, ⊎_elim}
use Rattle.std.specs.List.{list_any, position_or_len}
use Rattle.std.specs.Option.{option_map_or}
use Rattle.std.proofs.lemmas.Bool.{cases_Bool, cases_lt, and_parts, and_from, leb-true, leb-false, le-leb, lt-leb, lt-ltb, both_ways, cond-true, true≢false, true_from_ne_false}
use Rattle.std.proofs.lemmas.List.Quantifiers.{position-Some}
use Rattle.pf_order.specs.declared.pick.Pick.{Pick}
use Rattle.pf_scenario.specs.Scenario.{Plan}
use Rattle.pf_scenario.specs.Edit.{IsScenario}
use Rattle.pf_scenario.specs.declared.event.Numbered.{Numbered}
use Rattle.pf_run.specs.Record.{Slot, runs, done}
use Rattle.pf_run.specs.Inside.{Joined}
use Rattle.pf_run.specs.Run.{events_in_force, IsRun}
use Rattle.pf_tally.specs.Misses.{due_of, ran_in, leaves_after, is_missed}
use Rattle.pf_laws.proofs.PromiseLemmas.Shifts.{no_slot, done-runs, done-rises}
use Rattle.pf_laws.proofs.PromiseLemmas.Joining.{all_joined, task_at-joined}
use Rattle.pf_laws.proofs.PromiseLemmas.Choosing.{due_in, counted, runs_pick, picked_next}

-- the first place that passes is no later than one that does
position_early : {X : Type 0} (p : X → Bool) (xs : List X) (v : ℕ) (d : X) → v < length xs → p (get_or xs v d) ≡ true →
    position_or_len p xs ≤ v
position_early p [] v d lt passes = absurd (omega (arith, lt))
position_early p (x ∷ xs) v d lt passes = by (p x) refl v lt passes (λ u below now. position_early p xs u d below now) where
  by : (b : Bool) → p x ≡ b → (v : ℕ) → v < length (x ∷ xs) → p (get_or (x ∷ xs) v d) ≡ true →
      ((u : ℕ) → u < length xs → p (get_or xs u d) ≡ true → position_or_len p xs ≤ u) →
      cond (not b) (1 + position_or_len p xs) 0 ≤ v
  by true is v lt passes rest = omega arith
  by false is zero lt passes rest = absurd (both_ways (p x) is passes)
  by false is (suc u) lt passes rest = omega (arith, rest u (omega (arith, lt)) passes)

module _ (s : Plan) (scenario : IsScenario s) (r : List Slot) (run : IsRun s (length r) r) where
  abbrev end_now : List Numbered
  end_now = events_in_force s r (length r)

  -- subtask i, numbered from 0, did not run before the slot, by its picks
  abbrev not_before : Joined → ℕ → ℕ → Bool
  not_before j i due = option_map_or (λ t. nat_le due t) (ran_in r j (suc i)) true

  -- the slot in which a subtask ran
  pub slot_of_sub : (t i v : ℕ) → v ≤ length r → i < done r t v →
      (u : ℕ) × (u < v) × (runs t (get_or r u no_slot) ≡ true) × (done r t u ≡ i)
  unfolding done
  slot_of_sub t i zero le ran = absurd (omega (arith, ran))
  slot_of_sub t i (suc v) le ran = ⊎_elim
      (λ (less : i < done r t v).
      let it = slot_of_sub t i v (omega (arith, le)) less in (it.0, omega (arith, it.1), it.2, it.3))
      (λ (ge : done r t v ≤ i). ⊎_elim
      (λ (running : runs t (get_or r v no_slot) ≡ true).
      (v, omega arith, running, omega (arith, ge, ran, done-runs r t v no_slot le running)))
      (λ (idle : runs t (get_or r v no_slot) ≡ false).
      absurd (omega (arith, ge, ran, counted s scenario r run t v, ap {B = ℕ} (λ b. if b then 1 else 0) idle)))
      (cases_Bool (runs t (get_or r v no_slot))))
      (cases_lt i (done r t v))

  -- a subtask that ran below a slot did so in one below it
  ran_before : (j : Joined) (i due : ℕ) → due ≤ length r → i < done r j.task due →
      not_before j i due ≡ false
  ran_before j i due le ran =
      let it = slot_of_sub j.task i due le ran in
      let test = λ (d : Slot). list_any (λ (p : Pick). p.task == j.task && p.sub == suc i) d.picks in
      let picked : test (get_or r it.0 no_slot) ≡ true =
      subst (λ n. list_any (λ (p : Pick). p.task == j.task && p.sub == n) (get_or r it.0 no_slot).picks ≡ true)
      (omega (arith, it.3)) (runs_pick s scenario r run it.0 (omega (arith, it.1, le)) j.task it.2) in
      let early : position_or_len test r ≤ it.0 = position_early test r it.0 no_slot (omega (arith, it.1, le)) picked in
      let is : position test r ≡ Some (position_or_len test r) =
      cond-true (nat_lt (position_or_len test r) (length r)) (Some (position_or_len test r)) None
      (lt-ltb (position_or_len test r) (length r) (omega (arith, early, it.1, le))) in
      ap (λ o. option_map_or (λ t. nat_le due t) o true) is
      ∙ lt-leb due (position_or_len test r) (omega (arith, early, it.1))

  -- one with a pick in a slot below has run before
  picked_before : (j : Joined) (i due : ℕ) → due ≤ length r → not_before j i due ≡ false → i < done r j.task due
  picked_before j i due le = by (ran_in r j (suc i)) refl where
    test : Slot → Bool
    test d = list_any (λ (p : Pick). p.task == j.task && p.sub == suc i) d.picks

    by : (o : Option ℕ) → position test r ≡ o → option_map_or (λ t. nat_le due t) o true ≡ false → i < done r j.task due
    by None is early = absurd (true≢false early)
    by (Some u) is early =
        let it = position-Some test r u no_slot is in
        let below : u < due = leb-false due u early in
        let next = picked_next s scenario r run u it.0 j.task i it.1 in
        omega (arith, next.1, done-runs r j.task u no_slot it.0 next.0, done-rises r j.task (suc u) due below)

  -- what a miss is, by that count
  pub record IsMiss (j : Joined) (i : ℕ) : Type 0 where
    pub within : due_of r end_now j (suc i) ≤ length r
    pub after : leaves_after end_now j (due_of r end_now j (suc i)) ≡ true
    pub late : done r j.task (due_of r end_now j (suc i)) ≤ i

  pub miss_is : (j : Joined) (i : ℕ) → is_missed r end_now j (suc i) ≡ true → IsMiss j i
  miss_is j i missed =
      let due = due_of r end_now j (suc i) in
      let outer = and_parts (nat_le due (length r) && leaves_after end_now j due) (not_before j i due) missed in
      let inner = and_parts (nat_le due (length r)) (leaves_after end_now j due) outer.0 in
      let within : due ≤ length r = leb-true due (length r) inner.0 in
      record {
        within = within;
        after = inner.1;
        late = ⊎_elim
            (λ (ran : i < done r j.task due). absurd (both_ways (not_before j i due) (ran_before j i due within ran) outer.1))
            (λ ge. ge) (cases_lt i (done r j.task due));
      }

  pub is_miss : (j : Joined) (i : ℕ) → IsMiss j i → is_missed r end_now j (suc i) ≡ true
  is_miss j i it =
      let due = due_of r end_now j (suc i) in
      and_from (nat_le due (length r) && leaves_after end_now j due) (not_before j i due)
      (and_from (nat_le due (length r)) (leaves_after end_now j due) (le-leb due (length r) it.within) it.after)
      (true_from_ne_false (not_before j i due) (λ early. omega (arith, it.late, picked_before j i due it.within early)))

  -- the task of a number has the windows of the one that joined with it
  module _ (j : Joined) (at : Contains (all_joined s r) j) (i : ℕ) where
    pub due_in_is : due_in s r j.task i ≡ due_of r end_now j (suc i)
    due_in_is = ap (λ k. due_of r end_now k (suc i)) (task_at-joined s scenario r j at)
