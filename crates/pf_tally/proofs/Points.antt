-- What holds of no events, of one event more that is not denied, and of one slot more, holds at the end of every run.
use Rattle.std.proofs.Common.{◌≡◌, ℕ, suc, ◌+◌, ◌≤◌, ◌==◌, true, false, Option, None, Some, List, [], ◌∷◌, ◌++◌, length, cond, count_by, All, Contains, arith, refl, sym, ap, ◌∙◌, subst, append_assoc, append-nil, ⊎_elim}
use Rattle.std.proofs.lemmas.List.Elements.{All-head, All-tail, All-nil, All-push}
use Rattle.std.proofs.lemmas.List.Sums.{sum_by_push}
use Rattle.std.proofs.lemmas.Bool.{cases_Bool, eqb-true, eq-eqb, or_from}
use Rattle.pf_scenario.specs.Event.{slot_of, is_join_of, is_leave_of}
use Rattle.pf_scenario.specs.Scenario.{Plan, events_of}
use Rattle.pf_scenario.specs.Edit.{IsScenario}
use Rattle.pf_scenario.specs.System.{System}
use Rattle.pf_scenario.specs.declared.event.Event.{Event}
use Rattle.pf_scenario.specs.declared.event.Event.TheVariants.{Join, Leave, Delay, Limit}
use Rattle.pf_scenario.specs.declared.event.Numbered.{Numbered}
use Rattle.pf_admit.specs.declared.denial.Denial.{Denial}
use Rattle.pf_admit.specs.declared.member.Member.{Member}
use Rattle.pf_admit.specs.Admission.{leave_denial}
use Rattle.pf_run.specs.Record.{Slot, runs, denials_of, in_force}
use Rattle.pf_run.specs.Inside.{Joined, has_left, member_at, count_of}
use Rattle.pf_run.proofs.Points.{has_left_push}
use Rattle.pf_tally.proofs.Joined.{inside_joined}
use Rattle.pf_tally.proofs.Members.{joined_of, joined_count, contains_counted, member_found}
use Rattle.pf_tally.proofs.Slots.{runs_by}
use Rattle.pf_run.specs.Denials.{denial_of}
use Rattle.pf_run.specs.Run.{events_in_force, IsNextSlot, IsRun}
use Rattle.pf_run.specs.Computed.{with_event, after_events}
use Rattle.pf_run.specs.Inside.{joins_of}
use Rattle.pf_run.proofs.Counting.{count_by-cons}
use Rattle.pf_run.proofs.Judged.{along_run, length_snoc, next_from_equation}
use Rattle.pf_run.proofs.Plans.{slots_of_events, joins_at}

-- a point of a run: the events xs in force are of slots up to that after q, and a task that didn't join did not leave or
-- run
pub record IsPoint (q : List Slot) (xs : List Numbered) : Type 0 where
  pub past : All (λ x. slot_of x.event ≤ length q) xs
  pub fresh : (task : ℕ) → joins_of task xs ≡ 0 → (has_left xs task ≡ false) × (count_by (runs task) q ≡ 0)

-- a point between the events of a slot: after the slots q the events xs are in force, and ys are to come
pub record IsBetween (s : Plan) (q : List Slot) (xs ys : List Numbered) : Type 0 where
  pub more : List Numbered
  pub grown : xs ≡ events_in_force s q (length q) ++ more
  pub point : IsPoint q xs
  pub now : All (λ y. slot_of y.event ≡ length q) ys
  pub once : (task : ℕ) → joins_of task xs + joins_of task ys ≤ 1

joins_push : (xs : List Numbered) (x : Numbered) (task : ℕ) →
    joins_of task (xs ++ x ∷ []) ≡ joins_of task xs + cond (is_join_of task x.event) 1 0
joins_push xs x task = sum_by_push (λ y. cond (is_join_of task y.event) 1 0) xs x

-- a task that joined is counted
joined_some : (base task : ℕ) (xs : List Numbered) (j : Joined) → Contains (joined_of base xs) j → j.task ≡ task →
    1 ≤ joins_of task xs
joined_some base task xs j at same =
    omega (
      arith,
      joined_count base task xs,
      contains_counted (λ (k : Joined). k.task == task) (joined_of base xs) j at (eq-eqb j.task task same),
    )

-- only a task that joined may leave
leaves_joined : (s : System) (q : List Slot) (xs : List Numbered) (event : Event) (task : ℕ) →
    denial_of s q xs event ≡ None → is_leave_of task event ≡ true → 1 ≤ joins_of task xs
leaves_joined s q xs (Leave slot task') task admitted leaves = by (member_at s.base q xs task') refl where
  by : (o : Option Member) → member_at s.base q xs task' ≡ o → 1 ≤ joins_of task xs
  by None none = let denied = sym (ap (leave_denial slot) none) ∙ admitted in cc
  by (Some m) found =
      let it = member_found s.base q xs task' m found in
      joined_some s.base task xs it.task_of it.joined (it.number ∙ eqb-true task' task leaves)
leaves_joined s q xs (Join slot task' cost period early) task admitted leaves = cc
leaves_joined s q xs (Delay slot task' by) task admitted leaves = cc
leaves_joined s q xs (Limit slot count) task admitted leaves = cc

module _ (s : Plan) (scenario : IsScenario s) where
  once_tail : (q : List Slot) (xs : List Numbered) (y : Numbered) (ys : List Numbered) → IsBetween s q xs (y ∷ ys) →
      (task : ℕ) → joins_of task xs + (cond (is_join_of task y.event) 1 0 + joins_of task ys) ≤ 1
  once_tail q xs y ys between task =
      omega (arith, between.once task, count_by-cons (λ x. is_join_of task x.event) y ys)

  -- one event more, and one slot more
  point_event : (q : List Slot) (xs : List Numbered) (y : Numbered) → slot_of y.event ≡ length q →
      denial_of s.settings q xs y.event ≡ None → IsPoint q xs → IsPoint q (xs ++ y ∷ [])
  point_event q xs y now admitted point = record {
    past = All-push (λ x. slot_of x.event ≤ length q) xs y point.past (omega (arith, now));
    fresh = fresh;
  } where
    fresh : (task : ℕ) → joins_of task (xs ++ y ∷ []) ≡ 0 →
        (has_left (xs ++ y ∷ []) task ≡ false) × (count_by (runs task) q ≡ 0)
    fresh task none =
        let before : joins_of task xs ≡ 0 = omega (arith, none, joins_push xs y task) in
        let stays : is_leave_of task y.event ≡ false =
        ⊎_elim (λ leaves. absurd (omega (arith, before, leaves_joined s.settings q xs y.event task admitted leaves)))
        (λ h. h) (cases_Bool (is_leave_of task y.event)) in (
          has_left_push xs y task ∙ or_from (has_left xs task) (is_leave_of task y.event) (point.fresh task before).0 stays,
          (point.fresh task before).1,
        )

  point_slot : (q : List Slot) (d : Slot) (xs : List Numbered) → IsNextSlot s q d →
      xs ≡ events_in_force s (q ++ d ∷ []) (suc (length q)) → IsPoint q xs → IsPoint (q ++ d ∷ []) xs
  point_slot q d xs next stands point = record {
    past = λ k e lt. omega (arith, point.past k e lt, length_snoc q d);
    fresh = λ task none.
        let before = point.fresh task none in (
          before.0,
          sum_by_push (λ e. cond (runs task e) 1 0) q d
              ∙ ap (λ b. count_by (runs task) q + cond b 1 0) (idle task none) ∙ plus_none (count_by (runs task) q) before.1,
        );
  } where
    plus_none : (n : ℕ) → n ≡ 0 → n + 0 ≡ 0
    plus_none n none = omega (arith, none)

    xs' : List Numbered
    xs' = events_in_force s (q ++ d ∷ []) (suc (length q))

    idle : (task : ℕ) → joins_of task xs ≡ 0 → runs task d ≡ false
    idle task none = ⊎_elim
        (λ (running : runs task d ≡ true).
        let by =
        runs_by s.settings.base (count_of s.settings.processors xs') q xs' d next.picks.chosen next.picks.are_first
        next.picks.subtasks task running in
        let number : by.ready.task_of.task ≡ task = ap (λ k. k.task) by.ready.is ∙ by.number in
        let some =
        joined_some s.settings.base task xs' by.ready.task_of
        (inside_joined s.settings.base xs' by.ready.task_of by.ready.inside) number in
        absurd (omega (arith, some, none, ap (joins_of task) stands)))
        (λ h. h) (cases_Bool (runs task d))

  between_next : (q : List Slot) (xs : List Numbered) (y : Numbered) (ys : List Numbered) (o : Option Denial) →
      denial_of s.settings q xs y.event ≡ o → IsBetween s q xs (y ∷ ys) → IsBetween s q (with_event xs y o) ys
  between_next q xs y ys o is between = record {
    more = with_event between.more y o;
    grown = grown o;
    point = point o is;
    now = All-tail (λ x. slot_of x.event ≡ length q) y ys between.now;
    once = λ task. once o task;
  } where
    grown : (o : Option Denial) → with_event xs y o ≡ events_in_force s q (length q) ++ with_event between.more y o
    grown None =
        ap (λ zs. zs ++ y ∷ []) between.grown ∙ append_assoc (events_in_force s q (length q)) between.more (y ∷ [])
    grown (Some denial) = between.grown

    point : (o : Option Denial) → denial_of s.settings q xs y.event ≡ o → IsPoint q (with_event xs y o)
    point None is =
        point_event q xs y (All-head (λ x. slot_of x.event ≡ length q) y ys between.now) is between.point
    point (Some denial) is = between.point

    once : (o : Option Denial) (task : ℕ) → joins_of task (with_event xs y o) + joins_of task ys ≤ 1
    once None task = omega (arith, once_tail q xs y ys between task, joins_push xs y task)
    once (Some denial) task = omega (arith, once_tail q xs y ys between task)

  module _ (P : List Slot → List Numbered → Type 0) (none : P [] [])
      (event : (q : List Slot) (xs : List Numbered) (x : Numbered) (ys : List Numbered) → IsRun s (length q) q →
      IsBetween s q xs (x ∷ ys) → denial_of s.settings q xs x.event ≡ None → P q xs → P q (xs ++ x ∷ []))
      (slot : (q : List Slot) (d : Slot) (xs : List Numbered) → IsRun s (length q) q → IsNextSlot s q d →
      xs ≡ events_in_force s (q ++ d ∷ []) (suc (length q)) → IsBetween s q xs [] → P q xs → P (q ++ d ∷ []) xs) where
    -- where the events of a slot are taken, and all have been
    record AreTaken (q : List Slot) (xs : List Numbered) : Type 0 where
      holds : P q xs
      between : IsBetween s q xs []

    taken : (q : List Slot) (xs ys : List Numbered) → IsRun s (length q) q → IsBetween s q xs ys → P q xs →
        AreTaken q (after_events s.settings q xs ys)
    taken q xs [] run between holds = record { holds = holds; between = between }
    taken q xs (y ∷ ys) run between holds =
        by (denial_of s.settings q xs y.event) refl (λ zs after still. taken q zs ys run after still) where
          by : (o : Option Denial) → denial_of s.settings q xs y.event ≡ o →
              ((zs : List Numbered) → IsBetween s q zs ys → P q zs → AreTaken q (after_events s.settings q zs ys)) →
              AreTaken q (after_events s.settings q (with_event xs y o) ys)
          by None is rest =
              rest (xs ++ y ∷ []) (between_next q xs y ys None is between) (event q xs y ys run between is holds)
          by (Some denial) is rest = rest xs (between_next q xs y ys (Some denial) is between) holds

    -- what is carried along a run
    record Holds (q : List Slot) : Type 0 where
      point : IsPoint q (events_in_force s q (length q))
      holds : P q (events_in_force s q (length q))

    begun : Holds []
    unfolding in_force
    begun = record {
      point = record { past = All-nil (λ x. slot_of x.event ≤ 0); fresh = λ task zero. (refl, refl) };
      holds = none;
    }

    one_more : (q : List Slot) (d : Slot) → IsRun s (length q) q → IsNextSlot s q d → Holds q → Holds (q ++ d ∷ [])
    one_more q d run next before =
        let stands = (next_from_equation s q d scenario run next.denials).stands in
        let after = after_events s.settings q (events_in_force s q (length q)) (events_of s (length q)) in
        let start : IsBetween s q (events_in_force s q (length q)) (events_of s (length q)) = record {
          more = [];
          grown = sym (append-nil (events_in_force s q (length q)));
          point = before.point;
          now = slots_of_events s (length q);
          once = joins_at s (denials_of q) (length q) scenario;
        } in
        let end = taken q (events_in_force s q (length q)) (events_of s (length q)) run start before.holds in
        let is : after ≡ events_in_force s (q ++ d ∷ []) (length (q ++ d ∷ [])) =
        sym stands ∙ ap (λ t. events_in_force s (q ++ d ∷ []) t) (sym (length_snoc q d)) in
        record {
          point = subst (IsPoint (q ++ d ∷ [])) is (point_slot q d after next (sym stands) end.between.point);
          holds = subst (P (q ++ d ∷ [])) is (slot q d after run next (sym stands) end.between end.holds);
        }

    pub along_points : (n : ℕ) (r : List Slot) → IsRun s n r → P r (events_in_force s r (length r))
    along_points n r run = (along_run s Holds begun one_more n r run).holds
