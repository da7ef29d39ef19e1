-- A task that left did so no sooner than its last subtask allows, by the shift that this one keeps.
use Rattle.std.proofs.Common.{◌≡◌, ℕ, suc, ◌+◌, ◌≤◌, ◌==◌, true, false, if◌then◌else◌, Option, None, Some, List, [], ◌∷◌, ◌++◌, length, get_or, Contains, arith, refl, ap, sym, ◌∙◌, subst, ⊎_elim}
use Rattle.std.proofs.lemmas.Bool.{cases_Bool, eqb-true, eq-eqb, ne_eqb, cond-false}
use Rattle.std.proofs.lemmas.Bool.Decides.{nat_tests}
use Rattle.std.proofs.lemmas.List.{get_or_push}
use Rattle.std.proofs.lemmas.List.Elements.{All-head, Contains-append_cases, filter_map-append}
use Rattle.pf_weight.specs.Share.{is_heavy}
use Rattle.pf_window.specs.Window.{deadline_of, bit_of}
use Rattle.pf_window.specs.Group.{group_of}
use Rattle.pf_scenario.specs.Event.{slot_of, is_join_of, is_leave_of}
use Rattle.pf_scenario.specs.Scenario.{Plan}
use Rattle.pf_scenario.specs.Edit.{IsScenario}
use Rattle.pf_scenario.specs.declared.event.Event.{Event}
use Rattle.pf_scenario.specs.declared.event.Event.TheVariants.{Join, Leave, Delay, Limit}
use Rattle.pf_scenario.specs.declared.event.Numbered.{Numbered}
use Rattle.pf_admit.specs.declared.member.Member.{Member}
use Rattle.pf_admit.specs.Member.{free_from}
use Rattle.pf_admit.specs.Admission.{leave_denial}
use Rattle.pf_run.specs.Record.{Slot, runs, done}
use Rattle.pf_run.specs.Inside.{Joined, join_of, shift_of, member_of, member_at}
use Rattle.pf_run.specs.Denials.{denial_of}
use Rattle.pf_run.specs.Run.{events_in_force, IsNextSlot, IsRun}
use Rattle.pf_run.specs.Inside.{joins_of}
use Rattle.pf_run.proofs.Containing.{contains_none, contains_cases}
use Rattle.pf_run.proofs.Counting.{count_by-cons}
use Rattle.pf_run.proofs.Judged.{length_snoc}
use Rattle.pf_run.proofs.Points.{shift_push}
use Rattle.pf_tally.proofs.Points.{IsBetween, along_points}
use Rattle.pf_tally.proofs.Members.{joined_of, joined_count, contains_counted, one_joined, member_found}
use Rattle.pf_laws.proofs.PromiseLemmas.Shifts.{no_slot, done-most, done-front, done-idle, shift-slots, HoldsBack, held_or_not}
use Rattle.pf_tally.proofs.Slots.{RunsBy, runs_by, inside_stays}

-- where the last subtask that ran lets the task go
abbrev pub last_due : List Slot → List Numbered → Joined → ℕ
last_due q xs j =
    (if is_heavy j.weight then group_of j.weight (done q j.task (length q)) else deadline_of j.weight (done q j.task (length q)))
    + shift_of q xs j (done q j.task (length q)) + bit_of j.weight (done q j.task (length q))

-- each leave of a task that ran is not below it
abbrev pub AreFree : Plan → List Slot → List Numbered → Type 0
AreFree s q xs = (j : Joined) → Contains (joined_of s.settings.base xs) j → (x : Numbered) → Contains xs x →
    is_leave_of j.task x.event ≡ true → 1 ≤ done q j.task (length q) → last_due q xs j ≤ slot_of x.event

leave_is : (task : ℕ) (event : Event) → is_leave_of task event ≡ true → event ≡ Leave (slot_of event) task
leave_is task (Leave slot task') h = ap (λ t. Leave slot t) (eqb-true task' task h)
leave_is task (Join slot task' cost period early) h = cc
leave_is task (Delay slot task' by) h = cc
leave_is task (Limit slot count) h = cc

free_due : (q : List Slot) (xs : List Numbered) (j : Joined) → 1 ≤ done q j.task (length q) →
    free_from (member_of q xs j) ≡ last_due q xs j
unfolding member_of
free_due q xs j some =
    cond-false (done q j.task (length q) == 0) 0 (last_due q xs j) (ne_eqb (done q j.task (length q)) 0 (λ none. omega (arith, none, some)))

module _ (s : Plan) (scenario : IsScenario s) where
  -- the admitted leave
  leave_free : (q : List Slot) (xs : List Numbered) (x : Numbered) (ys : List Numbered) (j : Joined) →
      IsBetween s q xs (x ∷ ys) → denial_of s.settings q xs x.event ≡ None → Contains (joined_of s.settings.base xs) j →
      is_leave_of j.task x.event ≡ true → 1 ≤ done q j.task (length q) → last_due q xs j ≤ slot_of x.event
  leave_free q xs x ys j between admitted at leaves some = by (member_at s.settings.base q xs j.task) refl where
    of_leave : leave_denial (slot_of x.event) (member_at s.settings.base q xs j.task) ≡ None
    of_leave = subst (λ e. denial_of s.settings q xs e ≡ None) (leave_is j.task x.event leaves) admitted

    by : (o : Option Member) → member_at s.settings.base q xs j.task ≡ o → last_due q xs j ≤ slot_of x.event
    by None is = let denied = sym (ap (leave_denial (slot_of x.event)) is) ∙ of_leave in cc
    by (Some m) is =
        let it = member_found s.settings.base q xs j.task m is in
        let same : it.task_of ≡ j =
        one_joined s.settings.base xs it.task_of j (omega (arith, between.once j.task)) it.joined at it.number in
        let of_j : free_from m ≡ last_due q xs j =
        ap free_from (sym (ap (member_of q xs) (sym same) ∙ it.is)) ∙ free_due q xs j some in
        let open_test : leave_denial (slot_of x.event) (Some m) ≡ None = sym (ap (leave_denial (slot_of x.event)) is) ∙ of_leave in
        let late : free_from m ≤ slot_of x.event = grind (arith, nat_tests) in
        omega (arith, late, of_j)

  free_event : (q : List Slot) (xs : List Numbered) (x : Numbered) (ys : List Numbered) → IsRun s (length q) q →
      IsBetween s q xs (x ∷ ys) → denial_of s.settings q xs x.event ≡ None → AreFree s q xs → AreFree s q (xs ++ x ∷ [])
  free_event q xs x ys run between admitted free j at z among leaves some = ⊎_elim old new
      (Contains-append_cases (joined_of s.settings.base xs) (joined_of s.settings.base (x ∷ [])) j
      (subst (λ js. Contains js j) (filter_map-append (join_of s.settings.base) xs (x ∷ [])) at)) where
        -- a task that joins only now has not run
        new : Contains (joined_of s.settings.base (x ∷ [])) j → last_due q (xs ++ x ∷ []) j ≤ slot_of z.event
        new here =
            let joins : 1 ≤ joins_of j.task (x ∷ []) =
            omega (
              arith,
              joined_count s.settings.base j.task (x ∷ []),
              contains_counted (λ (k : Joined). k.task == j.task) (joined_of s.settings.base (x ∷ [])) j here (eq-eqb j.task j.task refl),
            ) in
            let none : joins_of j.task xs ≡ 0 =
            omega (
              arith,
              between.once j.task,
              joins,
              count_by-cons (λ y. is_join_of j.task y.event) x ys,
              count_by-cons (λ y. is_join_of j.task y.event) x [],
            ) in
            absurd (omega (arith, some, done-most q j.task (length q), (between.point.fresh j.task none).1))

        same_due : (held : shift_of q (xs ++ x ∷ []) j (done q j.task (length q)) ≡ shift_of q xs j (done q j.task (length q))) →
            last_due q (xs ++ x ∷ []) j ≡ last_due q xs j
        same_due held = omega (arith, held)

        unheld : shift_of q (xs ++ x ∷ []) j (done q j.task (length q)) ≡ shift_of q xs j (done q j.task (length q))
        unheld = ⊎_elim (λ none. omega (arith, shift_push q xs x j (done q j.task (length q)), none))
            (λ (h : HoldsBack q j.task (done q j.task (length q)) x.event).
            let now : h.slot ≡ length q =
            sym (ap slot_of h.is) ∙ All-head (λ y. slot_of y.event ≡ length q) x ys between.now in
            absurd (omega (arith, h.early, ap (λ u. done q j.task u) now)))
            (held_or_not q j.task (done q j.task (length q)) x.event)

        old : Contains (joined_of s.settings.base xs) j → last_due q (xs ++ x ∷ []) j ≤ slot_of z.event
        old there = ⊎_elim
            (λ before. omega (arith, free j there z before leaves some, same_due unheld))
            (λ last. ⊎_elim
            (λ same.
            let leaves' : is_leave_of j.task x.event ≡ true = ap (λ (y : Numbered). is_leave_of j.task y.event) same ∙ leaves in
            omega (
              arith,
              leave_free q xs x ys j between admitted there leaves' some,
              same_due unheld,
              ap (λ (y : Numbered). slot_of y.event) same,
            ))
            (λ none. absurd (contains_none z none))
            (contains_cases x [] z last))
            (Contains-append_cases xs (x ∷ []) z among)

  free_slot : (q : List Slot) (d : Slot) (xs : List Numbered) → IsRun s (length q) q → IsNextSlot s q d →
      xs ≡ events_in_force s (q ++ d ∷ []) (suc (length q)) → IsBetween s q xs [] → AreFree s q xs → AreFree s (q ++ d ∷ []) xs
  free_slot q d xs run next stands between free j at x among leaves some =
      let r = q ++ d ∷ [] in
      let none : runs j.task (get_or r (length q) no_slot) ≡ false =
      ap (runs j.task) (get_or_push q d no_slot (length q) refl) ∙ idle in
      let same : done r j.task (length r) ≡ done q j.task (length q) =
      ap (λ u. done r j.task u) (length_snoc q d)
      ∙ done-idle r j.task (length q) no_slot (omega (arith, length_snoc q d)) none
      ∙ done-front q (d ∷ []) j.task (length q) (omega arith) in
      let shift : shift_of r xs j (done r j.task (length r)) ≡ shift_of q xs j (done q j.task (length q)) =
      ap (λ i. shift_of r xs j i) same
      ∙ shift-slots r q xs j (done q j.task (length q)) (length q) between.point.past
      (λ u le. done-front q (d ∷ []) j.task u le) in
      omega (
        arith,
        free j at x among leaves (omega (arith, some, same)),
        shift,
        ap (λ n. if is_heavy j.weight then group_of j.weight n else deadline_of j.weight n) same,
        ap (λ n. bit_of j.weight n) same,
      )
    where
      idle : runs j.task d ≡ false
      idle = ⊎_elim
          (λ (running : runs j.task d ≡ true).
          let picks = next.picks in
          let by : RunsBy s.settings.base _ q (events_in_force s (q ++ d ∷ []) (suc (length q))) d picks.chosen picks.are_first picks.subtasks j.task =
          runs_by s.settings.base _ q (events_in_force s (q ++ d ∷ []) (suc (length q))) d picks.chosen picks.are_first picks.subtasks j.task running in
          let number : by.ready.task_of.task ≡ j.task = ap (λ k. k.task) by.ready.is ∙ by.number in
          absurd
          (inside_stays s.settings.base (events_in_force s (q ++ d ∷ []) (suc (length q))) by.ready.task_of x by.ready.inside
          (subst (λ zs. Contains zs x) stands among)
          (ap (λ t. is_leave_of t x.event) number ∙ leaves)))
          (λ h. h) (cases_Bool (runs j.task d))

  -- Use: of a run, the same at its end.
  pub free : (n : ℕ) (r : List Slot) → IsRun s n r → AreFree s r (events_in_force s r (length r))
  free n r run =
      along_points s scenario (AreFree s) (λ j at x among. absurd (contains_none x among)) free_event free_slot n r run
