-- A delay stops its task's clock no sooner than the subtask that it holds back is next: it is denied where that was released.
use Rattle.std.proofs.Common.{◌≡◌, ℕ, suc, ◌+◌, ◌<◌, ◌≤◌, ◌==◌, true, false, nat_le, cond, Option, None, Some, List, [], ◌∷◌, ◌++◌, length, sum_by, count_by, All, Contains, arith, refl, ap, ap₂, sym, ◌∙◌, subst, ⊎_elim}
use Rattle.std.proofs.lemmas.Bool.{cases_Bool, cases_lt, eqb-true, eq-eqb, cond-true, cond-false, le-leb}
use Rattle.std.proofs.lemmas.Bool.Decides.{nat_tests}
use Rattle.std.proofs.lemmas.List.{take_all}
use Rattle.std.proofs.lemmas.List.Elements.{All-head, All-tail, All-nil, All-cons, All-append, All-weaker, Contains-append_cases, filter_map-append}
use Rattle.std.proofs.lemmas.List.Sums.{sum_by-cons, sum_by-append}
use Rattle.pf_window.specs.Window.{release_of, deadline_of}
use Rattle.pf_scenario.specs.Event.{slot_of, is_join_of}
use Rattle.pf_scenario.specs.Scenario.{Plan}
use Rattle.pf_scenario.specs.Edit.{IsScenario}
use Rattle.pf_scenario.specs.declared.event.Event.{Event}
use Rattle.pf_scenario.specs.declared.event.Event.TheVariants.{Join, Leave, Delay, Limit}
use Rattle.pf_scenario.specs.declared.event.Numbered.{Numbered}
use Rattle.pf_admit.specs.declared.member.Member.{Member}
use Rattle.pf_admit.specs.Member.{next_release}
use Rattle.pf_admit.specs.Admission.{delay_denial}
use Rattle.pf_run.specs.Record.{Slot, runs, done, next_sub}
use Rattle.pf_run.specs.Inside.{Joined, join_of, joins_of, shift_of, member_of, member_at}
use Rattle.pf_run.specs.Denials.{denial_of}
use Rattle.pf_run.specs.Run.{events_in_force, IsNextSlot, IsRun}
use Rattle.pf_run.proofs.Containing.{contains_none}
use Rattle.pf_run.proofs.Counting.{count_by-cons}
use Rattle.pf_tally.specs.Clock.{next_at, clock_of}
use Rattle.pf_tally.specs.Misses.{due_of}
use Rattle.pf_tally.specs.Held.{delay_from, held_by, held_from, stop_of, part_of, stopped_below}
use Rattle.pf_tally.specs.Late.{hold_of}
use Rattle.pf_tally.specs.declared.held.Held.{Held}
use Rattle.pf_tally.proofs.Delays.{found_shift, next_rises}
use Rattle.pf_tally.proofs.Holding.{held_push}
use Rattle.pf_tally.proofs.Chains.{clock_is}
use Rattle.pf_laws.proofs.PromiseLemmas.Joining.{all_joined}
use Rattle.pf_tally.proofs.Points.{IsBetween, along_points}
use Rattle.pf_tally.proofs.Members.{joined_of, joined_count, contains_counted, one_joined, IsMemberAt, member_found}
use Rattle.pf_laws.proofs.PromiseLemmas.Shifts.{done-most, done-front, done-rises, next_release_of}
use Rattle.pf_laws.proofs.PromiseLemmas.Clocks.{shift_held}
use Rattle.pf_laws.proofs.PromiseLemmas.Stays.{events_rise, share_of_joined}

-- each of these stops starts no sooner than its subtask is next
abbrev pub StartInTurn : List Slot → Joined → List Held → Type 0
StartInTurn q j hs = All (λ h. h.sub ≤ next_at q j (stop_of j.weight h).start) hs

-- the delays of a task where the events xs are in force
abbrev pub delays_of : List Slot → List Numbered → Joined → List Held
delays_of q xs j = held_from (next_at q j) j j.slot xs

-- those of tasks that joined do, and a task that didn't join has none
pub record AreInTurn (s : Plan) (q : List Slot) (xs : List Numbered) : Type 0 where
  pub started : (j : Joined) → Contains (joined_of s.settings.base xs) j → StartInTurn q j (delays_of q xs j)
  pub fresh : (j : Joined) → joins_of j.task xs ≡ 0 → delays_of q xs j ≡ []

done-whole : (q : List Slot) (task : ℕ) → done q task (length q) ≡ count_by (runs task) q
unfolding done
done-whole q task = ap (count_by (runs task)) (take_all (length q) q (omega arith))

-- a delay looks at its slot alone
held_same : (p q : ℕ → ℕ) (j : Joined) (n shift : ℕ) (xs : List Numbered) → ((u : ℕ) → u ≤ n → p u ≡ q u) →
    All (λ x. slot_of x.event ≤ n) xs → held_from p j shift xs ≡ held_from q j shift xs
held_same p q j n shift [] same past = refl
held_same p q j n shift (x ∷ xs) same past =
    ap₂ (λ a b. a ++ b) (one x.event (All-head (λ y. slot_of y.event ≤ n) x xs past))
    (held_same p q j n (shift + delay_from j x.event) xs same (All-tail (λ y. slot_of y.event ≤ n) x xs past)) where
      one : (event : Event) → slot_of event ≤ n → held_by p j shift event ≡ held_by q j shift event
      one (Delay slot task by) le =
          ap (λ sub. cond (task == j.task) (let held : Held = record { sub = sub; shift = shift; by = by } in held ∷ []) []) (same slot le)
      one (Join slot task cost period early) le = refl
      one (Leave slot task) le = refl
      one (Limit slot count) le = refl

module _ (s : Plan) (scenario : IsScenario s) where
  abbrev base : ℕ
  base = s.settings.base

  -- an admitted delay is of a task inside, whose next subtask isn't released before it
  record IsDelayed (q : List Slot) (xs : List Numbered) (slot task : ℕ) : Type 0 where
    member : Member
    it : IsMemberAt base q xs task member
    later : slot ≤ next_release member

  delayed : (q : List Slot) (xs : List Numbered) (slot task by : ℕ) → denial_of s.settings q xs (Delay slot task by) ≡ None →
      IsDelayed q xs slot task
  delayed q xs slot task by admitted = of_member (member_at base q xs task) refl where
    of_member : (o : Option Member) → member_at base q xs task ≡ o → IsDelayed q xs slot task
    of_member None is = let denied = sym (ap (delay_denial slot) is) ∙ admitted in cc
    of_member (Some m) is = record {
      member = m;
      it = member_found base q xs task m is;
      later = let open_test : delay_denial slot (Some m) ≡ None = sym (ap (delay_denial slot) is) ∙ admitted in
          grind (arith, nat_tests);
    }

  module _ (q : List Slot) (xs : List Numbered) (x : Numbered) (ys : List Numbered) (between : IsBetween s q xs (x ∷ ys))
      (admitted : denial_of s.settings q xs x.event ≡ None) (before : AreInTurn s q xs) where
    now : slot_of x.event ≡ length q
    now = All-head (λ y. slot_of y.event ≡ length q) x ys between.now

    -- what the event adds
    abbrev added : Joined → List Held
    added j = held_by (next_at q j) j (j.slot + sum_by (λ y. delay_from j y.event) xs) x.event

    push : (j : Joined) → delays_of q (xs ++ x ∷ []) j ≡ delays_of q xs j ++ added j
    push j = held_push (next_at q j) j j.slot xs x

    added_in_turn : (j : Joined) → Contains (joined_of base xs) j → StartInTurn q j (added j)
    added_in_turn j at = by x.event now admitted where
      shift : ℕ
      shift = j.slot + sum_by (λ y. delay_from j y.event) xs

      by : (event : Event) → slot_of event ≡ length q → denial_of s.settings q xs event ≡ None →
          StartInTurn q j (held_by (next_at q j) j shift event)
      by (Delay slot task by') is open_now = ⊎_elim
          (λ (same : (task == j.task) ≡ true).
          subst (StartInTurn q j) (sym (cond-true (task == j.task) (let held : Held = record { sub = next_at q j slot; shift = shift; by = by' } in held ∷ []) [] same))
          (All-cons (λ h. h.sub ≤ next_at q j (stop_of j.weight h).start)
          (let held : Held = record { sub = next_at q j slot; shift = shift; by = by' } in held) []
          (in_turn (delayed q xs slot task by' open_now) (eqb-true task j.task same))
          (All-nil (λ h. h.sub ≤ next_at q j (stop_of j.weight h).start))))
          (λ (other : (task == j.task) ≡ false).
          subst (StartInTurn q j) (sym (cond-false (task == j.task) (let held : Held = record { sub = next_at q j slot; shift = shift; by = by' } in held ∷ []) [] other))
          (All-nil (λ h. h.sub ≤ next_at q j (stop_of j.weight h).start)))
          (cases_Bool (task == j.task)) where
            in_turn : IsDelayed q xs slot task → task ≡ j.task → next_at q j slot ≤ next_at q j (release_of j.weight (next_at q j slot) + shift)
            in_turn d of_task =
                let same : d.it.task_of ≡ j =
                one_joined base xs d.it.task_of j (omega (arith, between.once j.task)) d.it.joined at (d.it.number ∙ of_task) in
                let of_j : next_release d.member ≡ release_of j.weight (next_sub q j.task) + shift_of q xs j (next_sub q j.task) =
                ap next_release (sym (ap (member_of q xs) (sym same) ∙ d.it.is)) ∙ next_release_of q xs j in
                let past : All (λ y. slot_of y.event ≤ slot) xs =
                All-weaker (λ y. slot_of y.event ≤ length q) (λ y. slot_of y.event ≤ slot) (λ y le. omega (arith, le, is)) xs between.point.past in
                let found : shift_of q xs j (next_at q j slot) ≡ shift = found_shift q j slot xs past in
                let sub : next_sub q j.task ≡ next_at q j slot = ap (λ u. done q j.task u + 1) (sym is) in
                next_rises q j slot (release_of j.weight (next_at q j slot) + shift)
                (omega (arith, d.later, of_j, found, ap (λ i. release_of j.weight i + shift_of q xs j i) sub))
      by (Join slot task cost period early) is open_now = All-nil (λ h. h.sub ≤ next_at q j (stop_of j.weight h).start)
      by (Leave slot task) is open_now = All-nil (λ h. h.sub ≤ next_at q j (stop_of j.weight h).start)
      by (Limit slot count) is open_now = All-nil (λ h. h.sub ≤ next_at q j (stop_of j.weight h).start)

    -- a task that hasn't joined isn't delayed
    none_added : (j : Joined) → joins_of j.task xs ≡ 0 → added j ≡ []
    none_added j none = by x.event admitted where
      shift : ℕ
      shift = j.slot + sum_by (λ y. delay_from j y.event) xs

      by : (event : Event) → denial_of s.settings q xs event ≡ None → held_by (next_at q j) j shift event ≡ []
      by (Delay slot task by') open_now = ⊎_elim
          (λ (same : (task == j.task) ≡ true).
          let d = delayed q xs slot task by' open_now in
          absurd (omega (
            arith,
            none,
            joined_count base j.task xs,
            contains_counted (λ (k : Joined). k.task == j.task) (joined_of base xs) d.it.task_of d.it.joined
                (eq-eqb d.it.task_of.task j.task (d.it.number ∙ eqb-true task j.task same)),
          )))
          (λ (other : (task == j.task) ≡ false).
          cond-false (task == j.task) (let held : Held = record { sub = next_at q j slot; shift = shift; by = by' } in held ∷ []) [] other)
          (cases_Bool (task == j.task))
      by (Join slot task cost period early) open_now = refl
      by (Leave slot task) open_now = refl
      by (Limit slot count) open_now = refl

    event_in_turn : AreInTurn s q (xs ++ x ∷ [])
    event_in_turn = record {
      started = λ j at. subst (StartInTurn q j) (sym (push j)) (⊎_elim (old j) (new j)
          (Contains-append_cases (joined_of base xs) (joined_of base (x ∷ [])) j
          (subst (λ js. Contains js j) (filter_map-append (join_of base) xs (x ∷ [])) at)));
      fresh = λ j none.
          let sooner : joins_of j.task xs ≡ 0 = omega (arith, none, joins_more j) in
          push j ∙ ap₂ (λ a b. a ++ b) (before.fresh j sooner) (none_added j sooner);
    } where
      joins_more : (j : Joined) → joins_of j.task xs ≤ joins_of j.task (xs ++ x ∷ [])
      joins_more j = omega (arith, sum_by-append (λ y. cond (is_join_of j.task y.event) 1 0) xs (x ∷ []))

      old : (j : Joined) → Contains (joined_of base xs) j → StartInTurn q j (delays_of q xs j ++ added j)
      old j at =
          All-append (λ h. h.sub ≤ next_at q j (stop_of j.weight h).start) (delays_of q xs j) (added j) (before.started j at)
          (added_in_turn j at)

      -- one that joins only now has none
      new : (j : Joined) → Contains (joined_of base (x ∷ [])) j → StartInTurn q j (delays_of q xs j ++ added j)
      new j here =
          let joins : 1 ≤ joins_of j.task (x ∷ []) =
          omega (
            arith,
            joined_count base j.task (x ∷ []),
            contains_counted (λ (k : Joined). k.task == j.task) (joined_of base (x ∷ [])) j here (eq-eqb j.task j.task refl),
          ) in
          let none : joins_of j.task xs ≡ 0 =
          omega (
            arith,
            between.once j.task,
            joins,
            count_by-cons (λ y. is_join_of j.task y.event) x ys,
            count_by-cons (λ y. is_join_of j.task y.event) x [],
          ) in
          subst (StartInTurn q j) (sym (ap₂ (λ a b. a ++ b) (before.fresh j none) (none_added j none)))
          (All-nil (λ h. h.sub ≤ next_at q j (stop_of j.weight h).start))

  in_turn_event : (q : List Slot) (xs : List Numbered) (x : Numbered) (ys : List Numbered) → IsRun s (length q) q →
      IsBetween s q xs (x ∷ ys) → denial_of s.settings q xs x.event ≡ None → AreInTurn s q xs → AreInTurn s q (xs ++ x ∷ [])
  in_turn_event q xs x ys run between admitted before = event_in_turn q xs x ys between admitted before

  in_turn_slot : (q : List Slot) (d : Slot) (xs : List Numbered) → IsRun s (length q) q → IsNextSlot s q d →
      xs ≡ events_in_force s (q ++ d ∷ []) (suc (length q)) → IsBetween s q xs [] → AreInTurn s q xs → AreInTurn s (q ++ d ∷ []) xs
  in_turn_slot q d xs run next stands between before = record {
    started = λ j at.
        subst (StartInTurn (q ++ d ∷ []) j) (sym (same j))
        (All-weaker (λ h. h.sub ≤ next_at q j (stop_of j.weight h).start) (λ h. h.sub ≤ next_at (q ++ d ∷ []) j (stop_of j.weight h).start)
        (λ h le. omega (arith, le, done-more j (stop_of j.weight h).start)) (delays_of q xs j) (before.started j at));
    fresh = λ j none. same j ∙ before.fresh j none;
  } where
    same : (j : Joined) → delays_of (q ++ d ∷ []) xs j ≡ delays_of q xs j
    same j =
        held_same (next_at (q ++ d ∷ []) j) (next_at q j) j (length q) j.slot xs
        (λ u le. ap (λ k. k + 1) (done-front q (d ∷ []) j.task u le)) between.point.past

    done-more : (j : Joined) (u : ℕ) → done q j.task u ≤ done (q ++ d ∷ []) j.task u
    done-more j u = ⊎_elim
        (λ (past : length q < u).
        omega (
          arith,
          done-most q j.task u,
          done-whole q j.task,
          done-front q (d ∷ []) j.task (length q) (omega arith),
          done-rises (q ++ d ∷ []) j.task (length q) u (omega (arith, past)),
        ))
        (λ (within : u ≤ length q). omega (arith, done-front q (d ∷ []) j.task u within))
        (cases_lt (length q) u)

  -- Use: of a run, the same at its end.
  pub delays_in_turn : (n : ℕ) (r : List Slot) → IsRun s n r → AreInTurn s r (events_in_force s r (length r))
  delays_in_turn n r run = along_points s scenario (AreInTurn s) none in_turn_event in_turn_slot n r run where
    none : AreInTurn s [] []
    none = record { started = λ j at. absurd (contains_none j at); fresh = λ j none. refl }

-- how many slots stops that come after t stop the clock below it: by the delays that hold subtask i back alone
stopped_by : (r : List Slot) (j : Joined) (i t : ℕ) (hs : List Held) → StartInTurn r j hs → done r j.task t < i →
    stopped_below t j.weight hs ≤ sum_by (hold_of i) hs
stopped_by r j i t [] in_turn late = omega arith
stopped_by r j i t (h ∷ hs) in_turn late =
    omega (
      arith,
      sum_by-cons (λ (g : Held). part_of t (stop_of j.weight g)) h hs,
      sum_by-cons (hold_of i) h hs,
      stopped_by r j i t hs (All-tail (λ g. g.sub ≤ next_at r j (stop_of j.weight g).start) h hs in_turn) late,
      one,
    )
  where
    first : h.sub ≤ next_at r j (stop_of j.weight h).start
    first = All-head (λ g. g.sub ≤ next_at r j (stop_of j.weight g).start) h hs in_turn

    one : part_of t (stop_of j.weight h) ≤ hold_of i h
    one = ⊎_elim
        (λ (above : i < h.sub). ⊎_elim
        (λ (begun : (stop_of j.weight h).start < t).
        absurd (omega (arith, above, first, late, done-rises r j.task (stop_of j.weight h).start t (omega (arith, begun)))))
        (λ (over : t ≤ (stop_of j.weight h).start). omega (arith, over))
        (cases_lt (stop_of j.weight h).start t))
        (λ (counts : h.sub ≤ i). omega (arith, cond-true {A = ℕ} (nat_le h.sub i) h.by 0 (le-leb h.sub i counts)))
        (cases_lt i h.sub)

-- Use: at the shifted deadline of a subtask that hasn't run by then, the clock has come to its deadline.
module _ (s : Plan) (scenario : IsScenario s) (r : List Slot) (run : IsRun s (length r) r) (j : Joined)
    (at : Contains (all_joined s r) j) where
  abbrev end_now : List Numbered
  end_now = events_in_force s r (length r)

  pub clock_due : (i : ℕ) → done r j.task (due_of r end_now j i) < i →
      deadline_of j.weight i ≤ clock_of r end_now j (due_of r end_now j i)
  clock_due i late =
      let due = due_of r end_now j i in
      let hs = delays_of r end_now j in
      let shift = shift_held r end_now j (share_of_joined s scenario r j at) (events_rise s scenario r) i in
      let stopped = stopped_by r j i due hs ((delays_in_turn s scenario (length r) r run).started j at) late in
      omega (arith, shift, stopped, clock_is r j end_now due (share_of_joined s scenario r j at) (events_rise s scenario r) (omega (arith, shift)))
