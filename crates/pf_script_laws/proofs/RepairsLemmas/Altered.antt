-- A leave that was denied, in the scenario that has it in a later slot.
use Rattle.std.proofs.Common.{◌≡◌, ℕ, zero, suc, ◌+◌, ◌-◌, ◌<◌, ◌≤◌, not, ◌&&◌, ◌||◌, ◌==◌, Bool, true, false, nat_lt, cond, List, [], ◌∷◌, ◌++◌, length, take, drop, map, filter, Option, None, Some, refl, sym, ap, ap₂, ◌∙◌, ⊎_elim, arith, append-nil, append_assoc}
use Rattle.std.specs.List.{All, Contains, list_any, position_or_len}
use Rattle.std.specs.Option.{option_and_then, option_map, option_map_or, option_or}
use Rattle.std.specs.Prelude.{find, if◌then◌else◌}
use Rattle.std.proofs.lemmas.Bool.{eq-eqb, eqb-true, lt-ltb, or_left, or_right, or_parts}
use Rattle.std.proofs.lemmas.Bool.Decides.{nat_tests}
use Rattle.std.proofs.lemmas.List.{take_all, take-append-drop}
use Rattle.std.proofs.lemmas.List.Elements.{All-cons, All-contains, All-contains_itself, All-filter, All-head, All-nil, All-tail, All-weaker}
use Rattle.std.proofs.lemmas.List.Folds.{find-append, list_any-append}
use Rattle.pf_admit.specs.Admission.{leave_denial}
use Rattle.pf_notes.specs.Absence.{join_among, leave_among}
use Rattle.pf_notes.specs.Laws.{leave_in}
use Rattle.pf_notes.specs.Point.{before_event, joined_at}
use Rattle.pf_script_laws.proofs.RepairsLemmas.Inside.{joined_stays}
use Rattle.pf_scenario.specs.Edit.{IsEvent, IsScenario, edit_fault, has_task, leave_alike}
use Rattle.pf_scenario.specs.Event.{is_leave_of, is_of_slot, run_cmp, slot_of}
use Rattle.pf_scenario.specs.Scenario.{Plan, events_of, events_without, is_held, past, plan_after, with_number}
use Rattle.pf_scenario.specs.declared.change.Change.TheVariants.{Alter, Strike}
use Rattle.pf_scenario.specs.declared.event.Event.{Event}
use Rattle.pf_scenario.specs.declared.event.Event.TheVariants.{Join, Leave, Delay, Limit}
use Rattle.pf_scenario.specs.declared.event.Numbered.{Numbered}
use Rattle.pf_scenario.proofs.Indexing.{leaves_alike, none_joins, run_cmp_total}
use Rattle.pf_scenario.proofs.Keeping.{changed_scenario}
use Rattle.pf_scenario.proofs.Lists.{find_none}
use Rattle.pf_scenario.proofs.Sorting.{All-sorted_by, IsInOrder-sorted_by, list_any-sorted_by}
use Rattle.pf_tally.proofs.InForce.{in_force-append}
use Rattle.pf_run.specs.Computed.{RunCourse, course_of, denials_among, picks_of, after_events, run_of}
use Rattle.pf_run.specs.Inside.{Joined, join_of, member_at, member_of}
use Rattle.pf_run.specs.Record.{Slot, denials_of, in_force, is_denied}
use Rattle.pf_run.specs.Run.{events_in_force, pick_of_key}
use Rattle.pf_run.specs.declared.denied.Denied.{Denied}
use Rattle.pf_run.proofs.Containing.{pairs_cases}
use Rattle.pf_run.proofs.Joins.{contains_past}
use Rattle.pf_run.proofs.Judged.{denials_of_snoc, denied_past}
use Rattle.pf_run.proofs.Limits.{passes_tests}
use Rattle.pf_run.proofs.Numbers.{apart_events_of, held_filter, held_past}
use Rattle.pf_run.proofs.Runs.{computed_begins, computed_length, course_is_run, run_is_computed}
use Rattle.pf_tally.proofs.Fronts.{in_force_all, standing-take}
use Rattle.pf_script_laws.specs.Repairs.Repairs.{denial_up_to, leaving_in}
use Rattle.pf_script_laws.proofs.RepairsLemmas.Bare.{course_kept, course_without, denied_out, member_at_kept}
use Rattle.pf_script_laws.proofs.RepairsLemmas.Judging.{AreOfSlot, denial_by, judged}

-- what an alter makes of each event
abbrev pub altered : ℕ → Event → Numbered → Numbered
altered id event x = if x.id == id then with_number id event else x

-- Use: struck out, both scenarios are the same.
without_by : (id : ℕ) (event : Event) (x : Numbered) (xs : List Numbered) (b : Bool) → (x.id == id) ≡ b
    → events_without id (map (altered id event) xs) ≡ events_without id xs → events_without id (map (altered id event) (x ∷ xs)) ≡ events_without id (x ∷ xs)
without_by id event x xs true is rest = simp (is, eq-eqb id id refl) rest
without_by id event x xs false is rest = simp is (ap (λ ys. x ∷ ys) rest)

without_altered : (id : ℕ) (event : Event) (xs : List Numbered) → events_without id (map (altered id event) xs) ≡ events_without id xs
without_altered id event [] = refl
without_altered id event (x ∷ xs) = without_by id event x xs (x.id == id) refl (without_altered id event xs)

pub strike_altered : (s : Plan) (id : ℕ) (event : Event) → plan_after (plan_after s (Alter id event)) (Strike id) ≡ plan_after s (Strike id)
strike_altered s id event = ap (λ xs. record { settings = s.settings; events = xs; next = s.next }) (without_altered id event s.events)

-- a search after elements none of which passes
search_behind : {X : Type 0} (p : X → Bool) (xs ys : List X) → list_any p xs ≡ false → find p (xs ++ ys) ≡ find p ys
search_behind p xs ys none = find-append p xs ys ∙ ap (λ o. option_or o (find p ys)) (find_none p xs none)

none_kept : (p : Numbered → Bool) (xs : List Numbered) (id : ℕ) → is_held xs id ≡ false → is_held (filter p xs) id ≡ false
none_kept p xs id none = held_filter p xs id ∙ by xs none
  where
    right : (b : Bool) → (b && false) ≡ false
    right true = refl
    right false = refl

    by : (ys : List Numbered) → is_held ys id ≡ false → list_any (λ x. p x && (x.id == id)) ys ≡ false
    by [] none = refl
    by (y ∷ ys) none =
        let parts = or_parts (y.id == id) (is_held ys id) none in
        ap₂ (λ a b. (p y && a) || b) parts.0 (by ys parts.1) ∙ ap (λ b. b || false) (right (p y))

-- the past goes on
pub past_on : (s : Plan) (t k : ℕ) → (rest : List Numbered) × (past s (t + k) ≡ past s t ++ rest)
past_on s t zero = ([], ap (past s) (let z : t + 0 ≡ t = omega arith in z) ∙ sym (append-nil (past s t)))
past_on s t (suc k) =
    let before = past_on s t k in (
      before.0 ++ events_of s (t + k),
      ap (past s) (let z : t + suc k ≡ suc (t + k) = omega arith in z) ∙ ap (λ xs. xs ++ events_of s (t + k)) before.1
          ∙ append_assoc (past s t) before.0 (events_of s (t + k)),
    )

-- the events before one are a front of those that hold it
before_is : (id : ℕ) (xs : List Numbered) → before_event id xs ≡ take (position_or_len (λ (x : Numbered). x.id == id) xs) xs
before_is id xs = by (nat_lt (position_or_len (λ (x : Numbered). x.id == id) xs) (length xs)) refl
  where
    by : (b : Bool) → nat_lt (position_or_len (λ (x : Numbered). x.id == id) xs) (length xs) ≡ b
        → before_event id xs ≡ take (position_or_len (λ (x : Numbered). x.id == id) xs) xs
    by true is = ap (λ c. option_map_or (λ place. take place xs) (cond c (Some (position_or_len (λ (x : Numbered). x.id == id) xs)) None) xs) is
    by false is =
        ap (λ c. option_map_or (λ place. take place xs) (cond c (Some (position_or_len (λ (x : Numbered). x.id == id) xs)) None) xs) is
        ∙ sym (take_all (position_or_len (λ (x : Numbered). x.id == id) xs) xs (grind (arith, nat_tests, is)))

front_by : (id : ℕ) (x : Numbered) (xs ys : List Numbered) (b : Bool) → (x.id == id) ≡ b → (b || is_held xs id) ≡ true
    → (is_held xs id ≡ true → take (position_or_len (λ (x : Numbered). x.id == id) (xs ++ ys)) (xs ++ ys) ≡ take (position_or_len (λ (x : Numbered). x.id == id) xs) xs)
    → take (cond (not b) (1 + position_or_len (λ (x : Numbered). x.id == id) (xs ++ ys)) 0) (x ∷ (xs ++ ys))
    ≡ take (cond (not b) (1 + position_or_len (λ (x : Numbered). x.id == id) xs) 0) (x ∷ xs)
front_by id x xs ys true is held rest = refl
front_by id x xs ys false is held rest =
    let p : Numbered → Bool = λ (x : Numbered). x.id == id in
    ap (λ k. take k (x ∷ (xs ++ ys))) (let z : 1 + position_or_len p (xs ++ ys) ≡ suc (position_or_len p (xs ++ ys)) = omega arith in z)
    ∙ ap (λ zs. x ∷ zs) (rest held)
    ∙ ap (λ k. take k (x ∷ xs)) (let z : suc (position_or_len p xs) ≡ 1 + position_or_len p xs = omega arith in z)

front_same : (id : ℕ) (xs ys : List Numbered) → is_held xs id ≡ true
    → take (position_or_len (λ (x : Numbered). x.id == id) (xs ++ ys)) (xs ++ ys) ≡ take (position_or_len (λ (x : Numbered). x.id == id) xs) xs
front_same id [] ys held = cc
front_same id (x ∷ xs) ys held = front_by id x xs ys (x.id == id) refl held (λ h. front_same id xs ys h)

pub front_of : (id : ℕ) (xs ys : List Numbered) → is_held xs id ≡ true → (rest : List Numbered) × (xs ≡ before_event id (xs ++ ys) ++ rest)
front_of id xs ys held =
    let k = position_or_len (λ (x : Numbered). x.id == id) xs in (
      drop k xs,
      sym (take-append-drop k xs) ∙ ap (λ zs. zs ++ drop k xs) (sym (before_is id (xs ++ ys) ∙ front_same id xs ys held)),
    )

module _ (s : Plan) (id task slot : ℕ) (scenario : IsScenario s) (x : Numbered) (held : Contains s.events x) (own : x.id ≡ id)
    (is_leave : x.event ≡ Leave slot task) where
  -- each leave of the task is this one
  abbrev IsOwnLeave : Numbered → Type 0
  IsOwnLeave y = is_leave_of task y.event ≡ true → (y.id == id) ≡ true

  alike_to : (event : Event) → is_leave_of task event ≡ true → leave_alike (Leave slot task) event ≡ true
  alike_to (Join slot' task' cost period early) is = cc
  alike_to (Leave slot' task') is = eq-eqb task task' (sym (eqb-true task' task is))
  alike_to (Delay slot' task' by) is = cc
  alike_to (Limit slot' count) is = cc

  alike_from : (event : Event) → is_leave_of task event ≡ true → leave_alike event (Leave slot task) ≡ true
  alike_from (Join slot' task' cost period early) is = cc
  alike_from (Leave slot' task') is = is
  alike_from (Delay slot' task' by) is = cc
  alike_from (Limit slot' count) is = cc

  one_leave : (y : Numbered) → Contains s.events y → IsOwnLeave y
  one_leave y at is = ⊎_elim
      (λ (same : x ≡ y). eq-eqb y.id id (ap (λ (z : Numbered). z.id) (sym same) ∙ own))
      (λ apart. ⊎_elim
      (λ (first : leave_alike x.event y.event ≡ false).
      let no : true ≡ false = sym (alike_to y.event is) ∙ ap (λ e. leave_alike e y.event) (sym is_leave) ∙ first in cc)
      (λ (second : leave_alike y.event x.event ≡ false).
      let no : true ≡ false = sym (alike_from y.event is) ∙ ap (λ e. leave_alike y.event e) (sym is_leave) ∙ second in cc)
      apart)
      (pairs_cases (λ (x y : Numbered). leave_alike x.event y.event ≡ false) s.events x y scenario.leaves_once held at)

  own_leaves : All IsOwnLeave s.events
  own_leaves = All-weaker (Contains s.events) IsOwnLeave one_leave s.events (All-contains_itself s.events)

  past_leaves : (t : ℕ) → All IsOwnLeave (past s t)
  past_leaves t = All-weaker (Contains (past s t)) IsOwnLeave (λ y at. one_leave y (contains_past s t y at)) (past s t) (All-contains_itself (past s t))

  is_in : is_held s.events id ≡ true
  is_in = All-contains (λ (y : Numbered). y.id ≡ id → is_held s.events id ≡ true) s.events x (found s.events) held own
    where
      found : (ys : List Numbered) → All (λ (y : Numbered). y.id ≡ id → is_held ys id ≡ true) ys
      found [] = All-nil (λ (y : Numbered). y.id ≡ id → is_held [] id ≡ true)
      found (y ∷ ys) =
          All-cons (λ (z : Numbered). z.id ≡ id → is_held (y ∷ ys) id ≡ true) y ys (λ e. or_left _ _ (eq-eqb y.id id e))
          (All-weaker (λ (z : Numbered). z.id ≡ id → is_held ys id ≡ true) (λ (z : Numbered). z.id ≡ id → is_held (y ∷ ys) id ≡ true)
          (λ z h e. or_right _ _ (h e)) ys (found ys))

  no_leave_by : (y : Numbered) (b : Bool) → (y.id == id) ≡ b → IsOwnLeave y → b ≡ false → is_leave_of task y.event ≡ false
  no_leave_by y b is mine other = by (is_leave_of task y.event) refl
    where
      by : (c : Bool) → is_leave_of task y.event ≡ c → is_leave_of task y.event ≡ false
      by true e = let no : true ≡ false = sym (mine e) ∙ is ∙ other in cc
      by false e = e

  no_leave : (ys : List Numbered) → All IsOwnLeave ys → is_held ys id ≡ false → list_any (λ (y : Numbered). is_leave_of task y.event) ys ≡ false
  no_leave [] all none = refl
  no_leave (y ∷ ys) all none =
      let parts = or_parts (y.id == id) (is_held ys id) none in
      ap₂ (λ a b. a || b) (no_leave_by y (y.id == id) refl (All-head IsOwnLeave y ys all) parts.0)
      (no_leave ys (All-tail IsOwnLeave y ys all) parts.1)

  none_without : (ys : List Numbered) → is_held (events_without id ys) id ≡ false
  none_without [] = refl
  none_without (y ∷ ys) = by (y.id == id) refl (none_without ys)
    where
      by : (b : Bool) → (y.id == id) ≡ b → is_held (events_without id ys) id ≡ false → is_held (events_without id (y ∷ ys)) id ≡ false
      by true is rest = simp is rest
      by false is rest = simp is rest

  -- the alter is taken, where the slot is below the horizon
  pub taken : (t : ℕ) → t < s.settings.horizon → edit_fault s (Alter id (Leave t task)) ≡ None
  taken t low =
      let tests = passes_tests s.settings x.event (All-contains (λ (y : Numbered). IsEvent s.settings y.event) s.events x scenario.limits held) in
      let of_task : has_task (Leave t task) ≡ true = ap has_task (sym is_leave) ∙ tests.task in
      let no_join = none_joins (Leave t task) (events_without id s.events) (λ n. refl) in
      let no_other = leaves_alike t task (events_without id s.events)
      ∙ no_leave (events_without id s.events) (All-filter (λ (y : Numbered). not (y.id == id)) IsOwnLeave s.events own_leaves) (none_without s.events) in
      simp (is_in, lt-ltb t s.settings.horizon low, of_task, no_join, no_other) refl

  module _ (t : ℕ) (low : t < s.settings.horizon) where
    abbrev q : Plan
    q = leaving_in s id task t

    scenario_then : IsScenario q
    scenario_then = changed_scenario s s (Alter id (Leave t task)) refl scenario (taken t low)

    abbrev here : Numbered
    here = record { id = id; event = Leave t task }

    -- what is known of each event there
    all_altered : (P : Numbered → Type 0) → P here → (ys : List Numbered) → All (λ (y : Numbered). (y.id == id) ≡ false → P y) ys → All P (map (altered id (Leave t task)) ys)
    all_altered P at [] all = All-nil P
    all_altered P at (y ∷ ys) all =
        All-cons P (altered id (Leave t task) y) (map (altered id (Leave t task)) ys)
        (by (y.id == id) refl (All-head (λ (y : Numbered). (y.id == id) ≡ false → P y) y ys all))
        (all_altered P at ys (All-tail (λ (y : Numbered). (y.id == id) ≡ false → P y) y ys all))
      where
        by : (b : Bool) → (y.id == id) ≡ b → ((y.id == id) ≡ false → P y) → P (altered id (Leave t task) y)
        by true is h = rw is at
        by false is h = rw is (h is)

    each_of : (P : Numbered → Type 0) → All P q.events → All P (events_of q t)
    unfolding events_of
    each_of P all = All-sorted_by P run_cmp (filter (is_of_slot t) q.events) (All-filter (is_of_slot t) P q.events all)

    held_altered : (ys : List Numbered) → is_held ys id ≡ true → is_held (filter (is_of_slot t) (map (altered id (Leave t task)) ys)) id ≡ true
    held_altered [] h = cc
    held_altered (y ∷ ys) h = by (y.id == id) refl h (λ h. held_altered ys h)
      where
        by : (b : Bool) → (y.id == id) ≡ b → (b || is_held ys id) ≡ true
            → (is_held ys id ≡ true → is_held (filter (is_of_slot t) (map (altered id (Leave t task)) ys)) id ≡ true)
            → is_held (filter (is_of_slot t) (map (altered id (Leave t task)) (y ∷ ys))) id ≡ true
        by true is h rest = simp (is, eq-eqb t t refl, eq-eqb id id refl) refl
        by false is h rest = simp is (more (is_of_slot t y) (rest h))
          where
            more : (c : Bool) → is_held (filter (is_of_slot t) (map (altered id (Leave t task)) ys)) id ≡ true
                → is_held (cond c (y ∷ filter (is_of_slot t) (map (altered id (Leave t task)) ys)) (filter (is_of_slot t) (map (altered id (Leave t task)) ys))) id ≡ true
            more true h = or_right _ _ h
            more false h = h

    of_slot : is_held (events_of q t) id ≡ true
    unfolding events_of
    of_slot = list_any-sorted_by (λ (y : Numbered). y.id == id) run_cmp (filter (is_of_slot t) q.events) ∙ held_altered s.events is_in

    are : (r : List Slot) → AreOfSlot q.settings r id t task (events_of q t)
    unfolding events_of
    are r = record {
      ordered = IsInOrder-sorted_by run_cmp_total (filter (is_of_slot t) q.events);
      apart = apart_events_of q t scenario_then;
      own = each_of (λ (y : Numbered). (y.id == id) ≡ true → y ≡ here)
          (all_altered (λ (y : Numbered). (y.id == id) ≡ true → y ≡ here) (λ e. refl) s.events
          (All-weaker (Contains s.events) (λ (y : Numbered). (y.id == id) ≡ false → (y.id == id) ≡ true → y ≡ here)
          (λ y at no yes. let z : true ≡ false = sym yes ∙ no in cc) s.events (All-contains_itself s.events)));
      leaves = each_of IsOwnLeave (all_altered IsOwnLeave (λ e. eq-eqb id id refl) s.events
          (All-weaker IsOwnLeave (λ (y : Numbered). (y.id == id) ≡ false → IsOwnLeave y) (λ y mine no. mine) s.events own_leaves));
    }

    -- before its slot the event is not there
    none_below : (ys : List Numbered) → is_held (filter (λ (y : Numbered). nat_lt (slot_of y.event) t) (map (altered id (Leave t task)) ys)) id ≡ false
    none_below [] = refl
    none_below (y ∷ ys) = by (y.id == id) refl (none_below ys)
      where
        by : (b : Bool) → (y.id == id) ≡ b → is_held (filter (λ (y : Numbered). nat_lt (slot_of y.event) t) (map (altered id (Leave t task)) ys)) id ≡ false
            → is_held (filter (λ (y : Numbered). nat_lt (slot_of y.event) t) (map (altered id (Leave t task)) (y ∷ ys))) id ≡ false
        by true is rest = let high : nat_lt t t ≡ false = grind (arith, nat_tests) in simp (is, high) rest
        by false is rest = simp is (more (nat_lt (slot_of y.event) t) rest)
          where
            more : (c : Bool) → is_held (filter (λ (y : Numbered). nat_lt (slot_of y.event) t) (map (altered id (Leave t task)) ys)) id ≡ false
                → is_held (cond c (y ∷ filter (λ (y : Numbered). nat_lt (slot_of y.event) t) (map (altered id (Leave t task)) ys))
                (filter (λ (y : Numbered). nat_lt (slot_of y.event) t) (map (altered id (Leave t task)) ys))) id ≡ false
            more true rest = ap₂ (λ a b. a || b) is rest
            more false rest = rest

    none_past : is_held (past q t) id ≡ false
    none_past = held_past q t id ∙ none_below s.events

    none_standing : is_held (course_of q t).standing id ≡ false
    unfolding in_force
    none_standing =
        ap (λ xs. is_held xs id) (course_is_run q t scenario_then).stands
        ∙ none_kept (λ y. not (is_denied (denials_of (run_of q t)) y)) (past q t) id none_past

    none_denied : list_any (λ (d : Denied). d.id == id) (denials_of (run_of q t)) ≡ false
    none_denied =
        denied_past q t (run_of q t) (run_is_computed q t scenario_then) id
        (ap (λ n. is_held (past q n) id) (computed_length q t scenario_then) ∙ none_past)

    -- why it is denied in its slot
    more_of : run_of q (t + 1) ≡ run_of q t ++ record {
      picks = map pick_of_key (picks_of q.settings (run_of q t) (after_events q.settings (run_of q t) (course_of q t).standing (events_of q t)));
      denials = denials_among q.settings (run_of q t) (course_of q t).standing (events_of q t);
    } ∷ []
    unfolding course_of
    more_of = ap (run_of q) (let z : t + 1 ≡ suc t = omega arith in z)

    pub up_to : denial_up_to q id t ≡ leave_denial t (member_at s.settings.base (run_of q t) (course_of q t).standing task)
    up_to =
        ap (λ r. denial_by id (denials_of r)) more_of
        ∙ ap (denial_by id) (denials_of_snoc (run_of q t) _)
        ∙ ap (option_map (λ (d : Denied). d.denial)) (search_behind (λ (d : Denied). d.id == id) (denials_of (run_of q t)) _ none_denied)
        ∙ judged q.settings (run_of q t) id t task (course_of q t).standing (events_of q t) (are (run_of q t)) of_slot

    -- the run up to there is that of the scenario
    module _ (n : ℕ) (within : t ≤ n) (denied : list_any (λ (d : Denied). d.id == id) (denials_of (run_of s n)) ≡ true) where
      abbrev r : List Slot
      r = run_of s n

      abbrev xs : List Numbered
      xs = events_in_force s r t

      stands : (course_of s t).standing ≡ xs
      stands =
          (course_is_run s t scenario).stands
          ∙ ap (λ z. events_in_force s z t) (sym (computed_begins s n t scenario within))
          ∙ sym (standing-take s n r scenario (run_is_computed s n scenario) t (let z : t ≤ length r = omega (arith, within, computed_length s n scenario) in z))

      out : is_held (course_of s t).standing id ≡ false
      out = ap (λ ys. is_held ys id) stands ∙ denied_out id (denials_of r) (past s t) denied

      same : course_without id (course_of q t) ≡ course_without id (course_of s t)
      same =
          sym (course_kept id q t none_standing)
          ∙ ap (λ (p : Plan). course_of p t) (strike_altered s id (Leave t task))
          ∙ course_kept id s t out

      member_same : member_at s.settings.base (run_of q t) (course_of q t).standing task ≡ member_at s.settings.base (take t r) xs task
      member_same =
          sym (member_at_kept id s.settings.base (run_of q t) (course_of q t).standing task)
          ∙ ap (λ (c : RunCourse). member_at s.settings.base c.slots c.standing task) same
          ∙ member_at_kept id s.settings.base (run_of s t) (course_of s t).standing task
          ∙ ap₂ (λ z ys. member_at s.settings.base z ys task) (sym (computed_begins s n t scenario within)) stands

      -- the task is inside there, as it was before the leave
      none_left : leave_among task xs ≡ None
      none_left =
          find_none (λ (y : Numbered). is_leave_of task y.event) xs
          (no_leave xs (in_force_all IsOwnLeave (denials_of r) (past s t) (past_leaves t)) (denied_out id (denials_of r) (past s t) denied))

      joined_by : (o : Option Numbered) (j : Joined) (front rest : List Numbered) → join_among task front ≡ o → option_and_then (join_of s.settings.base) o ≡ Some j
          → option_and_then (join_of s.settings.base) (join_among task (front ++ rest)) ≡ Some j
      joined_by None j front rest is some = cc
      joined_by (Some y) j front rest is some =
          ap (option_and_then (join_of s.settings.base)) (find-append _ front rest ∙ ap (λ p. option_or p (join_among task rest)) is) ∙ some

      module _ (j : Joined) (inside_before : joined_at s.settings.base (in_force (denials_of r) (before_event id (past s n))) task ≡ Some j)
          (in_past : is_held (past s t) id ≡ true) where
        still : joined_at s.settings.base xs task ≡ Some j
        still =
            let on = past_on s t (n - t) in
            let whole : past s n ≡ past s t ++ on.0 = ap (past s) (let z : n ≡ t + (n - t) = omega (arith, within) in z) ∙ on.1 in
            let front = front_of id (past s t) on.0 in_past in
            let before = in_force (denials_of r) (before_event id (past s n)) in
            let split : xs ≡ before ++ in_force (denials_of r) front.0 =
            ap (in_force (denials_of r)) (front.1 ∙ ap (λ zs. before_event id zs ++ front.0) (sym whole)) ∙ in_force-append (denials_of r) (before_event id (past s n)) front.0 in
            let none = find_none (λ (y : Numbered). is_leave_of task y.event) before
            (or_parts _ _ (sym (list_any-append (λ (y : Numbered). is_leave_of task y.event) before (in_force (denials_of r) front.0))
            ∙ ap (list_any (λ (y : Numbered). is_leave_of task y.event)) (sym split)
            ∙ no_leave xs (in_force_all IsOwnLeave (denials_of r) (past s t) (past_leaves t)) (denied_out id (denials_of r) (past s t) denied))).0 in
            sym (joined_stays s.settings.base task xs none_left)
            ∙ ap (λ ys. option_and_then (join_of s.settings.base) (join_among task ys)) split
            ∙ joined_by (join_among task before) j before (in_force (denials_of r) front.0) refl (joined_stays s.settings.base task before none ∙ inside_before)

        -- Use: it is denied as the rule of leaves says of the task in that slot.
        pub denied_as : denial_up_to q id t ≡ leave_in s r j t
        denied_as =
            up_to ∙ ap (leave_denial t) (member_same ∙ ap (option_map (member_of (take t r) xs)) still)
