-- What reasons rest on: the events before a point, those in force, and the slots that follow.
use Rattle.std.proofs.Common.{◌≡◌, ℕ, zero, suc, ◌+◌, ◌-◌, ◌<◌, ◌≤◌, Bool, true, false, ◌&&◌, ◌||◌, ◌==◌, not, nat_le, nat_lt, cond, Option, None, Some, List, [], ◌∷◌, ◌++◌, length, take, drop, map, filter, find, get_or, All, subst, subst₂, refl, sym, ap, ap₂, ◌∙◌, arith}
use Rattle.std.specs.List.{list_any, slice_get, position_or_len}
use Rattle.std.specs.Option.{option_map_or, option_and_then}
use Rattle.std.proofs.lemmas.Bool.{eqb-true, cond-true, lt-ltb}
use Rattle.std.proofs.lemmas.List.Folds.{find_at}
use Rattle.std.proofs.lemmas.List.{append-nil, append_assoc, length-take}
use Rattle.std.proofs.lemmas.List.Elements.{All-filter, All-take, All-append, All-nil, All-cons, Contains-get_or}
use Rattle.std.proofs.lemmas.List.Sorted.{list_any-IsPermutation}
use Rattle.pf_lemmas.proofs.Finding.{found_all, found_passes}
use Rattle.pf_order.specs.declared.pick.Pick.{Pick}
use Rattle.pf_admit.specs.Member.{free_from}
use Rattle.pf_scenario.specs.Event.{slot_of, is_leave_of}
use Rattle.pf_scenario.specs.Scenario.{Plan, events_of, past}
use Rattle.pf_scenario.specs.Edit.{IsScenario, IsEvent}
use Rattle.pf_scenario.specs.declared.scenario.TheConstants.{MOST_EVENTS}
use Rattle.pf_scenario.specs.declared.settings.TheConstants.{WIDE_HORIZON}
use Rattle.pf_scenario.specs.declared.event.Numbered.{Numbered}
use Rattle.pf_run.specs.declared.denied.Denied.{Denied}
use Rattle.pf_run.specs.Record.{Slot, denials_of, is_denied, in_force}
use Rattle.pf_run.specs.Inside.{Joined, member_of}
use Rattle.pf_run.specs.Run.{events_in_force}
use Rattle.pf_run.specs.RunRows.{rows_in, denials_in}
use Rattle.pf_run.specs.Computed.{run_of}
use Rattle.pf_run.proofs.Plans.{slots_of_events, limits_of_past, past_few, in_force_few}
use Rattle.pf_run.proofs.Runs.{run_is_computed}
use Rattle.pf_run.proofs.Within.{IsJoined, inside_within, horizon_within}
use Rattle.pf_run.proofs.Joins.{past_below}
use Rattle.pf_tally.specs.Standing.{AreNumbersOf}
use Rattle.pf_tally.specs.Log.{RiseFrom}
use Rattle.pf_tally.proofs.Turns.{rows_length}
use Rattle.pf_tally.proofs.InForce.{in_force-append, in_force_rises, kept_in_force}
use Rattle.pf_desk.specs.Desk.{Seen}
use Rattle.pf_notes.specs.Absence.{leave_among}
use Rattle.pf_notes.specs.Point.{before_event, event_of, first_slot, joined_at, member_in}
use Rattle.pf_notes.specs.Grounds.{last_ran, last_slot, lets_go, early_leave, late_delay, grounds_for, grounds_of}
use Rattle.pf_notes.specs.Walk.{AreRunRows, last_in, bound_with, ran_of, release_with, sub_of, lets_go_by}
use Rattle.pf_notes.specs.Reasons.{AreReasons, IsFront, IsPoint}
use Rattle.pf_notes.specs.declared.quantum.Quantum.{Quantum}
use Rattle.pf_notes.specs.declared.grounds.Grounds.TheVariants.{TooEarly, Released}
use Rattle.pf_notes.proofs.Quanta.{last_is, are_run_rows}
use Rattle.pf_notes.proofs.Bounds.{sub_is, bound_is, release_is, bound_same}
use Rattle.pf_notes.proofs.Ran.{ran_is}

some_same : {X : Type 0} (x y : X) → ◌≡◌ {A = Option X} (Some x) (Some y) → x ≡ y
some_same x y e = cc

denied_among : (denials : List Denied) (x : Numbered) → list_any (λ n. n == x.id) (map (λ (d : Denied). d.id) denials) ≡ is_denied denials x
denied_among [] x = refl
denied_among (d ∷ denials) x = ap (λ b. (d.id == x.id) || b) (denied_among denials x)

-- Use: an event is denied where its number is among those.
pub among_is : (denials : List Denied) (numbers : List ℕ) (x : Numbered) → AreNumbersOf denials numbers → list_any (λ n. n == x.id) numbers ≡ is_denied denials x
among_is denials numbers x are =
    sym (list_any-IsPermutation (λ n. n == x.id) (map (λ (d : Denied). d.id) denials) numbers are.same) ∙ denied_among denials x

kept_cond : {X : Type 0} (p : X → Bool) (b : Bool) (x : X) (o : Option X) (xs : List X) → o ≡ find p xs →
    cond (b && p x) (Some x) o ≡ find p (cond b (x ∷ xs) xs)
kept_cond p true x o xs e = ap (cond (p x) (Some x)) e
kept_cond p false x o xs e = e

find_kept : {X : Type 0} (keep p : X → Bool) (xs : List X) → find (λ x. keep x && p x) xs ≡ find p (filter keep xs)
find_kept keep p [] = refl
find_kept keep p (x ∷ xs) = kept_cond p (keep x) x (find (λ x. keep x && p x) xs) (filter keep xs) (find_kept keep p xs)

-- Use: the first leave that was taken.
pub taken_is : (denials : List Denied) (numbers : List ℕ) (task : ℕ) (xs : List Numbered) → AreNumbersOf denials numbers →
    find (λ x. not (list_any (λ n. n == x.id) numbers) && is_leave_of task x.event) xs ≡ leave_among task (in_force denials xs)
taken_is denials numbers task xs are =
    find_kept (λ x. not (list_any (λ n. n == x.id) numbers)) (λ x. is_leave_of task x.event) xs
    ∙ ap (leave_among task) (kept_in_force denials numbers xs are)

some_inside : {X : Type 0} (xs : List X) (i : ℕ) (x : X) → slice_get xs i ≡ Some x → i < length xs
some_inside [] i x e = cc
some_inside (y ∷ ys) zero x e = omega arith
some_inside (y ∷ ys) (suc i) x e = let rest = some_inside ys i x e in omega (arith, rest)

-- the past rises by slot
filter_all : {X : Type 0} (xs : List X) → filter (λ x. true) xs ≡ xs
filter_all [] = refl
filter_all (x ∷ xs) = ap (λ ys. x ∷ ys) (filter_all xs)

past_rises : (s : Plan) (n : ℕ) → RiseFrom 0 (past s n)
unfolding in_force
past_rises s n = subst (RiseFrom 0) (filter_all (past s n)) (in_force_rises s n [])

rise_low : (u : ℕ) (xs : List Numbered) → RiseFrom u xs → All (λ x. u ≤ slot_of x.event) xs
rise_low u [] rise = All-nil (λ x. u ≤ slot_of x.event)
rise_low u (x ∷ xs) rise =
    let rest = rise_low (slot_of x.event) xs rise.1 in
    All-cons (λ x. u ≤ slot_of x.event) x xs rise.0
    (λ k d within. let high : slot_of x.event ≤ slot_of (get_or xs k d).event = rest k d within in omega (arith, high, rise.0))

rise_at : (u : ℕ) (xs : List Numbered) (c : ℕ) (x : Numbered) → RiseFrom u xs → slice_get xs c ≡ Some x →
    All (λ y. slot_of y.event ≤ slot_of x.event) (take c xs) × All (λ y. slot_of x.event ≤ slot_of y.event) (drop c xs) × (u ≤ slot_of x.event)
rise_at u [] c x rise e = cc
rise_at u (y ∷ ys) zero x rise e =
    let same : y ≡ x = some_same y x e in
    subst (λ (z : Numbered). All {X = Numbered} (λ y. slot_of y.event ≤ slot_of z.event) [] × All {X = Numbered} (λ y. slot_of z.event ≤ slot_of y.event) (y ∷ ys) × (u ≤ slot_of z.event)) same (
      All-nil (λ (x : Numbered). slot_of x.event ≤ slot_of y.event),
      All-cons (λ x. slot_of y.event ≤ slot_of x.event) y ys (omega arith) (rise_low (slot_of y.event) ys rise.1),
      rise.0,
    )
rise_at u (y ∷ ys) (suc c) x rise e =
    let rest = rise_at (slot_of y.event) ys c x rise.1 e in (
      All-cons (λ y. slot_of y.event ≤ slot_of x.event) y (take c ys) rest.2 rest.0,
      rest.1,
      omega (arith, rise.0, rest.2),
    )

-- the past goes on
past_more : (s : Plan) (t k : ℕ) → (rest : List Numbered) × (past s (t + k) ≡ past s t ++ rest) × All (λ x. t ≤ slot_of x.event) rest
past_more s t zero = (
  [],
  ap (past s) (let z : t + 0 ≡ t = omega arith in z) ∙ sym (append-nil (past s t)),
  All-nil (λ x. t ≤ slot_of x.event),
)
past_more s t (suc k) =
    let before = past_more s t k in (
      before.0 ++ events_of s (t + k),
      ap (past s) (let z : t + suc k ≡ suc (t + k) = omega arith in z) ∙ ap (λ xs. xs ++ events_of s (t + k)) before.1
          ∙ append_assoc (past s t) before.0 (events_of s (t + k)),
      All-append (λ x. t ≤ slot_of x.event) before.0 (events_of s (t + k)) before.2
          (λ i d within. omega (arith, slots_of_events s (t + k) i d within)),
    )

first_same : (p q : ℕ → Bool) (t k : ℕ) → ((u : ℕ) → t ≤ u → u < t + k → p u ≡ q u) → first_slot p t k ≡ first_slot q t k
first_same p q t zero same = refl
first_same p q t (suc k) same =
    ap₂ (λ b o. cond b (Some t) o) (same t (omega arith) (omega arith))
    (first_same p q (t + 1) k (λ u from to. same u (omega (arith, from)) (omega (arith, to))))

kept : (t : ℕ) (d : List Denied) (ys : List Numbered) → All (λ y. t ≤ slot_of y.event) ys → All (λ y. t ≤ slot_of y.event) (in_force d ys)
unfolding in_force
kept t d ys all = All-filter (λ x. not (is_denied d x)) (λ y. t ≤ slot_of y.event) ys all

past_early : (s : Plan) (d : List Denied) (u : ℕ) → All (λ x. slot_of x.event ≤ u) (in_force d (past s u))
unfolding in_force
past_early s d u =
    All-filter (λ x. not (is_denied d x)) (λ x. slot_of x.event ≤ u) (past s u)
    (λ k e within. let below = past_below s u (get_or (past s u) k e) (Contains-get_or (past s u) k e within) in omega (arith, below))

module _ (seen : Seen) (events : List Numbered) (numbers : List ℕ) (are : AreReasons seen events numbers) where
  abbrev s : Plan
  s = seen.state.plan

  abbrev n : ℕ
  n = seen.state.now

  abbrev r : List Slot
  r = run_of s n

  scenario : IsScenario s
  scenario = are.of_run.scenario

  pub long : length r ≡ n
  long = (run_is_computed s n scenario).slots

  pub denials_are : seen.denials ≡ denials_of r
  unfolding denials_in
  denials_are = are.of_run.are_denials

  pub short : n ≤ WIDE_HORIZON
  short = omega (arith, are.of_run.within, horizon_within s.settings scenario.settings)

  -- Use: the rows are those of a run.
  pub rows_are : AreRunRows s.settings.processors seen.rows
  rows_are = subst (AreRunRows s.settings.processors) (sym are.of_run.are_rows) (are_run_rows s n scenario short)

  pub rows_long : length seen.rows ≡ n
  rows_long = ap length are.of_run.are_rows ∙ rows_length s n scenario

  module _ (before : List Numbered) (front : IsFront seen before) where
    -- Use: those in force are within their limits, and few.
    pub standing_limits : All (λ x. IsEvent s.settings x.event) (in_force seen.denials before)
    unfolding in_force
    standing_limits =
        All-filter (λ x. not (is_denied seen.denials x)) (λ x. IsEvent s.settings x.event) before
        (subst (All (λ x. IsEvent s.settings x.event)) (sym front.front)
        (All-take (λ x. IsEvent s.settings x.event) front.count (past s n) (limits_of_past s n scenario)))

    pub standing_few : length (in_force seen.denials before) ≤ 65535
    standing_few =
        let few : length s.events ≤ MOST_EVENTS = scenario.few in
        omega (
          arith,
          in_force_few seen.denials before,
          ap length front.front,
          length-take front.count (past s n),
          past_few s n,
          few,
        )

    -- Use: a task inside joined below the horizon.
    pub standing_slot : (task : ℕ) (j : Joined) → joined_at s.settings.base (in_force seen.denials before) task ≡ Some j → j.slot ≤ WIDE_HORIZON
    standing_slot task j found =
        let within = found_all (λ (j : Joined). j.task == task) (IsJoined s.settings) _ j found (inside_within s.settings (in_force seen.denials before) standing_limits) in
        omega (arith, within.slot, horizon_within s.settings scenario.settings)

  -- an event of the slots stepped
  module _ (id : ℕ) (x : Numbered) (found : event_of id (past s n) ≡ Some x) where
    own : x.id ≡ id
    own = eqb-true x.id id (found_passes (λ x. x.id == id) (past s n) x found)

    pub event_within : IsEvent s.settings x.event
    event_within = found_all (λ x. x.id == id) (λ x. IsEvent s.settings x.event) (past s n) x found (limits_of_past s n scenario)

    pub event_own : event_of x.id (past s n) ≡ Some x
    event_own = ap (λ id. event_of id (past s n)) own ∙ found

    place : ℕ
    place = position_or_len (λ x. x.id == id) (past s n)

    stands : slice_get (past s n) place ≡ Some x
    unfolding place
    stands = sym (find_at (λ x. x.id == id) (past s n)) ∙ found

    before_is : before_event id (past s n) ≡ take place (past s n)
    unfolding place
    before_is =
        ap (λ o. option_map_or (λ place. take place (past s n)) o (past s n))
        (cond-true (nat_lt (position_or_len (λ x. x.id == id) (past s n)) (length (past s n))) (Some (position_or_len (λ x. x.id == id) (past s n))) None
        (lt-ltb _ _ (some_inside (past s n) (position_or_len (λ x. x.id == id) (past s n)) x (sym (find_at (λ x. x.id == id) (past s n)) ∙ found))))

    -- Use: its point.
    pub point_is : (before : List Numbered) (slot : ℕ) → before ≡ before_event x.id events → slot ≡ slot_of x.event → IsPoint seen before slot
    point_is before slot is of_slot =
        let front : before ≡ take place (past s n) = is ∙ ap₂ before_event own are.past ∙ before_is in
        let rises = rise_at 0 (past s n) place x (past_rises s n) stands in
        let below : slot_of x.event < n =
        found_all (λ x. x.id == id) (λ x. slot_of x.event < n) (past s n) x found
        (λ k e within. past_below s n (get_or (past s n) k e) (Contains-get_or (past s n) k e within)) in
        record {
          is_front = record { count = place; front = front };
          within = omega (arith, of_slot, below);
          early = subst₂ (λ t xs. All (λ y. slot_of y.event ≤ t) xs) (sym of_slot) (sym front) rises.0;
          rest = subst (λ t. All (λ y. t ≤ slot_of y.event) (drop place (past s n))) (sym of_slot) rises.1;
        }

  -- Use: what a denial rests on, and where it is none.
  pub grounds_found : (d : Denied) (x : Numbered) → event_of d.id (past s n) ≡ Some x →
      grounds_for s r seen.denials (before_event x.id (past s n)) x.event d.denial ≡ grounds_of s r d
  grounds_found d x found = sym (
      ap (λ m. option_and_then (λ x. grounds_for s r (denials_of r) (before_event d.id (past s m)) x.event d.denial) (event_of d.id (past s m))) long
      ∙ ap (option_and_then (λ x. grounds_for s r (denials_of r) (before_event d.id (past s n)) x.event d.denial)) found
      ∙ ap₂ (λ ds id. grounds_for s r ds (before_event id (past s n)) x.event d.denial) (sym denials_are) (sym (own d.id x found))
      )

  pub grounds_none : (d : Denied) → event_of d.id (past s n) ≡ None → None ≡ grounds_of s r d
  grounds_none d missed = sym (
      ap (λ m. option_and_then (λ x. grounds_for s r (denials_of r) (before_event d.id (past s m)) x.event d.denial) (event_of d.id (past s m))) long
      ∙ ap (option_and_then (λ x. grounds_for s r (denials_of r) (before_event d.id (past s n)) x.event d.denial)) missed
      )

  module _ (before : List Numbered) (slot : ℕ) (point : IsPoint seen before slot) (j : Joined) where
    abbrev xs : List Numbered
    xs = in_force (denials_of r) before

    abbrev whole : List Numbered
    whole = in_force (denials_of r) (past s n)

    early : All (λ x. slot_of x.event ≤ slot) xs
    unfolding in_force
    early = All-filter (λ x. not (is_denied (denials_of r) x)) (λ x. slot_of x.event ≤ slot) before point.early

    inside : slot ≤ length r
    inside = omega (arith, point.within, long)

    -- in a later slot
    bound_at : (u : ℕ) → u ≤ n → bound_with j whole (last_in (rows_in s n) j.task u) ≡ free_from (member_in s r j u)
    bound_at u within =
        let more = past_more s u (n - u) in
        let d = denials_of r in
        let of_rest : whole ≡ events_in_force s r u ++ in_force d more.0 =
        ap (in_force d) (ap (past s) (let z : n ≡ u + (n - u) = omega (arith, within) in z) ∙ more.1) ∙ in_force-append d (past s u) more.0 in
        let last = last_is s n scenario j.task u within in
        bound_same j (events_in_force s r u) (in_force d more.0) whole u (last_in (rows_in s n) j.task u) r of_rest (kept u d more.0 more.2) last
        ∙ bound_is r u (omega (arith, within, long)) (events_in_force s r u) (past_early s d u) j (last_in (rows_in s n) j.task u) last

    goes : (u : ℕ) → u ≤ n → lets_go_by (rows_in s n) j whole u ≡ lets_go s r j u
    goes u within = ap (λ b. nat_le b u) (bound_at u within)

    end_is : last_slot s.settings n ≡ last_slot s.settings (length r)
    end_is = ap (last_slot s.settings) (sym long)

    canonical_leave : TooEarly j.task (sub_of (last_in (rows_in s n) j.task slot)) slot (ran_of (last_in (rows_in s n) j.task slot))
        (first_slot (lets_go_by (rows_in s n) j whole) (slot + 1) (last_slot s.settings n - slot))
        (bound_with j whole (last_in (rows_in s n) j.task (last_slot s.settings n))) s.settings.horizon
        ≡ early_leave s r xs slot j
    canonical_leave =
        let last = last_is s n scenario j.task slot (omega (arith, point.within)) in
        let o = last_in (rows_in s n) j.task slot in
        let end = last_slot s.settings n in
        ap₂ (λ i q. TooEarly j.task i slot q (first_slot (lets_go_by (rows_in s n) j whole) (slot + 1) (end - slot))
        (bound_with j whole (last_in (rows_in s n) j.task end)) s.settings.horizon)
        (sub_is r slot inside xs early j o last) (ran_is r j.task slot o last)
        ∙ ap₂ (λ f l. TooEarly j.task (member_of (take slot r) xs j).done slot (last_ran r j.task slot) f l s.settings.horizon)
        (first_same (lets_go_by (rows_in s n) j whole) (lets_go s r j) (slot + 1) (end - slot)
        (λ u from to. goes u (omega (arith, to, from)))
        ∙ ap (λ e. first_slot (lets_go s r j) (slot + 1) (e - slot)) end_is)
        (bound_at end (omega arith) ∙ ap (λ e. free_from (member_in s r j e)) end_is)

    canonical_delay : Released j.task (sub_of (last_in (rows_in s n) j.task slot) + 1) (release_with j xs slot (last_in (rows_in s n) j.task slot)) ≡ late_delay r xs slot j
    canonical_delay =
        let last = last_is s n scenario j.task slot (omega (arith, point.within)) in
        let o = last_in (rows_in s n) j.task slot in
        ap₂ (λ i b. Released j.task (i + 1) b) (sub_is r slot inside xs early j o last) (release_is r slot inside xs early j o last)

    -- Use: what a leave and a delay at the point rest on.
    pub leave_is : (rows : List (List (Option Pick))) (denials : List Denied) → rows ≡ seen.rows → denials ≡ seen.denials →
        TooEarly j.task (sub_of (last_in rows j.task slot)) slot (ran_of (last_in rows j.task slot))
        (first_slot (lets_go_by rows j (in_force denials (past s n))) (slot + 1) (last_slot s.settings n - slot))
        (bound_with j (in_force denials (past s n)) (last_in rows j.task (last_slot s.settings n))) s.settings.horizon
        ≡ early_leave s r (in_force denials before) slot j
    leave_is rows denials of_rows of_denials =
        subst₂ (λ rows denials. TooEarly j.task (sub_of (last_in rows j.task slot)) slot (ran_of (last_in rows j.task slot))
        (first_slot (lets_go_by rows j (in_force denials (past s n))) (slot + 1) (last_slot s.settings n - slot))
        (bound_with j (in_force denials (past s n)) (last_in rows j.task (last_slot s.settings n))) s.settings.horizon
        ≡ early_leave s r (in_force denials before) slot j)
        (sym (of_rows ∙ are.of_run.are_rows)) (sym (of_denials ∙ denials_are)) canonical_leave

    pub delay_is : (rows : List (List (Option Pick))) (denials : List Denied) → rows ≡ seen.rows → denials ≡ seen.denials →
        Released j.task (sub_of (last_in rows j.task slot) + 1) (release_with j (in_force denials before) slot (last_in rows j.task slot))
        ≡ late_delay r (in_force denials before) slot j
    delay_is rows denials of_rows of_denials =
        subst₂ (λ rows denials. Released j.task (sub_of (last_in rows j.task slot) + 1) (release_with j (in_force denials before) slot (last_in rows j.task slot))
        ≡ late_delay r (in_force denials before) slot j)
        (sym (of_rows ∙ are.of_run.are_rows)) (sym (of_denials ∙ denials_are)) canonical_delay

    -- Use: the same, as it is found.
    pub leave_told : (task sub ran last later horizon : ℕ) (from : Option ℕ) (quantum at_end : Option Quantum) (rows : List (List (Option Pick)))
        (standing : List Numbered) →
        task ≡ j.task → rows ≡ seen.rows → standing ≡ in_force seen.denials events → quantum ≡ last_in rows task slot → sub ≡ sub_of quantum →
        ran ≡ ran_of quantum → last ≡ last_slot s.settings n → from ≡ first_slot (lets_go_by rows j standing) (slot + 1) (last - slot) →
        at_end ≡ last_in rows task last → later ≡ bound_with j standing at_end → horizon ≡ s.settings.horizon →
        TooEarly task sub slot ran from later horizon ≡ early_leave s r (in_force seen.denials before) slot j
    leave_told task sub ran last later horizon from quantum at_end rows standing of_task of_rows of_standing of_quantum of_sub of_ran of_last of_from of_end
        of_later of_horizon =
        let q : quantum ≡ last_in rows j.task slot = of_quantum ∙ ap (λ t. last_in rows t slot) of_task in
        let w : standing ≡ in_force seen.denials (past s n) = of_standing ∙ ap (in_force seen.denials) are.past in
        let e : at_end ≡ last_in rows j.task (last_slot s.settings n) = of_end ∙ ap₂ (last_in rows) of_task of_last in
        let f : from ≡ first_slot (lets_go_by rows j (in_force seen.denials (past s n))) (slot + 1) (last_slot s.settings n - slot) =
        of_from ∙ ap₂ (λ (xs : List Numbered) e. first_slot (lets_go_by rows j xs) (slot + 1) (e - slot)) w of_last in
        let l : later ≡ bound_with j (in_force seen.denials (past s n)) (last_in rows j.task (last_slot s.settings n)) = of_later ∙ ap₂ (bound_with j) w e in
        ap₂ (λ t i. TooEarly t i slot ran from later horizon) of_task (of_sub ∙ ap sub_of q)
        ∙ ap₂ (λ c o. TooEarly j.task (sub_of (last_in rows j.task slot)) slot c o later horizon) (of_ran ∙ ap ran_of q) f
        ∙ ap₂ (TooEarly j.task (sub_of (last_in rows j.task slot)) slot (ran_of (last_in rows j.task slot))
        (first_slot (lets_go_by rows j (in_force seen.denials (past s n))) (slot + 1) (last_slot s.settings n - slot))) l of_horizon
        ∙ leave_is rows seen.denials of_rows refl

    pub delay_told : (task sub release : ℕ) (quantum : Option Quantum) (rows : List (List (Option Pick))) (standing : List Numbered) →
        task ≡ j.task → rows ≡ seen.rows → standing ≡ in_force seen.denials before → quantum ≡ last_in rows task slot → sub ≡ sub_of quantum →
        release ≡ release_with j standing slot quantum → Released task (sub + 1) release ≡ late_delay r standing slot j
    delay_told task sub release quantum rows standing of_task of_rows of_standing of_quantum of_sub of_release =
        let q : quantum ≡ last_in rows j.task slot = of_quantum ∙ ap (λ t. last_in rows t slot) of_task in
        ap₂ (λ t i. Released t (i + 1) release) of_task (of_sub ∙ ap sub_of q)
        ∙ ap (Released j.task (sub_of (last_in rows j.task slot) + 1)) (of_release ∙ ap₂ (λ (xs : List Numbered) o. release_with j xs slot o) of_standing q)
        ∙ delay_is rows seen.denials of_rows refl
        ∙ ap (λ (xs : List Numbered). late_delay r xs slot j) (sym of_standing)
