-- A run without the denials of one event: nothing else looks at them.
use Rattle.std.proofs.Common.{◌≡◌, ℕ, zero, suc, ◌+◌, not, ◌&&◌, ◌||◌, ◌==◌, Bool, true, false, nat_le, cond, List, [], ◌∷◌, ◌++◌, length, take, map, filter, count_by, Option, None, Some, refl, sym, ap, ap₂, ◌∙◌}
use Rattle.std.proofs.lemmas.Bool.{eqb-true}
use Rattle.std.proofs.lemmas.List.{length-map, map-append, take-map}
use Rattle.std.proofs.lemmas.List.Folds.{list_any-append}
use Rattle.std.specs.List.{list_any}
use Rattle.std.specs.Option.{option_map}
use Rattle.std.specs.Prelude.{if◌then◌else◌, find, filter_map, sum_by}
use Rattle.pf_lemmas.proofs.Filters.{filters_swap}
use Rattle.pf_order.specs.Priority.{Priority}
use Rattle.pf_order.specs.First.{first_keys}
use Rattle.pf_scenario.specs.System.{System}
use Rattle.pf_scenario.specs.Event.{is_of_slot, in_run_order}
use Rattle.pf_scenario.specs.Scenario.{Plan, events_of, is_held, past, plan_after}
use Rattle.pf_scenario.specs.declared.change.Change.TheVariants.{Strike}
use Rattle.pf_scenario.specs.declared.event.Event.{Event}
use Rattle.pf_scenario.specs.declared.event.Event.TheVariants.{Join, Leave, Delay, Limit}
use Rattle.pf_scenario.specs.declared.event.Numbered.{Numbered}
use Rattle.pf_scenario.proofs.Indexing.{run_cmp_total}
use Rattle.pf_scenario.proofs.Sorting.{filter-sorted_by}
use Rattle.pf_admit.specs.Admission.{leave_denial, delay_denial}
use Rattle.pf_admit.specs.declared.member.Member.{Member}
use Rattle.pf_admit.specs.declared.denial.Denial.{Denial}
use Rattle.pf_run.specs.declared.denied.Denied.{Denied}
use Rattle.pf_run.specs.Record.{Slot, runs, done, in_force, is_denied, next_sub, denials_of}
use Rattle.pf_run.specs.Inside.{Joined, inside, count_of, hold_back_of, shift_of, member_of, member_at, ready, ready_key}
use Rattle.pf_run.specs.Denials.{denial_of, denied_for}
use Rattle.pf_run.specs.Run.{pick_of_key}
use Rattle.pf_run.specs.Computed.{RunCourse, with_event, after_events, denials_among, picks_of, with_slot, next_course, course_of, run_of}
use Rattle.pf_run.proofs.Counting.{sum_by-map}
use Rattle.pf_run.proofs.Runs.{course_is_run}
use Rattle.pf_script_laws.specs.Repairs.Repairs.{DeniedEventsHaveNoEffect, slot_without}

module _ (id : ℕ) where
  abbrev pub bare : List Slot → List Slot
  bare r = map (slot_without id) r

  abbrev pub is_other : Numbered → Bool
  is_other x = not (x.id == id)

  abbrev pub is_others : Denied → Bool
  is_others d = not (d.id == id)

  -- how often a task ran
  pub done_kept : (r : List Slot) (task t : ℕ) → done (bare r) task t ≡ done r task t
  unfolding done
  done_kept r task t = ap (count_by (runs task)) (take-map (slot_without id) t r) ∙ sum_by-map (λ slot. cond (runs task slot) 1 0) (slot_without id) (take t r)

  hold_back_kept : (r : List Slot) (task i : ℕ) (event : Event) → hold_back_of (bare r) task i event ≡ hold_back_of r task i event
  hold_back_kept r task i (Join slot task' cost period early) = refl
  hold_back_kept r task i (Leave slot task') = refl
  hold_back_kept r task i (Delay slot task' by) =
      ap (λ n. if task' == task && nat_le (n + 1) i then by else 0) (done_kept r task slot)
  hold_back_kept r task i (Limit slot count) = refl

  shift_kept : (r : List Slot) (xs : List Numbered) (j : Joined) (i : ℕ) → shift_of (bare r) xs j i ≡ shift_of r xs j i
  unfolding shift_of
  shift_kept r xs j i =
      ap (λ n. j.slot + n) (ap (λ (h : Numbered → ℕ). sum_by h xs) (λ k x. hold_back_kept r j.task i x.event k))

  next_kept : (r : List Slot) (task : ℕ) → next_sub (bare r) task ≡ next_sub r task
  next_kept r task = ap (λ t. done (bare r) task t + 1) (length-map r (slot_without id)) ∙ ap (λ n. n + 1) (done_kept r task (length r))

  all_done_kept : (r : List Slot) (task : ℕ) → done (bare r) task (length (bare r)) ≡ done r task (length r)
  all_done_kept r task = ap (done (bare r) task) (length-map r (slot_without id)) ∙ done_kept r task (length r)

  pub member_kept : (r : List Slot) (xs : List Numbered) (j : Joined) → member_of (bare r) xs j ≡ member_of r xs j
  unfolding member_of
  member_kept r xs j =
      let count = all_done_kept r j.task in
      let shift = ap (shift_of (bare r) xs j) (next_kept r j.task) ∙ shift_kept r xs j (next_sub r j.task) in
      let last = ap (shift_of (bare r) xs j) count ∙ shift_kept r xs j (done r j.task (length r)) in
      λ k. record { weight = j.weight; joined = j.slot; early = j.early; done = count k; shift = shift k; last = last k }

  pub member_at_kept : (base : ℕ) (r : List Slot) (xs : List Numbered) (task : ℕ) → member_at base (bare r) xs task ≡ member_at base r xs task
  member_at_kept base r xs task =
      ap (λ (h : Joined → Member). option_map h (find (λ j. j.task == task) (inside base xs))) (λ k j. member_kept r xs j k)

  ready_kept : (base : ℕ) (r : List Slot) (xs : List Numbered) → ready base (bare r) xs ≡ ready base r xs
  unfolding ready
  ready_kept base r xs =
      ap (λ (h : Joined → Option Priority). filter_map h (inside base xs))
      (λ k j. ready_key (length-map r (slot_without id) k) j.task (member_kept r xs j k))

  -- why an event is denied
  pub denial_kept : (s : System) (r : List Slot) (xs : List Numbered) (event : Event) → denial_of s (bare r) xs event ≡ denial_of s r xs event
  denial_kept s r xs (Join slot task cost period early) = refl
  denial_kept s r xs (Leave slot task) = ap (leave_denial slot) (member_at_kept s.base r xs task)
  denial_kept s r xs (Delay slot task by) = ap (delay_denial slot) (member_at_kept s.base r xs task)
  denial_kept s r xs (Limit slot count) = refl

  -- what is in force stays so
  held_more : (xs : List Numbered) (y : Numbered) (o : Option Denial) → is_held xs id ≡ true → is_held (with_event xs y o) id ≡ true
  held_more xs y None held = list_any-append (λ x. x.id == id) xs (y ∷ []) ∙ ap (λ b. b || is_held (y ∷ []) id) held
  held_more xs y (Some denial) held = held

  held_after : (s : System) (r : List Slot) (xs ys : List Numbered) → is_held xs id ≡ true → is_held (after_events s r xs ys) id ≡ true
  held_after s r xs [] held = held
  held_after s r xs (y ∷ ys) held = held_after s r (with_event xs y (denial_of s r xs y.event)) ys (held_more xs y (denial_of s r xs y.event) held)

  held_last : (xs : List Numbered) (y : Numbered) → (y.id == id) ≡ true → is_held (xs ++ y ∷ []) id ≡ true
  held_last xs y own =
      list_any-append (λ x. x.id == id) xs (y ∷ []) ∙ ap (λ b. is_held xs id || (b || false)) own ∙ last (is_held xs id)
    where
      last : (b : Bool) → (b || (true || false)) ≡ true
      last true = refl
      last false = refl

  -- the events in force after some, without this one, which is not among them
  after_by : (s : System) (r : List Slot) (xs ys : List Numbered) (y : Numbered) (own : Bool) (o : Option Denial) → (y.id == id) ≡ own → denial_of s r xs y.event ≡ o
      → ((zs : List Numbered) → is_held (after_events s r zs ys) id ≡ false → after_events s (bare r) zs (filter is_other ys) ≡ after_events s r zs ys)
      → is_held (after_events s r (with_event xs y o) ys) id ≡ false
      → after_events s (bare r) xs (cond (not own) (y ∷ filter is_other ys) (filter is_other ys)) ≡ after_events s r (with_event xs y o) ys
  after_by s r xs ys y true None own is more out =
      let there = held_after s r (xs ++ y ∷ []) ys (held_last xs y own) in
      let no : true ≡ false = sym there ∙ out in cc
  after_by s r xs ys y true (Some denial) own is more out = more xs out
  after_by s r xs ys y false o own is more out =
      ap (λ p. after_events s (bare r) (with_event xs y p) (filter is_other ys)) (denial_kept s r xs y.event ∙ is) ∙ more (with_event xs y o) out

  after_kept : (s : System) (r : List Slot) (xs ys : List Numbered) → is_held (after_events s r xs ys) id ≡ false
      → after_events s (bare r) xs (filter is_other ys) ≡ after_events s r xs ys
  after_kept s r xs [] out = refl
  after_kept s r xs (y ∷ ys) out =
      after_by s r xs ys y (y.id == id) (denial_of s r xs y.event) refl refl (λ zs. after_kept s r zs ys) out

  -- and those that are denied
  others_of : (y : Numbered) (t : ℕ) (o : Option Denial) (rest : List Denied) → (y.id == id) ≡ false
      → filter is_others (denied_for y t o ++ rest) ≡ denied_for y t o ++ filter is_others rest
  others_of y t None rest other = refl
  others_of y t (Some denial) rest other = ap (λ b. cond (not b) (record { slot = t; id = y.id; denial = denial } ∷ filter is_others rest) (filter is_others rest)) other

  own_of : (y : Numbered) (t : ℕ) (o : Option Denial) (rest : List Denied) → (y.id == id) ≡ true → filter is_others (denied_for y t o ++ rest) ≡ filter is_others rest
  own_of y t None rest own = refl
  own_of y t (Some denial) rest own = ap (λ b. cond (not b) (record { slot = t; id = y.id; denial = denial } ∷ filter is_others rest) (filter is_others rest)) own

  among_by : (s : System) (r : List Slot) (xs ys : List Numbered) (y : Numbered) (own : Bool) (o : Option Denial) → (y.id == id) ≡ own → denial_of s r xs y.event ≡ o
      → ((zs : List Numbered) → is_held (after_events s r zs ys) id ≡ false → denials_among s (bare r) zs (filter is_other ys) ≡ filter is_others (denials_among s r zs ys))
      → is_held (after_events s r (with_event xs y o) ys) id ≡ false
      → denials_among s (bare r) xs (cond (not own) (y ∷ filter is_other ys) (filter is_other ys))
      ≡ filter is_others (denied_for y (length r) o ++ denials_among s r (with_event xs y o) ys)
  among_by s r xs ys y true None own is more out =
      let there = held_after s r (xs ++ y ∷ []) ys (held_last xs y own) in
      let no : true ≡ false = sym there ∙ out in cc
  among_by s r xs ys y true (Some denial) own is more out =
      more xs out ∙ sym (own_of y (length r) (Some denial) (denials_among s r xs ys) own)
  among_by s r xs ys y false o own is more out =
      (λ k. denied_for y (length-map r (slot_without id) k) ((denial_kept s r xs y.event ∙ is) k)
      ++ denials_among s (bare r) (with_event xs y ((denial_kept s r xs y.event ∙ is) k)) (filter is_other ys))
      ∙ ap (λ ds. denied_for y (length r) o ++ ds) (more (with_event xs y o) out)
      ∙ sym (others_of y (length r) o (denials_among s r (with_event xs y o) ys) own)

  denials_kept : (s : System) (r : List Slot) (xs ys : List Numbered) → is_held (after_events s r xs ys) id ≡ false
      → denials_among s (bare r) xs (filter is_other ys) ≡ filter is_others (denials_among s r xs ys)
  denials_kept s r xs [] out = refl
  denials_kept s r xs (y ∷ ys) out =
      among_by s r xs ys y (y.id == id) (denial_of s r xs y.event) refl refl (λ zs. denials_kept s r zs ys) out

  picks_kept : (s : System) (r : List Slot) (xs : List Numbered) → picks_of s (bare r) xs ≡ picks_of s r xs
  picks_kept s r xs = ap (first_keys (count_of s.processors xs)) (ready_kept s.base r xs)

  -- a course without the denials
  abbrev pub course_without : RunCourse → RunCourse
  course_without c = record { slots = bare c.slots; standing = c.standing }

  more_kept : (s : System) (c : RunCourse) (events after : List Numbered) → is_held (after_events s c.slots c.standing events) id ≡ false
      → with_slot s (course_without c) (filter is_other events) after ≡ course_without (with_slot s c events after)
  more_kept s c events after out =
      let slot : Slot = record { picks = map pick_of_key (picks_of s c.slots after); denials = denials_among s c.slots c.standing events } in
      let picks = ap (map pick_of_key) (picks_kept s c.slots after) in
      let denials = denials_kept s c.slots c.standing events out in
      (λ k. record { slots = bare c.slots ++ record { picks = picks k; denials = denials k } ∷ []; standing = after })
      ∙ (λ k. record { slots = sym (map-append (slot_without id) c.slots (slot ∷ [])) k; standing = after })

  -- the events of a slot
  slot_kept : (s : Plan) (t : ℕ) → events_of (plan_after s (Strike id)) t ≡ filter is_other (events_of s t)
  unfolding events_of
  slot_kept s t =
      ap in_run_order (filters_swap (is_of_slot t) is_other s.events) ∙ sym (filter-sorted_by is_other run_cmp_total (filter (is_of_slot t) s.events))

  -- Use: the whole run, where the event is not in force after it.
  pub course_kept : (s : Plan) (n : ℕ) → is_held (course_of s n).standing id ≡ false → course_of (plan_after s (Strike id)) n ≡ course_without (course_of s n)
  unfolding course_of
  course_kept s zero out = refl
  course_kept s (suc n) out =
      let c = course_of s n in
      let events = events_of s n in
      let before = out_before s c.slots c.standing events out in
      ap₂ (λ d xs. next_course (plan_after s (Strike id)) d xs) (course_kept s n before) (slot_kept s n)
      ∙ ap (with_slot s.settings (course_without c) (filter is_other events)) (after_kept s.settings c.slots c.standing events out)
      ∙ more_kept s.settings c events (after_events s.settings c.slots c.standing events) out
    where
      out_before : (s : Plan) (r : List Slot) (xs ys : List Numbered) → is_held (after_events s.settings r xs ys) id ≡ false → is_held xs id ≡ false
      out_before s r xs ys out = by (is_held xs id) refl
        where
          by : (b : Bool) → is_held xs id ≡ b → is_held xs id ≡ false
          by true held = let no : true ≡ false = sym (held_after s.settings r xs ys held) ∙ out in cc
          by false held = held

  -- what is denied is not in force
  other_number : (denials : List Denied) (x : Numbered) (b : Bool) → (x.id == id) ≡ b → is_denied denials x ≡ false
      → list_any (λ d. d.id == id) denials ≡ true → (x.id == id) ≡ false
  other_number denials x false e free denied = e
  other_number denials x true e free denied =
      let same : x.id ≡ id = eqb-true x.id id e in
      let no : false ≡ true = sym free ∙ (ap (λ n. list_any (λ d. d.id == n) denials) same ∙ denied) in cc

  out_by : (denials : List Denied) (x : Numbered) (xs : List Numbered) (b : Bool) → is_denied denials x ≡ b → list_any (λ d. d.id == id) denials ≡ true
      → is_held (filter (λ y. not (is_denied denials y)) xs) id ≡ false → is_held (filter (λ y. not (is_denied denials y)) (x ∷ xs)) id ≡ false
  out_by denials x xs true is denied rest = rw is rest
  out_by denials x xs false is denied rest = rw is (ap₂ (λ a b. a || b) (other_number denials x (x.id == id) refl is denied) rest)

  pub denied_out : (denials : List Denied) (xs : List Numbered) → list_any (λ d. d.id == id) denials ≡ true → is_held (in_force denials xs) id ≡ false
  unfolding in_force
  denied_out denials [] denied = refl
  denied_out denials (x ∷ xs) denied = out_by denials x xs (is_denied denials x) refl denied (denied_out denials xs denied)

-- Use: the law.
pub denied_events_have_no_effect : DeniedEventsHaveNoEffect
denied_events_have_no_effect s n id scenario denied =
    let is = course_is_run s n scenario in
    ap (λ (c : RunCourse). c.slots)
    (course_kept id s n (ap (λ xs. is_held xs id) is.stands ∙ denied_out id (denials_of (run_of s n)) (past s n) denied))
