-- A run of renumbered events: the same but for the numbers.
use Rattle.std.proofs.Common.{◌≡◌, ℕ, zero, suc, ◌+◌, ◌<◌, not, ◌&&◌, ◌==◌, nat_le, cond, get_or, List, [], ◌∷◌, ◌++◌, length, take, map, filter, count_by, Option, None, Some, refl, sym, ap, ap₂, ◌∙◌, arith}
use Rattle.std.proofs.lemmas.List.{length-map, map-append, take-map}
use Rattle.std.proofs.lemmas.List.Folds.{fold-map}
use Rattle.std.proofs.lemmas.List.Elements.{filter_agree}
use Rattle.std.proofs.lemmas.Bool.Decides.{nat_tests}
use Rattle.std.specs.Ordering.{ordering_then, nat_cmp}
use Rattle.std.specs.Option.{option_map, unwrap_or}
use Rattle.std.specs.Prelude.{if◌then◌else◌, find, filter_map, sum_by}
use Rattle.pf_lemmas.proofs.Filters.{filter_map_map}
use Rattle.pf_weight.specs.Share.{share_of}
use Rattle.pf_order.specs.Priority.{Priority}
use Rattle.pf_order.specs.First.{first_keys}
use Rattle.pf_scenario.specs.System.{System}
use Rattle.pf_scenario.specs.Event.{kind_of, task_of, is_of_slot, is_leave_of, run_cmp, in_run_order}
use Rattle.pf_scenario.specs.Scenario.{Plan, events_of}
use Rattle.pf_scenario.specs.declared.event.Event.{Event}
use Rattle.pf_scenario.specs.declared.event.Event.TheVariants.{Join, Leave, Delay, Limit}
use Rattle.pf_scenario.specs.declared.event.Numbered.{Numbered}
use Rattle.pf_scenario.proofs.Lists.{Pairs}
use Rattle.pf_scenario.proofs.Sorting.{Pairs-filter}
use Rattle.pf_admit.specs.Admission.{join_denial, leave_denial, delay_denial}
use Rattle.pf_admit.specs.declared.member.Member.{Member}
use Rattle.pf_admit.specs.declared.denial.Denial.{Denial}
use Rattle.pf_run.specs.declared.denied.Denied.{Denied}
use Rattle.pf_run.specs.Record.{Slot, runs, done, next_sub, denials_of}
use Rattle.pf_run.specs.Inside.{Joined, join_of, has_left, inside, load_of, count_of, count_after, hold_back_of, shift_of, member_of, member_at, ready, ready_key}
use Rattle.pf_run.specs.Denials.{denial_of, denied_for}
use Rattle.pf_run.specs.Run.{pick_of_key}
use Rattle.pf_run.specs.Computed.{RunCourse, with_event, after_events, denials_among, picks_of, with_slot, next_course, course_of, run_of}
use Rattle.pf_run.proofs.Counting.{filter-map, sum_by-map}
use Rattle.pf_script_laws.specs.Reopening.Renumbered.{renumber, denied_under}
use Rattle.pf_script_laws.proofs.ReopeningLemmas.Maps.{list_any-map, KeepsOrder, sorted_by-map}

-- a slot whose denials are of renumbered events
abbrev pub slot_under : (ℕ → ℕ) → Slot → Slot
slot_under f slot = record { picks = slot.picks; denials = map (denied_under f) slot.denials }

-- the scenario with its events renumbered
abbrev pub plan_under : (ℕ → ℕ) → Plan → ℕ → Plan
plan_under f s next = record { settings = s.settings; events = map (renumber f) s.events; next = next }

abbrev pub course_under : (ℕ → ℕ) → RunCourse → RunCourse
course_under f c = record { slots = map (slot_under f) c.slots; standing = map (renumber f) c.standing }

-- the numbers of these two events rise, the new ones too
abbrev pub RiseUnder : (ℕ → ℕ) → Numbered → Numbered → Type 0
RiseUnder f x y = (x.id < y.id) × (f x.id < f y.id)

-- numbers that rise either way leave the order of a slot's events alone
order_kept : (f : ℕ → ℕ) (x y : Numbered) → RiseUnder f x y → KeepsOrder run_cmp run_cmp (renumber f) x y
unfolding run_cmp
order_kept f x y rise =
    let same : nat_cmp (f x.id) (f y.id) ≡ nat_cmp x.id y.id = grind (arith, nat_tests, rise.0, rise.1) in
    let kinds = nat_cmp (kind_of x.event) (kind_of y.event) in
    let tasks = nat_cmp (unwrap_or (task_of x.event) 0) (unwrap_or (task_of y.event) 0) in
    ap (λ o. ordering_then kinds (ordering_then tasks o)) same

Pairs-weaker : {X : Type 0} (R S : X → X → Type 0) → ((x y : X) → R x y → S x y) → (xs : List X) → Pairs R xs → Pairs S xs
Pairs-weaker R S weaker [] pairs = tt
Pairs-weaker R S weaker (x ∷ xs) pairs = (λ k d within. weaker x (get_or xs k d) (pairs.0 k d within), Pairs-weaker R S weaker xs pairs.1)

module _ (f : ℕ → ℕ) where
  -- the events of a slot
  slot_kept : (t : ℕ) (xs : List Numbered) → Pairs (RiseUnder f) xs
      → in_run_order (filter (is_of_slot t) (map (renumber f) xs)) ≡ map (renumber f) (in_run_order (filter (is_of_slot t) xs))
  slot_kept t xs rise =
      ap in_run_order (filter-map (is_of_slot t) (renumber f) xs)
      ∙ sorted_by-map run_cmp run_cmp (renumber f) (filter (is_of_slot t) xs)
      (Pairs-weaker (RiseUnder f) (KeepsOrder run_cmp run_cmp (renumber f)) (order_kept f) (filter (is_of_slot t) xs)
      (Pairs-filter (RiseUnder f) (is_of_slot t) xs rise))

  -- how often a task ran
  pub done_kept : (r : List Slot) (task t : ℕ) → done (map (slot_under f) r) task t ≡ done r task t
  unfolding done
  done_kept r task t = ap (count_by (runs task)) (take-map (slot_under f) t r) ∙ sum_by-map (λ slot. cond (runs task slot) 1 0) (slot_under f) (take t r)

  -- what is known of the tasks inside
  pub joined_kept : (base : ℕ) (xs : List Numbered) → filter_map (join_of base) (map (renumber f) xs) ≡ filter_map (join_of base) xs
  joined_kept base xs = filter_map_map (join_of base) (renumber f) xs

  left_kept : (xs : List Numbered) (task : ℕ) → has_left (map (renumber f) xs) task ≡ has_left xs task
  left_kept xs task = list_any-map (λ x. is_leave_of task x.event) (renumber f) xs

  pub inside_kept : (base : ℕ) (xs : List Numbered) → inside base (map (renumber f) xs) ≡ inside base xs
  unfolding inside
  inside_kept base xs =
      ap (filter (λ j. not (has_left (map (renumber f) xs) j.task))) (joined_kept base xs)
      ∙ filter_agree (λ j. not (has_left (map (renumber f) xs) j.task)) (λ j. not (has_left xs j.task))
      (λ j. ap not (left_kept xs j.task)) (filter_map (join_of base) xs)

  load_kept : (base : ℕ) (xs : List Numbered) → load_of base (map (renumber f) xs) ≡ load_of base xs
  unfolding load_of
  load_kept base xs = ap (sum_by (λ j. j.weight.units)) (inside_kept base xs)

  pub count_kept : (m : ℕ) (xs : List Numbered) → count_of m (map (renumber f) xs) ≡ count_of m xs
  unfolding count_of
  count_kept m xs = fold-map (λ count x. count_after count x.event) (renumber f) m xs

  hold_back_kept : (r : List Slot) (task i : ℕ) (event : Event) → hold_back_of (map (slot_under f) r) task i event ≡ hold_back_of r task i event
  hold_back_kept r task i (Join slot task' cost period early) = refl
  hold_back_kept r task i (Leave slot task') = refl
  hold_back_kept r task i (Delay slot task' by) =
      ap (λ n. if task' == task && nat_le (n + 1) i then by else 0) (done_kept r task slot)
  hold_back_kept r task i (Limit slot count) = refl

  pub shift_kept : (r : List Slot) (xs : List Numbered) (j : Joined) (i : ℕ)
      → shift_of (map (slot_under f) r) (map (renumber f) xs) j i ≡ shift_of r xs j i
  unfolding shift_of
  shift_kept r xs j i =
      ap (λ n. j.slot + n) (sum_by-map (λ x. hold_back_of (map (slot_under f) r) j.task i x.event) (renumber f) xs
      ∙ ap (λ (h : Numbered → ℕ). sum_by h xs) (λ k x. hold_back_kept r j.task i x.event k))

  next_kept : (r : List Slot) (task : ℕ) → next_sub (map (slot_under f) r) task ≡ next_sub r task
  next_kept r task = ap (λ t. done (map (slot_under f) r) task t + 1) (length-map r (slot_under f)) ∙ ap (λ n. n + 1) (done_kept r task (length r))

  pub all_done_kept : (r : List Slot) (task : ℕ) → done (map (slot_under f) r) task (length (map (slot_under f) r)) ≡ done r task (length r)
  all_done_kept r task = ap (done (map (slot_under f) r) task) (length-map r (slot_under f)) ∙ done_kept r task (length r)

  member_kept : (r : List Slot) (xs : List Numbered) (j : Joined) → member_of (map (slot_under f) r) (map (renumber f) xs) j ≡ member_of r xs j
  unfolding member_of
  member_kept r xs j =
      let q = map (slot_under f) r in
      let ys = map (renumber f) xs in
      let count = all_done_kept r j.task in
      let shift = ap (shift_of q ys j) (next_kept r j.task) ∙ shift_kept r xs j (next_sub r j.task) in
      let last = ap (shift_of q ys j) count ∙ shift_kept r xs j (done r j.task (length r)) in
      λ k. record { weight = j.weight; joined = j.slot; early = j.early; done = count k; shift = shift k; last = last k }

  member_at_kept : (base : ℕ) (r : List Slot) (xs : List Numbered) (task : ℕ)
      → member_at base (map (slot_under f) r) (map (renumber f) xs) task ≡ member_at base r xs task
  member_at_kept base r xs task =
      ap (λ js. option_map (member_of (map (slot_under f) r) (map (renumber f) xs)) (find (λ j. j.task == task) js)) (inside_kept base xs)
      ∙ ap (λ (h : Joined → Member). option_map h (find (λ j. j.task == task) (inside base xs))) (λ k j. member_kept r xs j k)

  ready_kept : (base : ℕ) (r : List Slot) (xs : List Numbered) → ready base (map (slot_under f) r) (map (renumber f) xs) ≡ ready base r xs
  unfolding ready
  ready_kept base r xs =
      ap (λ js. filter_map (λ j. ready_key (length (map (slot_under f) r)) j.task (member_of (map (slot_under f) r) (map (renumber f) xs) j)) js) (inside_kept base xs)
      ∙ ap (λ (h : Joined → Option Priority). filter_map h (inside base xs))
      (λ k j. ready_key (length-map r (slot_under f) k) j.task (member_kept r xs j k))

  -- why an event is denied
  denial_kept : (s : System) (r : List Slot) (xs : List Numbered) (event : Event)
      → denial_of s (map (slot_under f) r) (map (renumber f) xs) event ≡ denial_of s r xs event
  denial_kept s r xs (Join slot task cost period early) =
      ap (λ n. join_denial n (share_of s.base cost period).units s.cap) (load_kept s.base xs)
  denial_kept s r xs (Leave slot task) = ap (leave_denial slot) (member_at_kept s.base r xs task)
  denial_kept s r xs (Delay slot task by) = ap (delay_denial slot) (member_at_kept s.base r xs task)
  denial_kept s r xs (Limit slot count) = refl

  denied_kept : (x : Numbered) (t : ℕ) (o : Option Denial) → denied_for (renumber f x) t o ≡ map (denied_under f) (denied_for x t o)
  denied_kept x t None = refl
  denied_kept x t (Some denial) = refl

  with_event_kept : (xs : List Numbered) (x : Numbered) (o : Option Denial) → with_event (map (renumber f) xs) (renumber f x) o ≡ map (renumber f) (with_event xs x o)
  with_event_kept xs x None = sym (map-append (renumber f) xs (x ∷ []))
  with_event_kept xs x (Some denial) = refl

  after_one : (s : System) (r : List Slot) (xs : List Numbered) (y : Numbered)
      → with_event (map (renumber f) xs) (renumber f y) (denial_of s (map (slot_under f) r) (map (renumber f) xs) y.event)
      ≡ map (renumber f) (with_event xs y (denial_of s r xs y.event))
  after_one s r xs y =
      ap (with_event (map (renumber f) xs) (renumber f y)) (denial_kept s r xs y.event) ∙ with_event_kept xs y (denial_of s r xs y.event)

  after_kept : (s : System) (r : List Slot) (xs ys : List Numbered)
      → after_events s (map (slot_under f) r) (map (renumber f) xs) (map (renumber f) ys) ≡ map (renumber f) (after_events s r xs ys)
  after_kept s r xs [] = refl
  after_kept s r xs (y ∷ ys) =
      ap (λ zs. after_events s (map (slot_under f) r) zs (map (renumber f) ys)) (after_one s r xs y)
      ∙ after_kept s r (with_event xs y (denial_of s r xs y.event)) ys

  denials_kept : (s : System) (r : List Slot) (xs ys : List Numbered)
      → denials_among s (map (slot_under f) r) (map (renumber f) xs) (map (renumber f) ys) ≡ map (denied_under f) (denials_among s r xs ys)
  denials_kept s r xs [] = refl
  denials_kept s r xs (y ∷ ys) =
      let q = map (slot_under f) r in
      let reason = denial_of s r xs y.event in
      let more = with_event xs y reason in
      let first = (λ k. denied_for (renumber f y) (length-map r (slot_under f) k) (denial_kept s r xs y.event k)) ∙ denied_kept y (length r) reason in
      let rest = ap (λ zs. denials_among s q zs (map (renumber f) ys)) (after_one s r xs y) ∙ denials_kept s r more ys in
      ap₂ (λ (ds es : List Denied). ds ++ es) first rest
      ∙ sym (map-append (denied_under f) (denied_for y (length r) reason) (denials_among s r more ys))

  picks_kept : (s : System) (r : List Slot) (xs : List Numbered) → picks_of s (map (slot_under f) r) (map (renumber f) xs) ≡ picks_of s r xs
  picks_kept s r xs = ap₂ first_keys (count_kept s.processors xs) (ready_kept s.base r xs)

  -- one slot more
  more_kept : (s : System) (c : RunCourse) (events after : List Numbered)
      → with_slot s (course_under f c) (map (renumber f) events) (map (renumber f) after) ≡ course_under f (with_slot s c events after)
  more_kept s c events after =
      let slot : Slot = record { picks = map pick_of_key (picks_of s c.slots after); denials = denials_among s c.slots c.standing events } in
      let picks = ap (map pick_of_key) (picks_kept s c.slots after) in
      let denials = denials_kept s c.slots c.standing events in
      (λ k. record { slots = map (slot_under f) c.slots ++ record { picks = picks k; denials = denials k } ∷ []; standing = map (renumber f) after })
      ∙ (λ k. record { slots = sym (map-append (slot_under f) c.slots (slot ∷ [])) k; standing = map (renumber f) after })

  -- the whole run
  pub course_kept : (s : Plan) (next n : ℕ) → Pairs (RiseUnder f) s.events
      → course_of (plan_under f s next) n ≡ course_under f (course_of s n)
  unfolding course_of events_of
  course_kept s next zero rise = refl
  course_kept s next (suc n) rise =
      let c = course_of s n in
      let events = events_of s n in
      ap₂ (λ d xs. next_course (plan_under f s next) d xs) (course_kept s next n rise) (slot_kept n s.events rise)
      ∙ ap (with_slot s.settings (course_under f c) (map (renumber f) events)) (after_kept s.settings c.slots c.standing events)
      ∙ more_kept s.settings c events (after_events s.settings c.slots c.standing events)

  pub run_kept : (s : Plan) (next n : ℕ) → Pairs (RiseUnder f) s.events → run_of (plan_under f s next) n ≡ map (slot_under f) (run_of s n)
  run_kept s next n rise = ap (λ (c : RunCourse). c.slots) (course_kept s next n rise)

  pub denials_of_kept : (r : List Slot) → denials_of (map (slot_under f) r) ≡ map (denied_under f) (denials_of r)
  denials_of_kept [] = refl
  denials_of_kept (slot ∷ r) =
      ap (λ ds. map (denied_under f) slot.denials ++ ds) (denials_of_kept r) ∙ sym (map-append (denied_under f) slot.denials (denials_of r))
