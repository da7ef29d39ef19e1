-- One span decides: no window is missed in it where the load is within the processors; then each task has its share at its
-- end; and then no more was asked for than the processors have.
use Rattle.std.proofs.Common.{◌≡◌, ℕ, zero, suc, ◌+◌, ◌-◌, ◌*◌, ◌%◌, ◌<◌, ◌≤◌, ◌==◌, Bool, true, false, List, [], ◌∷◌, ◌++◌, length, take, map, filter, filter_map, get_or, sum_by, count_by, All, Contains, arith, refl, ap, sym, ◌∙◌, subst, ⊎_elim}
use Rattle.std.specs.List.{flat_map, range_with_len}
use Rattle.std.proofs.Math.Nat.{mul-le-mul_right, lt_of_mul-lt-mul_right}
use Rattle.std.proofs.lemmas.Bool.{cases_Bool, cases_lt, eqb-true, eq-eqb}
use Rattle.std.proofs.lemmas.List.{length-take-le, take-take}
use Rattle.std.proofs.lemmas.List.Elements.{All-head, All-tail, All-weaker, All-contains_itself, All-contains}
use Rattle.std.proofs.lemmas.List.Sorted.{length_permutation}
use Rattle.std.proofs.lemmas.List.Sums.{sum_by-cons}
use Rattle.pf_lemmas.proofs.Lists.{none_long}
use Rattle.pf_lemmas.proofs.Ranges.{in_range}
use Rattle.pf_lemmas.proofs.Sums.{sum_of_none}
use Rattle.pf_window.specs.Window.{release_of, deadline_of}
use Rattle.pf_order.specs.declared.pick.Pick.{Pick}
use Rattle.pf_scenario.specs.Scenario.{Plan}
use Rattle.pf_scenario.specs.Edit.{IsScenario}
use Rattle.pf_scenario.proofs.Sorting.{sorted_keeps}
use Rattle.pf_run.specs.Record.{Slot, runs, done}
use Rattle.pf_run.specs.Inside.{Joined, join_of, load_of}
use Rattle.pf_run.specs.Run.{events_in_force, IsRun}
use Rattle.pf_run.proofs.Containing.{contains_none, contains_cases, in_filter}
use Rattle.pf_run.proofs.Counting.{sum_by-map}
use Rattle.pf_run.proofs.Runs.{runs_begin}
use Rattle.pf_tally.specs.Misses.{due_of, is_missed, miss_of, misses_of_task, miss_cmp, in_miss_order, misses_of}
use Rattle.pf_tally.proofs.Windows.{releases_rise}
use Rattle.pf_laws.proofs.IdealLemmas.Sums.{one, sum_by-plus}
use Rattle.pf_tally.specs.Load.{load_in}
use Rattle.pf_laws.specs.Promise.Laws.{IsWithinRoom}
use Rattle.pf_tally.proofs.Contents.{list_any-contains, contains-list_any, list_any-map}
use Rattle.pf_laws.proofs.PromiseLemmas.Sets.{is_among, sum_by-among, sum_by-filter, filter_differ, among_filter}
use Rattle.pf_tally.proofs.Fronts.{standing-take}
use Rattle.pf_laws.proofs.PromiseLemmas.Shifts.{no_slot, done-runs, done-idle}
use Rattle.pf_laws.proofs.PromiseLemmas.Joining.{IsTask, is_task, tasks_differ}
use Rattle.pf_laws.proofs.PromiseLemmas.Choosing.{counted}
use Rattle.pf_laws.proofs.PromiseLemmas.Ran.{is_miss}
use Rattle.pf_laws.proofs.PromiseLemmas.Promises.{no_window_is_missed}
use Rattle.pf_laws.specs.Repetition.Synchronous.{IsSynchronous, tasks_in, IsSpan, owed_in}
use Rattle.pf_laws.specs.Repetition.Laws.{LoadFits, SpanDecides, NoneBeyond}
use Rattle.pf_laws.proofs.RepetitionLemmas.Shifted.{deadline_at, release_at, more_within}
use Rattle.pf_laws.proofs.RepetitionLemmas.Start.{BeginsAtStart, begins_joined, all_inside, never_shifted, count_is, leaves_late, same_events, all_join}
use Rattle.pf_laws.proofs.RepetitionLemmas.Lags.{HaveShares, shares_to_even, even_to_shares}
use Rattle.pf_laws.proofs.RepetitionLemmas.Choices.{few_picks, runs_released}

-- empty lists

none_of_two : {X : Type 0} (xs ys : List X) → xs ++ ys ≡ [] → (xs ≡ []) × (ys ≡ [])
none_of_two [] ys none = (refl, none)
none_of_two (x ∷ xs) ys none = cc

none_mapped : {X Y : Type 0} (f : X → Y) (xs : List X) → map f xs ≡ [] → xs ≡ []
none_mapped f [] none = refl
none_mapped f (x ∷ xs) none = cc

none_given : {X Y : Type 0} (f : X → List Y) (xs : List X) (x : X) → flat_map f xs ≡ [] → Contains xs x → f x ≡ []
none_given f [] x none at = absurd (contains_none x at)
none_given f (y ∷ ys) x none at =
    let both = none_of_two (f y) (flat_map f ys) none in
    ⊎_elim (λ (same : y ≡ x). sym (ap f same) ∙ both.0) (λ later. none_given f ys x both.1 later) (contains_cases y ys x at)

-- a run without misses has no missed subtask
none_missed : (s : Plan) (r : List Slot) (j : Joined) (i : ℕ) → misses_of s r ≡ [] → Contains (tasks_in s r) j → i < length r →
    is_missed r (events_in_force s r (length r)) j (suc i) ≡ true → ⊥
unfolding misses_of
none_missed s r j i none at lt missed =
    let now = events_in_force s r (length r) in
    let all = flat_map (misses_of_task r now) (tasks_in s r) in
    let empty : all ≡ [] = none_long all (omega (arith, length_permutation all (in_miss_order all) (sorted_keeps miss_cmp all), ap length none)) in
    let of_task : filter (is_missed r now j) (range_with_len 1 (length r)) ≡ [] =
    none_mapped (miss_of r now j) (filter (is_missed r now j) (range_with_len 1 (length r)))
    (none_given (misses_of_task r now) (tasks_in s r) j empty at) in
    contains_none (suc i)
    (subst (λ (is : List ℕ). Contains is (suc i)) of_task
    (in_filter (is_missed r now j) (range_with_len 1 (length r)) (suc i) (in_range (length r) i lt) missed))

-- sums

ones : {X : Type 0} (f : X → ℕ) (xs : List X) → sum_by (λ (n : ℕ). 1) (map f xs) ≡ length xs
ones f [] = refl
ones f (x ∷ xs) = omega (arith, sum_by-cons (λ (n : ℕ). 1) (f x) (map f xs), ones f xs)

sums_within : {X : Type 0} (f g : X → ℕ) (a b : ℕ) (xs : List X) → All (λ x. f x * a ≤ g x * b) xs → sum_by f xs * a ≤ sum_by g xs * b
sums_within f g a b [] all = omega arith
sums_within f g a b (x ∷ xs) all =
    let sums : (f x + sum_by f xs) * a ≤ (g x + sum_by g xs) * b =
    omega (arith, All-head (λ y. f y * a ≤ g y * b) x xs all, sums_within f g a b xs (All-tail (λ y. f y * a ≤ g y * b) x xs all)) in
    omega (arith, sums, ap (λ n. n * a) (sum_by-cons f x xs), ap (λ n. n * b) (sum_by-cons g x xs))

module _ (s : Plan) (scenario : IsScenario s) (start : IsSynchronous s) (r : List Slot) (run : IsRun s (length r) r) where
  pub task_is : (j : Joined) → Contains (tasks_in s r) j → IsTask s.settings.base j
  task_is j at = is_task s scenario r j at

  begins_is : (j : Joined) → Contains (tasks_in s r) j → BeginsAtStart j
  begins_is j at = begins_joined s.settings.base (events_in_force s r (length r)) j (all_join s start r (length r)) at

  -- where the owed quanta are whole, they are exact
  pub owed-exact : (span : ℕ) → IsSpan s r span → (j : Joined) → Contains (tasks_in s r) j →
      owed_in span j * j.weight.period ≡ j.weight.cost * span
  owed-exact span is j at =
      let share = (task_is j at).share in
      let real : 1 ≤ j.weight.period = omega (arith, share.some, share.within) in
      omega (
        arith,
        real,
        All-contains (λ i. i.weight.cost * span % i.weight.period ≡ 0) (tasks_in s r) j is.whole at,
      )

  -- a quantum lies after the release of its subtask
  done_released : (j : Joined) → Contains (tasks_in s r) j → (t : ℕ) → t ≤ length r → 1 ≤ done r j.task t →
      release_of j.weight (done r j.task t) < t
  unfolding done
  done_released j at zero le some = absurd (omega (arith, some))
  done_released j at (suc t) le some = ⊎_elim
      (λ (running : runs j.task (get_or r t no_slot) ≡ true).
      omega (
        arith,
        runs_released s scenario start r run t le j no_slot at running,
        ap (release_of j.weight) (done-runs r j.task t no_slot le running),
      ))
      (λ (idle : runs j.task (get_or r t no_slot) ≡ false).
      let same = done-idle r j.task t no_slot le idle in
      omega (arith, done_released j at t (omega (arith, le)) (omega (arith, some, same)), ap (release_of j.weight) same))
      (cases_Bool (runs j.task (get_or r t no_slot)))

  -- at the end of a span no task has more than it is owed
  at_most : (span : ℕ) → IsSpan s r span → span ≤ length r → (j : Joined) → Contains (tasks_in s r) j →
      done r j.task span ≤ owed_in span j
  at_most span is le j at = ⊎_elim
      (λ (more : owed_in span j < done r j.task span).
      let share = (task_is j at).share in
      absurd
      (omega (
        arith,
        done_released j at span le (omega (arith, more)),
        releases_rise j.weight (suc (owed_in span j)) (done r j.task span) share (omega (arith, more)),
        release_at j.weight share span (owed_in span j) (owed-exact span is j at),
      )))
      (λ ge. ge) (cases_lt (owed_in span j) (done r j.task span))

  -- and none has less, in a run of one span that missed no window
  at_least : IsSpan s r (length r) → misses_of s r ≡ [] → (j : Joined) → Contains (tasks_in s r) j →
      owed_in (length r) j ≤ done r j.task (length r)
  at_least is none j at = ⊎_elim
      (λ (less : done r j.task (length r) < owed_in (length r) j).
      let share = (task_is j at).share in
      let now = events_in_force s r (length r) in
      let i : ℕ = owed_in (length r) j - 1 in
      let sub : suc i ≡ owed_in (length r) j = omega (arith, less) in
      let due : due_of r now j (suc i) ≡ length r =
      omega (
        arith,
        ap (deadline_of j.weight) sub,
        deadline_at j.weight share (length r) (owed_in (length r) j) (owed-exact (length r) is j at),
        never_shifted r now j (suc i) (all_join s start r (length r)) (begins_is j at).slot,
      ) in
      absurd
      (none_missed s r j i none at
      (omega (arith, sub, more_within j.weight share (length r) (owed_in (length r) j) (owed-exact (length r) is j at)))
      (is_miss s scenario r run j i (record {
        within = omega (arith, due);
        after = leaves_late now j (due_of r now j (suc i)) (all_join s start r (length r));
        late = omega (arith, less, sub, ap (λ t. done r j.task t) due);
      }))))
      (λ ge. ge) (cases_lt (done r j.task (length r)) (owed_in (length r) j))

  -- the quanta of all tasks below a slot are no more than the processors have

  abbrev numbers : List ℕ
  numbers = map (λ (j : Joined). j.task) (tasks_in s r)

  quanta_of : ℕ → ℕ
  quanta_of t = sum_by (λ task. done r task t) numbers

  running_in : ℕ → ℕ → Bool
  running_in t task = runs task (get_or r t no_slot)

  picked : (t task : ℕ) → is_among (filter (running_in t) numbers) task ≡ true →
      is_among (map (λ (p : Pick). p.task) (get_or r t no_slot).picks) task ≡ true
  unfolding running_in
  picked t task h =
      let picks = (get_or r t no_slot).picks in
      let it = list_any-contains (λ (p : Pick). p.task == task) picks (among_filter (running_in t) task numbers h).1 in
      list_any-map (λ u. task == u) (λ (p : Pick). p.task) picks
      ∙ contains-list_any (λ (p : Pick). task == p.task) picks it.0 it.1 (eq-eqb task it.0.task (sym (eqb-true it.0.task task it.2)))

  run_few : (t : ℕ) → t < length r → count_by (λ task. runs task (get_or r t no_slot)) numbers ≤ s.settings.processors
  unfolding running_in
  run_few t lt =
      omega (
        arith,
        sum_by-filter (running_in t) (λ _. 1) numbers,
        sum_by-among (λ _. 1) (filter (running_in t) numbers) (map (λ (p : Pick). p.task) (get_or r t no_slot).picks)
            (filter_differ (running_in t) numbers (tasks_differ s scenario r)) (picked t),
        ones (λ (p : Pick). p.task) (get_or r t no_slot).picks,
        few_picks s scenario start r run t lt no_slot,
      )

  one_more : (t : ℕ) (xs : List ℕ) →
      sum_by (λ task. done r task (suc t)) xs ≡ sum_by (λ task. done r task t + one (runs task (get_or r t no_slot))) xs
  one_more t [] = refl
  one_more t (x ∷ xs) =
      omega (
        arith,
        sum_by-cons (λ task. done r task (suc t)) x xs,
        sum_by-cons (λ task. done r task t + one (runs task (get_or r t no_slot))) x xs,
        counted s scenario r run x t,
        one_more t xs,
      )

  none_yet : (xs : List ℕ) → sum_by (λ task. done r task 0) xs ≡ 0
  unfolding done
  none_yet xs = sum_of_none xs

  quanta_within : (t : ℕ) → t ≤ length r → quanta_of t ≤ t * s.settings.processors
  unfolding quanta_of
  quanta_within zero le = omega (arith, none_yet numbers)
  quanta_within (suc t) le =
      omega (
        arith,
        one_more t numbers,
        sum_by-plus (λ task. done r task t) (λ task. one (runs task (get_or r t no_slot))) numbers,
        quanta_within t (omega (arith, le)),
        run_few t le,
      )

  -- the load is that of the tasks
  abbrev units_of : ℕ
  units_of = sum_by (λ (j : Joined). j.weight.units) (tasks_in s r)

  load_is : (t : ℕ) → 1 ≤ length r → load_in s r t ≡ units_of
  unfolding load_of
  load_is t some =
      ap (sum_by (λ (j : Joined). j.weight.units))
      (all_inside s.settings.base (events_in_force s r (suc t)) (all_join s start r (suc t))
      ∙ ap (filter_map (join_of s.settings.base)) (same_events s start r (suc t) (length r) (omega arith) some))

  -- where each task has its share, no more was asked for than the processors have
  pub even_fits : (span : ℕ) → 1 ≤ span → span ≤ length r → HaveShares s r span → LoadFits s r
  unfolding quanta_of
  even_fits span some le even =
      let sums : units_of * span ≤ sum_by (λ (j : Joined). done r j.task span) (tasks_in s r) * s.settings.base =
      sums_within (λ (j : Joined). j.weight.units) (λ (j : Joined). done r j.task span) span s.settings.base (tasks_in s r)
      (All-weaker (Contains (tasks_in s r)) (λ j. j.weight.units * span ≤ done r j.task span * s.settings.base) each
      (tasks_in s r) (All-contains_itself (tasks_in s r))) in
      let quanta : sum_by (λ (j : Joined). done r j.task span) (tasks_in s r) ≤ span * s.settings.processors =
      omega (arith, quanta_within span le, sum_by-map (λ task. done r task span) (λ (j : Joined). j.task) (tasks_in s r)) in
      let all : units_of * span ≤ span * s.settings.processors * s.settings.base =
      omega (arith, sums, mul-le-mul_right s.settings.base quanta) in
      let less : units_of < s.settings.base * s.settings.processors + 1 = lt_of_mul-lt-mul_right span (omega (arith, all, some)) in
      omega (arith, less, load_is 0 (omega (arith, some, le)))
    where
      each : (j : Joined) → Contains (tasks_in s r) j → j.weight.units * span ≤ done r j.task span * s.settings.base
      each j at =
          let task = task_is j at in
          let own : j.weight.period * done r j.task span ≡ j.weight.cost * span =
          All-contains (λ i. i.weight.period * done r i.task span ≡ i.weight.cost * span) (tasks_in s r) j even at in
          let real : 1 ≤ j.weight.period = omega (arith, task.share.some, task.share.within) in
          let up : j.weight.period * done r j.task span * s.settings.base ≡ j.weight.cost * span * s.settings.base =
          ap (λ n. n * s.settings.base) own in
          let asked : j.weight.units * j.weight.period * span ≡ j.weight.cost * s.settings.base * span = ap (λ n. n * span) task.exact in
          let less : j.weight.units * span < done r j.task span * s.settings.base + 1 =
          lt_of_mul-lt-mul_right j.weight.period (omega (arith, up, asked, real)) in
          omega (arith, less)

  -- where the load is within the processors, no window is missed
  pub fits_none : 1 ≤ length r → LoadFits s r → misses_of s r ≡ []
  fits_none some fits = no_window_is_missed s (length r) r scenario run within where
    within : IsWithinRoom s r
    within t lt =
        omega (
          arith,
          fits,
          load_is 0 some,
          load_is t some,
          ap (λ count. s.settings.base * count)
              (count_is s.settings.processors (events_in_force s r (suc t)) (all_join s start r (suc t))),
        )

  -- in a run of one span that missed no window each task has its share
  pub none_even : IsSpan s r (length r) → misses_of s r ≡ [] → HaveShares s r (length r)
  none_even is none =
      All-weaker (Contains (tasks_in s r)) (λ j. j.weight.period * done r j.task (length r) ≡ j.weight.cost * length r)
      (λ j at.
      let same : done r j.task (length r) ≡ owed_in (length r) j =
      omega (arith, at_most (length r) is (omega arith) j at, at_least is none j at) in
      omega (arith, ap (λ n. j.weight.period * n) same, owed-exact (length r) is j at))
      (tasks_in s r) (All-contains_itself (tasks_in s r))

-- the first slots of a run are a run of the same tasks
module _ (s : Plan) (scenario : IsScenario s) (start : IsSynchronous s) (r : List Slot) (run : IsRun s (length r) r) (span : ℕ)
    (some : 1 ≤ span) (le : span ≤ length r) where
  abbrev front : List Slot
  front = take span r

  front_long : length front ≡ span
  front_long = length-take-le span r le

  front_run : IsRun s (length front) front
  front_run = subst (λ n. IsRun s n front) (sym front_long) (runs_begin s (length r) span r run le)

  same_tasks : tasks_in s front ≡ tasks_in s r
  same_tasks =
      ap (filter_map (join_of s.settings.base))
      (ap (events_in_force s front) front_long
      ∙ sym (standing-take s (length r) r scenario run span le)
      ∙ same_events s start r span (length r) some (omega (arith, some, le)))

  same_done : (task t : ℕ) → t ≤ span → done front task t ≡ done r task t
  unfolding done
  same_done task t within = ap (count_by (runs task)) (take-take t span r within)

  even_front : HaveShares s front span → HaveShares s r span
  even_front even =
      subst (λ js. All (λ j. j.weight.period * done r j.task span ≡ j.weight.cost * span) js) same_tasks
      (All-weaker (λ j. j.weight.period * done front j.task span ≡ j.weight.cost * span)
      (λ j. j.weight.period * done r j.task span ≡ j.weight.cost * span)
      (λ j own. ap (λ n. j.weight.period * n) (sym (same_done j.task span (omega arith))) ∙ own) (tasks_in s front) even)

  span_front : IsSpan s r span → IsSpan s front (length front)
  span_front is =
      subst (IsSpan s front) (sym front_long) (record {
        some = is.some;
        whole = subst (λ js. All (λ j. j.weight.cost * span % j.weight.period ≡ 0) js) (sym same_tasks) is.whole;
      })

  fits_front : LoadFits s r → LoadFits s front
  fits_front fits =
      omega (
        arith,
        fits,
        load_is s scenario start r run 0 (omega (arith, some, le)),
        load_is s scenario start front front_run 0 (omega (arith, some, front_long)),
        ap (sum_by (λ (j : Joined). j.weight.units)) same_tasks,
      )

  pub none_to_even : IsSpan s r span → misses_of s front ≡ [] → HaveShares s r span
  none_to_even is none =
      even_front (subst (HaveShares s front) front_long (none_even s scenario start front front_run (span_front is) none))

  pub even_to_fits : HaveShares s r span → LoadFits s r
  even_to_fits even = even_fits s scenario start r run span some le even

  pub fits_to_none : LoadFits s r → misses_of s front ≡ []
  fits_to_none fits = fits_none s scenario start front front_run (omega (arith, some, front_long)) (fits_front fits)

abbrev pub full : (s : Plan) (n : ℕ) (r : List Slot) → IsRun s n r → IsRun s (length r) r
full s n r run = subst (λ t. IsRun s t r) (sym run.slots) run

pub span_decides : SpanDecides
span_decides s n r span scenario run start is le =
    let whole = full s n r run in
    let within : span ≤ length r = omega (arith, le, run.slots) in
    let even = none_to_even s scenario start r whole span is.some within is in
    let fits = even_to_fits s scenario start r whole span is.some within in
    let none = fits_to_none s scenario start r whole span is.some within in
    record {
      by_load = ((λ missed. fits (even missed)), none);
      by_lags = (
        (λ missed. shares_to_even s start r span (even missed)),
        (λ lags. none (fits (even_to_shares s start r span lags))),
      );
    }

pub none_beyond : NoneBeyond
none_beyond s n r span scenario run start is le none =
    fits_none s scenario start r (full s n r run) (omega (arith, is.some, le, run.slots))
    ((span_decides s n r span scenario run start is le).by_load.0 none)
