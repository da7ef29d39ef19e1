-- What is told of each task, by a ledger of the run.
use Rattle.std.proofs.Common.{◌≡◌, ◌≢◌, ◌∙◌, ⊎_elim, ℕ, ◌+◌, ◌≤◌, Bool, true, false, cond, get_or, Option, None, Some, Result, Ok, Err, List, [], ◌∷◌, ◌++◌, length, refl, sym, ap, ap₂, subst, subst₂, filter_map, find, arith}
use Rattle.std.specs.Prelude.{◌&&◌, ◌==◌, nat_le, nat_lt, not, OnOk}
use Rattle.std.specs.List.{position_or_len, slice_get}
use Rattle.std.specs.Option.{option_map}
use Rattle.std.proofs.lemmas.Bool.{cases_eq, eq-eqb, ne_eqb}
use Rattle.std.proofs.lemmas.Bool.Decides.{nat_tests}
use Rattle.std.proofs.lemmas.List.{append-nil, get_or_default}
use Rattle.std.proofs.lemmas.List.Folds.{find_at}
use Rattle.std.proofs.lemmas.Option.{get_or_from_slice_get, slice_get_within}
use Rattle.pf_weight.specs.declared.task.TheConstants.{LARGEST_TASK}
use Rattle.pf_vocabulary.specs.declared.names.titles.Titles.{Titles}
use Rattle.pf_run.specs.Computed.{run_of}
use Rattle.pf_run.specs.Inside.{Joined, join_of}
use Rattle.pf_run.specs.Run.{events_in_force}
use Rattle.pf_scenario.specs.Scenario.{Plan}
use Rattle.pf_scenario.specs.declared.event.Numbered.{Numbered}
use Rattle.pf_collections.specs.Table.Lists.{noted_of}
use Rattle.pf_tally.specs.Held.{CanTally}
use Rattle.pf_tally.specs.Lags.{by_task}
use Rattle.pf_run.specs.declared.denied.Denied.{Denied}
use Rattle.pf_tally.specs.Own.{events_of_task}
use Rattle.pf_tally.specs.declared.ledger.Ledger.{Ledger}
use Rattle.pf_tally.proofs.Figured.{figures_can}
use Rattle.pf_desk.specs.Desk.{Seen}
use Rattle.pf_trace.specs.Courses.{Course, course_by}
use Rattle.pf_trace.specs.Runs.{trace_at}
use Rattle.pf_trace.specs.Tasks.{TaskTrace}
use Rattle.pf_trace.specs.Titles.{Called, title_of}
use Rattle.pf_trace.specs.declared.moment.Moment.{Moment}
use Rattle.pf_trace.specs.declared.run_ledger.RunLedger.{RunLedger}
use Rattle.pf_trace.specs.Trace.{CanTrace, IsRunLedger, admitted_in, course_found, course_in, is_listed_below, moments_of, own_events, told_of, trace_of, traces_by}

-- Use: the task that was found can be tallied.
pub found_can : (ledger : Ledger) (admitted : List Joined) (task : ℕ) (j : Joined) (ran : List ℕ) (diary : List Numbered) → CanTrace ledger admitted →
    Some j ≡ find (λ j. j.task == task) admitted → ran ≡ noted_of ledger.quanta j.task → diary ≡ noted_of ledger.diaries j.task → CanTally j ran diary ledger.now
found_can ledger admitted task j ran diary can found of_ran of_diary =
    let test : Joined → Bool = λ j. j.task == task in
    let k = position_or_len test admitted in
    let at : slice_get admitted k ≡ Some j = sym (found ∙ find_at test admitted) in
    subst₂ (λ ran diary. CanTally j ran diary ledger.now) (sym of_ran) (sym of_diary)
    (subst (λ j. CanTally j (noted_of ledger.quanta j.task) (noted_of ledger.diaries j.task) ledger.now)
    (get_or_from_slice_get admitted k j j at)
    (can k j (slice_get_within admitted k j at)))

-- a ledger of the run that was seen
module _ (seen : Seen) (run : RunLedger) (is : IsRunLedger seen run) where
  abbrev s : Plan
  s = seen.state.plan

  abbrev n : ℕ
  n = seen.state.now

  abbrev ledger : Ledger
  ledger = run.ledger

  -- Use: each of them can be tallied.
  pub all_can : CanTrace run.ledger run.admitted.items
  all_can = λ k d within.
      let admitted = run.admitted.items in
      figures_can s n ledger is.ledger admitted is.admitted k (get_or admitted k d) _ _ within (get_or_default admitted k d (get_or admitted k d) within) refl refl

  events_are : ledger.events.items ≡ events_in_force s (run_of s n) (length (run_of s n))
  events_are = is.ledger.events ∙ ap (events_in_force s (run_of s n)) (sym is.ledger.slots)

  tasks_are : run.admitted.items ≡ by_task (filter_map (join_of s.settings.base) (events_in_force s (run_of s n) (length (run_of s n))))
  tasks_are = is.admitted ∙ ap₂ (λ (xs : List Numbered) base. by_task (filter_map (join_of base) xs)) events_are (ap (λ settings. settings.base) is.ledger.settings)

  diary_is : (task : ℕ) → noted_of ledger.diaries task ≡ events_of_task task (events_in_force s (run_of s n) (length (run_of s n)))
  diary_is task = is.ledger.diaries.each task ∙ ap (events_of_task task) events_are

  course_is : (task : ℕ) →
      course_found run.ledger run.admitted.items run.processors task ≡ option_map (course_in s (run_of s n) seen.rows) (admitted_in s (run_of s n) task)
  course_is task =
      let now : ledger.now ≡ length (run_of s n) = is.ledger.now ∙ sym is.ledger.slots in
      λ k. option_map (λ j. course_by j (is.ledger.quanta j.task k) (is.processors j.task k) (diary_is j.task k) (now k))
      (find (λ j. j.task == task) (tasks_are k))

  -- Use: what is told of a task by it.
  pub traces_are : (titles : Titles) (denials : List Denied) (events : List Numbered) (slot_count task : ℕ) → denials ≡ seen.denials → events ≡ own_events s n task →
      slot_count ≡ n → traces_by (title_of titles task) run denials events slot_count task
      ≡ cond (not (length (own_events s n task) == 0)) (trace_of titles seen task ∷ []) []
  traces_are titles denials events slot_count task same_denials same_events same_count =
      (λ k. cond (length (same_events k) == 0) [] (record {
        title = title_of titles task;
        task = task;
        course = course_is task k;
        moments = moments_of (same_denials k) (same_events k);
        slot_count = same_count k;
      } ∷ []))
      ∙ turned (length (own_events s n task) == 0)
    where
      turned : (b : Bool) → cond b [] (trace_of titles seen task ∷ []) ≡ cond (not b) (trace_of titles seen task ∷ []) []
      turned true = refl
      turned false = refl

-- what is noted of the tasks of the numbers below k
module _ (titles : Titles) (seen : Seen) where
  abbrev pub noted_below : ℕ → ℕ → List TaskTrace
  noted_below k task = cond (is_listed_below seen k task) (trace_of titles seen task ∷ []) []

  abbrev pub IsNotedBelow : ℕ → List (List TaskTrace) → Type 0
  IsNotedBelow k tasks = (task : ℕ) → noted_of tasks task ≡ noted_below k task

  -- Use: none so far.
  pub none_noted : (tasks : List (List TaskTrace)) → ((task : ℕ) → noted_of tasks task ≡ []) → IsNotedBelow 1 tasks
  none_noted tasks none task =
      none task ∙ ap (λ b. cond b (trace_of titles seen task ∷ []) []) (sym (none_below (not (length (own_events seen.state.plan seen.state.now task) == 0))))
    where
      none_below : (b : Bool) → (nat_le 1 task && nat_lt task 1 && b) ≡ false
      none_below b = grind (arith, nat_tests)

  module _ (k : ℕ) (some : 1 ≤ k) (old new : List (List TaskTrace)) (so_far : IsNotedBelow k old) where
    abbrev has_events : ℕ → Bool
    has_events task = not (length (own_events seen.state.plan seen.state.now task) == 0)

    other_below : (task : ℕ) (b : Bool) → task ≢ k → (nat_le 1 task && nat_lt task k && b) ≡ (nat_le 1 task && nat_lt task (k + 1) && b)
    other_below task b differ = ap (λ c. nat_le 1 task && c && b) (same_test)
      where
        same_test : nat_lt task k ≡ nat_lt task (k + 1)
        same_test = grind (arith, nat_tests, differ)

    not_yet : (b : Bool) → (nat_le 1 k && nat_lt k k && b) ≡ false
    not_yet b = grind (arith, nat_tests)

    now_is : (b : Bool) → (nat_le 1 k && nat_lt k (k + 1) && b) ≡ b
    now_is b = grind (arith, nat_tests, some)

    -- Use: what is told of a task was noted.
    pub one_passed : (xs : List TaskTrace) → xs ≡ cond (has_events k) (trace_of titles seen k ∷ []) [] →
        ((task : ℕ) → noted_of new task ≡ noted_of old task ++ cond (k == task) xs []) → IsNotedBelow (k + 1) new
    one_passed xs is push task = ⊎_elim
        (λ same. subst (λ t. noted_of new t ≡ noted_below (k + 1) t) same this_one)
        (λ differ.
        push task ∙ ap₂ (λ a b. a ++ cond b xs []) (so_far task) (ne_eqb k task differ)
        ∙ append-nil (noted_below k task)
        ∙ ap (λ b. cond b (trace_of titles seen task ∷ []) []) (other_below task (has_events task) (λ e. differ (sym e))))
        (cases_eq k task)
      where
        this_one : noted_of new k ≡ noted_below (k + 1) k
        this_one =
            push k ∙ ap₂ (λ a b. a ++ cond b xs []) (so_far k ∙ ap (λ b. cond b (trace_of titles seen k ∷ []) []) (not_yet (has_events k))) (eq-eqb k k refl)
            ∙ is
            ∙ ap (λ b. cond b (trace_of titles seen k ∷ []) []) (sym (now_is (has_events k)))

  -- Use: all were passed.
  pub all_told : (k : ℕ) (tasks : List (List TaskTrace)) → k ≡ LARGEST_TASK + 1 → IsNotedBelow k tasks → (task : ℕ) → trace_at tasks task ≡ told_of titles seen task
  all_told k tasks last so_far task =
      ap (λ xs. slice_get xs 0) (so_far task) ∙ first_of (is_listed_below seen k task) ∙ ap (λ n. cond (is_listed_below seen n task) (Some (trace_of titles seen task)) None) last
    where
      first_of : (b : Bool) → slice_get (cond b (trace_of titles seen task ∷ []) []) 0 ≡ cond b (Some (trace_of titles seen task)) None
      first_of true = refl
      first_of false = refl

-- Use: of a task without events nothing is noted.
pub nothing_told : (titles : Titles) (run : RunLedger) (denials : List Denied) (events : List Numbered) (slot_count task t : ℕ) (xs : List TaskTrace) →
    (length events == 0) ≡ true → xs ≡ xs ++ cond (task == t) (traces_by (title_of titles task) run denials events slot_count task) []
nothing_told titles run denials events slot_count task t xs none =
    sym (ap (λ ys. xs ++ ys) (ap (λ ys. cond (task == t) ys []) (no_traces) ∙ nothing (task == t)) ∙ append-nil xs)
  where
    x : TaskTrace
    x = record {
      title = title_of titles task;
      task = task;
      course = course_found run.ledger run.admitted.items run.processors task;
      moments = moments_of denials events;
      slot_count = slot_count;
    }

    no_traces : traces_by (title_of titles task) run denials events slot_count task ≡ []
    no_traces = ap (λ b. cond b [] (x ∷ [])) none

    nothing : (b : Bool) → cond {A = List TaskTrace} b [] [] ≡ []
    nothing true = refl
    nothing false = refl

-- Use: of one with events one is.
pub one_told : (titles : Titles) (run : RunLedger) (denials : List Denied) (events : List Numbered) (slot_count task : ℕ)
    (title : Called) (course : Option Course) (moments : List Moment) (x : TaskTrace) → (length events == 0) ≡ false →
    x ≡ record { title = title; task = task; course = course; moments = moments; slot_count = slot_count } → title ≡ title_of titles task →
    course ≡ course_found run.ledger run.admitted.items run.processors task → moments ≡ moments_of denials events →
    x ∷ [] ≡ traces_by (title_of titles task) run denials events slot_count task
one_told titles run denials events slot_count task title course moments x some is title_is course_is moments_is =
    ap (λ y. y ∷ [])
    (is ∙ (λ k. let y : TaskTrace = record { title = title_is k; task = task; course = course_is k; moments = moments_is k; slot_count = slot_count } in y))
    ∙ sym (ap (λ b. cond b [] (record {
      title = title_of titles task;
      task = task;
      course = course_found run.ledger run.admitted.items run.processors task;
      moments = moments_of denials events;
      slot_count = slot_count;
    } ∷ [])) some)

pub then_ok : {A E : Type 0} (r : Result A E) (P Q : Type 0) → (P → Q) → OnOk r P → OnOk r Q
then_ok (Ok a) P Q f h = f h
then_ok (Err e) P Q f h = tt
