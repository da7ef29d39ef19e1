-- The jobs of a task, by what is told of it.
use Rattle.std.proofs.Common.{◌≡◌, ◌∙◌, ℕ, suc, ◌+◌, ◌-◌, ◌*◌, ◌/◌, ◌<◌, ◌≤◌, Bool, true, false, cond, take, filter, filter_map, get_or, subst, Result, Ok, Err, List, [], ◌∷◌, ◌++◌, length, All, refl, sym, ap, ap₂, arith}
use Rattle.std.specs.Prelude.{OnOk}
use Rattle.std.specs.List.{flat_map, range_with_len, slice_get}
use Rattle.std.specs.Option.{option_map}
use Rattle.std.proofs.Math.Nat.{mul-le-mul_right}
use Rattle.std.proofs.lemmas.Grind.{flat_map-append}
use Rattle.std.proofs.lemmas.List.{append-nil, take_all}
use Rattle.std.proofs.lemmas.List.Concat.{flat_map-cons}
use Rattle.std.proofs.lemmas.List.Elements.{filter_more}
use Rattle.pf_lemmas.proofs.Ranges.{flat_map_agree}
use Rattle.pf_window.specs.Window.{release_of, deadline_of}
use Rattle.pf_scenario.specs.Scenario.{Plan}
use Rattle.pf_scenario.specs.Edit.{IsScenario}
use Rattle.pf_scenario.specs.declared.event.Numbered.{Numbered}
use Rattle.pf_scenario.specs.declared.settings.TheConstants.{WIDE_HORIZON}
use Rattle.pf_run.specs.Record.{Slot, runs}
use Rattle.pf_run.specs.Inside.{Joined, join_of}
use Rattle.pf_run.specs.Run.{events_in_force}
use Rattle.pf_run.specs.Computed.{run_of}
use Rattle.pf_tally.specs.Figures.{last_slot}
use Rattle.pf_tally.specs.Held.{CanTally, next_in, held_from}
use Rattle.pf_collections.specs.Table.Lists.{noted_of}
use Rattle.pf_tally.specs.Lags.{by_task}
use Rattle.pf_tally.specs.Late.{due_at}
use Rattle.pf_tally.specs.Ledger.{IsLedger}
use Rattle.pf_tally.specs.declared.ledger.Ledger.{Ledger}
use Rattle.pf_tally.specs.Misses.{ran_in}
use Rattle.pf_tally.specs.Own.{events_of_task}
use Rattle.pf_tally.specs.Quanta.{slots_of}
use Rattle.pf_tally.proofs.Figured.{figures_can, last_own, released_is, slots_within, sorted_at}
use Rattle.pf_tally.proofs.Holding.{next_is}
use Rattle.pf_tally.proofs.Ledgers.{task_diary, task_ran}
use Rattle.pf_tally.proofs.Missing.{due_is}
use Rattle.pf_tally.proofs.Own.{shift_own}
use Rattle.pf_tally.proofs.Subs.{ran_is}
use Rattle.pf_vocabulary.specs.Tasks.Listed.{is_listed}
use Rattle.pf_vocabulary.specs.declared.tasks.task_range.TaskRange.{TaskRange}
use Rattle.pf_vocabulary.specs.declared.names.titles.Titles.{Titles}
use Rattle.pf_vocabulary.specs.NameColumn.Column.{name_fields, with_name}
use Rattle.pf_text.specs.Page.{Page, with_record}
use Rattle.pf_text.specs.Sheets.{AddsAtMostOne}
use Rattle.pf_jobs.specs.Ran.{NamedRan, Ran, ran_by}
use Rattle.pf_jobs.specs.Jobs.{first_of, last_of, job_of, job_by, job_count, job_record, job_records, is_told, jobs_records, named_behind_job, records_behind_job, records_of_task}
use Rattle.pf_jobs.specs.declared.job.Job.{Job}

-- Use: a job has at least a subtask.
pub some_subs : (k cost : ℕ) → 1 ≤ k → cost ≤ k * cost
some_subs k cost some = omega (arith, mul-le-mul_right cost some)

-- one job further
module _ (ran : Ran) (at : ℕ) (within : at < job_count ran) where
  first_place : records_behind_job ran at ≡ job_records ran.end (job_by ran (at + 1)) ++ records_behind_job ran (at + 1)
  first_place =
      let f : ℕ → List (List (List ℕ)) = λ i. job_records ran.end (job_by ran i) in
      ap (λ n. flat_map f (range_with_len (at + 1) n)) (let z : job_count ran - at ≡ suc (job_count ran - (at + 1)) = omega (arith, within) in z)
      ∙ flat_map-cons f (at + 1) (range_with_len (at + 1 + 1) (job_count ran - (at + 1)))

  by_test : (job : Job) (b : Bool) → job ≡ job_by ran (at + 1) → is_told ran.end job ≡ b →
      records_behind_job ran at ≡ cond b (job_record job ∷ []) [] ++ records_behind_job ran (at + 1)
  by_test job b is told =
      first_place ∙ ap (λ x. job_records ran.end x ++ records_behind_job ran (at + 1)) (sym is)
      ∙ ap (λ x. cond x (job_record job ∷ []) [] ++ records_behind_job ran (at + 1)) told

  module _ (titles : Titles) where
    abbrev left : ℕ → List (List (List ℕ))
    left k = named_behind_job (record { ran = ran; titles = titles }) k

    pub told_added : {A E : Type 0} (r : Result A E) (job : Job) (old new : Page) → job ≡ job_by ran (at + 1) → is_told ran.end job ≡ true →
        OnOk r (new ≡ with_record old (job_record job ++ name_fields titles job.task)) →
        OnOk r (AddsAtMostOne (left at) (left (at + 1)) old new)
    told_added (Ok x) job old new is told h = record {
      added = (job_record job ++ name_fields titles job.task) ∷ [];
      of_was = ap (with_name titles ran.task.task) (by_test job true is told)
          ∙ ap (λ task. (job_record job ++ name_fields titles task) ∷ left (at + 1)) (sym (ap (λ x. x.task) is));
      is = (refl, h);
    }
    told_added (Err e) job old new is told h = tt

-- a task's own events are enough
pub own_records : (r : List Slot) (xs : List Numbered) (j : Joined) → records_of_task r (events_of_task j.task xs) j ≡ records_of_task r xs j
own_records r xs j =
    let cost = j.weight.cost in
    let shift = shift_own r xs j in
    let last = last_own xs j (length r) in
    λ i. let job : ℕ → Job = λ k. record {
      task = j.task;
      number = k;
      release = release_of j.weight (first_of cost k) + shift i (first_of cost k);
      deadline = deadline_of j.weight (last_of cost k) + shift i (last_of cost k);
      finish = option_map (λ t. t + 1) (ran_in r j (last_of cost k));
    } in
    flat_map (λ k. job_records (last i) (job k)) (range_with_len 1 (length r / cost))

module _ (s : Plan) (n : ℕ) (scenario : IsScenario s) (long : length (run_of s n) ≡ n) (xs : List Numbered) (j : Joined) (ran : List ℕ)
    (can : CanTally j ran xs n) (of_ran : ran ≡ slots_of (run_of s n) j.task) where
  job_is : (k : ℕ) → 1 ≤ k → job_by (ran_by j ran xs n) k ≡ job_of (run_of s n) xs j k
  job_is k some =
      let r = run_of s n in
      let cost = j.weight.cost in
      let held = held_from (next_in ran) j j.slot xs in
      let release = released_is j ran xs n can r (sym of_ran) held refl (first_of cost k) in
      let due = sym (due_is r xs j (last_of cost k)
      ∙ ap (λ next. due_at j (held_from next j j.slot xs) (last_of cost k)) (sym (next_is r j ran (sym of_ran)))) in
      let finish = ap (option_map (λ t. t + 1))
      (ap (λ q. slice_get q (last_of cost k - 1)) of_ran ∙ sym (ran_is s n j (last_of cost k) scenario (omega (arith, some_subs k cost some, can.share.some)))) in
      λ i. let job : Job = record { task = j.task; number = k; release = release i; deadline = due i; finish = finish i } in job

  pub records_are : records_behind_job (ran_by j ran xs n) 0 ≡ records_of_task (run_of s n) xs j
  records_are =
      let f : ℕ → List (List (List ℕ)) = λ k. job_records (last_slot xs j n) (job_of (run_of s n) xs j k) in
      flat_map_agree (λ k. job_records (last_slot xs j n) (job_by (ran_by j ran xs n) k)) f 1 (n / j.weight.cost - 0)
      (λ k some. ap (job_records (last_slot xs j n)) (job_is k some))
      ∙ ap (λ m. flat_map f (range_with_len 1 m)) (let z : n / j.weight.cost - 0 ≡ n / j.weight.cost = omega arith in z)
      ∙ ap (λ m. flat_map (λ k. job_records (last_slot xs j m) (job_of (run_of s n) xs j k)) (range_with_len 1 (m / j.weight.cost))) (sym long)

-- a step over the admitted tasks, by number, of which those of a list are taken
module _ (s : Plan) (n : ℕ) (ledger : Ledger) (known : IsLedger s n ledger) (tasks : List Joined)
    (of_tasks : tasks ≡ by_task (filter_map (join_of ledger.settings.base) ledger.events.items)) (ranges : List TaskRange) (titles : Titles) where
  abbrev listed : Joined → Bool
  listed j = is_listed ranges j.task

  abbrev records : Joined → List (List (List ℕ))
  records j = with_name titles j.task (records_of_task (run_of s n) ledger.events.items j)

  abbrev kept : NamedRan → List (List (List ℕ))
  kept x = named_behind_job x 0

  listed_more : (k : ℕ) (j : Joined) → k < length tasks → j ≡ get_or tasks k j → (b : Bool) → is_listed ranges j.task ≡ b →
      flat_map records (filter listed (take (k + 1) tasks)) ≡ flat_map records (filter listed (take k tasks)) ++ cond b (records j) []
  listed_more k j within is b has =
      let before = filter listed (take k tasks) in
      ap (flat_map records)
      (filter_more listed tasks k j within ∙ ap (λ x. before ++ cond (listed x) (x ∷ []) []) (sym is) ∙ ap (λ c. before ++ cond c (j ∷ []) []) has)
      ∙ flat_map-append records before (cond b (j ∷ []) [])
      ∙ ap (λ t. flat_map records before ++ t) (single b)
    where
      single : (c : Bool) → flat_map records (cond c (j ∷ []) []) ≡ cond c (records j) []
      single true = flat_map-cons records j [] ∙ append-nil (records j)
      single false = refl

  module _ (k : ℕ) (j : Joined) (ran : List ℕ) (diary : List Numbered) (within : k < length tasks) (is : j ≡ get_or tasks k j)
      (of_ran : ran ≡ noted_of ledger.quanta j.task) (of_diary : diary ≡ noted_of ledger.diaries j.task) where
    pub can_tally : CanTally j ran diary ledger.now
    can_tally = figures_can s n ledger known tasks of_tasks k j ran diary within is of_ran of_diary

    ran_is_of_run : ran ≡ slots_of (run_of s n) j.task
    ran_is_of_run = task_ran s n ledger known j (sorted_at s n ledger known tasks of_tasks k j within is) ran of_ran

    pub slots_low : All (λ q. q < WIDE_HORIZON) ran
    slots_low =
        let all = slots_within (runs j.task) 0 (run_of s n) in
        let short : n ≤ WIDE_HORIZON = omega (arith, can_tally.within, known.now) in
        let P : List ℕ → Type 0 = All (λ q. q < WIDE_HORIZON) in
        subst P (sym ran_is_of_run) (λ i d below. omega (arith, all i d below, short, known.slots))

    behind_is : records_behind_job (ran_by j ran diary ledger.now) 0 ≡ records_of_task (run_of s n) ledger.events.items j
    behind_is =
        ap (λ m. records_behind_job (ran_by j ran diary m) 0) known.now
        ∙ records_are s n known.scenario known.slots diary j ran (subst (λ m. CanTally j ran diary m) known.now can_tally) ran_is_of_run
        ∙ ap (λ xs. records_of_task (run_of s n) xs j)
        (task_diary s n ledger known j (sorted_at s n ledger known tasks of_tasks k j within is) diary of_diary)
        ∙ own_records (run_of s n) ledger.events.items j

    sheet_is : (run : Ran) → run ≡ ran_by j ran diary ledger.now → kept (record { ran = run; titles = titles }) ≡ records j
    sheet_is run run_is = ap (λ x. kept (record { ran = x; titles = titles })) run_is ∙ ap (with_name titles j.task) behind_is

    pub sheet_added : (run : Ran) (before after : List NamedRan) → run ≡ ran_by j ran diary ledger.now → is_listed ranges j.task ≡ true →
        after ≡ before ++ record { ran = run; titles = titles } ∷ [] →
        flat_map (λ x. named_behind_job x 0) before ≡ flat_map records (filter listed (take k tasks)) →
        flat_map (λ x. named_behind_job x 0) after ≡ flat_map records (filter listed (take (k + 1) tasks))
    sheet_added run before after run_is has push so_far =
        let sheet : NamedRan = record { ran = run; titles = titles } in
        ap (flat_map kept) push ∙ flat_map-append kept before (sheet ∷ [])
        ∙ ap₂ (λ xs ys. xs ++ ys) so_far (flat_map-cons kept sheet [] ∙ append-nil (kept sheet) ∙ sheet_is run run_is)
        ∙ sym (listed_more k j within is true has)

  pub sheet_left : (k : ℕ) (j : Joined) (before after : List NamedRan) → k < length tasks → j ≡ get_or tasks k j → is_listed ranges j.task ≡ false →
      after ≡ before →
      flat_map (λ x. named_behind_job x 0) before ≡ flat_map records (filter listed (take k tasks)) →
      flat_map (λ x. named_behind_job x 0) after ≡ flat_map records (filter listed (take (k + 1) tasks))
  sheet_left k j before after within is has same so_far =
      ap (flat_map kept) same ∙ so_far
      ∙ sym (listed_more k j within is false has ∙ append-nil (flat_map records (filter listed (take k tasks))))

  pub sheets_all : (k : ℕ) (sheets : List NamedRan) → length tasks ≤ k →
      flat_map (λ x. named_behind_job x 0) sheets ≡ flat_map records (filter listed (take k tasks)) →
      flat_map (λ x. named_behind_job x 0) sheets ≡ jobs_records s (run_of s n) ranges titles
  sheets_all k sheets over so_far =
      let events = known.events ∙ ap (events_in_force s (run_of s n)) (sym known.slots) in
      so_far
      ∙ ap (λ js. flat_map records (filter listed js)) (take_all k tasks over ∙ of_tasks)
      ∙ ap₂ (λ (xs : List Numbered) base. flat_map (λ j. with_name titles j.task (records_of_task (run_of s n) xs j)) (filter listed (by_task (filter_map (join_of base) xs))))
      events (ap (λ z. z.base) known.settings)
