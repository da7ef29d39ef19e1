-- What a task's figures add up to.
use Rattle.std.proofs.Common.{◌≡◌, ℕ, zero, suc, ◌+◌, ◌-◌, ◌*◌, ◌<◌, ◌≤◌, Bool, true, false, nat_lt, Option, None, cond, List, [], ◌∷◌, ◌++◌, length, take, map, get_or, count_by, sum_by, filter_map, All, AllPairs, Contains, IsPermutation, refl, sym, ap, ap₂, ◌∙◌, subst, arith}
use Rattle.std.specs.Prelude.{ℤ, pos, ◌-ℤ◌, min, max}
use Rattle.std.specs.List.Sorted.{IsSortedBy}
use Rattle.std.specs.Option.{option_map_or}
use Rattle.std.specs.Ordering.{is_lt, nat_cmp}
use Rattle.std.specs.Cmp.{nat_cmp_total}
use Rattle.std.proofs.lemmas.Cmp.{on_total}
use Rattle.std.proofs.lemmas.List.{map_more, take_all}
use Rattle.std.proofs.lemmas.List.Elements.{Contains-get_or}
use Rattle.std.proofs.lemmas.List.Sorted.{IsPermutation-sym, Contains-permutation}
use Rattle.pf_order.specs.declared.pick.Pick.{Pick}
use Rattle.pf_window.specs.Window.{release_of}
use Rattle.pf_scenario.specs.Event.{slot_of}
use Rattle.pf_scenario.specs.Scenario.{Plan}
use Rattle.pf_scenario.specs.Edit.{join_alike}
use Rattle.pf_scenario.specs.declared.event.Numbered.{Numbered}
use Rattle.pf_scenario.proofs.Sorting.{sorted_keeps}
use Rattle.pf_scenario.specs.declared.settings.TheConstants.{WIDE_HORIZON}
use Rattle.pf_run.specs.Record.{Slot, done}
use Rattle.pf_run.specs.Inside.{Joined, join_of, shift_of}
use Rattle.pf_run.specs.Run.{events_in_force}
use Rattle.pf_run.specs.Computed.{run_of}
use Rattle.pf_run.proofs.Joins.{joined_differ}
use Rattle.pf_collections.specs.Table.Lists.{noted_of}
use Rattle.pf_tally.specs.Clock.{release_at, clock_of}
use Rattle.pf_tally.specs.Held.{CanTally, next_in, held_from, stopped_below}
use Rattle.pf_tally.specs.Lags.{task_cmp, by_task}
use Rattle.pf_tally.specs.Late.{CanMiss, hold_of, released_at}
use Rattle.pf_tally.specs.Ledger.{IsLedger}
use Rattle.pf_tally.specs.Misses.{misses_of_task}
use Rattle.pf_tally.specs.Own.{events_of_task}
use Rattle.pf_tally.specs.Quanta.{places_from, slots_in, slots_of}
use Rattle.pf_tally.specs.WalkedRun.{CanFigure, IsWalkOf}
use Rattle.pf_tally.specs.declared.walked_run.WalkedRun.{WalkedRun}
use Rattle.pf_run.specs.declared.denied.Denied.{Denied}
use Rattle.pf_place.specs.Occupancy.{is_seated}
use Rattle.pf_tally.specs.Ranges.{lag_by}
use Rattle.pf_tally.specs.Figures.{processors_in, migrations_behind, preemptions_behind, responses_from, extremes_of, with_value, extremes_upto, scaled_at, last_slot, greatest_tardiness, figures_of_task, figures_of}
use Rattle.pf_tally.specs.declared.extremes.Extremes.{Extremes}
use Rattle.pf_tally.specs.declared.figures.Figures.{Figures}
use Rattle.pf_tally.specs.declared.held.Held.{Held}
use Rattle.pf_tally.specs.declared.ledger.Ledger.{Ledger}
use Rattle.pf_tally.specs.declared.miss.Miss.{Miss}
use Rattle.pf_tally.proofs.Chains.{all_counted, clock_is}
use Rattle.pf_tally.proofs.Holding.{next_is}
use Rattle.pf_tally.proofs.Journals.{journal_can, walked_delays}
use Rattle.pf_tally.proofs.Ledgers.{task_can}
use Rattle.pf_tally.proofs.Own.{find_own}
use Rattle.pf_tally.proofs.Places.{done_is, places_apart}
use Rattle.pf_tally.proofs.Sorts.{one_sorted}
use Rattle.pf_tally.proofs.Tallies.{not_tied}

-- what is known of fewer subtasks
pub can_fewer : (j : Joined) (held : List Held) (n m : ℕ) → CanMiss j held n → m ≤ n → CanMiss j held m
can_fewer j held n m can fewer = record {
  number = can.number;
  share = can.share;
  joined = can.joined;
  within = let most : n ≤ WIDE_HORIZON = can.within in omega arith;
  chain = can.chain;
  small = can.small;
}

extremes_same : (f g : ℕ → ℤ) (a k : ℕ) → ((t : ℕ) → a ≤ t → f t ≡ g t) → extremes_upto f a k ≡ extremes_upto g a k
extremes_same f g a zero same = ap (λ x. let e : Extremes = record { least = x; greatest = x } in e) (same a (omega arith))
extremes_same f g a (suc k) same = ap₂ with_value (extremes_same f g a k same) (same (a + suc k) (omega arith))

-- the figures, from their parts
abbrev told : Joined → List ℕ → List ℕ → List ℤ → List Miss → Extremes → Figures
told j processors ran responses misses lag = record {
  task = j.task;
  cost = j.weight.cost;
  period = j.weight.period;
  quanta = length ran;
  migrations = migrations_behind None processors;
  preemptions = preemptions_behind j.weight.cost 0 None ran;
  jobs = length responses;
  response = extremes_of responses;
  missed = length misses;
  tardiness = greatest_tardiness misses;
  lag = lag;
}

pub told_is : (j : Joined) (processors ran : List ℕ) (responses : List ℤ) (misses : List Miss) (lag : Extremes) (figures : Figures) →
    figures.task ≡ j.task → figures.cost ≡ j.weight.cost → figures.period ≡ j.weight.period → figures.quanta ≡ length ran → figures.migrations ≡ migrations_behind None processors →
    figures.preemptions ≡ preemptions_behind j.weight.cost 0 None ran → figures.jobs ≡ length responses → figures.response ≡ extremes_of responses →
    figures.missed ≡ length misses → figures.tardiness ≡ greatest_tardiness misses → figures.lag ≡ lag → figures ≡ told j processors ran responses misses lag
told_is j processors ran responses misses lag figures e1 e2 e3 e4 e5 e6 e7 e8 e9 e10 e11 =
    λ k. let f : Figures = record {
      task = e1 k;
      cost = e2 k;
      period = e3 k;
      quanta = e4 k;
      migrations = e5 k;
      preemptions = e6 k;
      jobs = e7 k;
      response = e8 k;
      missed = e9 k;
      tardiness = e10 k;
      lag = e11 k;
    } in f

module _ (j : Joined) (ran : List ℕ) (xs : List Numbered) (n : ℕ) (can : CanTally j ran xs n) (r : List Slot) (of_ran : slots_of r j.task ≡ ran)
    (held : List Held) (of_held : held ≡ held_from (next_in ran) j j.slot xs) where
  held_is : held ≡ held_from (λ u. done r j.task u + 1) j j.slot xs
  held_is = of_held ∙ ap (λ next. held_from next j j.slot xs) (next_is r j ran of_ran)

  pub released_is : (i : ℕ) → released_at j held i ≡ release_at r xs j i
  unfolding shift_of
  released_is i =
      ap (λ held. release_of j.weight i + (j.slot + sum_by (hold_of i) held)) held_is
      ∙ ap (λ n. release_of j.weight i + (j.slot + n)) (sym (all_counted r j j.slot i xs))

  releases_are : released_at j held ≡ release_at r xs j
  releases_are = λ k i. released_is i k

  pub lag_at : (t : ℕ) → j.slot ≤ t → lag_by j ran held t ≡ scaled_at r xs j t
  lag_at t joined =
      let clock = clock_is r j xs t can.share can.rise joined in
      let same : t - j.slot - stopped_below t j.weight held ≡ clock_of r xs j t = omega (arith, clock, ap (stopped_below t j.weight) held_is) in
      let received : count_by (λ q. nat_lt q t) ran ≡ done r j.task t = ap (count_by (λ q. nat_lt q t)) (sym of_ran) ∙ sym (done_is r j.task t) in
      ap₂ (λ clock received. pos (j.weight.cost * clock) -ℤ pos (j.weight.period * received)) same received

  pub figures_known : (processors : List ℕ) (responses : List ℤ) (misses : List Miss) (figures : Figures) → length r ≡ n → misses ≡ misses_of_task r xs j →
      responses ≡ responses_from (released_at j held) j.weight.cost 1 ran →
      figures ≡ told j processors ran responses misses (extremes_upto (lag_by j ran held) j.slot (last_slot xs j n - j.slot)) →
      figures ≡ figures_of_task r processors xs j
  figures_known processors responses misses figures long of_misses of_responses is =
      let later : responses ≡ responses_from (release_at r xs j) j.weight.cost 1 (slots_of r j.task) =
      of_responses ∙ ap₂ (λ release ts. responses_from release j.weight.cost 1 ts) releases_are (sym of_ran) in
      let lag : extremes_upto (lag_by j ran held) j.slot (last_slot xs j n - j.slot) ≡ extremes_upto (scaled_at r xs j) j.slot (last_slot xs j (length r) - j.slot) =
      extremes_same (lag_by j ran held) (scaled_at r xs j) j.slot (last_slot xs j n - j.slot) lag_at
      ∙ ap (λ n. extremes_upto (scaled_at r xs j) j.slot (last_slot xs j n - j.slot)) (sym long) in
      is
      ∙ ap₂ (λ ran responses. told j processors ran responses misses (extremes_upto (lag_by j ran held) j.slot (last_slot xs j n - j.slot))) refl later
      ∙ ap₂ (λ misses lag. told j processors ran (responses_from (release_at r xs j) j.weight.cost 1 (slots_of r j.task)) misses lag) of_misses lag
      ∙ ap (λ ran. told j processors ran (responses_from (release_at r xs j) j.weight.cost 1 (slots_of r j.task)) (misses_of_task r xs j)
      (extremes_upto (scaled_at r xs j) j.slot (last_slot xs j (length r) - j.slot))) (sym of_ran)

-- a task's own events tell its last slot
pub last_own : (xs : List Numbered) (j : Joined) (n : ℕ) → last_slot (events_of_task j.task xs) j n ≡ last_slot xs j n
last_own xs j n = ap (λ found. max j.slot (option_map_or (λ x. min (slot_of x.event) n) found n)) (find_own xs j.task)

-- the slots in which a task runs are among those of the record
pub slots_within : {X : Type 0} (test : X → Bool) (t : ℕ) (xs : List X) → All (λ q. q < t + length xs) (places_from test t xs)
slots_within test t [] = λ k d within. absurd (omega arith)
slots_within test t (x ∷ xs) = within_kept (test x) (places_from test (t + 1) xs) (slots_within test (t + 1) xs)
  where
    within_kept : (b : Bool) (qs : List ℕ) → All (λ q. q < t + 1 + length xs) qs → All (λ q. q < t + suc (length xs)) (cond b (t ∷ qs) qs)
    within_kept true qs all zero d within = omega arith
    within_kept true qs all (suc k) d within = let h : get_or qs k d < t + 1 + length xs = all k d (omega arith) in omega arith
    within_kept false qs all k d within = let h : get_or qs k d < t + 1 + length xs = all k d within in omega arith

-- the tasks that joined, by number
pub joined_sorted : (base : ℕ) (xs : List Numbered) (found js : List Joined) → AllPairs (λ x y. join_alike x.event y.event ≡ false) xs → found ≡ filter_map (join_of base) xs →
    IsPermutation found js → IsSortedBy (λ x y. is_lt (nat_cmp x.task y.task)) js → js ≡ by_task (filter_map (join_of base) xs)
joined_sorted base xs found js once is same up =
    let differ = joined_differ base xs once in
    let P : List Joined → Type 0 = λ ks. IsPermutation ks js in
    one_sorted (on_total (λ (j : Joined). j.task) nat_cmp_total) (filter_map (join_of base) xs) js
    (λ i k d before within. not_tied _ _ (differ i k d before within)) (subst P is same) up

-- a task of those that joined, by number, has joined
sorted_in : (base : ℕ) (xs : List Numbered) (tasks : List Joined) → tasks ≡ by_task (filter_map (join_of base) xs) → (k : ℕ) (j : Joined) → k < length tasks → j ≡ get_or tasks k j →
    Contains (filter_map (join_of base) xs) j
sorted_in base xs tasks of_tasks k j within is =
    let joined = filter_map (join_of base) xs in
    let P : Joined → Type 0 = Contains tasks in
    let Q : List Joined → Type 0 = λ js. Contains js j in
    Contains-permutation (by_task joined) joined j (IsPermutation-sym joined (by_task joined) (sorted_keeps task_cmp joined))
    (subst Q of_tasks (subst P (sym is) (Contains-get_or tasks k j within)))

-- a step over the tasks of a ledger that joined, by number
module _ (s : Plan) (n : ℕ) (ledger : Ledger) (known : IsLedger s n ledger) (tasks : List Joined) (of_tasks : tasks ≡ by_task (filter_map (join_of ledger.settings.base) ledger.events.items)) where
  pub sorted_at : (k : ℕ) (j : Joined) → k < length tasks → j ≡ get_or tasks k j → Contains (filter_map (join_of ledger.settings.base) ledger.events.items) j
  sorted_at = sorted_in ledger.settings.base ledger.events.items tasks of_tasks

  pub figures_can : (k : ℕ) (j : Joined) (ran : List ℕ) (diary : List Numbered) → k < length tasks → j ≡ get_or tasks k j → ran ≡ noted_of ledger.quanta j.task →
      diary ≡ noted_of ledger.diaries j.task → CanTally j ran diary ledger.now
  figures_can k j ran diary within is = task_can s n ledger known j (sorted_at k j within is) ran diary

-- a step over the tasks of a run that was walked over
module _ (s : Plan) (rows : List (List (Option Pick))) (denials : List Denied) (run : WalkedRun) (known : IsWalkOf s rows denials run)
    (tasks : List Joined) (of_tasks : tasks ≡ by_task (filter_map (join_of run.journal.settings.base) run.journal.events.items)) where
  pub can_figure : (k : ℕ) (j : Joined) (ran : List ℕ) → k < length tasks → j ≡ get_or tasks k j → ran ≡ slots_in rows j.task → CanFigure run j ran
  can_figure k j ran within is of_ran =
      let at = sorted_in run.journal.settings.base run.journal.events.items tasks of_tasks k j within is in
      let can = journal_can s rows denials run known j at in
      let P : List ℕ → Type 0 = λ ran. CanTally j ran run.journal.events.items run.journal.now in
      let Q : List ℕ → Type 0 = All (λ t. t < WIDE_HORIZON) in
      let most : run.journal.now ≤ WIDE_HORIZON = can.within in
      let short : length rows ≤ WIDE_HORIZON = omega (arith, known.journal.now) in
      let all = slots_within (λ row. is_seated row j.task) 0 rows in
      record {
        walked = record { scenario = s; rows = rows; denials = denials; is = known };
        joined = at;
        can = subst P (sym of_ran) can;
        delays = walked_delays s rows denials run known j at (noted_of run.walk.delays j.task) refl ∙ ap (λ ran. held_from (next_in ran) j j.slot run.journal.events.items) (sym of_ran);
        apart = let A : List ℕ → Type 0 = AllPairs (λ a b. a < b) in subst A (sym of_ran) (places_apart (λ row. is_seated row j.task) 0 rows);
        slots = subst Q (sym of_ran) (λ k d within. let h : get_or (slots_in rows j.task) k d < 0 + length rows = all k d within in omega arith);
      }

  pub figures_step : (on : List ℕ) (k : ℕ) (j : Joined) (ran : List ℕ) (figures : Figures) (before after : List Figures) →
      k < length tasks → j ≡ get_or tasks k j → ran ≡ slots_in rows j.task → on ≡ processors_in rows j.task →
      ((s : Plan) (rows : List (List (Option Pick))) (denials : List Denied) → IsWalkOf s rows denials run → ran ≡ slots_in rows j.task → figures ≡ figures_of_task (run_of s (length rows)) on run.journal.events.items j) →
      after ≡ before ++ figures ∷ [] → before ≡ map (λ j. figures_of_task (run_of s (length rows)) (processors_in rows j.task) run.journal.events.items j) (take k tasks) →
      after ≡ map (λ j. figures_of_task (run_of s (length rows)) (processors_in rows j.task) run.journal.events.items j) (take (k + 1) tasks)
  figures_step on k j ran figures before after within is of_ran of_on of_figures push so_far =
      let f : Joined → Figures = λ j. figures_of_task (run_of s (length rows)) (processors_in rows j.task) run.journal.events.items j in
      let this : figures ≡ f j =
      of_figures s rows denials known of_ran ∙ ap (λ on. figures_of_task (run_of s (length rows)) on run.journal.events.items j) of_on in
      push ∙ ap₂ (λ xs y. xs ++ y ∷ []) so_far (this ∙ ap f is) ∙ sym (map_more f tasks k j within)

  pub figures_all : (figures : List Figures) (k : ℕ) → length tasks ≤ k →
      figures ≡ map (λ j. figures_of_task (run_of s (length rows)) (processors_in rows j.task) run.journal.events.items j) (take k tasks) → figures ≡ figures_of s (run_of s (length rows)) rows
  unfolding figures_of
  figures_all figures k over so_far =
      let n = length rows in
      let f : List Numbered → Joined → Figures = λ xs j. figures_of_task (run_of s n) (processors_in rows j.task) xs j in
      so_far
      ∙ ap (map (f run.journal.events.items)) (take_all k tasks over ∙ of_tasks)
      ∙ ap₂ (λ (xs : List Numbered) base. map (f xs) (by_task (filter_map (join_of base) xs))) (known.journal.events ∙ ap (events_in_force s (run_of s n)) (sym known.journal.slots)) (ap (λ settings. settings.base) known.journal.settings)
