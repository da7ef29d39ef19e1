-- What the journal of a run and a walk over its rows say of a task.
use Rattle.std.specs.Prelude.{pos, ◌-ℤ◌}
use Rattle.std.proofs.Common.{◌≡◌, ℕ, ◌+◌, ◌-◌, ◌*◌, ◌<◌, ◌≤◌, ◌≢◌, ◌&&◌, nat_le, Bool, Option, List, [], ◌∷◌, ◌++◌, length, take, map, get_or, filter, filter_map, All, AllPairs, Contains, IsPermutation, sym, ap, ap₂, ◌∙◌, subst, arith}
use Rattle.std.proofs.lemmas.List.{map_more, take_all, take_more, flat_map_more}
use Rattle.std.proofs.lemmas.List.Elements.{All-contains, Contains-get_or}
use Rattle.std.proofs.lemmas.List.Sorted.{IsPermutation-sym, Contains-permutation}
use Rattle.std.specs.Option.{option_map_or}
use Rattle.std.specs.List.{flat_map}
use Rattle.std.specs.List.Sorted.{IsSortedBy}
use Rattle.std.specs.Ordering.{is_lt}
use Rattle.pf_weight.specs.Share.{IsShare}
use Rattle.pf_order.specs.declared.pick.Pick.{Pick}
use Rattle.pf_scenario.specs.Scenario.{Plan}
use Rattle.pf_scenario.specs.System.{System}
use Rattle.pf_scenario.specs.declared.event.Numbered.{Numbered}
use Rattle.pf_run.specs.declared.denied.Denied.{Denied}
use Rattle.pf_run.specs.Inside.{Joined, join_of, inside}
use Rattle.pf_run.specs.Run.{events_in_force}
use Rattle.pf_run.specs.Computed.{run_of}
use Rattle.pf_run.specs.RunRows.{AreOfRun}
use Rattle.pf_scenario.proofs.Sorting.{sorted_keeps}
use Rattle.pf_run.proofs.Joins.{joined_differ}
use Rattle.pf_collections.specs.Table.Grown.{value_of}
use Rattle.pf_collections.specs.Table.Lists.{noted_of}
use Rattle.pf_tally.specs.Lags.{task_cmp, by_task, lag_of, lags_of}
use Rattle.pf_tally.specs.Held.{CanTally, IsSmall, next_in, held_from, stopped_below}
use Rattle.pf_tally.specs.Journal.{IsJournal}
use Rattle.pf_tally.specs.Late.{late_misses, CanMiss}
use Rattle.pf_tally.specs.Misses.{leaves_after, misses_of_task, miss_cmp, in_miss_order, misses_of}
use Rattle.pf_tally.specs.Quanta.{slots_in}
use Rattle.pf_tally.specs.Walk.{late_quanta, IsAt}
use Rattle.pf_tally.specs.WalkedRun.{IsWalkOf}
use Rattle.pf_tally.specs.declared.held.Held.{Held}
use Rattle.pf_tally.specs.declared.journal.Journal.{Journal}
use Rattle.pf_tally.specs.declared.lag.Lag.{Lag}
use Rattle.pf_tally.specs.declared.miss.Miss.{Miss}
use Rattle.pf_tally.specs.declared.walked_run.WalkedRun.{WalkedRun}
use Rattle.pf_tally.proofs.Chains.{stops_within}
use Rattle.pf_tally.proofs.Joined.{can_tally, inside_joined, log_shares}
use Rattle.pf_tally.proofs.Ledgers.{ran_of_run, can_miss, task_noted}
use Rattle.pf_tally.proofs.Missing.{late_found, misses_sorted}
use Rattle.pf_tally.proofs.Own.{leaves_own}
use Rattle.pf_tally.proofs.Tallies.{all_small, lag_counted}

-- a task inside has joined
inside_known : (base : ℕ) (xs : List Numbered) (tasks : List Joined) (k : ℕ) (d : Joined) → tasks ≡ by_task (inside base xs) → k < length tasks →
    Contains (filter_map (join_of base) xs) (get_or tasks k d)
inside_known base xs tasks k d is within =
    let j = get_or tasks k d in
    let P : List Joined → Type 0 = λ js. Contains js j in
    inside_joined base xs j
    (Contains-permutation (by_task (inside base xs)) (inside base xs) j (IsPermutation-sym (inside base xs) (by_task (inside base xs)) (sorted_keeps task_cmp (inside base xs)))
    (subst P is (Contains-get_or tasks k d within)))

pub lags_known : (s : Plan) (n : ℕ) (journal : Journal) (lags : List Lag) (tasks : List Joined) (k : ℕ) → IsJournal s n journal → tasks ≡ by_task (inside journal.settings.base journal.events.items) →
    lags ≡ map (lag_of (run_of s n) journal.events.items) (take k tasks) → length tasks ≤ k → lags ≡ lags_of s (run_of s n)
unfolding lags_of
lags_known s n journal lags tasks k known of_tasks of_lags over =
    of_lags ∙ ap (map (lag_of (run_of s n) journal.events.items)) (take_all k tasks over ∙ of_tasks)
    ∙ ap₂ (λ (xs : List Numbered) base. map (lag_of (run_of s n) xs) (by_task (inside base xs))) (known.events ∙ ap (events_in_force s (run_of s n)) (sym known.slots)) (ap (λ settings. settings.base) known.settings)

pub walk_known : (s : Plan) (rows : List (List (Option Pick))) (denials : List Denied) (run : WalkedRun) (xs : List Numbered) → AreOfRun s (length rows) rows denials → IsJournal s (length rows) run.journal →
    xs ≡ run.journal.events.items → All (IsAt rows (length rows) xs run.walk) (filter_map (join_of run.journal.settings.base) xs) → IsWalkOf s rows denials run
walk_known s rows denials run xs are journal is walked =
    let P : List Numbered → Type 0 = λ xs. All (IsAt rows (length rows) xs run.walk) (filter_map (join_of run.journal.settings.base) xs) in
    record { of_run = are; journal = journal; walk = subst P is walked }

-- what is known of a task that was walked
module _ (s : Plan) (rows : List (List (Option Pick))) (denials : List Denied) (run : WalkedRun) (known : IsWalkOf s rows denials run)
    (j : Joined) (at : Contains (filter_map (join_of run.journal.settings.base) run.journal.events.items) j) where
  pub journal_can : CanTally j (slots_in rows j.task) run.journal.events.items run.journal.now
  journal_can =
      let P : ℕ → Type 0 = CanTally j (slots_in rows j.task) run.journal.events.items in
      let Q : System → Type 0 = λ system. Contains (filter_map (join_of system.base) run.journal.events.items) j in
      subst P (sym known.journal.now)
      (can_tally s.settings (length rows) run.journal.events.items j (run_of s (length rows)) (slots_in rows j.task) known.journal.log (subst Q known.journal.settings at) known.journal.slots
      (sym (ran_of_run s rows denials j.task known.of_run)))

  walked_at : IsAt rows (length rows) run.journal.events.items run.walk j
  walked_at = All-contains (IsAt rows (length rows) run.journal.events.items run.walk) (filter_map (join_of run.journal.settings.base) run.journal.events.items) j known.walk at

  pub walked_received : (received : ℕ) → received ≡ option_map_or (λ p. p.received) (value_of run.walk.progress j.task) 0 → received ≡ length (slots_in rows j.task)
  walked_received received is =
      is ∙ ap (λ o. option_map_or (λ p. p.received) o 0) (let a = walked_at in a.progress)
      ∙ ap (λ rows. length (slots_in rows j.task)) (take_all (length rows) rows (omega arith))

  pub walked_delays : (held : List Held) → held ≡ noted_of run.walk.delays j.task → held ≡ held_from (next_in (slots_in rows j.task)) j j.slot run.journal.events.items
  walked_delays held is = is ∙ (let a = walked_at in a.delays)

  pub walked_late : (held : List Held) (late : List Miss) → held ≡ noted_of run.walk.delays j.task → late ≡ noted_of run.walk.late j.task → late ≡ late_quanta j held 1 (slots_in rows j.task)
  walked_late held late of_held is =
      is ∙ (let a = walked_at in a.late)
      ∙ ap₂ (λ held rows. late_quanta j held 1 (slots_in rows j.task)) (sym (walked_delays held of_held)) (take_all (length rows) rows (omega arith))

  -- its clock
  pub delays_small : (held : List Held) → held ≡ noted_of run.walk.delays j.task → All IsSmall held
  delays_small held is =
      let P : List Held → Type 0 = All IsSmall in
      subst P (sym (walked_delays held is)) (all_small j (slots_in rows j.task) run.journal.events.items run.journal.now journal_can)

  pub delays_apart : (held : List Held) → held ≡ noted_of run.walk.delays j.task → stopped_below run.journal.now j.weight held ≤ run.journal.now - j.slot
  delays_apart held is =
      let can = journal_can in
      let P : List Held → Type 0 = λ held. stopped_below run.journal.now j.weight held ≤ run.journal.now - j.slot in
      subst P (sym (walked_delays held is)) (stops_within j (slots_in rows j.task) run.journal.events.items run.journal.now can.share can.rise can.joined)

  pub walked_lag : (held : List Held) (clock received : ℕ) (lag : Lag) → held ≡ noted_of run.walk.delays j.task → clock + stopped_below run.journal.now j.weight held ≡ run.journal.now - j.slot →
      received ≡ option_map_or (λ p. p.received) (value_of run.walk.progress j.task) 0 →
      lag ≡ record { task = j.task; cost = j.weight.cost; period = j.weight.period; received = received; scaled = pos (j.weight.cost * clock) -ℤ pos (j.weight.period * received) } →
      lag ≡ lag_of (run_of s (length rows)) run.journal.events.items j
  walked_lag held clock received lag of_held of_clock of_received of_lag =
      lag_counted j (slots_in rows j.task) run.journal.events.items run.journal.now held clock lag journal_can (walked_delays held of_held) of_clock
      (of_lag ∙ ap (λ received. let lag : Lag = record { task = j.task; cost = j.weight.cost; period = j.weight.period; received = received; scaled = pos (j.weight.cost * clock) -ℤ pos (j.weight.period * received) } in lag)
      (walked_received received of_received))
      (run_of s (length rows)) (known.journal.slots ∙ sym known.journal.now) (sym (ran_of_run s rows denials j.task known.of_run))

  -- its misses
  pub journal_misses : (held : List Held) → held ≡ noted_of run.walk.delays j.task → CanMiss j held run.journal.now
  journal_misses held is = can_miss j (slots_in rows j.task) run.journal.events.items run.journal.now held journal_can (walked_delays held is)

  pub walked_misses : (held : List Held) (late : List Miss) (received last : ℕ) (diary : List Numbered) (misses mid after : List Miss) → held ≡ noted_of run.walk.delays j.task → late ≡ noted_of run.walk.late j.task →
      received ≡ option_map_or (λ p. p.received) (value_of run.walk.progress j.task) 0 → diary ≡ noted_of run.journal.diaries j.task →
      ((t : ℕ) → nat_le t last ≡ (nat_le t run.journal.now && leaves_after diary j t)) → mid ≡ misses ++ filter (λ m. nat_le m.deadline last) late →
      ((ran : List ℕ) (start : List Miss) → length ran ≡ received → mid ≡ start ++ late_misses j ran held last received → after ≡ start ++ late_misses j ran held last run.journal.now) →
      after ≡ misses ++ misses_of_task (run_of s (length rows)) run.journal.events.items j
  walked_misses held late received last diary misses mid after of_held of_late of_received of_diary of_last first rest =
      let R = slots_in rows j.task in
      let long = walked_received received of_received in
      let found : filter (λ m. nat_le m.deadline last) late ≡ late_misses j R held last received =
      ap (filter (λ m. nat_le m.deadline last)) (walked_late held late of_held of_late ∙ ap (late_quanta j held 1) (sym (take_all (length R) R (omega arith))))
      ∙ late_found j R held last (length R) (omega arith) ∙ ap (late_misses j R held last) (sym long) in
      let of_now : run.journal.now ≡ length rows = known.journal.now in
      let own : leaves_after diary j ≡ leaves_after run.journal.events.items j =
      ap (λ xs. leaves_after xs j) (of_diary ∙ known.journal.diaries.each j.task) ∙ leaves_own run.journal.events.items j in
      task_noted j R run.journal.events.items (length rows) last held misses after (walked_delays held of_held)
      (λ t. of_last t ∙ ap₂ (λ n (leaves : ℕ → Bool). nat_le t n && leaves t) of_now own)
      (rest R misses (sym long) (first ∙ ap (λ ms. misses ++ ms) found) ∙ ap (λ n. misses ++ late_misses j R held last n) of_now)
      s known.journal.scenario known.journal.slots (ran_of_run s rows denials j.task known.of_run)

-- a step over the tasks inside
pub inside_at : (journal : Journal) (tasks : List Joined) (k : ℕ) (j : Joined) → tasks ≡ by_task (inside journal.settings.base journal.events.items) → k < length tasks → j ≡ get_or tasks k j →
    Contains (filter_map (join_of journal.settings.base) journal.events.items) j
inside_at journal tasks k j of_tasks within is =
    let P : Joined → Type 0 = Contains (filter_map (join_of journal.settings.base) journal.events.items) in
    subst P (sym is) (inside_known journal.settings.base journal.events.items tasks k j of_tasks within)

pub lag_step : (f : Joined → Lag) (tasks : List Joined) (k : ℕ) (j : Joined) (lag : Lag) (lags after : List Lag) → k < length tasks → j ≡ get_or tasks k j → lag ≡ f j →
    after ≡ lags ++ lag ∷ [] → lags ≡ map f (take k tasks) → after ≡ map f (take (k + 1) tasks)
lag_step f tasks k j lag lags after within is this push before =
    push ∙ ap₂ (λ xs y. xs ++ y ∷ []) before (this ∙ ap f is) ∙ sym (map_more f tasks k j within)

-- a step over the tasks that joined
pub joined_at : (journal : Journal) (tasks : List Joined) (k : ℕ) (j : Joined) → tasks ≡ filter_map (join_of journal.settings.base) journal.events.items → k < length tasks → j ≡ get_or tasks k j →
    Contains (filter_map (join_of journal.settings.base) journal.events.items) j
joined_at journal tasks k j of_tasks within is =
    let P : List Joined → Type 0 = λ js. Contains js j in
    let Q : Joined → Type 0 = Contains tasks in
    subst P of_tasks (subst Q (sym is) (Contains-get_or tasks k j within))

pub miss_step : (f : Joined → List Miss) (tasks : List Joined) (k : ℕ) (j : Joined) (misses after : List Miss) → k < length tasks → j ≡ get_or tasks k j →
    after ≡ misses ++ f j → misses ≡ flat_map f (take k tasks) → after ≡ flat_map f (take (k + 1) tasks)
miss_step f tasks k j misses after within is this before =
    this
    ∙ ap₂ (λ ms xs. ms ++ xs) before (ap f is)
    ∙ flat_map_more f [] (take k tasks) (get_or tasks k j)
    ∙ ap (flat_map f) (sym (take_more tasks k j within))

pub misses_known : (s : Plan) (n : ℕ) (journal : Journal) (known : IsJournal s n journal) (tasks : List Joined) → tasks ≡ filter_map (join_of journal.settings.base) journal.events.items →
    (misses sorted : List Miss) (k : ℕ) → misses ≡ flat_map (misses_of_task (run_of s n) journal.events.items) (take k tasks) → length tasks ≤ k →
    IsPermutation misses sorted → IsSortedBy (λ x y. is_lt (miss_cmp x y)) sorted → sorted ≡ misses_of s (run_of s n)
unfolding misses_of
misses_known s n journal known tasks of_tasks misses sorted k of_misses over same up =
    let f = misses_of_task (run_of s n) journal.events.items in
    let e : misses ≡ flat_map f tasks = of_misses ∙ ap (flat_map f) (take_all k tasks over) in
    let R : System → Type 0 = λ system. All (λ j. IsShare j.weight) (filter_map (join_of system.base) journal.events.items) in
    let S : List Joined → Type 0 = All (λ j. IsShare j.weight) in
    let shares : All (λ j. IsShare j.weight) tasks = subst S (sym of_tasks) (subst R (sym known.settings) (log_shares s.settings n journal.events.items known.log)) in
    let Q : List Joined → Type 0 = λ js. AllPairs (λ a b. a.task ≢ b.task) js in
    let differ = subst Q (sym of_tasks) (joined_differ journal.settings.base journal.events.items known.log.joins_once) in
    misses_sorted (run_of s n) journal.events.items tasks misses sorted shares differ e same up
    ∙ ap (λ js. in_miss_order (flat_map f js)) of_tasks
    ∙ ap₂ (λ (xs : List Numbered) base. in_miss_order (flat_map (misses_of_task (run_of s n) xs) (filter_map (join_of base) xs)))
    (known.events ∙ ap (events_in_force s (run_of s n)) (sym known.slots)) (ap (λ settings. settings.base) known.settings)
