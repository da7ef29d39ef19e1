-- The course of a task, by the definition.
use Rattle.std.proofs.Common.{◌≡◌, ℕ, zero, suc, ◌+◌, ◌-◌, ◌*◌, ◌<◌, ◌≤◌, Bool, true, false, ◌&&◌, nat_lt, nat_le, cond, Option, None, Some, List, [], ◌∷◌, ◌++◌, length, map, filter, filter_map, take, get_or, count_by, sum_by, refl, sym, ap, ap₂, ◌∙◌, subst, arith}
use Rattle.std.specs.Prelude.{pos, ◌-ℤ◌, not, min, is_some}
use Rattle.std.specs.List.{range_with_len, slice_get}
use Rattle.std.specs.Option.{option_map_or}
use Rattle.std.proofs.lemmas.Bool.Decides.{nat_tests}
use Rattle.std.proofs.lemmas.List.{map_more, take_all}
use Rattle.pf_weight.specs.Share.{is_heavy}
use Rattle.pf_window.specs.Window.{release_of, deadline_of, bit_of}
use Rattle.pf_window.specs.Group.{group_of}
use Rattle.pf_order.specs.declared.pick.Pick.{Pick}
use Rattle.pf_scenario.specs.Event.{slot_of}
use Rattle.pf_scenario.specs.Scenario.{Plan}
use Rattle.pf_scenario.specs.Edit.{IsScenario}
use Rattle.pf_scenario.specs.declared.event.Numbered.{Numbered}
use Rattle.pf_run.specs.Record.{Slot, done}
use Rattle.pf_run.specs.Inside.{Joined, join_of, shift_of}
use Rattle.pf_run.specs.Run.{events_in_force}
use Rattle.pf_run.specs.Computed.{run_of}
use Rattle.pf_collections.specs.Table.Lists.{noted_of}
use Rattle.pf_tally.specs.Clock.{is_stopped, clock_of, stops_behind}
use Rattle.pf_tally.specs.Figures.{processors_in, scaled_at}
use Rattle.pf_tally.specs.Held.{CanTally, next_in, held_from, stop_of}
use Rattle.pf_tally.specs.Lags.{by_task}
use Rattle.pf_tally.specs.Late.{hold_of}
use Rattle.pf_tally.specs.Ledger.{IsLedger}
use Rattle.pf_tally.specs.Misses.{ran_in, leaves_after}
use Rattle.pf_tally.specs.Own.{events_of_task}
use Rattle.pf_tally.specs.Quanta.{slots_of}
use Rattle.pf_tally.specs.declared.held.Held.{Held}
use Rattle.pf_tally.specs.declared.ledger.Ledger.{Ledger}
use Rattle.pf_tally.proofs.Chains.{all_counted}
use Rattle.pf_tally.proofs.Delays.{stops_are}
use Rattle.pf_tally.proofs.Figured.{released_is, sorted_at}
use Rattle.pf_tally.proofs.Holding.{next_is}
use Rattle.pf_tally.proofs.Ledgers.{task_ran, task_diary}
use Rattle.pf_tally.proofs.Missing.{due_same, ran_same, missed_same}
use Rattle.pf_tally.proofs.Own.{shift_own, stops_own, clock_own, find_own, leaves_own}
use Rattle.pf_tally.proofs.Places.{done_is}
use Rattle.pf_courses.specs.Built.{shift_by, quantum_with, window_by, windows_by, lag_with}
use Rattle.pf_courses.specs.Course.{Track, leave_in, end_of, quantum_of, window_of, windows_of, is_drawn, lags_upto, track_of, tracks_of}
use Rattle.pf_courses.specs.declared.window.Window.{Window}

map_agree : {X : Type 0} (f g : ℕ → X) (a k : ℕ) → ((i : ℕ) → a ≤ i → f i ≡ g i) → map f (range_with_len a k) ≡ map g (range_with_len a k)
map_agree f g a zero same = refl
map_agree f g a (suc k) same = ap₂ (λ x xs. x ∷ xs) (same a (omega arith)) (map_agree f g (a + 1) k (λ i above. same i (omega arith)))

module _ (s : Plan) (n : ℕ) (scenario : IsScenario s) (long : length (run_of s n) ≡ n) (xs : List Numbered) (j : Joined) (ran on : List ℕ) (held : List Held)
    (can : CanTally j ran xs n) (of_ran : ran ≡ slots_of (run_of s n) j.task) (of_held : held ≡ held_from (next_in ran) j j.slot xs) where
  of_next : held ≡ held_from (λ u. done (run_of s n) j.task u + 1) j j.slot xs
  of_next = of_held ∙ ap (λ next. held_from next j j.slot xs) (next_is (run_of s n) j ran (sym of_ran))

  of_last : (t : ℕ) → nat_le t (end_of xs j n) ≡ (nat_le t n && leaves_after xs j t)
  of_last t = last_is (leave_in xs j)
    where
      with_true : (b : Bool) → b ≡ (b && true)
      with_true true = refl
      with_true false = refl

      last_is : (o : Option Numbered) → nat_le t (option_map_or (λ x. min (slot_of x.event) n) o n) ≡ (nat_le t n && option_map_or (λ x. nat_le t (slot_of x.event)) o true)
      last_is None = with_true (nat_le t n)
      last_is (Some x) = both (slot_of x.event)
        where
          both : (a : ℕ) → nat_le t (min a n) ≡ (nat_le t n && nat_le t a)
          both a = grind (arith, nat_tests)

  shift_same : (i : ℕ) → shift_by j held i ≡ shift_of (run_of s n) xs j i
  unfolding shift_of
  shift_same i = ap (λ held. j.slot + sum_by (hold_of i) held) of_next ∙ ap (λ n. j.slot + n) (sym (all_counted (run_of s n) j j.slot i xs))

  -- Use: the window of a subtask by the definition.
  pub window_is : (i : ℕ) → 1 ≤ i → window_by j ran on held (end_of xs j n) i ≡ window_of (run_of s n) on xs j i
  window_is i some =
      let release = released_is j ran xs n can (run_of s n) (sym of_ran) held of_held i in
      let due = sym (due_same s n scenario long xs j ran held (end_of xs j n) of_ran of_next of_last i) in
      let group = ap (λ n. cond (is_heavy j.weight) (group_of j.weight i + n) 0) (shift_same i) in
      let late = sym (missed_same s n scenario long xs j ran held (end_of xs j n) of_ran of_next of_last i some) in
      let quantum = ap (λ o. quantum_with o (slice_get on (i - 1))) (sym (ran_same s n scenario long xs j ran held (end_of xs j n) of_ran of_next of_last i some)) in
      λ k. let w : Window = record {
        sub = i;
        release = release k;
        deadline = due k;
        bit = bit_of j.weight i;
        group = group k;
        late = late k;
        ran = quantum k;
      } in w

  windows_are : windows_by j ran on held (end_of xs j n) n ≡ windows_of (run_of s n) on xs j
  windows_are =
      ap (filter (is_drawn (end_of xs j n))) (map_agree (window_by j ran on held (end_of xs j n)) (window_of (run_of s n) on xs j) 1 n window_is)
      ∙ ap (λ n'. filter (is_drawn (end_of xs j n')) (map (window_of (run_of s n) on xs j) (range_with_len 1 n'))) (sym long)

  stops_same : map (stop_of j.weight) held ≡ stops_behind (run_of s n) j [] xs
  stops_same =
      ap (map (stop_of j.weight)) of_next
      ∙ sym (stops_are (run_of s n) j [] xs 0 j.slot can.rise (λ k d within. absurd (omega arith)) (omega arith))

  lag_is : (t : ℕ) → lag_with j ran (map (stop_of j.weight) held) t ≡ scaled_at (run_of s n) xs j t
  unfolding clock_of
  lag_is t =
      ap₂ (λ stops received. pos (j.weight.cost * count_by (λ u. not (is_stopped stops u)) (range_with_len j.slot (t - j.slot))) -ℤ pos (j.weight.period * received))
      stops_same
      (ap (count_by (λ q. nat_lt q t)) of_ran ∙ sym (done_is (run_of s n) j.task t))

  lags_are : map (lag_with j ran (map (stop_of j.weight) held)) (range_with_len j.slot (end_of xs j n + 1 - j.slot)) ≡ lags_upto (run_of s n) xs j (end_of xs j (length (run_of s n)))
  lags_are =
      map_agree (lag_with j ran (map (stop_of j.weight) held)) (scaled_at (run_of s n) xs j) j.slot (end_of xs j n + 1 - j.slot) (λ t joined. lag_is t)
      ∙ ap (λ n'. lags_upto (run_of s n) xs j (end_of xs j n')) (sym long)

  pub course_is : (track : Track) → track.task ≡ j.task → track.weight ≡ j.weight → track.joined ≡ j.slot → track.end ≡ end_of xs j n → track.left ≡ is_some (leave_in xs j) →
      track.windows ≡ windows_by j ran on held (end_of xs j n) n → track.stops ≡ map (stop_of j.weight) held →
      track.lags ≡ map (lag_with j ran (map (stop_of j.weight) held)) (range_with_len j.slot (end_of xs j n + 1 - j.slot)) → track ≡ track_of (run_of s n) on xs j
  course_is track task weight joined end left windows stops lags =
      let end' = end ∙ ap (end_of xs j) (sym long) in
      let windows' = windows ∙ windows_are in
      let stops' = stops ∙ stops_same in
      let lags' = lags ∙ lags_are in
      λ k. let t : Track = record {
        task = task k;
        weight = weight k;
        joined = joined k;
        end = end' k;
        left = left k;
        windows = windows' k;
        stops = stops' k;
        lags = lags' k;
      } in t

-- a task's own events are enough
pub track_own : (r : List Slot) (on : List ℕ) (xs : List Numbered) (j : Joined) → track_of r on (events_of_task j.task xs) j ≡ track_of r on xs j
track_own r on xs j =
    let own = events_of_task j.task xs in
    let leave : leave_in own j ≡ leave_in xs j = find_own xs j.task in
    let shift : shift_of r own j ≡ shift_of r xs j = shift_own r xs j in
    let leaves : leaves_after own j ≡ leaves_after xs j = leaves_own xs j in
    let stops : stops_behind r j [] own ≡ stops_behind r j [] xs = stops_own r j [] xs in
    let lags : scaled_at r own j ≡ scaled_at r xs j = λ k t. pos (j.weight.cost * clock_own r xs j t k) -ℤ pos (j.weight.period * done r j.task t) in
    let end : Option Numbered → ℕ = λ o. option_map_or (λ x. min (slot_of x.event) (length r)) o (length r) in
    λ k. let window : ℕ → Window = λ i. record {
      sub = i;
      release = release_of j.weight i + shift k i;
      deadline = deadline_of j.weight i + shift k i;
      bit = bit_of j.weight i;
      group = cond (is_heavy j.weight) (group_of j.weight i + shift k i) 0;
      late = nat_le (deadline_of j.weight i + shift k i) (length r) && leaves k (deadline_of j.weight i + shift k i)
          && option_map_or (λ t. nat_le (deadline_of j.weight i + shift k i) t) (ran_in r j i) true;
      ran = quantum_of r on j i;
    } in
    let t : Track = record {
      task = j.task;
      weight = j.weight;
      joined = j.slot;
      end = end (leave k);
      left = is_some (leave k);
      windows = filter (is_drawn (end (leave k))) (map window (range_with_len 1 (length r)));
      stops = stops k;
      lags = map (lags k) (range_with_len j.slot (end (leave k) + 1 - j.slot));
    } in t

-- a step over the tasks that joined, by number
module _ (s : Plan) (n : ℕ) (ledger : Ledger) (known : IsLedger s n ledger) (tasks : List Joined) (of_tasks : tasks ≡ by_task (filter_map (join_of ledger.settings.base) ledger.events.items))
    (rows : List (List (Option Pick))) where
  abbrev track : Joined → Track
  track j = track_of (run_of s n) (processors_in rows j.task) ledger.events.items j

  pub courses_step : (on : List ℕ) (k : ℕ) (j : Joined) (ran : List ℕ) (diary : List Numbered) (course : Track) (before after : List Track) →
      k < length tasks → j ≡ get_or tasks k j → ran ≡ noted_of ledger.quanta j.task → diary ≡ noted_of ledger.diaries j.task → on ≡ processors_in rows j.task →
      ((s : Plan) → IsScenario s → length (run_of s ledger.now) ≡ ledger.now → ran ≡ slots_of (run_of s ledger.now) j.task → course ≡ track_of (run_of s ledger.now) on diary j) →
      after ≡ before ++ course ∷ [] → before ≡ map (λ j. track_of (run_of s n) (processors_in rows j.task) ledger.events.items j) (take k tasks) →
      after ≡ map (λ j. track_of (run_of s n) (processors_in rows j.task) ledger.events.items j) (take (k + 1) tasks)
  courses_step on k j ran diary course before after within is of_ran of_diary of_on of_course push so_far =
      let e : ledger.now ≡ n = known.now in
      let at = sorted_at s n ledger known tasks of_tasks k j within is in
      let this : course ≡ track j =
      of_course s known.scenario (let P : ℕ → Type 0 = λ n. length (run_of s n) ≡ n in subst P (sym e) known.slots) (task_ran s n ledger known j at ran of_ran ∙ ap (λ n. slots_of (run_of s n) j.task) (sym e))
      ∙ ap₂ (λ n on. track_of (run_of s n) on diary j) e of_on
      ∙ ap (λ xs. track_of (run_of s n) (processors_in rows j.task) xs j) (task_diary s n ledger known j at diary of_diary)
      ∙ track_own (run_of s n) (processors_in rows j.task) ledger.events.items j in
      push ∙ ap₂ (λ xs y. xs ++ y ∷ []) so_far (this ∙ ap track is) ∙ sym (map_more track tasks k j within)

  pub courses_all : (courses : List Track) (k : ℕ) → length tasks ≤ k →
      courses ≡ map (λ j. track_of (run_of s n) (processors_in rows j.task) ledger.events.items j) (take k tasks) → courses ≡ tracks_of s (run_of s n) rows
  unfolding tracks_of
  courses_all courses k over so_far =
      let f : List Numbered → Joined → Track = λ xs j. track_of (run_of s n) (processors_in rows j.task) xs j in
      so_far
      ∙ ap (map (f ledger.events.items)) (take_all k tasks over ∙ of_tasks)
      ∙ ap₂ (λ (xs : List Numbered) base. map (f xs) (by_task (filter_map (join_of base) xs))) (known.events ∙ ap (events_in_force s (run_of s n)) (sym known.slots)) (ap (λ settings. settings.base) known.settings)
