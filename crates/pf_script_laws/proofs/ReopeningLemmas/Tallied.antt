-- The lags and the misses of renumbered events.
use Rattle.std.proofs.Common.{◌≡◌, ℕ, ◌+◌, ◌-◌, ◌*◌, ◌&&◌, ◌==◌, nat_le, not, pos, ◌-ℤ◌, true, List, [], ◌∷◌, ◌++◌, length, map, filter, count_by, refl, sym, ap, ap₂, ◌∙◌}
use Rattle.std.proofs.lemmas.List.{length-map, map-append}
use Rattle.std.specs.Prelude.{if◌then◌else◌, find, filter_map, Option, None, Some}
use Rattle.std.specs.List.{list_any, flat_map, range_with_len}
use Rattle.std.specs.Option.{option_map, option_map_or}
use Rattle.pf_window.specs.Window.{release_of, deadline_of}
use Rattle.pf_scenario.specs.Event.{slot_of, is_leave_of}
use Rattle.pf_scenario.specs.Scenario.{Plan}
use Rattle.pf_scenario.specs.Edit.{IsScenario}
use Rattle.pf_scenario.specs.declared.event.Event.{Event}
use Rattle.pf_scenario.specs.declared.event.Event.TheVariants.{Join, Leave, Delay, Limit}
use Rattle.pf_scenario.specs.declared.event.Numbered.{Numbered}
use Rattle.pf_scenario.proofs.Lists.{Pairs}
use Rattle.pf_run.specs.Record.{Slot}
use Rattle.pf_run.specs.Inside.{Joined, join_of, inside}
use Rattle.pf_run.specs.Run.{events_in_force}
use Rattle.pf_run.specs.Computed.{run_of}
use Rattle.pf_run.proofs.Counting.{find-map}
use Rattle.pf_tally.specs.Clock.{next_at, release_at, stop_by, stops_behind, is_stopped, clock_of}
use Rattle.pf_tally.specs.Lags.{by_task, lag_of, lags_of}
use Rattle.pf_tally.specs.Misses.{due_of, ran_in, leaves_after, is_missed, miss_of, misses_of_task, in_miss_order, misses_of}
use Rattle.pf_tally.specs.declared.lag.Lag.{Lag}
use Rattle.pf_tally.specs.declared.miss.Miss.{Miss}
use Rattle.pf_script_laws.specs.Reopening.Renumbered.{renumber}
use Rattle.pf_script_laws.proofs.ReopeningLemmas.Maps.{position-map}
use Rattle.pf_script_laws.proofs.ReopeningLemmas.Renumbering.{RiseUnder, slot_under, plan_under, run_kept, done_kept, all_done_kept, shift_kept, inside_kept, joined_kept}
use Rattle.pf_script_laws.proofs.ReopeningLemmas.Rows.{in_force_kept}

module _ (f : ℕ → ℕ) where
  -- the clock of a task
  release_kept : (r : List Slot) (xs : List Numbered) (j : Joined) (u : ℕ)
      → release_at (map (slot_under f) r) (map (renumber f) xs) j (next_at (map (slot_under f) r) j u) ≡ release_at r xs j (next_at r j u)
  release_kept r xs j u =
      ap (release_at (map (slot_under f) r) (map (renumber f) xs) j) (ap (λ n. n + 1) (done_kept f r j.task u))
      ∙ ap (λ n. release_of j.weight (next_at r j u) + n) (shift_kept f r xs j (next_at r j u))

  stop_kept : (r : List Slot) (before : List Numbered) (j : Joined) (event : Event)
      → stop_by (map (slot_under f) r) (map (renumber f) before) j event ≡ stop_by r before j event
  stop_kept r before j (Join slot task cost period early) = refl
  stop_kept r before j (Leave slot task) = refl
  stop_kept r before j (Delay slot task by) =
      ap (λ n. if task == j.task then record { start = n; end = n + by } ∷ [] else []) (release_kept r before j slot)
  stop_kept r before j (Limit slot count) = refl

  stops_kept : (r : List Slot) (j : Joined) (before xs : List Numbered)
      → stops_behind (map (slot_under f) r) j (map (renumber f) before) (map (renumber f) xs) ≡ stops_behind r j before xs
  stops_kept r j before [] = refl
  stops_kept r j before (x ∷ xs) =
      ap₂ (λ stops more. stops ++ more) (stop_kept r before j x.event)
      (ap (λ ys. stops_behind (map (slot_under f) r) j ys (map (renumber f) xs)) (sym (map-append (renumber f) before (x ∷ [])))
      ∙ stops_kept r j (before ++ x ∷ []) xs)

  clock_kept : (r : List Slot) (xs : List Numbered) (j : Joined) (n : ℕ) → clock_of (map (slot_under f) r) (map (renumber f) xs) j n ≡ clock_of r xs j n
  unfolding clock_of
  clock_kept r xs j n = ap (λ stops. count_by (λ t. not (is_stopped stops t)) (range_with_len j.slot (n - j.slot))) (stops_kept r j [] xs)

  -- the lag of a task
  lag_kept : (r : List Slot) (xs : List Numbered) (j : Joined) → lag_of (map (slot_under f) r) (map (renumber f) xs) j ≡ lag_of r xs j
  lag_kept r xs j =
      let q = map (slot_under f) r in
      let received = all_done_kept f r j.task in
      let clock = ap (clock_of q (map (renumber f) xs) j) (length-map r (slot_under f)) ∙ clock_kept r xs j (length r) in
      λ k. record {
        task = j.task;
        cost = j.weight.cost;
        period = j.weight.period;
        received = received k;
        scaled = pos (j.weight.cost * clock k) -ℤ pos (j.weight.period * received k);
      }

  pub lags_kept : (base : ℕ) (r : List Slot) (xs : List Numbered)
      → map (lag_of (map (slot_under f) r) (map (renumber f) xs)) (by_task (inside base (map (renumber f) xs))) ≡ map (lag_of r xs) (by_task (inside base xs))
  lags_kept base r xs =
      ap₂ (λ (h : Joined → Lag) js. map h (by_task js)) (λ k j. lag_kept r xs j k) (inside_kept f base xs)

  -- the misses of a task
  due_kept : (r : List Slot) (xs : List Numbered) (j : Joined) (i : ℕ) → due_of (map (slot_under f) r) (map (renumber f) xs) j i ≡ due_of r xs j i
  due_kept r xs j i = ap (λ n. deadline_of j.weight i + n) (shift_kept f r xs j i)

  ran_kept : (r : List Slot) (j : Joined) (i : ℕ) → ran_in (map (slot_under f) r) j i ≡ ran_in r j i
  ran_kept r j i = position-map (λ slot. list_any (λ p. p.task == j.task && p.sub == i) slot.picks) (slot_under f) r

  option_kept : (t : ℕ) (o : Option Numbered)
      → option_map_or (λ x. nat_le t (slot_of x.event)) (option_map (renumber f) o) true ≡ option_map_or (λ x. nat_le t (slot_of x.event)) o true
  option_kept t None = refl
  option_kept t (Some x) = refl

  leave_kept : (xs : List Numbered) (j : Joined) (t : ℕ) → leaves_after (map (renumber f) xs) j t ≡ leaves_after xs j t
  leave_kept xs j t =
      ap (λ o. option_map_or (λ x. nat_le t (slot_of x.event)) o true) (find-map (λ x. is_leave_of j.task x.event) (renumber f) xs)
      ∙ option_kept t (find (λ x. is_leave_of j.task x.event) xs)

  missed_kept : (r : List Slot) (xs : List Numbered) (j : Joined) (i : ℕ) → is_missed (map (slot_under f) r) (map (renumber f) xs) j i ≡ is_missed r xs j i
  missed_kept r xs j i =
      let due = due_kept r xs j i in
      λ k. nat_le (due k) (length-map r (slot_under f) k)
      && (ap (leaves_after (map (renumber f) xs) j) due ∙ leave_kept xs j (due_of r xs j i)) k
      && option_map_or (λ t. nat_le (due k) t) (ran_kept r j i k) true

  miss_kept : (r : List Slot) (xs : List Numbered) (j : Joined) (i : ℕ) → miss_of (map (slot_under f) r) (map (renumber f) xs) j i ≡ miss_of r xs j i
  miss_kept r xs j i = λ k. record { task = j.task; sub = i; deadline = due_kept r xs j i k; ran = ran_kept r j i k }

  task_kept : (r : List Slot) (xs : List Numbered) (j : Joined) → misses_of_task (map (slot_under f) r) (map (renumber f) xs) j ≡ misses_of_task r xs j
  task_kept r xs j =
      λ k. map (λ i. miss_kept r xs j i k) (filter (λ i. missed_kept r xs j i k) (range_with_len 1 (length-map r (slot_under f) k)))

  pub misses_kept : (base : ℕ) (r : List Slot) (xs : List Numbered)
      → in_miss_order (flat_map (misses_of_task (map (slot_under f) r) (map (renumber f) xs)) (filter_map (join_of base) (map (renumber f) xs)))
      ≡ in_miss_order (flat_map (misses_of_task r xs) (filter_map (join_of base) xs))
  misses_kept base r xs =
      ap₂ (λ (h : Joined → List Miss) js. in_miss_order (flat_map h js)) (λ k j. task_kept r xs j k) (joined_kept f base xs)

module _ (f : ℕ → ℕ) (s : Plan) (next : ℕ) (of_s : IsScenario s) (of_new : IsScenario (plan_under f s next)) (rise : Pairs (RiseUnder f) s.events) (n : ℕ) where
  abbrev r : List Slot
  r = run_of s n

  abbrev xs : List Numbered
  xs = events_in_force s r (length r)

  pub lags_of_kept : lags_of (plan_under f s next) (run_of (plan_under f s next) n) ≡ lags_of s r
  unfolding lags_of
  lags_of_kept =
      ap (lags_of (plan_under f s next)) (run_kept f s next n rise)
      ∙ ap (λ ys. map (lag_of (map (slot_under f) r) ys) (by_task (inside s.settings.base ys))) (in_force_kept f s next of_s of_new rise n)
      ∙ lags_kept f s.settings.base r xs

  pub misses_of_kept : misses_of (plan_under f s next) (run_of (plan_under f s next) n) ≡ misses_of s r
  unfolding misses_of
  misses_of_kept =
      ap (misses_of (plan_under f s next)) (run_kept f s next n rise)
      ∙ ap (λ ys. in_miss_order (flat_map (misses_of_task (map (slot_under f) r) ys) (filter_map (join_of s.settings.base) ys)))
      (in_force_kept f s next of_s of_new rise n)
      ∙ misses_kept f s.settings.base r xs
