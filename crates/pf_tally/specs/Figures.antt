-- What every simulator tells of a task: how often it ran, moved and was put off, how soon its jobs were done, how late it
-- was, and how far from its fair share.
use Rattle.std.specs.Prelude.{ℕ, zero, suc, ◌+◌, ◌-◌, ◌*◌, ◌%◌, ◌==◌, min, max, ℤ, pos, ◌-ℤ◌, Bool, false, ◌&&◌, not, if◌then◌else◌, Option, Some, None, List, [], ◌∷◌, ◌++◌, length, map, fold, find, filter_map}
use Rattle.std.specs.Int.{int_min, int_max}
use Rattle.std.specs.List.{flat_map}
use Rattle.std.specs.Option.{option_map_or}
use Rattle.pf_order.specs.declared.pick.Pick.{Pick}
use Rattle.pf_scenario.specs.Event.{slot_of, is_leave_of}
use Rattle.pf_scenario.specs.Scenario.{Plan}
use Rattle.pf_scenario.specs.declared.event.Numbered.{Numbered}
use Rattle.pf_run.specs.Record.{Slot, done}
use Rattle.pf_run.specs.Inside.{Joined, join_of}
use Rattle.pf_run.specs.Run.{events_in_force}
use Rattle.pf_tally.specs.Clock.{release_at, clock_of}
use Rattle.pf_tally.specs.Lags.{by_task}
use Rattle.pf_tally.specs.Misses.{misses_of_task}
use Rattle.pf_tally.specs.Quanta.{places_from, slots_of}
use Rattle.pf_tally.specs.declared.extremes.Extremes.{Extremes}
use Rattle.pf_tally.specs.declared.figures.Figures.{Figures}
use Rattle.pf_tally.specs.declared.miss.Miss.{Miss}

-- the processors on which the task runs, slot by slot
abbrev pub is_of : ℕ → Option Pick → Bool
is_of task place = option_map_or (λ p. p.task == task) place false

abbrev pub processors_in : List (List (Option Pick)) → ℕ → List ℕ
processors_in rows task = flat_map (λ row. places_from (is_of task) 0 row) rows

-- a quantum on another processor than the one before
abbrev pub is_moved : Option ℕ → ℕ → Bool
is_moved before processor = option_map_or (λ q. not (q == processor)) before false

-- how many of the quanta on these processors are so, after one on `before`
abbrev pub migrations_behind : Option ℕ → List ℕ → ℕ
migrations_behind before [] = 0
migrations_behind before (p ∷ ps) = (if is_moved before p then 1 else 0) + migrations_behind (Some p) ps

-- a quantum in slot t, after k others, the last of them in slot `before`, that goes on with a job after a pause
abbrev pub is_resumed : ℕ → ℕ → Option ℕ → ℕ → Bool
is_resumed cost k before t = option_map_or (λ u. not (t - u == 1)) before false && not (k % cost == 0)

-- how many of the quanta in these slots are so
abbrev pub preemptions_behind : ℕ → ℕ → Option ℕ → List ℕ → ℕ
preemptions_behind cost k before [] = 0
preemptions_behind cost k before (t ∷ ts) = (if is_resumed cost k before t then 1 else 0) + preemptions_behind cost (k + 1) (Some t) ts

-- how long the job that ends with subtask i, in slot t, took from the release of its first subtask
abbrev pub response_of : (ℕ → ℕ) → ℕ → ℕ → ℕ → ℤ
response_of release cost i t = pos (t + 1) -ℤ pos (release (i + 1 - cost))

-- the responses of the jobs that end in these slots, in the first of which subtask i runs: each `cost` subtasks are a job
abbrev pub responses_from : (ℕ → ℕ) → ℕ → ℕ → List ℕ → List ℤ
responses_from release cost i [] = []
responses_from release cost i (t ∷ ts) =
    (if i % cost == 0 then response_of release cost i t ∷ [] else []) ++ responses_from release cost (i + 1) ts

-- the least and the greatest, with x among them
abbrev pub with_value : Extremes → ℤ → Extremes
with_value e x = record { least = int_min e.least x; greatest = int_max e.greatest x }

abbrev pub extended : Option Extremes → ℤ → Option Extremes
extended None x = Some (record { least = x; greatest = x })
extended (Some e) x = Some (with_value e x)

-- the least and the greatest of these, if there are any
abbrev pub extremes_of : List ℤ → Option Extremes
extremes_of xs = fold extended None xs

-- the least and the greatest of f at a, a + 1, .. a + k
abbrev pub extremes_upto : (ℕ → ℤ) → ℕ → ℕ → Extremes
extremes_upto f a zero = record { least = f a; greatest = f a }
extremes_upto f a (suc k) = with_value (extremes_upto f a k) (f (a + suc k))

-- the lag after the first t slots, in units of one part of a quantum in the task's period
abbrev pub scaled_at : List Slot → List Numbered → Joined → ℕ → ℤ
scaled_at r xs j t = pos (j.weight.cost * clock_of r xs j t) -ℤ pos (j.weight.period * done r j.task t)

-- the slot of the task's leave, or n where it didn't leave
abbrev pub last_slot : List Numbered → Joined → ℕ → ℕ
last_slot xs j n = max j.slot (option_map_or (λ x. min (slot_of x.event) n) (find (λ x. is_leave_of j.task x.event) xs) n)

-- by how many slots after the last one of its window a missed subtask ran
abbrev pub tardiness_of : Miss → ℕ
tardiness_of miss = option_map_or (λ t. t - (miss.deadline - 1)) miss.ran 0

abbrev pub greatest_tardiness : List Miss → ℕ
greatest_tardiness misses = fold (λ most miss. max most (tardiness_of miss)) 0 misses

-- the figures of a task that ran on these processors, in the record r
abbrev pub figures_of_task : List Slot → List ℕ → List Numbered → Joined → Figures
figures_of_task r processors xs j = record {
  task = j.task;
  cost = j.weight.cost;
  period = j.weight.period;
  quanta = length (slots_of r j.task);
  migrations = migrations_behind None processors;
  preemptions = preemptions_behind j.weight.cost 0 None (slots_of r j.task);
  jobs = length (responses_from (release_at r xs j) j.weight.cost 1 (slots_of r j.task));
  response = extremes_of (responses_from (release_at r xs j) j.weight.cost 1 (slots_of r j.task));
  missed = length (misses_of_task r xs j);
  tardiness = greatest_tardiness (misses_of_task r xs j);
  lag = extremes_upto (scaled_at r xs j) j.slot (last_slot xs j (length r) - j.slot);
}

-- the figures of the tasks admitted so far, by task number, after the record r of the scenario and its rows
unfoldable pub figures_of : Plan → List Slot → List (List (Option Pick)) → List Figures
figures_of s r rows =
    map (λ j. figures_of_task r (processors_in rows j.task) (events_in_force s r (length r)) j)
    (by_task (filter_map (join_of s.settings.base) (events_in_force s r (length r))))
