-- What a snapshot comes to, and two snapshots side by side.
use Rattle.std.specs.Prelude.{ℕ, ℤ, Bool, ◌*ℤ◌, pos, int_lt, if◌then◌else◌, Option, None, Some, List, [], ◌∷◌, ◌++◌, codes, length, fold, sum_by}
use Rattle.std.specs.List.{slice_get}
use Rattle.std.specs.Option.{option_map, option_map_or}
use Rattle.std.specs.Fmt.{decimal, signed_decimal}
use Rattle.pf_run.specs.Computed.{run_of}
use Rattle.pf_tally.specs.declared.figures.Figures.{Figures}
use Rattle.pf_tally.specs.declared.miss.Miss.{Miss}
use Rattle.pf_tally.specs.Figures.{figures_of}
use Rattle.pf_tally.specs.Misses.{misses_of}
use Rattle.pf_desk.specs.Desk.{Seen}
use Rattle.pf_diff.specs.declared.summary.Summary.{Summary}
use Rattle.pf_diff.specs.Diff.{slot_changes, titled}

-- the figures and the misses of a snapshot
abbrev pub figures_seen : Seen → List Figures
figures_seen seen = figures_of seen.state.plan (run_of seen.state.plan seen.state.now) seen.rows

abbrev pub misses_seen : Seen → List Miss
misses_seen seen = misses_of seen.state.plan (run_of seen.state.plan seen.state.now)

-- the greatest lag of f is above that of g: both are in units of one part of a quantum in the task's period
abbrev pub is_worse : Figures → Figures → Bool
is_worse f g = int_lt (g.lag.greatest *ℤ pos f.period) (f.lag.greatest *ℤ pos g.period)

abbrev pub worse_of : Option Figures → Figures → Option Figures
worse_of None f = Some f
worse_of (Some g) f = (if is_worse f g then Some f else Some g)

-- the first whose greatest lag is the worst
abbrev pub worst_of : List Figures → Option Figures
worst_of fs = fold worse_of None fs

abbrev pub summary_of : Seen → Summary
summary_of seen = record {
  processors = seen.state.plan.settings.processors;
  base = seen.state.plan.settings.base;
  cap = seen.state.plan.settings.cap;
  slots = seen.state.now;
  tasks = length (figures_seen seen);
  denials = length seen.denials;
  misses = length (misses_seen seen);
  first_miss = slice_get (misses_seen seen) 0;
  worst = worst_of (figures_seen seen);
  preemptions = sum_by (λ f. f.preemptions) (figures_seen seen);
  migrations = sum_by (λ f. f.migrations) (figures_seen seen);
}

-- the record of a figure: before, and after
abbrev pub count_record : List ℕ → ℕ → ℕ → List (List ℕ)
count_record name before after = name ∷ decimal before ∷ decimal after ∷ []

-- the same of what there may be: empty where there is none
abbrev pub maybe_record : List ℕ → Option ℕ → Option ℕ → List (List ℕ)
maybe_record name before after = name ∷ option_map_or decimal before [] ∷ option_map_or decimal after [] ∷ []

abbrev pub lag_record : List ℕ → Option ℤ → Option ℤ → List (List ℕ)
lag_record name before after = name ∷ option_map_or signed_decimal before [] ∷ option_map_or signed_decimal after [] ∷ []

abbrev pub cells_record : ℕ → List (List ℕ)
cells_record cells = codes "cells" ∷ [] ∷ decimal cells ∷ []

abbrev pub settings_records : Summary → Summary → List (List (List ℕ))
settings_records b a =
    count_record (codes "processors") b.processors a.processors
    ∷ count_record (codes "base") b.base a.base
    ∷ count_record (codes "cap") b.cap a.cap
    ∷ count_record (codes "slots") b.slots a.slots
    ∷ []

abbrev pub count_records : Summary → Summary → List (List (List ℕ))
count_records b a =
    count_record (codes "tasks") b.tasks a.tasks
    ∷ count_record (codes "denials") b.denials a.denials
    ∷ count_record (codes "misses") b.misses a.misses
    ∷ []

abbrev pub first_miss_records : Option Miss → Option Miss → List (List (List ℕ))
first_miss_records b a =
    maybe_record (codes "first_miss_task") (option_map (λ m. m.task) b) (option_map (λ m. m.task) a)
    ∷ maybe_record (codes "first_miss_sub") (option_map (λ m. m.sub) b) (option_map (λ m. m.sub) a)
    ∷ maybe_record (codes "first_miss_deadline") (option_map (λ m. m.deadline) b) (option_map (λ m. m.deadline) a)
    ∷ []

abbrev pub worst_records : Option Figures → Option Figures → List (List (List ℕ))
worst_records b a =
    lag_record (codes "worst_lag") (option_map (λ f. f.lag.greatest) b) (option_map (λ f. f.lag.greatest) a)
    ∷ maybe_record (codes "worst_lag_period") (option_map (λ f. f.period) b) (option_map (λ f. f.period) a)
    ∷ maybe_record (codes "worst_lag_task") (option_map (λ f. f.task) b) (option_map (λ f. f.task) a)
    ∷ []

abbrev pub move_records : Summary → Summary → ℕ → List (List (List ℕ))
move_records b a cells =
    count_record (codes "preemptions") b.preemptions a.preemptions
    ∷ count_record (codes "migrations") b.migrations a.migrations
    ∷ cells_record cells
    ∷ []

abbrev pub summary_records : Summary → Summary → ℕ → List (List (List ℕ))
summary_records b a cells =
    settings_records b a ++ (count_records b a ++ (first_miss_records b.first_miss a.first_miss ++ (worst_records b.worst a.worst ++ move_records b a cells)))

-- how many cells of the schedule differ, of the slots and the processors that both have
abbrev pub cells_changed : Seen → Seen → ℕ
cells_changed before after = length (slot_changes 0 before.rows after.rows)

-- the two side by side
unfoldable pub summary_text : Seen → Seen → List ℕ
summary_text before after =
    titled (codes "summary") (codes "figure" ∷ codes "before" ∷ codes "after" ∷ [])
    (summary_records (summary_of before) (summary_of after) (cells_changed before after))
