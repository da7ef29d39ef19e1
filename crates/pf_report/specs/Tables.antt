-- The tables of a report.
use Rattle.std.specs.Prelude.{ℕ, ◌+◌, Option, None, Some, List, [], ◌∷◌, ◌++◌, codes, map}
use Rattle.std.specs.List.{range_with_len}
use Rattle.std.specs.Option.{option_map_or}
use Rattle.std.specs.Fmt.{decimal, signed_decimal}
use Rattle.pf_vocabulary.specs.declared.names.titles.Titles.{Titles}
use Rattle.pf_vocabulary.specs.NameColumn.Column.{name_fields, name_heading}
use Rattle.pf_text.specs.Page.{table_text}
use Rattle.pf_order.specs.declared.pick.Pick.{Pick}
use Rattle.pf_admit.specs.Refusals.{denial_code, denial_name}
use Rattle.pf_run.specs.declared.denied.Denied.{Denied}
use Rattle.pf_run.specs.Computed.{run_of}
use Rattle.pf_tally.specs.declared.lag.Lag.{Lag}
use Rattle.pf_tally.specs.declared.miss.Miss.{Miss}
use Rattle.pf_tally.specs.Lags.{lags_of}
use Rattle.pf_tally.specs.Misses.{misses_of}
use Rattle.pf_desk.specs.Desk.{Seen}

-- `task/sub`
abbrev pub pick_text : Pick → List ℕ
pick_text pick = decimal pick.task ++ codes "/" ++ decimal pick.sub

-- who sits on a processor; nothing where it is idle
abbrev pub sitter_field : Option Pick → List ℕ
sitter_field None = []
sitter_field (Some pick) = pick_text pick

-- `slot,p0,p1,..`: a column for each of m processors
abbrev pub schedule_heading : ℕ → List (List ℕ)
schedule_heading m = codes "slot" ∷ map (λ p. codes "p" ++ decimal p) (range_with_len 0 m)

-- the rows of the slots from t on, each after its slot
abbrev pub schedule_records : ℕ → List (List (Option Pick)) → List (List (List ℕ))
schedule_records t [] = []
schedule_records t (row ∷ rows) = (decimal t ∷ map sitter_field row) ∷ schedule_records (t + 1) rows

abbrev pub lag_record : Lag → List (List ℕ)
lag_record lag =
    decimal lag.task ∷ decimal lag.cost ∷ decimal lag.period ∷ decimal lag.received ∷ signed_decimal lag.scaled ∷ []

-- after it in a plan the name of its task
abbrev pub named_lag_record : Titles → Lag → List (List ℕ)
named_lag_record titles lag = lag_record lag ++ name_fields titles lag.task

-- lags, and what the script calls their tasks
pub record NamedLags : Type 0 where
  pub lags : List Lag
  pub titles : Titles

abbrev pub lags_heading : Titles → List (List ℕ)
lags_heading titles =
    (codes "task" ∷ codes "cost" ∷ codes "period" ∷ codes "received" ∷ codes "lag" ∷ []) ++ name_heading titles

-- the slot in which a missed subtask ran late is empty where it didn't run
abbrev pub miss_record : Miss → List (List ℕ)
miss_record miss = decimal miss.task ∷ decimal miss.sub ∷ decimal miss.deadline ∷ option_map_or decimal miss.ran [] ∷ []

abbrev pub denial_record : Denied → List (List ℕ)
denial_record denied =
    decimal denied.slot ∷ decimal denied.id ∷ decimal (denial_code denied.denial) ∷ denial_name denied.denial ∷ []

-- the schedule that was seen: a line for each slot below now
unfoldable pub schedule_text : Seen → List ℕ
schedule_text seen =
    table_text (schedule_heading seen.state.plan.settings.processors ∷ schedule_records 0 seen.rows)

-- a table of lags
abbrev pub lags_table : List Lag → Titles → List ℕ
lags_table lags titles = table_text (lags_heading titles ∷ map (named_lag_record titles) lags)

-- the lags, by task
unfoldable pub lags_text : Seen → Titles → List ℕ
lags_text seen titles = lags_table (lags_of seen.state.plan (run_of seen.state.plan seen.state.now)) titles

-- a table of missed windows
abbrev pub misses_table : List Miss → List ℕ
misses_table misses =
    table_text ((codes "task" ∷ codes "sub" ∷ codes "deadline" ∷ codes "ran" ∷ []) ∷ map miss_record misses)

-- the missed windows, by deadline, then by task
unfoldable pub misses_text : Seen → List ℕ
misses_text seen = misses_table (misses_of seen.state.plan (run_of seen.state.plan seen.state.now))

-- the denials, in run order
unfoldable pub denials_text : Seen → List ℕ
denials_text seen =
    table_text ((codes "slot" ∷ codes "event" ∷ codes "code" ∷ codes "reason" ∷ []) ∷ map denial_record seen.denials)
