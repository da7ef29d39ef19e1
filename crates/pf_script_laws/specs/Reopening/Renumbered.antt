-- Scenarios that differ in the numbers of their events alone, and their runs.
use Rattle.std.specs.Prelude.{◌≡◌, ℕ, ◌+◌, nat_lt, List, map, count_by}
use Rattle.pf_scenario.specs.Scenario.{Plan, with_number}
use Rattle.pf_scenario.specs.Edit.{IsScenario}
use Rattle.pf_scenario.specs.declared.event.Numbered.{Numbered}
use Rattle.pf_run.specs.Computed.{run_of}
use Rattle.pf_run.specs.RunRows.{rows_in, denials_in}
use Rattle.pf_run.specs.declared.denied.Denied.{Denied}
use Rattle.pf_tally.specs.Lags.{lags_of}
use Rattle.pf_tally.specs.Misses.{misses_of}
use Rattle.pf_script_laws.specs.Reopening.Taken.{renumbered}

-- an event under its new number, and a denial of it
abbrev pub renumber : (ℕ → ℕ) → Numbered → Numbered
renumber f x = with_number (f x.id) x.event

abbrev pub denied_under : (ℕ → ℕ) → Denied → Denied
denied_under f d = record d { id = f d.id }

-- the scenario q is s with its events under new numbers
pub record IsRenumbered (f : ℕ → ℕ) (s q : Plan) : Type 0 where
  pub settings : q.settings ≡ s.settings
  pub events : q.events ≡ map (renumber f) s.events

-- the run of q over n slots is that of s, with its denials under new numbers, and so are the lags and the misses
pub record HasSameRun (f : ℕ → ℕ) (n : ℕ) (s q : Plan) : Type 0 where
  pub rows : rows_in q n ≡ rows_in s n
  pub denials : denials_in q n ≡ map (denied_under f) (denials_in s n)
  pub lags : lags_of q (run_of q n) ≡ lags_of s (run_of s n)
  pub misses : misses_of q (run_of q n) ≡ misses_of s (run_of s n)

-- Numbers change no run: of two scenarios that differ in the numbers of their events alone, the runs do in the numbers
-- of their denials alone. In either the numbers rise, so what counts is their order.
abbrev pub NumbersChangeNoRun : Type 0
NumbersChangeNoRun = (f : ℕ → ℕ) (n : ℕ) (s q : Plan) → IsScenario s → IsScenario q → IsRenumbered f s q → HasSameRun f n s q

-- the number of an event where all are numbered from 1 on: one more than there are lower numbers
abbrev pub new_number : List Numbered → ℕ → ℕ
new_number events id = count_by (λ x. nat_lt x.id id) events + 1

-- a scenario with its events numbered from 1 on is one, and differs in their numbers alone
pub record IsNumberedAnew (s : Plan) : Type 0 where
  pub scenario : IsScenario (renumbered s)
  pub events : IsRenumbered (new_number s.events) s (renumbered s)

abbrev pub EventsAreNumberedAnew : Type 0
EventsAreNumberedAnew = (s : Plan) → IsScenario s → IsNumberedAnew s
