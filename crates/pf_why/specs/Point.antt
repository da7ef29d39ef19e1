-- A slot of a run, at its choice.
use Rattle.std.specs.Prelude.{ℕ}
use Rattle.pf_scenario.specs.Scenario.{Plan}
use Rattle.pf_run.specs.Computed.{run_of}
use Rattle.pf_run.specs.Inside.{count_of}
use Rattle.pf_tally.specs.Load.{load_in, room_in}
use Rattle.pf_why.specs.Ranking.{standing_in}
use Rattle.pf_why.specs.declared.point.Point.{Point}

-- slot t of a scenario's run over n slots: how many processors are in use, and what the tasks inside ask for, after its
-- events
abbrev pub point_of : Plan → ℕ → ℕ → Point
point_of s n t = record {
  slot = t;
  now = n;
  count = count_of s.settings.processors (standing_in s (run_of s n) t);
  processors = s.settings.processors;
  base = s.settings.base;
  load = load_in s (run_of s n) t;
  room = room_in s (run_of s n) t;
}
