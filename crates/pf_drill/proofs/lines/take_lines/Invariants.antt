use Rattle.std.proofs.Common.{◌≡◌, ◌++◌, length}
use Rattle.pf_script_desk.specs.Asked.{commands_in}
use Rattle.pf_drill.specs.Rounds.{IsInStep, commands_given}
use Rattle.pf_drill.proofs.lines.take_lines.Given as goal

-- the commands given and those of the lines left are those of all lines, which end as those left do
abbrev pub invariant-records : goal.invariant-records
invariant-records g l = record {
  step : IsInStep g.N.Naming.board.id g.N.Naming.board.terms l.planner;
  commands : commands_given l.planner ++ commands_in l.lines.lines ≡ commands_given l.fn.planner ++ commands_in l.fn.lines.lines;
  fault : l.lines.fault ≡ l.fn.lines.fault;
}

abbrev pub decreases-records : goal.decreases-records
decreases-records g l = length l.lines.lines
