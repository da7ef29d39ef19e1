-- A scenario with its run so far, and what a command makes of it.
use Rattle.std.specs.Prelude.{◌≡◌, ℕ, []}
use Rattle.pf_timeline.specs.Timeline.{ReachesBack, StandsFor}
use Rattle.pf_desk.specs.declared.command.Command.{Command}
use Rattle.pf_desk.specs.declared.reply.Reply.{Reply}
use Rattle.pf_desk.specs.declared.scenario_run.ScenarioRun.{ScenarioRun}
use Rattle.pf_desk.specs.Machine.{State, reply_to, state_after}
use Rattle.pf_desk.specs.Desk.{most_slots}
use Rattle.pf_desk.specs.Kept.{state_of, shown_by}

-- the kept run stands for the scenario, with near checkpoints of its last slots
pub record Stands (r : ScenarioRun) : Type 0 where
  pub run : StandsFor r.scenario r.timeline.now r.timeline
  pub near : ReachesBack r.timeline.near r.timeline.now

-- where the machine is
abbrev pub state_in : ScenarioRun → State
state_in r = state_of r.scenario r.timeline

-- how many slots a command may count: as many as on a desk of these parts
abbrev pub most_counted : ScenarioRun → Command → ℕ
most_counted r command = most_slots (shown_by r.scenario r.timeline [] 0) command

-- the command was answered as the machine does, and scenario and run are then where the machine is
pub record IsApplied (command : Command) (before : ScenarioRun) (reply : Reply) (after : ScenarioRun) : Type 0 where
  pub answer : reply ≡ reply_to (state_in before) command
  pub state : state_in after ≡ state_after (state_in before) command reply
  pub stands : Stands after
  pub every : after.timeline.every ≡ before.timeline.every
