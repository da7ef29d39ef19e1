-- What the first desk is set in, and what it is asked.
use Rattle.std.specs.Prelude.{ℕ, false, List, [], ◌∷◌}
use Rattle.pf_scenario.specs.System.{System, near_horizon}
use Rattle.pf_scenario.specs.declared.event.Event.TheVariants.{Join, Leave}
use Rattle.pf_scenario.specs.declared.change.Change.TheVariants.{Insert, Strike}
use Rattle.pf_desk.specs.declared.command.Command.{Command}
use Rattle.pf_desk.specs.declared.command.Command.TheVariants.{Edit, Step}

-- two processors, the base 3, a cap of six thirds on the load, and the horizon of ordinary settings
abbrev pub planned_settings : System
planned_settings = record { processors = 2; base = 3; cap = 6; horizon = near_horizon }

-- the planner's number
abbrev pub planner : ℕ
planner = 0

-- a task joins in slot 0 that asks for two quanta in each three slots
abbrev pub join_command : ℕ → Command
join_command task = Edit (Insert (Join 0 task 2 3 0)) false

-- a task leaves in a slot
abbrev pub leave_command : ℕ → ℕ → Command
leave_command slot task = Edit (Insert (Leave slot task)) false

-- three joins, three steps, and the strike of the third event
abbrev pub planned_commands : List Command
planned_commands = join_command 1 ∷ join_command 2 ∷ join_command 3 ∷ Step ∷ Step ∷ Step ∷ Edit (Strike 3) false ∷ []
