-- The desk of a session: what it answered.
use Rattle.std.specs.Prelude.{ℕ, ◌≡◌, max, min, Option, Some, List}
use Rattle.std.specs.Option.{option_map}
use Rattle.pf_scenario.specs.Limits.{largest_distance}
use Rattle.pf_desk.specs.Desk.{Shown}
use Rattle.pf_desk.specs.declared.command.Command.{Command}
use Rattle.pf_plain_script.specs.Carried.{state_behind}
use Rattle.pf_replies.specs.Course.{ScriptCourse, course_at, course_behind, opening_course}
use Rattle.pf_script_desk.specs.Asked.{commands_of}
use Rattle.pf_script.specs.declared.plan.said.Said.{Said}
use Rattle.pf_script.specs.declared.plan.said.Said.TheVariants.{Settings, Slot, Name, Asks}
use Rattle.pf_script.specs.declared.record.ScriptSettings.{ScriptSettings}

-- a desk with these settings that was asked nothing yet; checkpoints lie as far apart as is told, within what a desk can do
abbrev pub course_opened : ScriptSettings → ScriptCourse
course_opened s = opening_course (max 1 (min s.every largest_distance)) s.settings

-- how far the desk of a session is after what a record said
abbrev pub held_behind : Option ScriptCourse → Said → Option ScriptCourse
held_behind held (Settings s) = Some (course_opened s)
held_behind held (Slot length) = held
held_behind held (Name task name) = held
held_behind held (Asks line label) = option_map (λ c. course_behind c (commands_of line)) held

-- a desk answered these commands, one after another
pub record HasAnswered (commands : List Command) (before after : Shown) : Type 0 where
  pub course : course_at after ≡ course_behind (course_at before) commands
  pub state : after.state ≡ state_behind before.state commands

-- a desk is where it was
pub record IsThere (before after : Shown) : Type 0 where
  pub course : course_at after ≡ course_at before
  pub state : after.state ≡ before.state
