-- What a run tells of an admitted task: the slots in which it ran, what its delays held back, the slot of its leave, or the
-- number of slots where it did not leave, and that number.
use Rattle.std.specs.Prelude.{ℕ, List}
use Rattle.pf_scenario.specs.declared.event.Numbered.{Numbered}
use Rattle.pf_vocabulary.specs.declared.names.titles.Titles.{Titles}
use Rattle.pf_run.specs.Inside.{Joined}
use Rattle.pf_tally.specs.Held.{next_in, held_from}
use Rattle.pf_tally.specs.Figures.{last_slot}
use Rattle.pf_tally.specs.declared.held.Held.{Held}

pub record Ran : Type 0 where
  pub task : Joined
  pub slots : List ℕ
  pub held : List Held
  pub end : ℕ
  pub slot_count : ℕ

-- that of a task which ran in these slots, after n slots in which the events xs were in force
abbrev pub ran_by : Joined → List ℕ → List Numbered → ℕ → Ran
ran_by j slots xs n = record {
  task = j;
  slots = slots;
  held = held_from (next_in slots) j j.slot xs;
  end = last_slot xs j n;
  slot_count = n;
}

-- and what the script calls the task
pub record NamedRan : Type 0 where
  pub ran : Ran
  pub titles : Titles
