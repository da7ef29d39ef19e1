-- Commands that took no slot.
use Rattle.std.specs.Prelude.{ℕ, ◌≤◌, not, List, length, count_by}
use Rattle.pf_desk.specs.declared.command.Command.TheVariants.{Step}
use Rattle.pf_desk.specs.declared.reply.Fault.TheVariants.{AtHorizon}
use Rattle.pf_desk.specs.declared.settled.Settled.{Settled}
use Rattle.pf_desk.specs.declared.settled.Answer.TheVariants.{Refused as RefusedAnswer}
use Rattle.pf_desk.specs.Small.{is_small}

-- how many of these have no small form
abbrev pub count_wide : List Settled → ℕ
count_wide settled = count_by (λ s. not (is_small s)) settled

-- such commands, each with its answer, for how many more there is room, and for how many more of those that have no
-- small form
pub record Listed : Type 0 where
  pub items : List Settled
  pub room : ℕ
  pub wide_room : ℕ

-- the list has at least the room that it had
pub record KeepsRoom (old new : Listed) : Type 0 where
  pub for_all : old.room ≤ new.room
  pub for_wide : old.wide_room ≤ new.wide_room

-- the list has room for these
pub record HasRoomFor (list : Listed) (settled : List Settled) : Type 0 where
  pub for_all : length settled ≤ list.room
  pub for_wide : count_wide settled ≤ list.wide_room

-- what stands for a command that is not there
abbrev pub nothing_settled : Settled
nothing_settled = record { command = Step; answer = RefusedAnswer AtHorizon }
