-- Edits that were made or have a fault, in small: their events are packed, and their number is below 2^32.
use Rattle.std.specs.Prelude.{ℕ, Bool, false, ◌&&◌, ◌==◌, ◌^◌, nat_lt, Option, Some, None}
use Rattle.pf_scenario.specs.Packed.{has_packed, unpacked}
use Rattle.pf_scenario.specs.declared.change.Change.{Change}
use Rattle.pf_scenario.specs.declared.change.Change.TheVariants.{Insert, Alter, Strike}
use Rattle.pf_scenario.specs.declared.fault.EditFault.{EditFault}
use Rattle.pf_desk.specs.declared.command.Command.{Command}
use Rattle.pf_desk.specs.declared.command.Command.TheVariants.{Edit, Step}
use Rattle.pf_desk.specs.declared.reply.Fault.TheVariants.{BadEdit, AtHorizon, WouldDeny}
use Rattle.pf_desk.specs.declared.settled.Settled.{Settled}
use Rattle.pf_desk.specs.declared.settled.Answer.{Answer}
use Rattle.pf_desk.specs.declared.settled.Answer.TheVariants.{Edited as EditedAnswer, Refused as RefusedAnswer}
use Rattle.pf_desk.specs.declared.small_edit.SmallChange.{SmallChange}
use Rattle.pf_desk.specs.declared.small_edit.SmallChange.TheVariants.{Insert as SmallInsert, Alter as SmallAlter, Strike as SmallStrike}
use Rattle.pf_desk.specs.declared.small_edit.SmallEdit.{SmallEdit}

-- whether the change has a small form and concerns the event of this number
abbrev pub is_small_change : ℕ → Change → Bool
is_small_change id (Insert event) = has_packed event
is_small_change id (Alter number event) = (number == id) && has_packed event
is_small_change id (Strike number) = number == id

-- the number of the event that the change names, and 0 where it names none
abbrev pub number_named : Change → ℕ
number_named (Insert event) = 0
number_named (Alter number event) = number
number_named (Strike number) = number

-- whether the change has a small form beside this number
abbrev pub is_small_beside : ℕ → Change → Bool
is_small_beside id change = nat_lt id (2 ^ 32) && is_small_change id change

-- whether the command with this answer is an edit that was made or has a fault, and has a small form
abbrev pub is_small_answered : Command → Answer → Bool
is_small_answered Step answer = false
is_small_answered (Edit change strict) (EditedAnswer id) = is_small_beside id change
is_small_answered (Edit change strict) (RefusedAnswer (BadEdit fault)) = is_small_beside (number_named change) change
is_small_answered (Edit change strict) (RefusedAnswer AtHorizon) = false
is_small_answered (Edit change strict) (RefusedAnswer (WouldDeny id denial)) = false

abbrev pub is_small : Settled → Bool
is_small settled = is_small_answered settled.command settled.answer

-- the change that the small one stands for, where it concerns the event of this number
abbrev pub change_of : ℕ → SmallChange → Change
change_of id (SmallInsert event) = Insert (unpacked event)
change_of id (SmallAlter event) = Alter id (unpacked event)
change_of id SmallStrike = Strike id

-- what an edit of the event of this number was answered, by the fault that it has
abbrev pub answer_by : ℕ → Option EditFault → Answer
answer_by id None = EditedAnswer id
answer_by id (Some fault) = RefusedAnswer (BadEdit fault)

-- the command with its answer that the small edit stands for
abbrev pub settled_of_edit : SmallEdit → Settled
settled_of_edit small = record {
  command = Edit (change_of small.id small.change) small.strict;
  answer = answer_by small.id small.fault;
}
