-- What the numbers tell that C gets: their names, and what they say.
use Rattle.std.specs.Prelude.{ℕ, ◌≡◌, ◌⊎◌, List, codes}
use Rattle.pf_weight.specs.declared.fault.WeightFault.{WeightFault}
use Rattle.pf_weight.specs.declared.fault.WeightFault.TheVariants.{ZeroCost, CostAbovePeriod, PeriodNotInBase}
use Rattle.pf_weight.specs.Refusals.{weight_fault_code, weight_fault_name}
use Rattle.pf_admit.specs.declared.denial.Denial.{Denial as Denied}
use Rattle.pf_admit.specs.declared.denial.Denial.TheVariants.{OverCapacity, NotInside, TooEarly, Released}
use Rattle.pf_admit.specs.Refusals.{denial_code, denial_name}
use Rattle.pf_scenario.specs.declared.fault.EditFault.{EditFault}
use Rattle.pf_scenario.specs.declared.fault.EditFault.TheVariants.{EventNotFound, SlotOutOfRange, TaskOutOfRange, EarlyOutOfRange, DelayOutOfRange, CountOutOfRange, BadWeight, JoinTwice, LeaveTwice, TooManyEvents, NumbersSpent}
use Rattle.pf_scenario.specs.Refusals.{edit_fault_code, edit_fault_name}
use Rattle.pf_c_api.specs.declared.notice.Notice.{Notice}
use Rattle.pf_c_api.specs.declared.notice.Notice.TheVariants.{Ok, Weight, Change, Denial, AtHorizon, WouldDeny, BadSettings, NotOpen, AlreadyOpen, NoMemory, UnknownKind, OutOfRange, TooShort, BadRecord, Busy, Pending, Nothing, NotYet, NoPlace}
use Rattle.pf_c_forms.specs.declared.status.TheConstants.{OK, AT_HORIZON, WOULD_DENY, BAD_SETTINGS, NOT_OPEN, ALREADY_OPEN, NO_MEMORY, UNKNOWN_KIND, OUT_OF_RANGE, TOO_SHORT, BAD_RECORD, BUSY, PENDING, NOTHING, NOT_YET, NO_PLACE}
use Rattle.pf_c_api.specs.Told.{FillsRoom}

abbrev pub number_of : Notice → ℕ
number_of Ok = OK
number_of (Weight fault) = weight_fault_code fault
number_of (Change fault) = edit_fault_code fault
number_of (Denial denial) = denial_code denial
number_of AtHorizon = AT_HORIZON
number_of WouldDeny = WOULD_DENY
number_of BadSettings = BAD_SETTINGS
number_of NotOpen = NOT_OPEN
number_of AlreadyOpen = ALREADY_OPEN
number_of NoMemory = NO_MEMORY
number_of UnknownKind = UNKNOWN_KIND
number_of OutOfRange = OUT_OF_RANGE
number_of TooShort = TOO_SHORT
number_of BadRecord = BAD_RECORD
number_of Busy = BUSY
number_of Pending = PENDING
number_of Nothing = NOTHING
number_of NotYet = NOT_YET
number_of NoPlace = NO_PLACE

abbrev pub name_of : Notice → List ℕ
name_of Ok = codes "Ok"
name_of (Weight fault) = weight_fault_name fault
name_of (Change fault) = edit_fault_name fault
name_of (Denial denial) = denial_name denial
name_of AtHorizon = codes "AtHorizon"
name_of WouldDeny = codes "WouldDeny"
name_of BadSettings = codes "BadSettings"
name_of NotOpen = codes "NotOpen"
name_of AlreadyOpen = codes "AlreadyOpen"
name_of NoMemory = codes "NoMemory"
name_of UnknownKind = codes "UnknownKind"
name_of OutOfRange = codes "OutOfRange"
name_of TooShort = codes "TooShort"
name_of BadRecord = codes "BadRecord"
name_of Busy = codes "Busy"
name_of Pending = codes "Pending"
name_of Nothing = codes "Nothing"
name_of NotYet = codes "NotYet"
name_of NoPlace = codes "NoPlace"

abbrev pub weight_sentence : WeightFault → List ℕ
weight_sentence ZeroCost = codes "the cost is 0"
weight_sentence CostAbovePeriod = codes "the cost is above the period"
weight_sentence PeriodNotInBase = codes "the period does not divide the base"

abbrev pub change_sentence : EditFault → List ℕ
change_sentence EventNotFound = codes "no event has this number"
change_sentence SlotOutOfRange = codes "the slot is not below the horizon"
change_sentence TaskOutOfRange = codes "the task is not 1 to 4095"
change_sentence EarlyOutOfRange = codes "early is above 1048576"
change_sentence DelayOutOfRange = codes "the delay is not 1 to 1048576"
change_sentence CountOutOfRange = codes "the count is not 1 to the number of processors"
change_sentence (BadWeight fault) = codes "the cost and the period are no weight"
change_sentence JoinTwice = codes "another event joins the task"
change_sentence LeaveTwice = codes "another event leaves the task"
change_sentence TooManyEvents = codes "65535 events are held"
change_sentence NumbersSpent = codes "all event numbers are spent"

abbrev pub denial_sentence : Denied → List ℕ
denial_sentence OverCapacity = codes "the load would be above the cap"
denial_sentence NotInside = codes "the task is not inside"
denial_sentence TooEarly = codes "the task's last subtask does not let it go yet"
denial_sentence Released = codes "the task's next subtask is released already"

abbrev pub sentence_of : Notice → List ℕ
sentence_of Ok = codes "the call did what it says"
sentence_of (Weight fault) = weight_sentence fault
sentence_of (Change fault) = change_sentence fault
sentence_of (Denial denial) = denial_sentence denial
sentence_of AtHorizon = codes "no slot is left"
sentence_of WouldDeny = codes "an event would be denied"
sentence_of BadSettings = codes "the settings are out of their limits"
sentence_of NotOpen = codes "the handle has no desk"
sentence_of AlreadyOpen = codes "the handle has a desk already"
sentence_of NoMemory = codes "out of memory"
sentence_of UnknownKind = codes "the kind is unknown"
sentence_of OutOfRange = codes "not within the slots stepped"
sentence_of TooShort = codes "the room is too short"
sentence_of BadRecord = codes "a record is none of a script's"
sentence_of Busy = codes "another caller is at the desk"
sentence_of Pending = codes "a quantum was not taken yet"
sentence_of Nothing = codes "no quantum is there to take"
sentence_of NotYet = codes "the slot is not stepped yet"
sentence_of NoPlace = codes "each place is given"

-- the room has this text of what has the number; or nothing has it
abbrev pub TellsNotice : (Notice → List ℕ) → ℕ → ℕ → ℕ → List ℕ → List ℕ → Type 0
TellsNotice text number status count room filled =
    ((notice : Notice) × (number_of notice ≡ number) × FillsRoom (text notice) status count room filled)
    ⊎ ((status ≡ UNKNOWN_KIND) × ((notice : Notice) → number_of notice ≡ number → ⊥))
