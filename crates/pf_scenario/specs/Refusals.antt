-- What the faults of a change are called: their numbers and names in the table of refusals.
use Rattle.std.specs.Prelude.{ℕ, List, codes}
use Rattle.pf_scenario.specs.declared.fault.EditFault.{EditFault}
use Rattle.pf_scenario.specs.declared.fault.EditFault.TheVariants.{EventNotFound, SlotOutOfRange, TaskOutOfRange, EarlyOutOfRange, DelayOutOfRange, CountOutOfRange, BadWeight, JoinTwice, LeaveTwice, TooManyEvents, NumbersSpent}

abbrev pub edit_fault_code : EditFault → ℕ
edit_fault_code EventNotFound = 10
edit_fault_code SlotOutOfRange = 11
edit_fault_code TaskOutOfRange = 12
edit_fault_code EarlyOutOfRange = 13
edit_fault_code DelayOutOfRange = 14
edit_fault_code CountOutOfRange = 24
edit_fault_code (BadWeight fault) = 15
edit_fault_code JoinTwice = 16
edit_fault_code LeaveTwice = 17
edit_fault_code TooManyEvents = 18
edit_fault_code NumbersSpent = 19

abbrev pub edit_fault_name : EditFault → List ℕ
edit_fault_name EventNotFound = codes "EventNotFound"
edit_fault_name SlotOutOfRange = codes "SlotOutOfRange"
edit_fault_name TaskOutOfRange = codes "TaskOutOfRange"
edit_fault_name EarlyOutOfRange = codes "EarlyOutOfRange"
edit_fault_name DelayOutOfRange = codes "DelayOutOfRange"
edit_fault_name CountOutOfRange = codes "CountOutOfRange"
edit_fault_name (BadWeight fault) = codes "BadWeight"
edit_fault_name JoinTwice = codes "JoinTwice"
edit_fault_name LeaveTwice = codes "LeaveTwice"
edit_fault_name TooManyEvents = codes "TooManyEvents"
edit_fault_name NumbersSpent = codes "NumbersSpent"
