-- How C gets a reply: a status, and two numbers.
use Rattle.std.specs.Prelude.{ℕ}
use Rattle.pf_weight.specs.Refusals.{weight_fault_code}
use Rattle.pf_admit.specs.Refusals.{denial_code}
use Rattle.pf_scenario.specs.Refusals.{edit_fault_code}
use Rattle.pf_scenario.specs.declared.fault.EditFault.TheVariants.{BadWeight}
use Rattle.pf_desk.specs.declared.reply.Reply.{Reply}
use Rattle.pf_desk.specs.declared.reply.Reply.TheVariants.{Edited, Stepped, Refused}
use Rattle.pf_desk.specs.declared.reply.Fault.{Fault}
use Rattle.pf_desk.specs.declared.reply.Fault.TheVariants.{BadEdit, AtHorizon, WouldDeny}
use Rattle.pf_c_forms.specs.declared.raw_reply.RawReply.{RawReply}
use Rattle.pf_c_forms.specs.declared.status.TheConstants.{OK, AT_HORIZON, WOULD_DENY}

abbrev pub status_of_fault : Fault → ℕ
status_of_fault (BadEdit fault) = edit_fault_code fault
status_of_fault AtHorizon = AT_HORIZON
status_of_fault (WouldDeny id denial) = WOULD_DENY

-- the status of a reply: 0, or the number of the refusal
abbrev pub status_of : Reply → ℕ
status_of (Refused fault) = status_of_fault fault
status_of reply = OK

abbrev numbers : ℕ → ℕ → RawReply
numbers event reason = record { event = event; reason = reason }

abbrev pub told_of_fault : Fault → RawReply
told_of_fault (WouldDeny id denial) = numbers id (denial_code denial)
told_of_fault (BadEdit (BadWeight fault)) = numbers 0 (weight_fault_code fault)
told_of_fault fault = numbers 0 0

-- the event that a reply names and the reason that it has, or 0
abbrev pub told_of : Reply → RawReply
told_of (Edited id) = numbers id 0
told_of (Stepped slot row) = numbers 0 0
told_of (Refused fault) = told_of_fault fault
