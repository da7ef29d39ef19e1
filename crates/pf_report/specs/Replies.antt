-- The line that a reply gets.
use Rattle.std.specs.Prelude.{⊤, ℕ, ◌≤◌, Bool, true, false, Option, None, Some, List, [], ◌∷◌, ◌++◌, codes, length}
use Rattle.std.specs.List.{flat_map}
use Rattle.std.specs.Fmt.{decimal}
use Rattle.pf_weight.specs.Refusals.{weight_fault_code}
use Rattle.pf_order.specs.declared.pick.Pick.{Pick}
use Rattle.pf_admit.specs.Refusals.{denial_code, denial_name}
use Rattle.pf_scenario.specs.Refusals.{edit_fault_code, edit_fault_name}
use Rattle.pf_scenario.specs.declared.fault.EditFault.{EditFault}
use Rattle.pf_scenario.specs.declared.fault.EditFault.TheVariants.{BadWeight}
use Rattle.pf_desk.specs.declared.reply.Fault.{Fault}
use Rattle.pf_desk.specs.declared.reply.Fault.TheVariants.{BadEdit, AtHorizon, WouldDeny}
use Rattle.pf_desk.specs.declared.reply.Reply.{Reply}
use Rattle.pf_desk.specs.declared.reply.Reply.TheVariants.{Edited, Stepped, Refused}
use Rattle.pf_report.specs.Tables.{pick_text}

-- what ends each line
abbrev pub line_end : List ℕ
line_end = 10 ∷ []

-- a space and who sits on a processor, `-` where it is idle
abbrev pub place_text : Option Pick → List ℕ
place_text None = codes " -"
place_text (Some pick) = codes " " ++ pick_text pick

-- the number that a weight's fault adds
abbrev pub weight_text : EditFault → List ℕ
weight_text (BadWeight fault) = codes " " ++ decimal (weight_fault_code fault)
weight_text fault = []

-- the number and the name of a change's fault
abbrev pub edit_fault_text : EditFault → List ℕ
edit_fault_text fault = decimal (edit_fault_code fault) ++ codes " " ++ edit_fault_name fault ++ weight_text fault

-- why a command was refused
abbrev pub fault_text : Fault → List ℕ
fault_text (BadEdit fault) = edit_fault_text fault
fault_text AtHorizon = codes "30 AtHorizon"
fault_text (WouldDeny id denial) =
    codes "31 WouldDeny " ++ decimal id ++ codes " " ++ decimal (denial_code denial) ++ codes " " ++ denial_name denial

-- `event` and its number, `slot` and the row of that slot, or `refused` and why
abbrev pub reply_text : Reply → List ℕ
reply_text (Edited id) = codes "event " ++ decimal id
reply_text (Stepped slot row) = codes "slot " ++ decimal slot ++ codes ":" ++ flat_map place_text row
reply_text (Refused fault) = codes "refused " ++ fault_text fault

unfoldable pub reply_line : Reply → List ℕ
reply_line reply = reply_text reply ++ line_end

-- whether the reply refuses its command
abbrev pub is_refusal : Reply → Bool
is_refusal (Refused fault) = true
is_refusal reply = false

-- a row in the reply has at most 64 places
abbrev pub HasFewPlaces : Reply → Type 0
HasFewPlaces (Stepped slot row) = length row ≤ 64
HasFewPlaces reply = ⊤
