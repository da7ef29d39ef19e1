-- The answer to a command that was refused.
use Rattle.std.specs.Prelude.{ℕ, if◌then◌else◌, List, [], ◌++◌, codes}
use Rattle.std.specs.Fmt.{decimal}
use Rattle.json.specs.Print.{quoted}
use Rattle.pf_weight.specs.Refusals.{weight_fault_code}
use Rattle.pf_admit.specs.Refusals.{denial_code}
use Rattle.pf_scenario.specs.declared.fault.EditFault.{EditFault}
use Rattle.pf_scenario.specs.declared.fault.EditFault.TheVariants.{BadWeight}
use Rattle.pf_desk.specs.declared.reply.Fault.{Fault}
use Rattle.pf_desk.specs.declared.reply.Fault.TheVariants.{BadEdit, AtHorizon, WouldDeny}
use Rattle.pf_desk.specs.declared.reply.Reply.TheVariants.{Refused}
use Rattle.pf_report.specs.Replies.{reply_line}
use Rattle.pf_run_notes.specs.Refusals.{fault_code, fault_name}
use Rattle.pf_answers.specs.Keys.{code_key, reason_key, refused_key}
use Rattle.pf_answers.specs.declared.manner.Manner.{Manner}

-- the sentence, indented
abbrev pub sentence_line : List ℕ → List ℕ
sentence_line why = codes "  " ++ (why ++ codes "\n")

-- what a strict change would leave denied
abbrev pub denied_members : Fault → List ℕ
denied_members (WouldDeny id denial) =
    codes ",\"denial\":" ++ (decimal (denial_code denial) ++ (codes ",\"event\":" ++ decimal id))
denied_members (BadEdit fault) = []
denied_members AtHorizon = []

-- what is wrong with a weight
abbrev pub weight_of : EditFault → List ℕ
weight_of (BadWeight fault) = codes ",\"weight\":" ++ decimal (weight_fault_code fault)
weight_of fault = []

abbrev pub weight_member : Fault → List ℕ
weight_member (BadEdit fault) = weight_of fault
weight_member (WouldDeny id denial) = []
weight_member AtHorizon = []

-- the object up to the name, after it, and the whole
unfoldable pub refusal_front : Fault → List ℕ
refusal_front fault =
    code_key ++ (decimal (fault_code fault) ++ (denied_members fault
    ++ (reason_key ++ (fault_name fault ++ codes "\""))))

unfoldable pub refusal_end : Fault → List ℕ → List ℕ
refusal_end fault why = weight_member fault ++ (codes ",\"why\":" ++ (quoted why ++ codes "}"))

unfoldable pub refusal_object : Fault → List ℕ → List ℕ
refusal_object fault why = refusal_front fault ++ refusal_end fault why

unfoldable pub refused_json : Fault → List ℕ → List ℕ
refused_json fault why = refused_key ++ (refusal_object fault why ++ codes "}\n")

-- a change that was refused, and why
abbrev pub refused_text : Manner → Fault → List ℕ → List ℕ
refused_text manner fault why =
    if manner.json then refused_json fault why
    else reply_line (Refused fault) ++ (if manner.quiet then [] else sentence_line why)
