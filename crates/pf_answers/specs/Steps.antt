-- The answer to steps.
use Rattle.std.specs.Prelude.{ℕ, ◌+◌, ◌-◌, ◌==◌, ◌||◌, Bool, true, false, if◌then◌else◌, map, Option, None, Some, List, [], ◌∷◌, ◌++◌, codes}
use Rattle.std.specs.Fmt.{decimal}
use Rattle.pf_order.specs.declared.pick.Pick.{Pick}
use Rattle.pf_desk.specs.Machine.{State, reply_to, state_after}
use Rattle.pf_desk.specs.declared.command.Command.{Command}
use Rattle.pf_desk.specs.declared.reply.Fault.TheVariants.{AtHorizon}
use Rattle.pf_desk.specs.declared.reply.Reply.{Reply}
use Rattle.pf_desk.specs.declared.reply.Reply.TheVariants.{Edited, Stepped, Refused}
use Rattle.pf_notes.specs.Refusal.{horizon_text}
use Rattle.pf_report.specs.Replies.{reply_line}
use Rattle.pf_answers.specs.Refused.{refusal_object, sentence_line}
use Rattle.pf_answers.specs.declared.manner.Manner.{Manner}

-- what the desk machine answers to commands, one after another
abbrev pub replies_from : State → List Command → List Reply
replies_from st [] = []
replies_from st (command ∷ commands) =
    reply_to st command ∷ replies_from (state_after st command (reply_to st command)) commands

-- items with commas between them, the first of which is the k-th
abbrev pub comma_before : ℕ → List ℕ
comma_before k = if k == 0 then [] else codes ","

abbrev pub items_from : ℕ → List (List ℕ) → List ℕ
items_from k [] = []
items_from k (x ∷ xs) = comma_before k ++ (x ++ items_from (k + 1) xs)

-- who sits in a place of a row, or null
abbrev pub place_json : Option Pick → List ℕ
place_json None = codes "null"
place_json (Some pick) = codes "[" ++ (decimal pick.task ++ (codes "," ++ (decimal pick.sub ++ codes "]")))

abbrev pub row_json : List (Option Pick) → List ℕ
row_json row = codes "[" ++ (items_from 0 (map place_json row) ++ codes "]")

-- what a step adds, where the first one took this slot: its line, or the row of its slot among those of the slots taken
abbrev pub step_json : ℕ → Reply → List ℕ
step_json first (Stepped slot row) = comma_before (slot - first) ++ row_json row
step_json first (Refused fault) = []
step_json first (Edited id) = []

abbrev pub step_text : Bool → ℕ → Reply → List ℕ
step_text false first reply = reply_line reply
step_text true first reply = step_json first reply

-- how many of so many steps are refused: those after the horizon
abbrev pub refused_of : State → ℕ → ℕ
refused_of st count = count - (st.plan.settings.horizon - st.now)

-- before them and after them, where so many of them are refused
abbrev pub horizon_refusal : ℕ → ℕ → ℕ → List ℕ
horizon_refusal horizon refused count =
    if refused == 0 then [] else codes "\"refused\":" ++ refusal_object AtHorizon (horizon_text horizon refused count)

abbrev pub steps_front : Bool → ℕ → ℕ → ℕ → List ℕ
steps_front false horizon refused count = []
steps_front true horizon refused count =
    codes "{" ++ (horizon_refusal horizon refused count
    ++ (if refused == count then [] else comma_before refused ++ codes "\"rows\":["))

abbrev pub json_end : ℕ → ℕ → ℕ → List ℕ
json_end first refused count = (if refused == count then [] else codes "],\"slot\":" ++ decimal first) ++ codes "}\n"

abbrev pub steps_end : Manner → ℕ → ℕ → ℕ → ℕ → List ℕ
steps_end manner first horizon refused count =
    if manner.json then json_end first refused count
    else if refused == 0 || manner.quiet then []
    else sentence_line (horizon_text horizon refused count)
