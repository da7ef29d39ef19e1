-- What a session answers to records, and to `undo` and `redo`.
use Rattle.std.specs.Prelude.{ℕ, Bool, false, replicate, Option, None, Some, List, [], ◌++◌, codes}
use Rattle.std.specs.List.{flat_map}
use Rattle.pf_answers.specs.Changes.{counts_of, made_text}
use Rattle.pf_answers.specs.Refused.{refused_text}
use Rattle.pf_answers.specs.SlotsChanged.{slots_changed}
use Rattle.pf_answers.specs.Steps.{refused_of, replies_from, step_text, steps_end, steps_front}
use Rattle.pf_answers.specs.Telling.{ready_text, taken_text, told_text}
use Rattle.pf_answers.specs.declared.manner.Manner.{Manner}
use Rattle.pf_desk.specs.Machine.{State, reply_to}
use Rattle.pf_desk.specs.declared.command.Command.TheVariants as command
use Rattle.pf_desk.specs.declared.reply.Reply.{Reply}
use Rattle.pf_desk.specs.declared.reply.Reply.TheVariants.{Edited, Stepped, Refused}
use Rattle.pf_vocabulary.specs.declared.names.named.Named.{Named}
use Rattle.pf_notes.specs.Refusal.{refusal_text}
use Rattle.pf_plain_script.specs.Plain.{Course}
use Rattle.pf_script_results.specs.Recount.{name_of_change}
use Rattle.pf_scenario.specs.Scenario.{plan_after}
use Rattle.pf_scenario.specs.declared.change.Change.{Change}
use Rattle.pf_script.specs.declared.line.Line.{Line}
use Rattle.pf_script.specs.declared.line.Line.TheVariants.{Edit, Steps}
use Rattle.pf_script.specs.declared.plan.said.Said.{Said}
use Rattle.pf_script.specs.declared.plan.said.Said.TheVariants.{Settings, Slot, Name, Asks}
use Rattle.pf_session.specs.Made.{taking_back}
use Rattle.pf_session.specs.declared.made.Made.{Made}
use Rattle.pf_session.specs.Session.{SessionState, exchanged, newest_of}
use Rattle.pf_session_lines.specs.declared.reversal.Reversal.{Reversal}
use Rattle.pf_session_lines.specs.declared.reversal.Reversal.TheVariants.{Undo, Redo}

-- to a change in a state, which the desk machine answers so
abbrev pub reply_answer : Manner → List Named → State → Change → Reply → List ℕ
reply_answer m names st change (Edited id) =
    made_text m id (slots_changed st change) (counts_of st) (counts_of (record st { plan = plan_after st.plan change }))
reply_answer m names st change (Refused fault) =
    refused_text m fault (refusal_text (name_of_change names change) st.plan change fault)
reply_answer m names st change (Stepped slot row) = []

abbrev pub edit_answer : Manner → List Named → State → Change → Bool → List ℕ
edit_answer m names st change strict = reply_answer m names st change (reply_to st (command.Edit change strict))

-- to so many steps
abbrev pub steps_answer : Manner → State → ℕ → List ℕ
steps_answer m st count =
    steps_front m.json st.plan.settings.horizon (refused_of st count) count
    ++ (flat_map (step_text m.json st.now) (replies_from st (replicate count command.Step))
    ++ steps_end m st.now st.plan.settings.horizon (refused_of st count) count)

abbrev pub line_answer : Manner → List Named → State → Line → List ℕ
line_answer m names st (Edit change strict) = edit_answer m names st change strict
line_answer m names st (Steps count) = steps_answer m st count

-- to a record after the settings, where there is a desk
abbrev pub asks_answer : Manner → List Named → Option State → Line → List ℕ
asks_answer m names None line = []
asks_answer m names (Some st) line = line_answer m names st line

-- to a record
abbrev pub said_answer : Manner → Course → Said → List ℕ
said_answer m c (Settings s) = ready_text m.json
said_answer m c (Slot length) = taken_text m.json
said_answer m c (Name task name) = taken_text m.json
said_answer m c (Asks line label) = asks_answer m c.progress.names c.desk line

-- where this change is taken back, or these words where there is none
abbrev pub back_answer : List ℕ → Manner → List Named → Option State → Option Made → List ℕ
back_answer nothing m names None newest = told_text m.json nothing
back_answer nothing m names (Some st) None = told_text m.json nothing
back_answer nothing m names (Some st) (Some newest) = edit_answer m names st (taking_back newest) false

abbrev pub undo_answer : List ℕ → SessionState → List ℕ
undo_answer nothing s = back_answer nothing s.manner s.course.progress.names s.course.desk (newest_of s.made)

-- to `undo` or `redo`
abbrev pub reversal_answer : Reversal → SessionState → List ℕ
reversal_answer Undo s = undo_answer (codes "nothing to undo") s
reversal_answer Redo s = undo_answer (codes "nothing to redo") (exchanged s)
