-- A session: how far its script is, and what came of the lines so far.
use Rattle.std.specs.Prelude.{ℕ, ◌-◌, Bool, true, false, Option, None, Some, List, [], ◌++◌, codes, length}
use Rattle.std.specs.List.{slice_get}
use Rattle.pf_answers.specs.declared.manner.Manner.{Manner}
use Rattle.pf_desk.specs.Machine.{State, reply_to}
use Rattle.pf_desk.specs.declared.command.Command.TheVariants as command
use Rattle.pf_plain_script.specs.Plain.{Course, course_behind, start}
use Rattle.pf_script.specs.Plan.Labels.{with_label}
use Rattle.pf_script.specs.declared.line.Line.{Line}
use Rattle.pf_script.specs.declared.line.Line.TheVariants.{Edit, Steps}
use Rattle.pf_script.specs.declared.plan.said.Said.{Said}
use Rattle.pf_script.specs.declared.plan.said.Said.TheVariants.{Settings, Slot, Name, Asks}
use Rattle.pf_replies.specs.Course.{ScriptCourse}
use Rattle.pf_session.specs.Held.{held_behind}
use Rattle.pf_vocabulary.specs.declared.names.named.Named.{Named}
use Rattle.pf_session.specs.Made.{back_line, label_back, made_behind, made_behind_undo, number_made, reversed_behind, taking_back, undone_behind}
use Rattle.pf_session.specs.declared.made.Made.{Made}
use Rattle.pf_session_lines.specs.declared.reversal.Reversal.{Reversal}
use Rattle.pf_session_lines.specs.declared.reversal.Reversal.TheVariants.{Undo, Redo}

-- how it answers; whether no record was good so far; the course of its script, how far its desk is, after the settings, and that
-- script's text; the changes that were made and are not taken back, the last one last; those that an undo made and no redo took
-- back, likewise; and whether a line was bad
pub record SessionState : Type 0 where
  pub manner : Manner
  pub is_first : Bool
  pub course : Course
  pub held : Option ScriptCourse
  pub script : List ℕ
  pub made : List Made
  pub undone : List Made
  pub has_bad : Bool

abbrev pub at_start : Manner → SessionState
at_start manner = record {
  manner = manner;
  is_first = true;
  course = start;
  held = None;
  script = codes "plan,1\n";
  made = [];
  undone = [];
  has_bad = false;
}

-- the changes after a record
abbrev pub made_behind_line : Option State → Line → List Made → List Made
made_behind_line None line made = made
made_behind_line (Some st) (Steps count) made = made
made_behind_line (Some st) (Edit change strict) made =
    made_behind st.plan change (number_made (reply_to st (command.Edit change strict))) made

abbrev pub made_behind_said : Option State → Said → List Made → List Made
made_behind_said desk (Settings s) made = made
made_behind_said desk (Slot length) made = made
made_behind_said desk (Name task name) made = made
made_behind_said desk (Asks line label) made = made_behind_line desk line made

-- what there is to make again after a record
abbrev pub undone_behind_line : Option State → Line → List Made → List Made
undone_behind_line None line undone = undone
undone_behind_line (Some st) (Steps count) undone = undone
undone_behind_line (Some st) (Edit change strict) undone = undone_behind (number_made (reply_to st (command.Edit change strict))) undone

abbrev pub undone_behind_said : Option State → Said → List Made → List Made
undone_behind_said desk (Settings s) undone = undone
undone_behind_said desk (Slot length) undone = undone
undone_behind_said desk (Name task name) undone = undone
undone_behind_said desk (Asks line label) undone = undone_behind_line desk line undone

-- after a record that said this, whose line stands after the script
abbrev pub behind_record : SessionState → Said → List ℕ → SessionState
behind_record s said line = record {
  manner = s.manner;
  is_first = false;
  course = course_behind s.course said;
  held = held_behind s.held said;
  script = s.script ++ line;
  made = made_behind_said s.course.desk said s.made;
  undone = undone_behind_said s.course.desk said s.undone;
  has_bad = s.has_bad;
}

-- after what a record asked for, whose event was given this number
abbrev pub behind_asked : SessionState → Option (List ℕ) → ℕ → SessionState
behind_asked s label number = record s {
  is_first = false;
  course = record s.course { progress = record s.course.progress { begun = true; labels = with_label label number s.course.progress.labels } };
}

-- the last change that was made and is not taken back
abbrev pub newest_of : List Made → Option Made
newest_of made = slice_get made (length made - 1)

-- what takes a change back, under the label by which its event went
abbrev pub back_said : SessionState → Made → Said
back_said s newest = Asks (Edit (taking_back newest) false) (label_back s.course.progress.labels newest)

-- after an undo of it: its script has the record of the change that takes it back
abbrev pub behind_undo_of : SessionState → Option State → Option Made → SessionState
behind_undo_of s None newest = s
behind_undo_of s (Some st) None = s
behind_undo_of s (Some st) (Some newest) = record {
  manner = s.manner;
  is_first = s.is_first;
  course = course_behind s.course (back_said s newest);
  held = held_behind s.held (back_said s newest);
  script = s.script ++ back_line (label_back s.course.progress.labels newest) (taking_back newest);
  made = made_behind_undo newest (number_made (reply_to st (command.Edit (taking_back newest) false))) s.made;
  undone = reversed_behind st.plan newest (number_made (reply_to st (command.Edit (taking_back newest) false))) s.undone;
  has_bad = s.has_bad;
}

abbrev pub behind_undo : SessionState → SessionState
behind_undo s = behind_undo_of s s.course.desk (newest_of s.made)

-- with what can be taken back the one way and the other exchanged
abbrev pub exchanged : SessionState → SessionState
exchanged s = record s { made = s.undone; undone = s.made }

-- after a redo, which is an undo of what an undo made
abbrev pub behind_redo : SessionState → SessionState
behind_redo s = exchanged (behind_undo (exchanged s))

abbrev pub behind_reversal : Reversal → SessionState → SessionState
behind_reversal Undo s = behind_undo s
behind_reversal Redo s = behind_redo s

-- with these names of tasks
abbrev pub with_names : SessionState → List Named → SessionState
with_names s names = record s { course = record s.course { progress = record s.course.progress { names = names } } }

-- after a bad line
abbrev pub behind_bad : SessionState → SessionState
behind_bad s = record s { has_bad = true }
