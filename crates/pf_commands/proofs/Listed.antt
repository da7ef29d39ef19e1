-- The answers to scripts of which some tasks alone are shown.
use Rattle.std.proofs.Common.{◌≡◌, ◌∙◌, ℕ, List, length, Option, None, Some, Result, Ok, Err, refl, sym, ap, subst, inl, inr}
use Rattle.std.specs.Io.KnownBytes.{Appends}
use Rattle.std.proofs.KnownBytes.{Appends-nil, Keeps-refl}
use Rattle.pf_desk.specs.Desk.{Seen, Shown, StandsForHistory}
use Rattle.pf_vocabulary.specs.Fault.Faults.{CountsWrites}
use Rattle.pf_vocabulary.specs.declared.fault.ending.Ending.{Ending}
use Rattle.pf_vocabulary.specs.declared.fault.fault.Fault.{Fault}
use Rattle.pf_vocabulary.specs.declared.fault.fault.Fault.TheVariants as why
use Rattle.pf_vocabulary.specs.declared.fault.range_fault.RangeFault.{RangeFault}
use Rattle.pf_formats.specs.TaskReport.{task_report_text}
use Rattle.pf_vocabulary.specs.declared.names.titles.Titles.{Titles}
use Rattle.pf_vocabulary.specs.Options.Formats.{range_fault}
use Rattle.pf_vocabulary.specs.declared.options.fail_on.FailOn.{FailOn}
use Rattle.pf_vocabulary.specs.declared.options.format.Format.{Format}
use Rattle.pf_script.specs.Told.{told}
use Rattle.pf_stream.specs.Faults.{fault_of_output}
use Rattle.pf_stream.specs.Written.{TookFront}
use Rattle.pf_stream.proofs.Sending.{none_written}
use Rattle.pf_stream.specs.declared.output_fault.OutputFault.{OutputFault}
use Rattle.pf_vocabulary.specs.TaskWords.Finding.{ranges_of, unnamed_in}
use Rattle.pf_vocabulary.specs.declared.task_words.task_word.TaskWord.{TaskWord}
use Rattle.pf_vocabulary.specs.declared.tasks.task_range.TaskRange.{TaskRange}
use Rattle.pf_commands.specs.Answers.{Answers}
use Rattle.pf_replies.specs.Carried.{EndsBy}
use Rattle.pf_replies.specs.Course.{ScriptCourse, course_at, outcome_told, seen_at}
use Rattle.pf_commands.specs.Meaning.{Done}
use Rattle.pf_commands.specs.Tasks.{AnswersListed, RunsTasks, tasks_meaning}
use Rattle.pf_commands.proofs.Answering.{answers_stopped}
use Rattle.pf_replies.proofs.Courses.{seen_there}

-- Use: the script was carried out.
pub ended_listed : (format : Format) (titles : Titles) (words : List TaskWord) (on : FailOn) (script : List ℕ) (desk : Shown) (answer : Result Ending Fault) (old new : Option (List ℕ))
    → EndsBy (outcome_told (told script)) (Ok desk) → AnswersListed format titles words on (course_at desk) (unnamed_in titles.names words) answer old new
    → RunsTasks format titles words on script answer old new
ended_listed format titles words on script desk answer old new ends h = inl (course_at desk, ends, h)

-- Use: memory was refused for the list.
pub unlisted : (format : Format) (titles : Titles) (words : List TaskWord) (on : FailOn) (c : ScriptCourse) (unnamed : Option (List ℕ)) (x : Option (List ℕ))
    → None ≡ unnamed → AnswersListed format titles words on c unnamed (Err why.NoMemory) x x
unlisted format titles words on c unnamed x none =
    rw (← none) (none_written x (tasks_meaning format titles (ranges_of titles.names words) c).text, tt)

-- Use: it was not.
pub stopped_unwritten : (format : Format) (titles : Titles) (words : List TaskWord) (on : FailOn) (script : List ℕ) (fault : Fault) (x : Option (List ℕ))
    → EndsBy (outcome_told (told script)) (Err fault) → RunsTasks format titles words on script (Err fault) x x
stopped_unwritten format titles words on script fault x h = inr (fault, refl, h, Keeps-refl x)

pub stopped_counts : (outcome : Result ScriptCourse ℕ) (fault : Fault) (n : ℕ) → EndsBy outcome (Err fault) → CountsWrites {A = Ending} (Err fault) n n
stopped_counts outcome (why.BadRecord number) n h = refl
stopped_counts outcome why.NoMemory n h = refl
stopped_counts outcome why.Read n h = absurd h
stopped_counts outcome why.Write n h = absurd h
stopped_counts outcome why.TooLong n h = absurd h
stopped_counts outcome (why.BadRange fault) n h = absurd h
stopped_counts outcome why.NoViewer n h = absurd h
stopped_counts outcome why.Unread n h = absurd h
stopped_counts outcome why.GateShut n h = absurd h

-- Use: what is shown of the tasks was written, or its writing stopped.
module _ (format : Format) (titles : Titles) (tasks : List TaskRange) (desk : Shown) (fits : range_fault format desk.state.now ≡ None)
    (seen : Seen) (stands : StandsForHistory desk.history seen)
    (shows : seen ≡ record { version = length desk.history; state = desk.state; rows = desk.rows; denials = desk.denials }) where
  meant : record { text = task_report_text format seen titles tasks; end = Done } ≡ tasks_meaning format titles tasks (course_at desk)
  meant =
      ap (λ s. record { text = task_report_text format s titles tasks; end = Done }) (seen_there desk seen stands shows)
      ∙ sym (shown (course_at desk) fits)
    where
      shown : (c : ScriptCourse) → range_fault format c.state.now ≡ None
          → tasks_meaning format titles tasks c ≡ record { text = task_report_text format (seen_at c) titles tasks; end = Done }
      shown c fits = rw fits refl

  module _ (text : List ℕ) (is : text ≡ task_report_text format seen titles tasks) where
    pub tasks_written : (done : Unit {0}) (old new : Option (List ℕ)) → Appends old new text → Answers (tasks_meaning format titles tasks (course_at desk)) (Ok done) old new
    tasks_written done old new wrote = subst (λ m. Answers m (Ok done) old new) meant (refl, subst (Appends old new) is wrote)

    pub tasks_stopped : (fault : OutputFault) (old new : Option (List ℕ)) → TookFront old new text
        → Answers {A = Unit {0}} (tasks_meaning format titles tasks (course_at desk)) (Err (fault_of_output fault)) old new
    tasks_stopped fault old new took =
        subst (λ m. Answers {A = Unit {0}} m (Err (fault_of_output fault)) old new) meant
        (answers_stopped (Unit {0}) (record { text = task_report_text format seen titles tasks; end = Done }) fault old new (subst (TookFront old new) is took))

-- Use: the range can't be shown.
pub tasks_outside : (format : Format) (titles : Titles) (tasks : List TaskRange) (c : ScriptCourse) (fault : RangeFault) (x : Option (List ℕ)) → Some fault ≡ range_fault format c.state.now
    → Answers {A = Unit {0}} (tasks_meaning format titles tasks c) (Err (why.BadRange fault)) x x
tasks_outside format titles tasks c fault x is = rw (← is) (refl, Appends-nil x)
