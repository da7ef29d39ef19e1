-- How the answers to a script's replies and to its report make up the answer to the script.
use Rattle.std.proofs.Common.{◌≡◌, ◌≤◌, ℕ, Bool, true, false, List, [], ◌++◌, length, Option, None, Some, Result, Ok, Err, refl, sym, ap, ap₂, subst, ◌∙◌, rules, tests}
use Rattle.std.specs.Prelude.{if◌then◌else◌, nat_lt}
use Rattle.std.specs.Result.{result_ok}
use Rattle.std.specs.Io.KnownBytes.{Appends}
use Rattle.std.proofs.lemmas.List.{append-nil}
use Rattle.std.proofs.KnownBytes.{Appends-nil, Appends-trans}
use Rattle.pf_desk.specs.Desk.{Seen, Shown, StandsForHistory}
use Rattle.pf_script.specs.Told.{Told, told}
use Rattle.pf_stream.specs.Written.{CountsOutput, TookFront}
use Rattle.pf_stream.proofs.Sending.{none_written, took-after, took-before}
use Rattle.pf_formats.specs.Refusal.{Refusal}
use Rattle.pf_vocabulary.specs.declared.names.titles.Titles.{Titles}
use Rattle.pf_plain_script.specs.declared.origin.Origin.{Origin}
use Rattle.pf_vocabulary.specs.declared.options.format.Format.{Format}
use Rattle.pf_vocabulary.specs.Options.Formats.{has_replies, range_fault}
use Rattle.pf_vocabulary.specs.declared.fault.fault.Fault.{Fault}
use Rattle.pf_vocabulary.specs.declared.fault.fault.Fault.TheVariants as why
use Rattle.pf_stream.specs.declared.output_fault.OutputFault.{OutputFault}
use Rattle.pf_stream.specs.declared.output_fault.OutputFault.TheVariants.{Write, Memory}
use Rattle.pf_vocabulary.specs.Fault.Faults.{CountsWrites, IsPastReading}
use Rattle.pf_stream.specs.Faults.{fault_of_output}
use Rattle.pf_commands.specs.Answers.{Answers}
use Rattle.pf_replies.specs.Carried.{EndsBy, OpensReplies}
use Rattle.pf_commands.specs.CarriedOut.{CarriesOut}
use Rattle.pf_commands.specs.Ended.{script_course}
use Rattle.pf_formats.specs.Report.{report_text}
use Rattle.pf_replies.specs.Course.{ScriptCourse, course_at, outcome_told, replies_told, seen_at, text_if_replies}
use Rattle.pf_commands.specs.Meaning.{Meaning, BadRecord, Done, ended_meaning, report_meaning, script_meaning, text_and_then, told_meaning}
use Rattle.pf_commands.specs.Refusals.{refusals_for}
use Rattle.pf_replies.proofs.Courses.{seen_there}
use Rattle.pf_commands.proofs.Ends.{short_meaning}

-- the answer where a text was stopped
pub answers_stopped : (A : Type 0) (m : Meaning) (fault : OutputFault) (old new : Option (List ℕ)) → TookFront old new m.text
    → Answers {A = A} m (Err (fault_of_output fault)) old new
answers_stopped A m Write old new h = h
answers_stopped A m Memory old new h = h

pub counts_stopped : (A B : Type 0) (fault : OutputFault) (old new : ℕ) → CountsOutput {A = A} (Err fault) old new
    → CountsWrites {A = B} (Err (fault_of_output fault)) old new
counts_stopped A B Write old new h = h
counts_stopped A B Memory old new h = h

pub past_stopped : (A : Type 0) (fault : OutputFault) → IsPastReading {A = A} (Err (fault_of_output fault))
past_stopped A Write = tt
past_stopped A Memory = tt

-- of a script without replies yet
either_way : (b : Bool) (xs : List ℕ) → (if b then xs else xs) ≡ xs
either_way true xs = refl
either_way false xs = refl

none_shown : (format : Format) → text_if_replies format [] ≡ []
none_shown format = either_way (has_replies format) []

-- the text of a script that a bad record ends
bad_end : (format : Format) (titles : Titles) (refusals : List Refusal) (t : Told) (number : ℕ) → outcome_told t ≡ Err number
    → told_meaning format titles refusals t ≡ record { text = text_if_replies format (replies_told t); end = BadRecord number }
bad_end format titles refusals t number is =
    ap (λ o. text_and_then (text_if_replies format (replies_told t)) (ended_meaning format titles refusals o)) is
    ∙ ap (λ text. record { text = text; end = BadRecord number }) (append-nil (text_if_replies format (replies_told t)))

-- Use: the settings were not read.
pub unopened : (format : Format) (titles : Titles) (refusals : List Refusal) (t : Told) (fault : Fault) (x : Option (List ℕ)) → OpensReplies format t (Err fault) → CarriesOut format titles refusals t (Err fault) x x
unopened format titles refusals t (why.BadRecord number) x h =
    let none : text_if_replies format (replies_told t) ≡ [] = ap (text_if_replies format) h.0 ∙ none_shown format in
    subst (λ m. Answers {A = Shown} m (Err (why.BadRecord number)) x x) (sym (bad_end format titles refusals t number h.1)) (refl, subst (Appends x x) (sym none) (Appends-nil x))
unopened format titles refusals t why.NoMemory x h = none_written x _
unopened format titles refusals t why.Read x h = absurd h
unopened format titles refusals t why.Write x h = absurd h
unopened format titles refusals t why.TooLong x h = absurd h
unopened format titles refusals t (why.BadRange fault) x h = absurd h
unopened format titles refusals t why.NoViewer x h = absurd h
unopened format titles refusals t why.Unread x h = absurd h
unopened format titles refusals t why.GateShut x h = absurd h

-- Use: the writing of the replies was stopped.
pub replies_stopped : (format : Format) (titles : Titles) (refusals : List Refusal) (t : Told) (fault : OutputFault) (old new : Option (List ℕ)) (text : List ℕ)
    → text ≡ text_if_replies format (replies_told t) → TookFront old new text → CarriesOut format titles refusals t (Err (fault_of_output fault)) old new
replies_stopped format titles refusals t fault old new text is h =
    replies_cut fault (took-before old new (text_if_replies format (replies_told t)) _ (subst (TookFront old new) is h))
  where
    replies_cut : (f : OutputFault) → TookFront old new (told_meaning format titles refusals t).text → CarriesOut format titles refusals t (Err (fault_of_output f)) old new
    replies_cut Write took = took
    replies_cut Memory took = took

-- Use: the replies were written, and the script carried out.
pub carried : (format : Format) (titles : Titles) (refusals : List Refusal) (t : Told) (result : Result Shown Fault) (outcome : Result ScriptCourse ℕ) (old new : Option (List ℕ)) (text : List ℕ)
    → text ≡ text_if_replies format (replies_told t) → outcome ≡ outcome_told t → Appends old new text → EndsBy outcome result → CarriesOut format titles refusals t result old new
carried format titles refusals t (Ok desk) outcome old new text is same wrote ends = (sym same ∙ ends, subst (Appends old new) is wrote)
carried format titles refusals t (Err (why.BadRecord number)) outcome old new text is same wrote ends =
    subst (λ m. Answers {A = Shown} m (Err (why.BadRecord number)) old new) (sym (bad_end format titles refusals t number (sym same ∙ ends)))
    (refl, subst (Appends old new) is wrote)
carried format titles refusals t (Err why.NoMemory) outcome old new text is same wrote ends =
    ((ended_meaning format titles refusals (outcome_told t)).text, (text_if_replies format (replies_told t), subst (Appends old new) is wrote, refl))
carried format titles refusals t (Err why.Read) outcome old new text is same wrote ends = absurd ends
carried format titles refusals t (Err why.Write) outcome old new text is same wrote ends = absurd ends
carried format titles refusals t (Err why.TooLong) outcome old new text is same wrote ends = absurd ends
carried format titles refusals t (Err (why.BadRange fault)) outcome old new text is same wrote ends = absurd ends
carried format titles refusals t (Err why.NoViewer) outcome old new text is same wrote ends = absurd ends
carried format titles refusals t (Err why.Unread) outcome old new text is same wrote ends = absurd ends
carried format titles refusals t (Err why.GateShut) outcome old new text is same wrote ends = absurd ends

-- a text was written, and then what follows it
behind_text : (m : Meaning) (result : Result Shown Fault) (text : List ℕ) (old mid new : Option (List ℕ)) → Appends old mid text
    → IsPastReading result → Answers m result mid new → Answers (text_and_then text m) result old new
behind_text m (Ok desk) text old mid new wrote past a = (a.0, Appends-trans old mid new text m.text wrote a.1)
behind_text m (Err (why.BadRecord number)) text old mid new wrote past a = (a.0, Appends-trans old mid new text m.text wrote a.1)
behind_text m (Err why.TooLong) text old mid new wrote past a = (a.0, Appends-trans old mid new text m.text wrote a.1)
behind_text m (Err (why.BadRange fault)) text old mid new wrote past a = (a.0, Appends-trans old mid new text m.text wrote a.1)
behind_text m (Err why.NoViewer) text old mid new wrote past a = absurd a
behind_text m (Err why.Unread) text old mid new wrote past a = absurd a
behind_text m (Err why.GateShut) text old mid new wrote past a = absurd a
behind_text m (Err why.Read) text old mid new wrote past a = absurd past
behind_text m (Err why.Write) text old mid new wrote past a = took-after old mid new text m.text wrote a
behind_text m (Err why.NoMemory) text old mid new wrote past a = took-after old mid new text m.text wrote a

-- Use: the script of these bytes was carried out, and its report written or stopped.
module _ (format : Format) (titles : Titles) (origins : Option (List Origin)) (bytes : List ℕ) (short : length bytes ≤ 16777216) where
  abbrev refusals : List Refusal
  refusals = refusals_for format origins bytes

  pub stopped_carrying : (fault : Fault) (old new : Option (List ℕ)) → CarriesOut format titles refusals (told bytes) (Err fault) old new
      → Answers {A = Shown} (script_meaning format titles origins bytes) (Err fault) old new
  stopped_carrying fault old new h = subst (λ m. Answers {A = Shown} m (Err fault) old new) (sym (short_meaning format titles origins bytes short)) h

  module _ (desk : Shown) (old mid : Option (List ℕ)) (h : CarriesOut format titles refusals (told bytes) (Ok desk) old mid) where
    ended_there : script_meaning format titles origins bytes ≡ text_and_then (text_if_replies format (replies_told (told bytes))) (report_meaning format titles refusals (course_at desk))
    ended_there =
        short_meaning format titles origins bytes short
        ∙ ap (λ o. text_and_then (text_if_replies format (replies_told (told bytes))) (ended_meaning format titles refusals o)) h.0

    pub reported : (result : Result Shown Fault) (new : Option (List ℕ)) → IsPastReading result
        → Answers (report_meaning format titles refusals (course_at desk)) result mid new → Answers (script_meaning format titles origins bytes) result old new
    reported result new past a =
        subst (λ m. Answers m result old new) (sym ended_there)
        (behind_text (report_meaning format titles refusals (course_at desk)) result (text_if_replies format (replies_told (told bytes))) old mid new h.1 past a)

    pub course_there : script_course bytes ≡ Some (course_at desk)
    unfolding script_course
    course_there = let fits : nat_lt 16777216 (length bytes) ≡ false = search (rules, tests) in rw fits (ap result_ok h.0)

-- a report that can be shown
pub shown_meaning : (format : Format) (titles : Titles) (refusals : List Refusal) (c : ScriptCourse) → range_fault format c.state.now ≡ None
    → report_meaning format titles refusals c ≡ record { text = report_text format c.every (seen_at c) titles refusals; end = Done }
shown_meaning format titles refusals c fits = rw fits refl

-- Use: the writing of the report stopped.
module _ (format : Format) (titles : Titles) (refusals : List Refusal) (desk : Shown) (fits : range_fault format desk.state.now ≡ None) (every : ℕ) (same : every ≡ desk.every)
    (seen : Seen) (stands : StandsForHistory desk.history seen)
    (shows : seen ≡ record { version = length desk.history; state = desk.state; rows = desk.rows; denials = desk.denials }) where
  meant : record { text = report_text format every seen titles refusals; end = Done } ≡ report_meaning format titles refusals (course_at desk)
  meant =
      ap₂ (λ n s. record { text = report_text format n s titles refusals; end = Done }) same (seen_there desk seen stands shows)
      ∙ sym (shown_meaning format titles refusals (course_at desk) fits)

  module _ (text : List ℕ) (is : text ≡ report_text format every seen titles refusals) where
    pub report_stopped : (fault : OutputFault) (old new : Option (List ℕ)) → TookFront old new text
        → Answers {A = Unit {0}} (report_meaning format titles refusals (course_at desk)) (Err (fault_of_output fault)) old new
    report_stopped fault old new took =
        subst (λ m. Answers {A = Unit {0}} m (Err (fault_of_output fault)) old new) meant
        (answers_stopped (Unit {0}) (record { text = report_text format every seen titles refusals; end = Done }) fault old new (subst (TookFront old new) is took))

-- Use: a fault of one call is that of another.
module _ (A B : Type 0) where
  pub past_as : (fault : Fault) → IsPastReading {A = A} (Err fault) → IsPastReading {A = B} (Err fault)
  past_as why.Read past = absurd past
  past_as (why.BadRecord number) past = tt
  past_as why.Write past = tt
  past_as why.TooLong past = tt
  past_as (why.BadRange fault) past = tt
  past_as why.NoViewer past = tt
  past_as why.Unread past = tt
  past_as why.GateShut past = tt
  past_as why.NoMemory past = tt

  pub counts_as : (fault : Fault) (old new : ℕ) → CountsWrites {A = A} (Err fault) old new → CountsWrites {A = B} (Err fault) old new
  counts_as why.Read old new h = h
  counts_as (why.BadRecord number) old new h = h
  counts_as why.Write old new h = h
  counts_as why.TooLong old new h = h
  counts_as (why.BadRange fault) old new h = h
  counts_as why.NoViewer old new h = h
  counts_as why.Unread old new h = h
  counts_as why.GateShut old new h = h
  counts_as why.NoMemory old new h = h

-- Use: the replies that were not begun, and the end of a script, fail in few ways.
pub opens_past : (format : Format) (t : Told) (fault : Fault) → OpensReplies format t (Err fault) → IsPastReading {A = Shown} (Err fault)
opens_past format t (why.BadRecord number) h = tt
opens_past format t why.NoMemory h = tt
opens_past format t why.Read h = absurd h
opens_past format t why.Write h = absurd h
opens_past format t why.TooLong h = absurd h
opens_past format t (why.BadRange fault) h = absurd h
opens_past format t why.NoViewer h = absurd h
opens_past format t why.Unread h = absurd h
opens_past format t why.GateShut h = absurd h

pub opens_counts : (format : Format) (t : Told) (fault : Fault) (n : ℕ) → OpensReplies format t (Err fault) → CountsWrites {A = Shown} (Err fault) n n
opens_counts format t (why.BadRecord number) n h = refl
opens_counts format t why.NoMemory n h = refl
opens_counts format t why.Read n h = absurd h
opens_counts format t why.Write n h = absurd h
opens_counts format t why.TooLong n h = absurd h
opens_counts format t (why.BadRange fault) n h = absurd h
opens_counts format t why.NoViewer n h = absurd h
opens_counts format t why.Unread n h = absurd h
opens_counts format t why.GateShut n h = absurd h

pub ends_past : (outcome : Result ScriptCourse ℕ) (result : Result Shown Fault) → EndsBy outcome result → IsPastReading result
ends_past outcome (Ok desk) h = tt
ends_past outcome (Err (why.BadRecord number)) h = tt
ends_past outcome (Err why.NoMemory) h = tt
ends_past outcome (Err why.Read) h = absurd h
ends_past outcome (Err why.Write) h = absurd h
ends_past outcome (Err why.TooLong) h = absurd h
ends_past outcome (Err (why.BadRange fault)) h = absurd h
ends_past outcome (Err why.NoViewer) h = absurd h
ends_past outcome (Err why.Unread) h = absurd h
ends_past outcome (Err why.GateShut) h = absurd h

pub ends_counts : (outcome : Result ScriptCourse ℕ) (result : Result Shown Fault) (old new : ℕ) → new ≡ old → EndsBy outcome result → CountsWrites result old new
ends_counts outcome (Ok desk) old new same h = same
ends_counts outcome (Err (why.BadRecord number)) old new same h = same
ends_counts outcome (Err why.NoMemory) old new same h = same
ends_counts outcome (Err why.Read) old new same h = absurd h
ends_counts outcome (Err why.Write) old new same h = absurd h
ends_counts outcome (Err why.TooLong) old new same h = absurd h
ends_counts outcome (Err (why.BadRange fault)) old new same h = absurd h
ends_counts outcome (Err why.NoViewer) old new same h = absurd h
ends_counts outcome (Err why.Unread) old new same h = absurd h
ends_counts outcome (Err why.GateShut) old new same h = absurd h
