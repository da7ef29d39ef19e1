-- Where the range of a format can't be shown, nothing is written.
use Rattle.std.proofs.Common.{◌≡◌, ◌∙◌, ℕ, Bool, true, false, List, [], ◌++◌, Option, Some, None, Result, Ok, Err, refl, subst, arith}
use Rattle.std.specs.Prelude.{if◌then◌else◌, length, nat_lt}
use Rattle.std.specs.Io.KnownBytes.{Appends, Keeps}
use Rattle.std.proofs.lemmas.Bool.{le-leb}
use Rattle.std.proofs.lemmas.List.{append-nil}
use Rattle.pf_script.specs.Told.{told}
use Rattle.pf_stream.specs.Reading.{longest_script}
use Rattle.pf_formats.specs.Refusal.{Refusal}
use Rattle.pf_vocabulary.specs.declared.names.titles.Titles.{Titles}
use Rattle.pf_vocabulary.specs.declared.options.format.Format.{Format}
use Rattle.pf_vocabulary.specs.declared.options.format.Format.TheVariants.{Schedule, Quanta, Windows, Load, Jobs, Trace, C, Full, Html, Tables, Json, Report, Replies, Lags, Misses, Denials, Events, Script, Processors, Stats, Chart, Svg}
use Rattle.pf_vocabulary.specs.declared.fault.range_fault.RangeFault.{RangeFault}
use Rattle.pf_vocabulary.specs.Options.Formats.{has_replies, range_fault}
use Rattle.pf_vocabulary.specs.Options.Ranges.{is_within, whole}
use Rattle.pf_vocabulary.specs.declared.fault.fault.Fault.{Fault}
use Rattle.pf_vocabulary.specs.declared.fault.fault.Fault.TheVariants as why
use Rattle.pf_vocabulary.specs.Fault.Faults.{IsOutside}
use Rattle.pf_commands.specs.Answers.{Answers}
use Rattle.pf_commands.specs.Laws.{NothingIsWrittenOutside}
use Rattle.pf_formats.specs.Report.{report_text}
use Rattle.pf_replies.specs.Course.{ScriptCourse, outcome_told, replies_told, seen_at, text_if_replies}
use Rattle.pf_commands.specs.Meaning.{Meaning, Done, BadRecord, TooLong, Outside, ended_meaning, script_meaning, text_and_then, text_unless, told_meaning}
use Rattle.pf_commands.specs.Refusals.{refusals_for}

-- all slots are within them
whole_is_within : (now : ℕ) → is_within whole now ≡ true
whole_is_within now = rw (le-leb 0 now (omega arith), le-leb now now (omega arith)) refl

-- a format that has replies can always be shown
silent : (format : Format) (now : ℕ) (fault : RangeFault) → range_fault format now ≡ Some fault → has_replies format ≡ false
silent (Schedule range) now fault is = refl
silent (Quanta range) now fault is = refl
silent (Windows range) now fault is = refl
silent (Load range) now fault is = refl
silent Jobs now fault is = refl
silent Trace now fault is = refl
silent C now fault is = refl
silent Full now fault is = refl
silent Html now fault is = refl
silent (Chart range) now fault is = refl
silent (Svg range cell) now fault is = refl
silent Report now fault is = refl
silent Lags now fault is = refl
silent Misses now fault is = refl
silent Denials now fault is = refl
silent Events now fault is = refl
silent Script now fault is = refl
silent Processors now fault is = refl
silent Stats now fault is = refl
silent Tables now fault is = let never : None ≡ Some fault = rw (whole_is_within now) at is in cc
silent Json now fault is = let never : None ≡ Some fault = rw (whole_is_within now) at is in cc
silent Replies now fault is = let never : None ≡ Some fault = rw (whole_is_within now) at is in cc

-- a meaning that ends so has no text
abbrev IsSilent : RangeFault → Meaning → Type 0
IsSilent fault m = m.end ≡ Outside fault → m.text ≡ []

-- of a report, and of the replies before it
silent_report : (format : Format) (titles : Titles) (refusals : List Refusal) (c : ScriptCourse) (replies : List ℕ) (fault : RangeFault)
    → IsSilent fault (text_and_then (text_if_replies format replies) (ended_meaning format titles refusals (Ok c)))
silent_report format titles refusals c replies fault = by (range_fault format c.state.now) refl
  where
    by : (found : Option RangeFault) → range_fault format c.state.now ≡ found
        → IsSilent fault (text_and_then (text_if_replies format replies) (text_unless found (report_text format c.every (seen_at c) titles refusals)))
    by None fits = λ outside. let never : Done ≡ Outside fault = outside in cc
    by (Some other) is = λ outside. rw (silent format c.state.now other is) refl

silent_end : (format : Format) (titles : Titles) (refusals : List Refusal) (end : Result ScriptCourse ℕ) (replies : List ℕ) (fault : RangeFault)
    → IsSilent fault (text_and_then (text_if_replies format replies) (ended_meaning format titles refusals end))
silent_end format titles refusals (Ok c) replies fault = silent_report format titles refusals c replies fault
silent_end format titles refusals (Err number) replies fault = λ outside. let never : BadRecord number ≡ Outside fault = outside in cc

-- Use: the law, and what an answer says of the writer by it.
pub nothing_outside : NothingIsWrittenOutside
unfolding script_meaning
nothing_outside format titles origins bytes fault = by (nat_lt longest_script (length bytes))
  where
    by : (b : Bool) → IsSilent fault (if b then record { text = []; end = TooLong } else told_meaning format titles (refusals_for format origins bytes) (told bytes))
    by true = λ outside. refl
    by false = silent_end format titles (refusals_for format origins bytes) (outcome_told (told bytes)) (replies_told (told bytes)) fault

kept : (old new : Option (List ℕ)) → Appends old new [] → Keeps old new
kept None new wrote = tt
kept (Some xs) None wrote = absurd wrote
kept (Some xs) (Some ys) wrote = wrote ∙ append-nil xs

-- Use: the answer to a script that can't be shown leaves the writer as it was.
pub outside_keeps : (A B : Type 0) (m : Meaning) (fault : Fault) (old new : Option (List ℕ)) → ((range : RangeFault) → IsSilent range m)
    → Answers {A = A} m (Err fault) old new → IsOutside {A = B} (Err fault) → Keeps old new
outside_keeps A B m (why.BadRecord number) old new silent answers is = absurd is
outside_keeps A B m why.TooLong old new silent answers is = absurd is
outside_keeps A B m (why.BadRange range) old new silent answers is = kept old new (subst (Appends old new) (silent range answers.0) answers.1)
outside_keeps A B m why.Read old new silent answers is = absurd is
outside_keeps A B m why.Write old new silent answers is = absurd is
outside_keeps A B m why.NoMemory old new silent answers is = absurd is
outside_keeps A B m why.NoViewer old new silent answers is = absurd is
outside_keeps A B m why.Unread old new silent answers is = absurd is
outside_keeps A B m why.GateShut old new silent answers is = absurd is
