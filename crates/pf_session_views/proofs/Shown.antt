-- What a script shows.
use Rattle.std.proofs.Common.{◌≡◌, ◌≢◌, ◌≤◌, ◌<◌, ℕ, List, length, Option, Some, None, Result, Err, refl, subst, arith}
use Rattle.std.specs.Prelude.{IfOk, Vec}
use Rattle.std.specs.declared.alloc.Global.{Global}
use Rattle.pf_vocabulary.specs.declared.fault.answer.Answer.{Answer}
use Rattle.pf_vocabulary.specs.declared.fault.fault.Fault.{Fault}
use Rattle.pf_vocabulary.specs.declared.fault.fault.Fault.TheVariants as why
use Rattle.pf_vocabulary.specs.declared.fault.status.Status.{Status}
use Rattle.pf_vocabulary.specs.declared.fault.status.Status.TheVariants as status
use Rattle.pf_vocabulary.specs.Names.Titled.{untitled}
use Rattle.pf_vocabulary.specs.declared.names.titles.Titles.{Titles}
use Rattle.pf_plain_script.specs.declared.origin.Origin.{Origin}
use Rattle.pf_plain_script.specs.declared.plain.PlainScript.{PlainScript}
use Rattle.pf_plain_script.specs.Plain.{IsPlain, MakesPlain, Plain, plain}
use Rattle.pf_stream.specs.Reading.{longest_script}
use Rattle.pf_script.specs.declared.plan.fault.BadRecord.{BadRecord}
use Rattle.pf_session_views.specs.Answered.{Answers}
use Rattle.pf_session_views.specs.Shown.{IsShown, Shows, ShowsAnswer, ShowsOf, ShowsShort, ShowsPlan}
use Rattle.pf_session_lines.specs.declared.showing.Showing.{Showing}
use Rattle.pf_session_lines.specs.declared.showing.Showing.TheVariants.{Text}
use Rattle.pf_session_lines.specs.declared.wanted.Wanted.{Wanted}

-- Use: the script of version 2 was short enough.
pub short_enough : (n : ℕ) (bad : Option BadRecord) (titles : Titles) (origins : Option (List Origin)) (w : Wanted) (script : List ℕ) (made : Result Answer Fault)
    (showing : Showing) → length script ≤ longest_script → Answers w titles origins script made → IsShown w n bad made showing
    → ShowsShort n bad titles origins w script showing
short_enough n bad titles origins w script made showing short answers shown =
    record { short = λ h. (made, answers, shown); long = λ h. absurd (omega arith) }

-- Use: it was too long.
pub too_long : (n : ℕ) (bad : Option BadRecord) (titles : Titles) (origins : Option (List Origin)) (w : Wanted) (script : List ℕ) (showing : Showing)
    → longest_script < length script → IsShown w n bad (Err why.TooLong) showing → ShowsShort n bad titles origins w script showing
too_long n bad titles origins w script showing long shown = record { short = λ h. absurd (omega arith); long = λ h. shown }

-- Use: it belongs to this plan.
pub plan_shown : (n : ℕ) (p : Plain) (s : PlainScript) (w : Wanted) (showing : Showing) → IsPlain s p
    → ShowsShort n s.bad s.titles (Some s.origins.items) w s.text.items showing → ShowsPlan n p w showing
plan_shown n p s w showing is h =
    subst (λ x. ShowsShort n p.bad p.titles (Some p.origins) w x showing) is.text
    (subst (λ o. ShowsShort n p.bad p.titles (Some o) w s.text.items showing) is.origins
    (subst (λ t. ShowsShort n p.bad t (Some s.origins.items) w s.text.items showing) is.titles
    (subst (λ b. ShowsShort n b s.titles (Some s.origins.items) w s.text.items showing) is.bad h)))

plan_of : {E : Type 0} → (n : ℕ) (q : Option Plain) (s : PlainScript) (w : Wanted) (script : List ℕ) (made : Result Showing E) → MakesPlain (Some s) q
    → ((p : Plain) → IsPlain s p → IfOk made (ShowsPlan n p w)) → IfOk made (ShowsOf n q w script)
plan_of n None s w script made is h = absurd is
plan_of n (Some p) s w script made is h = h p is

-- Use: the script is a plan.
pub plan_shows : {E : Type 0} → (n : ℕ) (s : PlainScript) (w : Wanted) (script : List ℕ) (made : Result Showing E) → MakesPlain (Some s) (plain script)
    → ((p : Plain) → IsPlain s p → IfOk made (ShowsPlan n p w)) → IfOk made (Shows n w script)
plan_shows n s w script made is h = plan_of n (plain script) s w script made is h

other_of : (n : ℕ) (q : Option Plain) (w : Wanted) (script : List ℕ) (showing : Showing) → MakesPlain None q → ShowsShort n None untitled None w script showing
    → ShowsOf n q w script showing
other_of n None w script showing made h = h
other_of n (Some p) w script showing made h = absurd made

-- Use: it is of another version.
pub other_shows : (n : ℕ) (w : Wanted) (script : List ℕ) (showing : Showing) → MakesPlain None (plain script) → ShowsShort n None untitled None w script showing
    → Shows n w script showing
other_shows n w script showing made h = other_of n (plain script) w script showing made h

-- Use: an answer is its text, where its status is not that of mistaken words.
pub text_shown : (s : Status) (answer : Answer) (text : Vec ℕ Global) → s ≢ status.BadWords → text.items ≡ answer.text.items
    → ShowsAnswer s answer (Text text)
text_shown status.Done answer text other same = same
text_shown status.BadScript answer text other same = same
text_shown status.BadWords answer text other same = absurd (other refl)
text_shown status.StreamFailed answer text other same = same
text_shown status.NoMemory answer text other same = same
text_shown status.GateShut answer text other same = same
text_shown status.FailedOn answer text other same = same
