-- What the bytes of a script mean in a run, by the script of version 2 that belongs to them, and what a run answers that reads none.
use Rattle.std.proofs.Common.{◌≡◌, ◌≤◌, ◌<◌, ℕ, Bool, List, [], length, Option, None, Some, Result, Err, refl, sym, ap, subst}
use Rattle.std.specs.Prelude.{⊤, if◌then◌else◌, IfSome}
use Rattle.std.specs.Io.KnownBytes.{Keeps}
use Rattle.std.proofs.KnownBytes.{Appends-nil}
use Rattle.std.proofs.lemmas.Bool.{le-ltb, lt-ltb}
use Rattle.pf_commands.specs.Answers.{Answers}
use Rattle.pf_commands.specs.Meaning.{Meaning, TooLong, script_meaning}
use Rattle.pf_vocabulary.specs.declared.fault.fault.Fault.{Fault}
use Rattle.pf_vocabulary.specs.declared.names.titles.Titles.{Titles}
use Rattle.pf_vocabulary.specs.declared.options.format.Format.{Format}
use Rattle.pf_plain_script.specs.declared.origin.Origin.{Origin}
use Rattle.pf_plain_script.specs.declared.plain.PlainScript.{PlainScript}
use Rattle.pf_plain_script.specs.Plain.{IsPlain, MakesPlain, Plain, plain}
use Rattle.pf_stream.specs.declared.reading.ReadingFault.{ReadingFault}
use Rattle.pf_stream.specs.declared.reading.ReadingFault.TheVariants as reading
use Rattle.pf_stream.specs.Faults.{fault_of_reading}
use Rattle.pf_stream.specs.Reading.{ReadsScript, longest_script}
use Rattle.pf_cli.specs.RunFaults.{run_fault}
use Rattle.pf_cli.specs.Runs.{RunsAs, meaning_of, plan_meaning, run_meaning}

-- what a text means that is too long
abbrev longer : Meaning
longer = record { text = []; end = TooLong }

-- Use: the text of version 2 is too long.
pub too_long : (format : Format) (titles : Titles) (origins : Option (List Origin)) (text : List ℕ) → longest_script < length text
    → script_meaning format titles origins text ≡ longer
unfolding script_meaning
too_long format titles origins text long = rw (lt-ltb longest_script (length text) long) refl

-- bytes that are no more than a script may have mean what their plan does, or what they do as a script of version 1 or 2
run_means : (format : Format) (bytes : List ℕ) (q : Option Plain) → length bytes ≤ longest_script → plain bytes ≡ q
    → run_meaning format bytes ≡ meaning_of format bytes q
run_means format bytes q short is = rw (le-ltb longest_script (length bytes) short) (ap (λ (p : Option Plain). meaning_of format bytes p) is)

-- Use: the answer to the plan is that to the bytes.
pub plan_answers : (format : Format) (bytes : List ℕ) (s : PlainScript) (r : Result ⊤ Fault) (old new : Option (List ℕ)) → length bytes ≤ longest_script
    → MakesPlain (Some s) (plain bytes) → ((p : Plain) → IsPlain s p → Answers (plan_meaning format p) r old new) → Answers (run_meaning format bytes) r old new
plan_answers format bytes s r old new short made answers = by (plain bytes) refl made
  where
    by : (q : Option Plain) → plain bytes ≡ q → MakesPlain (Some s) q → Answers (run_meaning format bytes) r old new
    by None is made = absurd made
    by (Some p) is made = subst (λ (m : Meaning). Answers m r old new) (sym (run_means format bytes (Some p) short is)) (answers p made)

-- the writer is as it was
kept : (x : Option (List ℕ)) → Keeps x x
kept None = tt
kept (Some bytes) = refl

unread : (format : Format) (bytes : List ℕ) (f : ReadingFault) (x : Option (List ℕ)) → ReadsScript bytes (Err f)
    → RunsAs {A = ⊤} (run_meaning format bytes) (Err (run_fault (fault_of_reading f))) x x
unread format bytes reading.Read x h = kept x
unread format bytes reading.TooLong x long =
    subst (λ (m : Meaning). RunsAs {A = ⊤} m (Err (run_fault (fault_of_reading reading.TooLong))) x x)
    (sym (ap (λ (b : Bool). if b then longer else meaning_of format bytes (plain bytes)) (lt-ltb longest_script (length bytes) long))) (refl, Appends-nil x)
unread format bytes reading.Memory x h = ((run_meaning format bytes).text, ([], Appends-nil x, refl))

-- Use: what a run answers whose reader gave no script.
pub unread_if : (format : Format) (input : Option (List ℕ)) (f : ReadingFault) (x : Option (List ℕ)) → IfSome input (λ bytes. ReadsScript bytes (Err f))
    → IfSome input (λ bytes. RunsAs {A = ⊤} (run_meaning format bytes) (Err (run_fault (fault_of_reading f))) x x)
unread_if format None f x h = tt
unread_if format (Some bytes) f x h = unread format bytes f x h
