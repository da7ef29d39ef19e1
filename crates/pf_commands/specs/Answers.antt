-- How the program's answer and what it wrote stand to what a script means.
use Rattle.std.specs.Prelude.{◌≡◌, ℕ, List, Option, Result, Ok, Err}
use Rattle.std.specs.Io.KnownBytes.{Appends, Keeps}
use Rattle.pf_stream.specs.Written.{TookFront}
use Rattle.pf_vocabulary.specs.declared.fault.fault.Fault.{Fault}
use Rattle.pf_vocabulary.specs.declared.fault.fault.Fault.TheVariants as why
use Rattle.pf_commands.specs.Meaning.{Meaning, Done, BadRecord, TooLong, Outside}

-- a fault is the script's end, and the writer took its text; a failing reader leaves the writer as it was, and after a failing
-- writer or running out of memory the writer took the front of the text
abbrev pub AnswersFault : Meaning → Fault → Option (List ℕ) → Option (List ℕ) → Type 0
AnswersFault m (why.BadRecord number) old new = (m.end ≡ BadRecord number) × Appends old new m.text
AnswersFault m why.TooLong old new = (m.end ≡ TooLong) × Appends old new m.text
AnswersFault m (why.BadRange fault) old new = (m.end ≡ Outside fault) × Appends old new m.text
AnswersFault m why.Read old new = Keeps old new
AnswersFault m why.Write old new = TookFront old new m.text
AnswersFault m why.NoMemory old new = TookFront old new m.text
AnswersFault m why.NoViewer old new = ⊥
AnswersFault m why.Unread old new = ⊥
AnswersFault m why.GateShut old new = ⊥

-- whatever is answered where the script ends well
abbrev pub Answers : {A : Type 0} → Meaning → Result A Fault → Option (List ℕ) → Option (List ℕ) → Type 0
Answers m (Ok done) old new = (m.end ≡ Done) × Appends old new m.text
Answers m (Err fault) old new = AnswersFault m fault old new
