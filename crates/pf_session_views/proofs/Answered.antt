-- What a run gives whose text is kept in memory.
use Rattle.std.proofs.Common.{◌≡◌, ℕ, List, [], Some, Ok, Err, subst}
use Rattle.pf_commands.specs.Answers.{Answers as Means}
use Rattle.pf_commands.specs.Meaning.{Meaning}
use Rattle.pf_vocabulary.specs.declared.fault.answer.Answer.{Answer}
use Rattle.pf_vocabulary.specs.declared.fault.ending.Ending.{Ending}
use Rattle.pf_vocabulary.specs.declared.fault.fault.Fault.{Fault}
use Rattle.pf_vocabulary.specs.declared.fault.fault.Fault.TheVariants as why
use Rattle.pf_vocabulary.specs.declared.fault.status.Status.TheVariants as status
use Rattle.pf_session_views.specs.Answered.{Runs}

-- Use: it was done.
pub ran : (m : Meaning) (answer : Answer) (was : List ℕ) → was ≡ [] → Means m (Ok answer.ending) (Some was) (Some answer.text.items)
    → answer.ending.status ≡ status.Done → answer.ending.notes.items ≡ [] → Runs m (Ok answer)
ran m answer was none means done quiet =
    (subst (λ xs. Means m (Ok answer.ending) (Some xs) (Some answer.text.items)) none means, record { ends = done; notes = quiet })

-- Use: it was not, and why.
pub stopped : (m : Meaning) (fault : Fault) (was now : List ℕ) → was ≡ [] → Means {A = Ending} m (Err fault) (Some was) (Some now) → Runs m (Err fault)
stopped m fault was now none means = (now, subst (λ xs. Means {A = Ending} m (Err fault) (Some xs) (Some now)) none means)

-- Use: memory was refused for the text.
pub refused : (m : Meaning) (was now : List ℕ) → was ≡ [] → Means {A = Ending} m (Err why.Write) (Some was) (Some now) → Runs m (Err why.NoMemory)
refused m was now none means = (now, subst (λ xs. Means {A = Ending} m (Err why.NoMemory) (Some xs) (Some now)) none means)
