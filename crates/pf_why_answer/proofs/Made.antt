-- The answer about what is seen at the end of a script.
use Rattle.std.proofs.Common.{ℕ, List, Ok, subst}
use Rattle.pf_desk.specs.Desk.{Seen}
use Rattle.pf_vocabulary.specs.declared.fault.answer.Answer.{Answer}
use Rattle.pf_vocabulary.specs.declared.names.named.Named.{Named}
use Rattle.pf_script.specs.Told.{told}
use Rattle.pf_replies.specs.Carried.{ShowsEnd}
use Rattle.pf_replies.specs.Course.{outcome_told}
use Rattle.pf_vocabulary.specs.declared.questions.question.Question.{Question}
use Rattle.pf_why_answer.specs.Answer.{IsAnswer, WhyMade, seen_told}

-- Use: the script was carried out, and the question answered.
pub answer_made : (names : List Named) (q : Question) (script : List ℕ) (seen : Seen) (answer : Answer) → ShowsEnd (outcome_told (told script)) (Ok seen)
    → IsAnswer (seen_told names seen q) answer → WhyMade names q script (Ok answer)
answer_made names q script seen answer h is = (h.0, h.1, subst (λ (s : Seen). IsAnswer (seen_told names s q) answer) h.2 is)
