-- Which lists a conversion makes into scripts, and of which plans.
use Rattle.std.specs.Prelude.{ℕ, ◌*◌, ◌/◌, ◌%◌, ◌≡◌, ◌≤◌, ◌⊎◌, Option, IfSome, Ok, List, [], ◌∷◌, All, sum_by}
use Rattle.pf_script.specs.PlanCheck.Checked.{faults}
use Rattle.pf_text.specs.Rows.Rows.{rows}
use Rattle.pf_convert.specs.declared.plan.Plan.{Plan}
use Rattle.pf_convert.specs.declared.words.conversion.Conversion.{Conversion}
use Rattle.pf_convert.specs.declared.words.conversion.ConvertFormat.TheVariants.{Script}
use Rattle.pf_convert.specs.Words.Reading.{ConvertTexts, IsConversion, conversion_of}
use Rattle.pf_vocabulary.specs.declared.fault.answer.Answer.{Answer}
use Rattle.pf_vocabulary.specs.declared.fault.status.Status.TheVariants.{BadScript}
use Rattle.pf_convert.specs.declared.list.listed.Listed.{Listed}
use Rattle.pf_convert.specs.List.List.{list_told}
use Rattle.pf_convert.specs.Conversion.Answers.{fit_status}
use Rattle.pf_convert.specs.Conversion.Conversions.{MakesConversion}
use Rattle.pf_convert.specs.Conversion.Script.{script_text}
use Rattle.pf_script_laws.specs.Conversions.Read.{IsWritten}

-- nothing is written, since the list or its plan has a fault, or more processors are needed than there may be
pub record WritesNothing (a : Answer) : Type 0 where
  pub text : a.text.items ≡ []
  pub status : a.ending.status ≡ BadScript

-- each period divides the base, and the load is what the tasks ask for together, in units of 1/base
pub record IsMeasured (plan : Plan) : Type 0 where
  pub divides : All (λ s. plan.base % s.period ≡ 0) plan.tasks.items
  pub asks : plan.load ≡ sum_by (λ s. s.cost * (plan.base / s.period)) plan.tasks.items

-- the script of a plan of these tasks is written, in slots of the quantum that is given, or of one where none is; and the
-- status tells whether its load is within the processors
pub record WritesPlan (quanta : List ℕ) (tasks : List Listed) (a : Answer) : Type 0 where
  pub quantum : ℕ
  pub given : (quanta ≡ []) ⊎ (quanta ≡ quantum ∷ [])
  pub processors : ℕ
  pub plan : Plan
  pub written : IsWritten processors quantum tasks plan
  pub measured : IsMeasured plan
  pub text : a.text.items ≡ script_text processors quantum tasks plan
  pub status : a.ending.status ≡ fit_status plan.load (processors * plan.base)

-- 1 to 64 processors, where they are given
abbrev pub AreSome : Option ℕ → Type 0
AreSome processors = IfSome processors (λ m. (1 ≤ m) × (m ≤ 64))

-- What a list is made into is the script of a plan of its tasks, or nothing.
abbrev pub ListsBecomePlans : Type 0
ListsBecomePlans =
    (name : List ℕ) (c : Conversion) (list : List ℕ) (a : Answer) → IsConversion c → AreSome c.processors → c.format ≡ Script → MakesConversion name c list a
    → WritesNothing a ⊎ WritesPlan c.quanta (list_told name c.unit list).tasks a

-- The script that words ask for is read without a fault, whatever the list.
abbrev pub ConversionsHaveNoFault : Type 0
ConversionsHaveNoFault =
    (texts : ConvertTexts) (c : Conversion) (name list : List ℕ) (a : Answer) → conversion_of texts ≡ Ok c → IsConversion c → c.format ≡ Script
    → MakesConversion name c list a → WritesNothing a ⊎ (faults (rows a.text.items) ≡ [])
