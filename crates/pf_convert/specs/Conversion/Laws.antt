-- What the answers say of a plan and the processors.
use Rattle.std.specs.Prelude.{ℕ, ◌*◌, ◌≡◌, ◌≤◌, ◌↔◌, Some, codes}
use Rattle.pf_vocabulary.specs.declared.fault.status.Status.TheVariants.{Done}
use Rattle.pf_convert.specs.Plans.{IsNeeded}
use Rattle.pf_convert.specs.Conversion.Answers.{fit_status}
use Rattle.pf_convert.specs.Conversion.Json as json
use Rattle.pf_convert.specs.Conversion.Table as table

-- of a plan with this base and load the table says that it fits just where JSON does, and just where its script on these
-- processors ends as one that was done, which is where the load is within them
pub record IsToldAlike (base load needed processors : ℕ) : Type 0 where
  pub table : (table.fits_word (Some processors) needed ≡ codes ",yes,") ↔ (load ≤ processors * base)
  pub json : (json.fits_word (Some processors) needed ≡ codes "true") ↔ (load ≤ processors * base)
  pub script : (fit_status load (processors * base) ≡ Done) ↔ (load ≤ processors * base)

abbrev pub AnswersAgree : Type 0
AnswersAgree = (base load needed processors : ℕ) → 1 ≤ processors → IsNeeded base load needed → IsToldAlike base load needed processors
