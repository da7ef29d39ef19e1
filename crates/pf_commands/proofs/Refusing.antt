-- The refused records that a report tells of.
use Rattle.std.proofs.Common.{◌≡◌, ℕ, false, true, List, [], map, Option, Some, Result, Ok, Err}
use Rattle.std.specs.Prelude.{IfOk, Vec}
use Rattle.std.specs.declared.alloc.Global.{Global}
use Rattle.pf_formats.specs.Refusal.{Refusal}
use Rattle.pf_vocabulary.specs.Options.Formats.{tells_refusals}
use Rattle.pf_vocabulary.specs.declared.options.format.Format.{Format}
use Rattle.pf_plain_script.specs.declared.origin.Origin.{Origin}
use Rattle.pf_script_results.specs.Recount.{Recounted, recounted}
use Rattle.pf_commands.specs.Refusals.{refusal_of, refusals_for}

-- Use: they are those of what the script's records came to.
pub listed_refusals : {E : Type 0} (format : Format) (origins : Option (List Origin)) (script : List ℕ) (r : Recounted) (result : Result (Vec Refusal Global) E)
    → tells_refusals format ≡ true → Some r ≡ recounted [] false [] origins 0 true script → IfOk result (λ v. v.items ≡ map refusal_of r.refused)
    → IfOk result (λ v. v.items ≡ refusals_for format origins script)
listed_refusals format origins script r (Ok v) tells is h = rw (tells, ← is) h
listed_refusals format origins script r (Err e) tells is h = tt
