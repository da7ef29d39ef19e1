-- The refused records that a report tells of.
use Rattle.std.specs.Prelude.{ℕ, false, true, if◌then◌else◌, Option, List, [], map}
use Rattle.std.specs.Option.{option_map_or}
use Rattle.pf_formats.specs.Refusal.{Refusal}
use Rattle.pf_vocabulary.specs.Options.Formats.{tells_refusals}
use Rattle.pf_vocabulary.specs.declared.options.format.Format.{Format}
use Rattle.pf_plain_script.specs.declared.origin.Origin.{Origin}
use Rattle.pf_script_results.specs.Recount.{recounted}
use Rattle.pf_script_results.specs.declared.refused_record.RefusedRecord.{RefusedRecord}

-- a refused record, as a report tells of it
abbrev pub refusal_of : RefusedRecord → Refusal
refusal_of r = record { «record» = r.place.record; fault = r.fault }

-- the refused records of a script of these bytes, up to its first bad record; origins where it belongs to a plan
abbrev pub refused_in : Option (List Origin) → List ℕ → List Refusal
refused_in origins script = option_map_or (λ r. map refusal_of r.refused) (recounted [] false [] origins 0 true script) []

-- the same where a format tells of them
abbrev pub refusals_for : Format → Option (List Origin) → List ℕ → List Refusal
refusals_for format origins script = if tells_refusals format then refused_in origins script else []
