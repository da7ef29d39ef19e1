-- A script that is carried out while its replies are written.
use Rattle.std.specs.Prelude.{◌≡◌, ℕ, List, Option, Result, Ok, Err}
use Rattle.std.specs.Io.KnownBytes.{Appends}
use Rattle.pf_replies.specs.Course.{course_at, outcome_told, replies_told, text_if_replies}
use Rattle.pf_desk.specs.Desk.{Shown}
use Rattle.pf_formats.specs.Refusal.{Refusal}
use Rattle.pf_vocabulary.specs.declared.names.titles.Titles.{Titles}
use Rattle.pf_script.specs.Told.{Told}
use Rattle.pf_vocabulary.specs.declared.options.format.Format.{Format}
use Rattle.pf_vocabulary.specs.declared.fault.fault.Fault.{Fault}
use Rattle.pf_commands.specs.Answers.{Answers}
use Rattle.pf_commands.specs.Meaning.{told_meaning}

-- the script was carried out and the writer took its replies; or the answer is one to the whole script
abbrev pub CarriesOut : Format → Titles → List Refusal → Told → Result Shown Fault → Option (List ℕ) → Option (List ℕ) → Type 0
CarriesOut format titles refusals t (Ok desk) old new = (outcome_told t ≡ Ok (course_at desk)) × Appends old new (text_if_replies format (replies_told t))
CarriesOut format titles refusals t (Err fault) old new = Answers {A = Shown} (told_meaning format titles refusals t) (Err fault) old new
