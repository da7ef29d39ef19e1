-- What two scripts come to that are compared: the desks at their ends, and what the program answers to them.
use Rattle.std.specs.Prelude.{⊤, ℕ, ◌≡◌, ◌⊎◌, ◌<◌, ◌≤◌, ◌==◌, ◌&&◌, min, if◌then◌else◌, Bool, List, [], ◌++◌, codes, length, Option, None, Some, IfOk, IfErr, Result, Ok, Err, Vec}
use Rattle.std.specs.Fmt.{decimal}
use Rattle.std.specs.declared.alloc.Global.{Global}
use Rattle.std.specs.Io.KnownBytes.{Keeps}
use Rattle.pf_desk.specs.Desk.{Seen}
use Rattle.pf_vocabulary.specs.declared.fault.answer.Answer.{Answer}
use Rattle.pf_vocabulary.specs.declared.fault.ending.Ending.{Ending}
use Rattle.pf_vocabulary.specs.declared.fault.fault.Fault.{Fault}
use Rattle.pf_vocabulary.specs.declared.fault.fault.Fault.TheVariants as why
use Rattle.pf_plain_script.specs.Plain.{Plain, plain}
use Rattle.pf_script.specs.Told.{told}
use Rattle.pf_stream.specs.Reading.{longest_script}
use Rattle.pf_text.specs.Page.{table_text}
use Rattle.pf_vocabulary.specs.declared.options.diff_options.DiffOptions.{DiffOptions}
use Rattle.pf_replies.specs.Carried.{ShowsEnd}
use Rattle.pf_replies.specs.Course.{outcome_told}
use Rattle.pf_change.specs.Difference.{difference, told_by}
use Rattle.pf_vocabulary.specs.Options.Ranges.{whole}
use Rattle.pf_arguments.specs.Diffs.{PairNames}
use Rattle.pf_cli.specs.Noted.{AreNotes, OneOf, notes_in}
use Rattle.pf_text.specs.FileName.{file_text}
use Rattle.pf_cli.specs.Source.{IsHad, IsSource, told_name}
use Rattle.pf_cli.specs.declared.noting.Noting.{Noting}
use Rattle.pf_arguments.specs.declared.telling.Telling.{Telling}
use Rattle.pf_cli.specs.Tasks.{AnswersMade}
use Rattle.pf_cli.specs.Versions.{numbered}

-- what is seen at the end of a script of version 1 or 2, or the fault that ends it
abbrev pub ShowsText : List ℕ → Result Seen Fault → Type 0
ShowsText script outcome = ShowsEnd (outcome_told (told script)) outcome

-- of a plan, by the script of version 2 that belongs to it, where that is short enough
pub record ShowsPlan (p : Plain) (outcome : Result Seen Fault) : Type 0 where
  pub short : length (table_text p.records) ≤ longest_script
      → (inner : Result Seen Fault) × ShowsText (table_text p.records) inner × (outcome ≡ numbered p.origins inner)
  pub long : longest_script < length (table_text p.records) → outcome ≡ Err why.TooLong

abbrev pub ShowsOf : Option Plain → List ℕ → Result Seen Fault → Type 0
ShowsOf None script outcome = ShowsText script outcome
ShowsOf (Some p) script outcome = ShowsPlan p outcome

-- of one of any version
abbrev pub ShowsBytes : List ℕ → Result Seen Fault → Type 0
ShowsBytes script outcome = ShowsOf (plain script) script outcome ⊎ (outcome ≡ Err why.NoMemory)

-- where the script was not had, that is the fault
abbrev pub ShowsHad : Result (Vec ℕ Global) Fault → Result Seen Fault → Type 0
ShowsHad (Ok script) outcome = ShowsBytes script.items outcome
ShowsHad (Err fault) outcome = outcome ≡ Err fault

-- what is to be told of one of two scripts
abbrev pub pair_noting : Telling → Noting
pair_noting telling = record { asked = telling.whole; follows = telling.notes; hints = telling.notes; range = Some whole }

-- what is seen at the end of the script of the file that is named, and else of what a reader had left, with its notes
pub record Shows (file : Option (List ℕ)) (telling : Telling) (outcome : Result Seen Fault) (notes : Result (Vec ℕ Global) Fault)
    (old : Option (List ℕ)) (old_failed : ℕ) (new : Option (List ℕ)) (new_failed : ℕ) : Type 0 where
  pub script : Result (Vec ℕ Global) Fault
  pub had : IsHad script
  pub source : IsSource file script old old_failed new new_failed
  pub shows : ShowsHad script outcome
  pub noted : AreNotes (pair_noting telling) (told_name file) script outcome notes

-- how many slots a script stepped, on how many processors
unfoldable pub size_text : ℕ → ℕ → List ℕ
size_text slots processors = decimal slots ++ codes " slots, " ++ decimal processors ++ codes " processors"

abbrev pub size_of : Seen → List ℕ
size_of seen = size_text seen.state.now seen.state.plan.settings.processors

-- where these differ, those of each script and those that are compared, as a line
abbrev pub are_as_large : Seen → Seen → Bool
are_as_large before after =
    (before.state.now == after.state.now) && (before.state.plan.settings.processors == after.state.plan.settings.processors)

unfoldable pub sized_text : List ℕ → Seen → List ℕ
sized_text file seen = file_text file ++ codes ": " ++ size_of seen ++ codes "; "

unfoldable pub sizes_line : List ℕ → List ℕ → Seen → Seen → List ℕ
sizes_line first second before after =
    sized_text first before ++ sized_text second after ++ codes "compared: "
    ++ size_text (min before.state.now after.state.now) (min before.state.plan.settings.processors after.state.plan.settings.processors) ++ codes "\n"

abbrev pub sizes_note : PairNames → Seen → Seen → List ℕ
sizes_note names before after =
    if are_as_large before after then [] else sizes_line (told_name names.first) (told_name names.second) before after

-- the notes of two scripts that were compared: where their sizes differ, these; then those of the first, and those of the second
abbrev pub JoinsNotes : Result (Vec ℕ Global) Fault → List ℕ → Result (Vec ℕ Global) Fault → Result (Vec ℕ Global) Fault → Type 0
JoinsNotes (Err fault) sizes first second = ⊤
JoinsNotes (Ok notes) sizes (Ok first) (Ok second) = notes.items ≡ sizes ++ first.items ++ second.items
JoinsNotes (Ok notes) sizes first second = ⊥

-- after the fault of the second one what is told after that; nothing where the output failed
abbrev pub PairNotes : PairNames → Bool → Seen → Result Seen Fault → Result (Vec ℕ Global) Fault → Result (Vec ℕ Global) Fault
    → Result Ending Fault → Result (Vec ℕ Global) Fault → Type 0
PairNotes names asked before (Err fault) first second answer notes = notes ≡ second
PairNotes names asked before (Ok after) first second (Ok ending) notes =
    OneOf asked (JoinsNotes notes (sizes_note names before after) first second) (notes_in notes ≡ [])
PairNotes names asked before (Ok after) first second (Err fault) notes = notes_in notes ≡ []

-- the answer to two desks
pub record DifferenceMade (options : DiffOptions) (before after : Seen) (made : Result Answer Fault) : Type 0 where
  pub tells : IfOk made (λ answer. told_by answer ≡ difference options before after)
  pub quiet : IfOk made (λ answer. answer.ending.notes.items ≡ [])
  pub stopped : IfErr made (λ fault. fault ≡ why.NoMemory)

-- the answer where the first desk was had, and what the writer took: a fault of the second script is the answer
abbrev pub AnswersSecond : DiffOptions → Seen → Result Seen Fault → Result Ending Fault → Option (List ℕ) → Option (List ℕ) → Type 0
AnswersSecond options before (Ok after) answer old new = (made : Result Answer Fault) × DifferenceMade options before after made × AnswersMade made answer old new
AnswersSecond options before (Err fault) answer old new = (answer ≡ Err fault) × Keeps old new
