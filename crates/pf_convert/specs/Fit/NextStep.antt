-- The command that comes next.
use Rattle.std.specs.Prelude.{ℕ, Bool, true, false, nat_le, nat_lt, if◌then◌else◌, Option, None, Some, List, [], ◌∷◌, ◌++◌, codes}
use Rattle.std.specs.Fmt.{decimal}
use Rattle.std.specs.Str.{bytes_eq}
use Rattle.pf_message.specs.Shell.{shell_word}
use Rattle.pf_scenario.specs.declared.settings.TheConstants.{MOST_PROCESSORS}
use Rattle.pf_convert.specs.declared.fit.shown.Shown.{Shown}
use Rattle.pf_convert.specs.declared.words.arrivals.Arrivals.{Arrivals}
use Rattle.pf_convert.specs.declared.words.arrivals.Arrivals.TheVariants.{Aligned, Any}
use Rattle.pf_vocabulary.specs.declared.names.unit.Unit.{Unit}
use Rattle.pf_vocabulary.specs.Names.Slots.{unit_word}
use Rattle.pf_convert.specs.Fit.Shown.{is_fit}
use Rattle.pf_convert.specs.List.Parts.{joined}
use Rattle.pf_convert.specs.List.Times.{time_text}

-- the words of a time that is above 0
abbrev pub switch_word : Unit → ℕ → List ℕ
switch_word unit switch = if nat_lt 0 switch then joined (codes " --switch " ∷ time_text unit switch ∷ []) else []

abbrev pub given_unit_word : Option Unit → List ℕ
given_unit_word None = []
given_unit_word (Some unit) = joined (codes " --unit " ∷ unit_word unit ∷ [])

abbrev pub arrivals_word : Arrivals → List ℕ
arrivals_word Aligned = codes ""
arrivals_word Any = codes " --arrivals any"

-- the name of the file, nothing for standard input
abbrev pub file_word : List ℕ → List ℕ
file_word name = if bytes_eq name (codes "-") then [] else codes " " ++ shell_word name

-- the words that were given, but for quanta and processors
abbrev pub given_words : Shown → List ℕ
given_words s =
    switch_word s.file.now.unit s.quantum.switch ++ given_unit_word s.unit ++ arrivals_word s.terms.arrivals ++ file_word s.file.now.name.now ++ codes "\n"

abbrev pub convert_words : Shown → List ℕ
convert_words s =
    joined (codes "next: pfair convert --quantum " ∷ time_text s.file.now.unit s.quantum.length ∷ codes " --processors " ∷ decimal s.processors ∷ [])

abbrev pub quantum_word : Unit → ℕ → Bool → List ℕ
quantum_word unit quantum true = joined (codes " --quantum " ∷ time_text unit quantum ∷ [])
quantum_word unit quantum false = []

abbrev pub needed_words : ℕ → List ℕ
needed_words processors = joined (codes "next: pfair fit --processors " ∷ decimal processors ∷ [])

abbrev pub fit_again_words : Shown → List ℕ
fit_again_words s =
    needed_words s.margins.now.processors ++ quantum_word s.file.now.unit s.quantum.length s.is_given

-- to make the plan, or to look at as many processors as are needed, where there may be so many
abbrev pub next_text : Shown → List ℕ
next_text s =
    if is_fit s then convert_words s ++ given_words s
    else if nat_le s.margins.now.processors MOST_PROCESSORS then fit_again_words s ++ given_words s else []
