-- Whether a plan fits, and what is asked for.
use Rattle.std.specs.Prelude.{ℕ, ◌-◌, ◌/◌, ◌==◌, ◌&&◌, Bool, nat_lt, if◌then◌else◌, List, [], ◌∷◌, ◌++◌, map, codes}
use Rattle.std.specs.Fmt.{decimal}
use Rattle.pf_text.specs.Columns.Decimals.{cut, up, with_fewest_places, with_places}
use Rattle.pf_convert.specs.declared.fit.shown.Shown.{Shown}
use Rattle.pf_convert.specs.declared.words.arrivals.Arrivals.{Arrivals}
use Rattle.pf_convert.specs.declared.words.arrivals.Arrivals.TheVariants.{Aligned, Any}
use Rattle.pf_vocabulary.specs.declared.names.unit.Unit.{Unit}
use Rattle.pf_vocabulary.specs.Names.Slots.{unit_word}
use Rattle.pf_convert.specs.Conversion.Answers.{tried_text}
use Rattle.pf_convert.specs.Fit.Filled.{filled}
use Rattle.pf_convert.specs.Fit.Shown.{is_fit, room_of}
use Rattle.pf_convert.specs.List.Parts.{joined}
use Rattle.pf_convert.specs.List.Times.{places_of}
use Rattle.pf_convert.specs.Outcomes.{least_billionths_of}

abbrev pub arrivals_words : Arrivals → List ℕ
arrivals_words Aligned = codes "arrivals on slots"
arrivals_words Any = codes "arrivals at any time"

abbrev pub processors_word : ℕ → List ℕ
processors_word count = if count == 1 then codes " processor" else codes " processors"

abbrev pub fit_words : Bool → List ℕ
fit_words fit = if fit then codes "fits " else codes "does not fit "

-- a time with a blank and the unit after it
abbrev pub spaced_text : Unit → ℕ → List ℕ
spaced_text unit time = joined (with_fewest_places (places_of unit) time ∷ codes " " ∷ unit_word unit ∷ [])

abbrev pub verdict_front : Shown → List ℕ
verdict_front s =
    joined (fit_words (is_fit s) ∷ decimal s.processors ∷ processors_word s.processors ∷ codes ", " ∷ arrivals_words s.terms.arrivals ∷ codes ": " ∷ [])

-- what is free of the processors, or by how much it is too much
abbrev pub balance_text : Shown → List ℕ
balance_text s =
    if is_fit s then cut (room_of s - s.plan.now.load) s.plan.now.base 4 ++ codes " free\n"
    else up (s.plan.now.load - room_of s) s.plan.now.base 4 ++ codes " too much\n"

abbrev pub verdict_text : Shown → List ℕ
verdict_text s = verdict_front s ++ balance_text s

abbrev pub switch_words : Unit → ℕ → List ℕ
switch_words unit switch = if nat_lt 0 switch then codes ", switch " ++ spaced_text unit switch else []

-- what is asked for, and the quantum
abbrev pub asked_words : Shown → List ℕ
asked_words s =
    codes "asked for " ++ up s.plan.now.load s.plan.now.base 4 ++ codes ", work alone "
    ++ with_places 4 (least_billionths_of (map (λ t. t.times) s.listed.now) / 100000)
    ++ codes "; quantum " ++ spaced_text s.file.now.unit s.quantum.length ++ switch_words s.file.now.unit s.quantum.switch

-- of how many quanta it is, where several were tried or none was given
abbrev pub choice_text : Shown → List ℕ
choice_text s =
    if s.is_given && nat_lt s.count 2 then [] else filled (tried_text s.terms.processors s.margins.now.processors s.count)
