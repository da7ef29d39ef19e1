-- What is told of the words of a conversion.
use Rattle.std.specs.Prelude.{ℕ, ◌==◌, if◌then◌else◌, false, Option, None, Some, unwrap_or, Result, Ok, Err, List, [], ◌∷◌, ◌++◌, length, take, codes}
use Rattle.std.specs.List.{position}
use Rattle.pf_message.specs.Nearness.{near_name}
use Rattle.pf_text.specs.Columns.Decimals.{with_fewest_places}
use Rattle.pf_text.specs.Quoted.{quoted}
use Rattle.pf_vocabulary.specs.declared.names.unit.Unit.TheVariants.{Millisecond}
use Rattle.pf_convert.specs.declared.list.time.TimeFault.{TimeFault}
use Rattle.pf_convert.specs.List.Hints.{no_time_hint, time_or_nothing, with_points}
use Rattle.pf_convert.specs.List.Messages.{hint_text}
use Rattle.pf_convert.specs.List.Times.{places_of, time_in}
use Rattle.pf_convert.specs.Words.Reading.{ConvertTexts}
use Rattle.pf_convert.specs.declared.words.mistake.ConvertMistake.{ConvertMistake}
use Rattle.pf_convert.specs.declared.words.mistake.ConvertMistake.TheVariants.{Format, FitFormat, Unit as BadUnit, Quantum, Switch, Processors, Arrivals, SwitchNotBelow, SeveralQuanta}

abbrev pub mistake_words : ConvertMistake → List ℕ
mistake_words Format = codes "unknown format "
mistake_words FitFormat = codes "unknown format "
mistake_words BadUnit = codes "--unit takes ns, us, ms or s, not "
mistake_words Quantum = codes "--quantum takes 1 to 64 times above 0 and up to 1 s, joined by commas, each once, not "
mistake_words Switch = codes "--switch takes a time, not "
mistake_words Processors = codes "--processors takes a number of 1 to 64, not "
mistake_words Arrivals = codes "--arrivals takes aligned or any, not "
mistake_words (SwitchNotBelow unit quantum) = codes "--switch is not below the quantum "
mistake_words SeveralQuanta = codes "--format script takes one quantum"

-- the text of the word that is mistaken
abbrev pub mistaken_word : ConvertTexts → ConvertMistake → Option (List ℕ)
mistaken_word t Format = t.format
mistaken_word t FitFormat = t.format
mistaken_word t BadUnit = t.unit
mistaken_word t Quantum = t.quantum
mistaken_word t Switch = t.switch
mistaken_word t Processors = t.processors
mistaken_word t Arrivals = t.arrivals
mistaken_word t (SwitchNotBelow unit quantum) = None
mistaken_word t SeveralQuanta = None

abbrev pub mistaken_text : ConvertTexts → ConvertMistake → List ℕ
mistaken_text t mistake = unwrap_or (mistaken_word t mistake) []

-- the value that a mistake names: the word, or a quantum as a decimal
abbrev pub value_shown : ConvertTexts → ConvertMistake → List ℕ
value_shown t Format = quoted (mistaken_text t Format)
value_shown t FitFormat = quoted (mistaken_text t FitFormat)
value_shown t BadUnit = quoted (mistaken_text t BadUnit)
value_shown t Quantum = quoted (mistaken_text t Quantum)
value_shown t Switch = quoted (mistaken_text t Switch)
value_shown t Processors = quoted (mistaken_text t Processors)
value_shown t Arrivals = quoted (mistaken_text t Arrivals)
value_shown t (SwitchNotBelow unit quantum) = with_fewest_places (places_of unit) quantum
value_shown t SeveralQuanta = []

-- two times that a comma joins, the first of them 0: the decimal that they would be
abbrev pub after_zero : List ℕ → Result ℕ TimeFault → List ℕ
after_zero word (Ok time) = if time == 0 then time_or_nothing (with_points word) (time_in Millisecond (with_points word)) else []
after_zero word (Err fault) = []

abbrev pub with_comma : List ℕ → Option ℕ → List ℕ
with_comma word None = []
with_comma word (Some place) = after_zero word (time_in Millisecond (take place word))

unfoldable pub quanta_hint : List ℕ → List ℕ
quanta_hint word = with_comma word (position (λ b. b == 44) word)

-- what would be right in place of a switch
abbrev pub or_what_times_are : List ℕ → List ℕ
or_what_times_are hint =
    if length hint == 0 then codes "a time is up to 9 digits on each side of a point, and ns, us, ms, s or nothing" else hint

-- what would be right in place of a word
abbrev pub mistake_hint : ConvertTexts → ConvertMistake → List ℕ
mistake_hint t Format = unwrap_or (near_name (mistaken_text t Format) (codes "script" ∷ codes "table" ∷ codes "json" ∷ [])) (codes "script, table, json")
mistake_hint t FitFormat = unwrap_or (near_name (mistaken_text t FitFormat) (codes "text" ∷ codes "json" ∷ [])) (codes "text, json")
mistake_hint t BadUnit = unwrap_or (near_name (mistaken_text t BadUnit) (codes "ns" ∷ codes "us" ∷ codes "ms" ∷ codes "s" ∷ [])) []
mistake_hint t Quantum = quanta_hint (mistaken_text t Quantum)
mistake_hint t Switch = or_what_times_are (no_time_hint false (mistaken_text t Switch))
mistake_hint t Processors = []
mistake_hint t Arrivals = unwrap_or (near_name (mistaken_text t Arrivals) (codes "aligned" ∷ codes "any" ∷ [])) []
mistake_hint t (SwitchNotBelow unit quantum) = []
mistake_hint t SeveralQuanta = codes "-f table compares several"

-- what is told of a mistake of these words: a line, and that of a hint
abbrev pub convert_mistake_text : ConvertTexts → ConvertMistake → List ℕ
convert_mistake_text t mistake = mistake_words mistake ++ value_shown t mistake ++ codes "\n" ++ hint_text (mistake_hint t mistake)
