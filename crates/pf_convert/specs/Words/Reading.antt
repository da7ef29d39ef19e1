-- What the words of a conversion ask for.
use Rattle.std.specs.Prelude.{ℕ, ◌≡◌, ◌<◌, ◌≤◌, All, IfSome, ◌==◌, ◌&&◌, Bool, true, false, nat_le, nat_lt, if◌then◌else◌, option_map, unwrap_or, Option, None, Some, Result, Ok, Err, List, [], ◌∷◌, ◌++◌, length, codes}
use Rattle.std.specs.Str.{bytes_eq}
use Rattle.pf_convert.specs.declared.quantum.TheConstants.{LONGEST_QUANTUM}
use Rattle.pf_vocabulary.specs.declared.names.unit.Unit.{Unit}
use Rattle.pf_vocabulary.specs.declared.names.unit.Unit.TheVariants.{Millisecond}
use Rattle.pf_vocabulary.specs.Names.Slots.{unit_named}
use Rattle.pf_scenario.specs.declared.settings.TheConstants.{MOST_PROCESSORS}
use Rattle.pf_convert.specs.declared.list.time.TimeFault.{TimeFault}
use Rattle.pf_convert.specs.List.Times.{◌>>=◌, few_digits, time_in}
use Rattle.pf_convert.specs.declared.words.conversion.Conversion.{Conversion}
use Rattle.pf_convert.specs.declared.words.conversion.ConvertFormat.{ConvertFormat}
use Rattle.pf_convert.specs.declared.words.conversion.ConvertFormat.TheVariants.{Script, Table, Json}
use Rattle.pf_convert.specs.declared.words.mistake.ConvertMistake.{ConvertMistake}
use Rattle.pf_convert.specs.declared.words.mistake.ConvertMistake.TheVariants.{Format, Unit as BadUnit, Quantum, Switch, Processors, Arrivals as BadArrivals, SwitchNotBelow, SeveralQuanta}
use Rattle.pf_convert.specs.declared.words.arrivals.Arrivals.{Arrivals}
use Rattle.pf_convert.specs.declared.words.arrivals.Arrivals.TheVariants.{Aligned, Any}
use Rattle.pf_convert.specs.declared.words.quanta.TheConstants.{MOST_QUANTA}
use Rattle.pf_convert.specs.declared.words.read.ConvertWords.{ConvertWords}

-- the format of a name
unfoldable pub format_named : List ℕ → Result (Option ConvertFormat) ConvertMistake
format_named name =
    if bytes_eq name (codes "script") then Ok (Some Script)
    else if bytes_eq name (codes "table") then Ok (Some Table)
    else if bytes_eq name (codes "json") then Ok (Some Json)
    else Err Format

abbrev pub format_given : Option (List ℕ) → Result (Option ConvertFormat) ConvertMistake
format_given None = Ok None
format_given (Some name) = format_named name

-- the unit of a name, where there is one
abbrev pub unit_or_mistake : Option Unit → Result (Option Unit) ConvertMistake
unit_or_mistake None = Err BadUnit
unit_or_mistake (Some unit) = Ok (Some unit)

abbrev pub unit_given : Option (List ℕ) → Result (Option Unit) ConvertMistake
unit_given None = Ok None
unit_given (Some name) = unit_or_mistake (unit_named name)

-- when jobs arrive, as slots begin where it is left out
unfoldable pub arrivals_named : List ℕ → Result Arrivals ConvertMistake
arrivals_named name =
    if bytes_eq name (codes "aligned") then Ok Aligned
    else if bytes_eq name (codes "any") then Ok Any
    else Err BadArrivals

abbrev pub arrivals_given : Option (List ℕ) → Result Arrivals ConvertMistake
arrivals_given None = Ok Aligned
arrivals_given (Some name) = arrivals_named name

-- the words of a text that commas join, after a word so far
unfoldable pub words_from : List ℕ → List ℕ → List (List ℕ)
words_from word [] = word ∷ []
words_from word (byte ∷ bytes) = if byte == 44 then word ∷ words_from [] bytes else words_from (word ++ byte ∷ []) bytes

unfoldable pub has_quantum : ℕ → List ℕ → Bool
has_quantum quantum [] = false
has_quantum quantum (other ∷ quanta) = if other == quantum then true else has_quantum quantum quanta

-- a time above 0 and up to a second, which none of these is, and of which there are not 64 yet
abbrev pub fits_behind : List ℕ → ℕ → Bool
fits_behind quanta quantum = nat_le 1 quantum && nat_le quantum LONGEST_QUANTUM && (if has_quantum quantum quanta then false else nat_lt (length quanta) MOST_QUANTA)

abbrev pub time_added : List ℕ → Result ℕ TimeFault → Result (List ℕ) ConvertMistake
time_added quanta (Ok quantum) = if fits_behind quanta quantum then Ok (quanta ++ quantum ∷ []) else Err Quantum
time_added quanta (Err fault) = Err Quantum

abbrev pub quantum_added : Unit → List ℕ → List ℕ → Result (List ℕ) ConvertMistake
quantum_added unit quanta text = time_added quanta (time_in unit text)

-- the quanta with those of these words after them
unfoldable pub quanta_from : Unit → List ℕ → List (List ℕ) → Result (List ℕ) ConvertMistake
quanta_from unit quanta [] = Ok quanta
quanta_from unit quanta (word ∷ words) = quantum_added unit quanta word >>= λ more. quanta_from unit more words

abbrev pub quanta_given : Unit → List ℕ → Result (List ℕ) ConvertMistake
quanta_given unit text = quanta_from unit [] (words_from [] text)

-- none where they are left out
abbrev pub quantum_given : Unit → Option (List ℕ) → Result (List ℕ) ConvertMistake
quantum_given unit None = Ok []
quantum_given unit (Some text) = quanta_given unit text

-- how long a switch takes; nothing where it is left out
abbrev pub switch_read : Result ℕ TimeFault → Result ℕ ConvertMistake
switch_read (Ok time) = Ok time
switch_read (Err fault) = Err Switch

abbrev pub switch_given : Unit → Option (List ℕ) → Result ℕ ConvertMistake
switch_given unit None = Ok 0
switch_given unit (Some text) = switch_read (time_in unit text)

-- 1 to 64 processors, where they are given
abbrev pub processors_read : Option ℕ → Result (Option ℕ) ConvertMistake
processors_read None = Err Processors
processors_read (Some number) = if nat_le 1 number && nat_le number MOST_PROCESSORS then Ok (Some number) else Err Processors

abbrev pub processors_given : Option (List ℕ) → Result (Option ℕ) ConvertMistake
processors_given None = Ok None
processors_given (Some text) = processors_read (few_digits text)

-- the first quantum that the switch is not below
unfoldable pub first_not_above : ℕ → List ℕ → Option ℕ
first_not_above switch [] = None
first_not_above switch (quantum ∷ quanta) = if nat_le quantum switch then Some quantum else first_not_above switch quanta

abbrev pub longer_than : Unit → Option ℕ → Result ℕ ConvertMistake
longer_than unit None = Ok 0
longer_than unit (Some quantum) = Err (SwitchNotBelow unit quantum)

-- a table of several quanta, and else a script, where no format is named
abbrev pub format_for : Option ConvertFormat → ℕ → Result ConvertFormat ConvertMistake
format_for None count = if nat_lt 1 count then Ok Table else Ok Script
format_for (Some Script) count = if nat_lt 1 count then Err SeveralQuanta else Ok Script
format_for (Some Table) count = Ok Table
format_for (Some Json) count = Ok Json

-- the texts of a conversion's words
pub record ConvertTexts : Type 0 where
  pub format : Option (List ℕ)
  pub unit : Option (List ℕ)
  pub quantum : Option (List ℕ)
  pub switch : Option (List ℕ)
  pub processors : Option (List ℕ)
  pub arrivals : Option (List ℕ)

abbrev pub texts_of : ConvertWords → ConvertTexts
texts_of w = record {
  format = option_map (λ t. t.now) w.format;
  unit = option_map (λ t. t.now) w.unit;
  quantum = option_map (λ t. t.now) w.quantum;
  switch = option_map (λ t. t.now) w.switch;
  processors = option_map (λ t. t.now) w.processors;
  arrivals = option_map (λ t. t.now) w.arrivals;
}

-- the switch is below each quantum, which is up to a second long, there are 64 processors at most, and a script has one quantum at most
pub record IsConversion (c : Conversion) : Type 0 where
  pub longer : All (λ q. c.switch < q) c.quanta
  pub short : All (λ q. q ≤ LONGEST_QUANTUM) c.quanta
  pub few : IfSome c.processors (λ m. m ≤ 64)
  pub one : c.format ≡ Script → length c.quanta ≤ 1

-- the unit of times that carry none: milliseconds where it is left out
abbrev pub counted_in : Option Unit → Unit
counted_in given = unwrap_or given Millisecond

-- what these texts ask for, or the first of them that is mistaken
unfoldable pub conversion_of : ConvertTexts → Result Conversion ConvertMistake
conversion_of t = do
  named ← format_given t.format
  unit ← unit_given t.unit
  quanta ← quantum_given (counted_in unit) t.quantum
  switch ← switch_given (counted_in unit) t.switch
  processors ← processors_given t.processors
  arrivals ← arrivals_given t.arrivals
  _ ← longer_than (counted_in unit) (first_not_above switch quanta)
  format ← format_for named (length quanta)
  Ok (record { format = format; unit = unit; quanta = quanta; switch = switch; processors = processors; arrivals = arrivals })
