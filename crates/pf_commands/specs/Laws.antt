-- The laws of checks and runs.
use Rattle.std.specs.Prelude.{ℕ, ◌≡◌, ◌≤◌, ◌⊎◌, Option, Some, List, [], ◌∷◌, length}
use Rattle.pf_vocabulary.specs.declared.names.titles.Titles.{Titles}
use Rattle.pf_plain_script.specs.declared.origin.Origin.{Origin}
use Rattle.pf_vocabulary.specs.declared.options.format.Format.{Format}
use Rattle.pf_vocabulary.specs.declared.fault.range_fault.RangeFault.{RangeFault}
use Rattle.pf_vocabulary.specs.Options.Formats.{range_fault}
use Rattle.pf_stream.specs.Reading.{longest_script}
use Rattle.pf_script.specs.Told.{FaultTold, faults}
use Rattle.pf_commands.specs.Meaning.{End, Done, BadRecord, Outside, script_meaning}

-- a script without a bad record ends well, but where the range of its format can't be shown
abbrev pub EndsWhole : Format → End → Type 0
EndsWhole format end = (end ≡ Done) ⊎ ((now : ℕ) × (fault : RangeFault) × (end ≡ Outside fault) × (range_fault format now ≡ Some fault))

-- how a script ends in which a check finds these faults: at the record of the first one
abbrev pub EndsAt : Format → List FaultTold → End → Type 0
EndsAt format [] end = EndsWhole format end
EndsAt format (fault ∷ others) end = end ≡ BadRecord fault.bad.number

-- in every format a script that isn't too long ends at the first fault that a check finds in it
abbrev pub RunsEndAtTheFirstFault : Type 0
RunsEndAtTheFirstFault = (format : Format) (titles : Titles) (origins : Option (List Origin)) (bytes : List ℕ) → length bytes ≤ longest_script →
    EndsAt format (faults bytes) (script_meaning format titles origins bytes).end

-- a script has no text where the range of its format can't be shown
abbrev pub NothingIsWrittenOutside : Type 0
NothingIsWrittenOutside = (format : Format) (titles : Titles) (origins : Option (List Origin)) (bytes : List ℕ) (fault : RangeFault) →
    (script_meaning format titles origins bytes).end ≡ Outside fault → (script_meaning format titles origins bytes).text ≡ []
