-- The value that a mistake names.
use Rattle.std.specs.Prelude.{Bool, true, is_some, if◌then◌else◌, List, Option, None, Some, unwrap_or, codes}
use Rattle.clap.specs.Words.{Row, Text}
use Rattle.pf_text.specs.Numbers.{number_of}
use Rattle.pf_vocabulary.specs.declared.questions.mistake.WhyMistake.TheVariants as asking
use Rattle.pf_arguments.specs.CommandLine.{any_behind}
use Rattle.pf_arguments.specs.declared.mistake.Mistake.{Mistake}
use Rattle.pf_arguments.specs.declared.mistake.Mistake.TheVariants.{UnknownFormat, BadNumber, NoRange, Unranged, BadCell, NoCell, BadWrap, NoWrap, BadStyle, NoStyle, BadTasks, NoTasks, BadFailOn, BadSince, SinceOfTwo, InputTwice, Convert, Why}

-- the name of the format in use
abbrev pub format_in_use : Option (Text × List Row) → Text
format_in_use found = unwrap_or (any_behind (codes "format") found) (codes "tables")

-- an end of a range that is left out is as good as a number
abbrev pub is_good_end : Option Text → Bool
is_good_end None = true
is_good_end (Some text) = is_some (number_of text)

-- the first end that is no number
abbrev pub bad_end : Option Text → Option Text → Option Text
bad_end from to = if is_good_end from then to else from

-- of a mistake that is no one word's there is none
abbrev pub mistaken_value : Option (Text × List Row) → Mistake → Option Text
mistaken_value found UnknownFormat = any_behind (codes "format") found
mistaken_value found BadNumber = bad_end (any_behind (codes "from") found) (any_behind (codes "to") found)
mistaken_value found NoRange = Some (format_in_use found)
mistaken_value found Unranged = Some (format_in_use found)
mistaken_value found BadCell = any_behind (codes "cell") found
mistaken_value found NoCell = Some (format_in_use found)
mistaken_value found BadWrap = any_behind (codes "wrap") found
mistaken_value found NoWrap = Some (format_in_use found)
mistaken_value found BadStyle = any_behind (codes "style") found
mistaken_value found NoStyle = Some (format_in_use found)
mistaken_value found BadTasks = any_behind (codes "task") found
mistaken_value found NoTasks = Some (format_in_use found)
mistaken_value found BadFailOn = any_behind (codes "fail-on") found
mistaken_value found BadSince = any_behind (codes "since") found
mistaken_value found SinceOfTwo = None
mistaken_value found InputTwice = None
mistaken_value found (Convert mistake) = None
mistaken_value found (Why asking.Slot) = any_behind (codes "slot") found
mistaken_value found (Why asking.Format) = any_behind (codes "format") found
mistaken_value found (Why asking.Task) = any_behind (codes "task") found
