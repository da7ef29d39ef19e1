-- What a script shows of what is wanted: the text that the program gives of it, or the words of why it gives none.
use Rattle.std.specs.Prelude.{ℕ, ◌≡◌, ◌-◌, ◌<◌, ◌≤◌, nat_lt, if◌then◌else◌, List, ◌++◌, codes, length, take, Option, None, Some, Result, Ok, Err}
use Rattle.std.specs.Fmt.{decimal}
use Rattle.pf_vocabulary.specs.declared.fault.answer.Answer.{Answer}
use Rattle.pf_vocabulary.specs.declared.fault.fault.Fault.{Fault}
use Rattle.pf_vocabulary.specs.declared.fault.fault.Fault.TheVariants as why
use Rattle.pf_vocabulary.specs.declared.fault.range_fault.RangeFault.{RangeFault}
use Rattle.pf_vocabulary.specs.declared.fault.range_fault.RangeFault.TheVariants as range
use Rattle.pf_vocabulary.specs.declared.fault.status.Status.{Status}
use Rattle.pf_vocabulary.specs.declared.fault.status.Status.TheVariants as status
use Rattle.pf_vocabulary.specs.Names.Titled.{untitled}
use Rattle.pf_vocabulary.specs.Options.Formats.{range_of}
use Rattle.pf_vocabulary.specs.Options.Ranges.{first_of, slots_of}
use Rattle.pf_vocabulary.specs.declared.options.format.Format.{Format}
use Rattle.pf_vocabulary.specs.declared.options.format.Format.TheVariants.{Html}
use Rattle.pf_vocabulary.specs.declared.names.titles.Titles.{Titles}
use Rattle.pf_plain_script.specs.Plain.{Plain, plain}
use Rattle.pf_plain_script.specs.declared.origin.Origin.{Origin}
use Rattle.pf_stream.specs.Reading.{longest_script}
use Rattle.pf_text.specs.Page.{table_text}
use Rattle.pf_script.specs.declared.plan.fault.BadRecord.{BadRecord}
use Rattle.pf_script.specs.declared.plan.fault.Reason.{Reason}
use Rattle.pf_script.specs.declared.plan.fault.Reason.TheVariants.{NoSettings}
use Rattle.pf_session_views.specs.Answered.{Answers}
use Rattle.pf_session_lines.specs.declared.showing.Showing.{Showing}
use Rattle.pf_session_lines.specs.declared.showing.Showing.TheVariants.{Text, Bad}
use Rattle.pf_session_lines.specs.declared.wanted.Wanted.{Wanted}
use Rattle.pf_session_lines.specs.declared.wanted.Wanted.TheVariants.{Report}

-- of a bad record; one that comes before the settings, or in place of them, lacks these
abbrev pub bad_record : ℕ → List ℕ
bad_record number = codes "bad record " ++ decimal number

abbrev pub reason_words : Reason → ℕ → List ℕ
reason_words NoSettings number = codes "settings are expected"
reason_words reason number = bad_record number

-- by the first bad record of the plan, where there is one
abbrev pub record_words : Option BadRecord → ℕ → List ℕ
record_words None number = bad_record number
record_words (Some bad) number = reason_words bad.fault.reason bad.number

-- an end of a range, after its letter, is above the slots stepped, which are so many
abbrev pub above_text : List ℕ → ℕ → ℕ → List ℕ
above_text letter end n = letter ++ (decimal end ++ (codes " is above " ++ (decimal n ++ codes ", the slots stepped")))

-- a range begins after its end
abbrev pub order_text : ℕ → ℕ → List ℕ
order_text from to = codes "F " ++ (decimal from ++ (codes " is above T " ++ decimal to))

-- a range from here, to its end where it has one, is not within so many slots
abbrev pub outside_text : ℕ → Option ℕ → ℕ → List ℕ
outside_text from None n = above_text (codes "F ") from n
outside_text from (Some to) n =
    if nat_lt to from then order_text from to
    else if nat_lt n to then above_text (codes "T ") to n
    else above_text (codes "F ") from n

-- a picture or a page of so many slots is too long
abbrev pub long_text : Format → ℕ → List ℕ
long_text Html slots = codes "a page shows at most 65536 slots, and " ++ (decimal slots ++ codes " are asked for")
long_text format slots = codes "a picture shows at most 4096 slots, and " ++ (decimal slots ++ codes " are asked for")

-- why a format can't be shown of so many slots
abbrev pub range_text : Format → ℕ → RangeFault → List ℕ
range_text format n (range.NotWithin now) = outside_text (first_of (range_of format)) (range_of format).to n
range_text format n range.TooLong = long_text format (slots_of (range_of format) n)

-- where a format was wanted
abbrev pub AreRangeWords : Wanted → ℕ → RangeFault → List ℕ → Type 0
AreRangeWords (Report format) n fault words = words ≡ range_text format n fault
AreRangeWords wanted n fault words = ⊥

-- the words of a fault that a script of n slots has
abbrev pub AreWords : Wanted → ℕ → Option BadRecord → Fault → List ℕ → Type 0
AreWords w n bad (why.BadRecord number) words = words ≡ record_words bad number
AreWords w n bad why.TooLong words = words ≡ codes "the script is longer than 16777216 bytes"
AreWords w n bad (why.BadRange fault) words = AreRangeWords w n fault words
AreWords w n bad fault words = ⊥

-- a line without its end
abbrev pub without_end : List ℕ → List ℕ
without_end line = take (length line - 1) line

-- of an answer its text; where the words are mistaken it tells that in a line, and has no text
abbrev pub ShowsAnswer : Status → Answer → Showing → Type 0
ShowsAnswer status.BadWords answer (Bad words) = words.items ≡ without_end answer.ending.notes.items
ShowsAnswer status.BadWords answer (Text text) = ⊥
ShowsAnswer status answer (Bad words) = ⊥
ShowsAnswer status answer (Text text) = text.items ≡ answer.text.items

-- or the words of a fault
abbrev pub IsShown : Wanted → ℕ → Option BadRecord → Result Answer Fault → Showing → Type 0
IsShown w n bad (Ok answer) showing = ShowsAnswer answer.ending.status answer showing
IsShown w n bad (Err fault) (Bad words) = AreWords w n bad fault words.items
IsShown w n bad (Err fault) (Text text) = ⊥

-- of a script of version 1 or 2, where it is short enough; n slots were stepped, and `bad`, the titles and the origins are those of the plan
-- that it belongs to
pub record ShowsShort (n : ℕ) (bad : Option BadRecord) (titles : Titles) (origins : Option (List Origin)) (w : Wanted) (script : List ℕ) (showing : Showing) : Type 0 where
  pub short : length script ≤ longest_script → (made : Result Answer Fault) × Answers w titles origins script made × IsShown w n bad made showing
  pub long : longest_script < length script → IsShown w n bad (Err why.TooLong) showing

-- of a plan, by the script of version 2 that belongs to it
abbrev pub ShowsPlan : ℕ → Plain → Wanted → Showing → Type 0
ShowsPlan n p w showing = ShowsShort n p.bad p.titles (Some p.origins) w (table_text p.records) showing

abbrev pub ShowsOf : ℕ → Option Plain → Wanted → List ℕ → Showing → Type 0
ShowsOf n None w script showing = ShowsShort n None untitled None w script showing
ShowsOf n (Some p) w script showing = ShowsPlan n p w showing

-- of one of any version, by which n slots were stepped
abbrev pub Shows : ℕ → Wanted → List ℕ → Showing → Type 0
Shows n w script showing = ShowsOf n (plain script) w script showing
