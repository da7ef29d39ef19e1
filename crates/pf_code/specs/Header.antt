-- The lines before the tasks of a table.
use Rattle.std.specs.Prelude.{ℕ, ◌-◌, Option, None, Some, List, [], ◌∷◌, ◌++◌, codes}
use Rattle.std.specs.Fmt.{decimal}
use Rattle.std.specs.Option.{unwrap_or}
use Rattle.pf_vocabulary.specs.declared.names.slot_length.SlotLength.{SlotLength}
use Rattle.pf_code.specs.Outline.{nanoseconds_of}
use Rattle.pf_code.specs.Parts.{joined}
use Rattle.pf_code.specs.Repetition.{known_span}
use Rattle.pf_code.specs.declared.outline.Outline.{Outline}
use Rattle.pf_code.specs.declared.repetition.Repetition.{Repetition}
use Rattle.pf_code.specs.declared.repetition.Repetition.TheVariants.{Every, OtherEvents, NoSlot, Overload, OutOfRange}

-- what the table is
abbrev pub title_line : Outline → List ℕ
title_line o =
    joined (codes "/* PD2 schedule, slots " ∷ decimal o.from ∷ codes " to " ∷ decimal o.to ∷ codes " of " ∷ decimal o.now ∷ codes ", " ∷ decimal o.processors
    ∷ codes " processors, base " ∷ decimal o.base ∷ codes ". A row is a slot, a column a processor; 0 is nobody. */\n" ∷ [])

-- whether it repeats, or why that is not known
abbrev pub repetition_line : Repetition → List ℕ
repetition_line (Every span) =
    joined (codes "/* It repeats: the tasks of slot t are those of row t mod " ∷ decimal span ∷ codes ", for ever. */\n" ∷ [])
repetition_line OtherEvents = codes "/* It is not known to repeat: more happens than joins in slot 0 without EARLY. */\n"
repetition_line NoSlot = codes "/* It is not known to repeat: no slot was stepped. */\n"
repetition_line Overload = codes "/* It is not known to repeat: the load is above the processors. */\n"
repetition_line (OutOfRange span) =
    joined (codes "/* It is not known to repeat: that takes the slots 0 to " ∷ decimal span ∷ codes ". */\n" ∷ [])

-- how often jobs may come
abbrev pub jobs_words : Option ℕ → List ℕ
jobs_words (Some span) =
    codes "/* Jobs come a period apart or more; those that come less often drift through the rows. Each is done within the time told, from its arrival on. */\n"
jobs_words None =
    codes "/* Jobs are planned at each period. Where convert rounded a period down, jobs come later than planned, and may end late. */\n"

-- that is told where the slot's length is
abbrev pub jobs_line : Option SlotLength → Repetition → List ℕ
jobs_line (Some slot) repetition = jobs_words (known_span repetition)
jobs_line None repetition = []

abbrev pub comments_text : Outline → List ℕ
comments_text o = title_line o ++ repetition_line o.repetition ++ jobs_line o.slot o.repetition

-- the guard, which begins as all names in capitals do
abbrev pub guard_lines : List ℕ → List ℕ
guard_lines capitals =
    joined (codes "#ifndef " ∷ capitals ∷ codes "_SCHEDULE_H\n#define " ∷ capitals ∷ codes "_SCHEDULE_H\n#include <stdint.h>\n" ∷ [])

abbrev pub slot_line : List ℕ → Option SlotLength → List ℕ
slot_line capitals (Some slot) = joined (codes "#define " ∷ capitals ∷ codes "_SLOT_NS UINT64_C(" ∷ decimal (nanoseconds_of slot) ∷ codes ")\n" ∷ [])
slot_line capitals None = []

-- m, F, T - F, and after how many slots the table repeats, 0 where that is not known
abbrev pub constants_line : List ℕ → Outline → List ℕ
constants_line capitals o =
    joined (codes "enum { " ∷ capitals ∷ codes "_PROCESSORS = " ∷ decimal o.processors ∷ codes ", " ∷ capitals ∷ codes "_FROM = " ∷ decimal o.from
    ∷ codes ", " ∷ capitals ∷ codes "_SLOTS = " ∷ decimal (o.to - o.from) ∷ codes ", " ∷ capitals ∷ codes "_REPEATS = "
    ∷ decimal (unwrap_or (known_span o.repetition) 0) ∷ codes " };\n" ∷ [])

abbrev pub constants_text : List ℕ → Outline → List ℕ
constants_text capitals o = guard_lines capitals ++ slot_line capitals o.slot ++ constants_line capitals o
