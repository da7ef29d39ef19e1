-- The lines of a fit above and below its table.
use Rattle.std.specs.Prelude.{ℕ, ◌-◌, ◌/◌, ◌==◌, ◌&&◌, Bool, nat_lt, if◌then◌else◌, Option, None, Some, List, [], ◌++◌, codes}
use Rattle.std.specs.Fmt.{decimal}
use Rattle.pf_text.specs.Columns.Decimals.{cut, up}
use Rattle.pf_tally.specs.declared.level.Level.{Level}
use Rattle.pf_verdict.specs.declared.strain.Strain.{Strain}
use Rattle.pf_verdict.specs.declared.verdict.Verdict.{Verdict}
use Rattle.pf_verdict.specs.declared.verdict.Verdict.TheVariants.{Fits, FitsSoFar, DoesNotFit}
use Rattle.pf_fit_text.specs.declared.carried.Carried.{Carried}

-- a word, a number, and what follows
abbrev pub put : List ℕ → ℕ → List ℕ → List ℕ
put word number rest = word ++ (decimal number ++ rest)

abbrev pub verdict_word : Verdict → List ℕ
verdict_word Fits = codes "fits"
verdict_word FitsSoFar = codes "fits so far"
verdict_word DoesNotFit = codes "does not fit"

-- the quanta that a slot has left, or by how many it is asked for too much
unfoldable pub free_text : ℕ → Level → List ℕ
free_text base level =
    if nat_lt level.room level.load then up (level.load - level.room) base 4 ++ codes " too much\n"
    else cut (level.room - level.load) base 4 ++ codes " free\n"

unfoldable pub slot_text : ℕ → Level → List ℕ
slot_text base level = put (codes " of ") (level.room / base) (put (codes " processors in slot ") level.slot (codes ", "))

-- the load of a slot in processors, above it where it is no whole number of 1/10000
unfoldable pub level_text : ℕ → Level → List ℕ
level_text base level = up level.load base 4 ++ slot_text base level ++ free_text base level

-- what all joins held ask for together, where one is denied as it asks for more than the cap leaves
unfoldable pub joins_line : ℕ → ℕ → ℕ → List ℕ
joins_line base processors joins = codes "all joins together: " ++ up joins base 4 ++ put (codes " of ") processors (codes " processors\n")

abbrev pub joins_text : ℕ → ℕ → Option ℕ → List ℕ
joins_text base processors None = []
joins_text base processors (Some joins) = joins_line base processors joins

-- the slots, and what was refused, denied, not reached and missed
unfoldable pub counts_line : ℕ → ℕ → ℕ → ℕ → ℕ → List ℕ
counts_line now refused denied unreached missed =
    put (codes "in ") now (put (codes " slots: ") refused (put (codes " refused, ") denied
    (put (codes " denied, ") unreached (put (codes " not reached, ") missed (codes " windows missed\n")))))

-- behind the verdict the tightest slot, and then the counts; where it does not fit the counts, and then the tightest slot
unfoldable pub counts_first : List ℕ → List ℕ → List ℕ → List ℕ
counts_first counts tightest joins = counts ++ codes "tightest: " ++ tightest ++ joins

abbrev pub stepped_text : Verdict → List ℕ → List ℕ → List ℕ → List ℕ
stepped_text Fits counts tightest joins = tightest ++ counts
stepped_text FitsSoFar counts tightest joins = tightest ++ counts
stepped_text DoesNotFit counts tightest joins = counts_first counts tightest joins

-- the same where no slot may have been stepped
abbrev pub judged_text : Carried → Option ℕ → Verdict → List ℕ → Option Level → List ℕ
judged_text carried joins verdict counts None = codes "no slot was stepped\n" ++ counts
judged_text carried joins verdict counts (Some level) =
    stepped_text verdict counts (level_text carried.base level) (joins_text carried.base carried.processors joins)

-- lines 1 and 2, and a third one where an event is denied so
unfoldable pub top_lines : Carried → Option ℕ → Verdict → List ℕ → Option Level → List ℕ
top_lines carried joins verdict counts tightest = verdict_word verdict ++ codes ": " ++ judged_text carried joins verdict counts tightest

-- lines 4: where the load was above the processors in use, and how late it can have made a window: so many quanta as it comes to
unfoldable pub above_line : ℕ → ℕ → List ℕ
above_line above first =
    put (codes "overloaded: in ") above
    (put (codes " slots the load is above the processors in use, first in slot ") first (codes "\n"))

unfoldable pub late_end : ℕ → List ℕ
late_end late = put (codes " quanta too many in all, so no window is ever more than ") late (codes " slots late in them\n")

unfoldable pub late_line : ℕ → ℕ → List ℕ
late_line base units = codes "by theorem: they are asked for " ++ up units base 4 ++ late_end (units / base)

abbrev pub overload_text : ℕ → Option ℕ → ℕ → ℕ → List ℕ
overload_text base None above units = []
overload_text base (Some first) above units = above_line above first ++ late_line base units

-- line 5, where a slot was stepped and none asked for more than its processors
unfoldable pub run_line : List ℕ
run_line =
    codes "by theorem: in each slot stepped the load is within the processors in use, so no window is missed in them\n"

-- line 6, where the processors carry the cap
unfoldable pub settings_line : List ℕ
settings_line =
    codes "by theorem: the processors in use carry the cap, so no window is missed later either, whatever joins, leaves or is delayed\n"

abbrev pub is_proved_in : ℕ → Strain → Bool
is_proved_in now strain = nat_lt 0 now && strain.above == 0

abbrev pub proved_text : Bool → Bool → List ℕ
proved_text run settings = (if run then run_line else []) ++ (if settings then settings_line else [])
