-- The lines below the table of a plan.
use Rattle.std.specs.Prelude.{ℕ, ◌-◌, ◌*◌, Bool, true, false, nat_le, if◌then◌else◌, List, [], ◌∷◌, ◌++◌, codes}
use Rattle.std.specs.Fmt.{decimal}
use Rattle.pf_text.specs.Columns.Decimals.{cut, up}
use Rattle.pf_convert.specs.declared.plan.Plan.{Plan}
use Rattle.pf_convert.specs.List.Parts.{joined}

abbrev pub base_words : Bool → List ℕ
base_words true = codes ": the least common multiple of the periods\n"
base_words false = codes ": each period is rounded down to a divisor of it\n"

abbrev pub base_line : ℕ → Bool → List ℕ
base_line base exact = joined (codes "base " ∷ decimal base ∷ base_words exact ∷ [])

-- what is asked for, and of how much; the work is told in billionths of a processor
abbrev pub load_line : ℕ → ℕ → ℕ → ℕ → List ℕ
load_line processors base load work =
    codes "work " ++ up work 1000000000 4 ++ codes ", planned " ++ up load base 4 ++ joined (codes " of " ∷ decimal processors ∷ codes " processors, " ∷ [])

-- which part of a processor is free, rounded down, or by how much it is too much, rounded up
abbrev pub room_text : ℕ → ℕ → ℕ → List ℕ
room_text base load room =
    if nat_le load room then cut (room - load) base 4 ++ codes " free: fits\n" else up (load - room) base 4 ++ codes " too much: does not fit\n"

unfoldable pub summary_text : ℕ → Plan → ℕ → List ℕ
summary_text processors plan work =
    base_line plan.base plan.exact ++ load_line processors plan.base plan.load work ++ room_text plan.base plan.load (processors * plan.base)
