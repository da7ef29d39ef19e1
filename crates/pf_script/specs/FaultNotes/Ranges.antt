-- Why a range can't be shown.
use Rattle.std.specs.Prelude.{ℕ, nat_lt, if◌then◌else◌, Option, None, Some, List, ◌++◌, codes}
use Rattle.std.specs.Fmt.{decimal}
use Rattle.pf_vocabulary.specs.Options.Ranges.{first_of}
use Rattle.pf_vocabulary.specs.declared.options.slot_range.SlotRange.{SlotRange}

-- an end of a range, after its word, is above the slots stepped
abbrev pub above_text : List ℕ → ℕ → ℕ → List ℕ
above_text word end now = word ++ decimal end ++ codes " is above " ++ decimal now ++ codes ", the slots stepped\n"

-- a range begins after its end
abbrev pub order_note : ℕ → ℕ → List ℕ
order_note from to = codes "--from " ++ decimal from ++ codes " is above --to " ++ decimal to ++ codes "\n"

-- a range that begins here, by its end where it has one
abbrev pub outside_by : ℕ → Option ℕ → ℕ → List ℕ
outside_by from None now = above_text (codes "--from ") from now
outside_by from (Some to) now =
    if nat_lt to from then order_note from to
    else if nat_lt now to then above_text (codes "--to ") to now
    else above_text (codes "--from ") from now

-- which end of a range is not within so many slots
abbrev pub outside_note : SlotRange → ℕ → List ℕ
outside_note range now = outside_by (first_of range) range.to now

-- how many slots a picture was asked for that may not show so many
abbrev pub long_note : ℕ → List ℕ
long_note slots = codes "a picture shows at most 4096 slots, and " ++ decimal slots ++ codes " are asked for: --from and --to choose some\n"

-- how many slots were stepped that a page may not show
abbrev pub page_note : ℕ → List ℕ
page_note slots = codes "a page shows at most 65536 slots, and " ++ decimal slots ++ codes " were stepped\n"
