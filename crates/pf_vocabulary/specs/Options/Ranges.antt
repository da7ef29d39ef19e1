-- The slots of a range, and the formats that have one.
use Rattle.std.specs.Prelude.{ℕ, ◌-◌, Bool, ◌&&◌, nat_le, not, is_some, None}
use Rattle.std.specs.Option.{unwrap_or}
use Rattle.pf_vocabulary.specs.declared.options.slot_range.SlotRange.{SlotRange}

-- all slots
abbrev pub whole : SlotRange
whole = record { from = None; to = None }

-- its first slot
abbrev pub first_of : SlotRange → ℕ
first_of range = unwrap_or range.from 0

-- the slot at which it ends, where n slots were stepped
abbrev pub end_of : SlotRange → ℕ → ℕ
end_of range n = unwrap_or range.to n

-- how many slots are in it
abbrev pub slots_of : SlotRange → ℕ → ℕ
slots_of range n = end_of range n - first_of range

-- its ends are in order, and none is above n
abbrev pub is_within : SlotRange → ℕ → Bool
is_within range n = nat_le (first_of range) (end_of range n) && nat_le (end_of range n) n

-- both ends are left out
abbrev pub is_whole : SlotRange → Bool
is_whole range = not (is_some range.from) && not (is_some range.to)
