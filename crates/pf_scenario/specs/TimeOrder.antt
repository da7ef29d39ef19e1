-- The order of all events of a scenario: slot by slot, and in a slot as a run takes them.
use Rattle.std.specs.Prelude.{ℕ, Bool, ◌&&◌, nat_le, nat_lt, List}
use Rattle.std.specs.declared.cmp.Ordering.{Ordering}
use Rattle.std.specs.Ordering.{nat_cmp, on, then_cmp}
use Rattle.pf_scenario.specs.Sorted.{put_in_order, sorted_by}
use Rattle.pf_scenario.specs.Event.{slot_of, run_cmp}
use Rattle.pf_scenario.specs.declared.event.Numbered.{Numbered}

-- by slot, and in a slot as a run takes them
unfoldable pub time_cmp : Numbered → Numbered → Ordering
time_cmp = then_cmp (on (λ x. slot_of x.event) nat_cmp) run_cmp

-- x in its place among events in this order
abbrev pub put_in_time : Numbered → List Numbered → List Numbered
put_in_time = put_in_order time_cmp

-- these events in this order
abbrev pub in_time_order : List Numbered → List Numbered
in_time_order = sorted_by time_cmp

-- the event is of a slot below t
abbrev pub is_before : ℕ → Numbered → Bool
is_before t x = nat_lt (slot_of x.event) t

-- the event is of a slot from a on and below b
abbrev pub is_between : ℕ → ℕ → Numbered → Bool
is_between a b x = nat_le a (slot_of x.event) && nat_lt (slot_of x.event) b
