-- Which of the slots stepped a change has changed: those whose rows are not as before.
use Rattle.std.specs.Prelude.{ℕ, zero, suc, ◌==◌, ◌&&◌, Bool, true, false, nat_lt, unwrap_or, if◌then◌else◌, Option, None, Some, List}
use Rattle.std.specs.List.{slice_get}
use Rattle.pf_order.specs.declared.pick.Pick.{Pick}
use Rattle.pf_place.specs.Occupancy.{sitter}
use Rattle.pf_run.specs.RunRows.{rows_in}
use Rattle.pf_scenario.specs.Scenario.{plan_after, slot_touched}
use Rattle.pf_scenario.specs.declared.change.Change.{Change}
use Rattle.pf_desk.specs.Machine.{State}
use Rattle.pf_answers.specs.declared.slots.SlotsChanged.{SlotsChanged}
use Rattle.pf_answers.specs.declared.slots.SlotsChanged.TheVariants.{Untouched, Same, Between}

-- the same sits on a processor, or nobody does
abbrev pub same_sitter : Option Pick → Option Pick → Bool
same_sitter None None = true
same_sitter (Some a) (Some b) = a.task == b.task && a.sub == b.sub
same_sitter a b = false

-- two rows seat the same on each of so many processors
abbrev pub same_places : List (Option Pick) → List (Option Pick) → ℕ → Bool
same_places a b zero = true
same_places a b (suc m) = same_places a b m && same_sitter (sitter a m) (sitter b m)

abbrev pub same_rows : ℕ → Option (List (Option Pick)) → Option (List (Option Pick)) → Bool
same_rows m (Some a) (Some b) = same_places a b m
same_rows m a b = true

-- a slot's row is as before, on so many processors
abbrev pub same_at : ℕ → List (List (Option Pick)) → List (List (Option Pick)) → ℕ → Bool
same_at m before after t = same_rows m (slice_get before t) (slice_get after t)

-- this, or else the other
abbrev pub this_or : Option ℕ → Option ℕ → Option ℕ
this_or None other = other
this_or (Some this) other = Some this

-- the first of so many slots whose row is not as before
abbrev pub first_changed : ℕ → List (List (Option Pick)) → List (List (Option Pick)) → ℕ → Option ℕ
first_changed m before after zero = None
first_changed m before after (suc t) = this_or (first_changed m before after t) (if same_at m before after t then None else Some t)

-- the last one
abbrev pub last_changed : ℕ → List (List (Option Pick)) → List (List (Option Pick)) → ℕ → Option ℕ
last_changed m before after zero = None
last_changed m before after (suc t) = if same_at m before after t then last_changed m before after t else Some t

-- those of so many slots from the first to the last, where there are some
abbrev pub slots_from : Option ℕ → Option ℕ → SlotsChanged
slots_from None last = Same
slots_from (Some first) last = Between first (unwrap_or last first)

abbrev pub slots_between : ℕ → List (List (Option Pick)) → List (List (Option Pick)) → ℕ → SlotsChanged
slots_between m before after n = slots_from (first_changed m before after n) (last_changed m before after n)

-- the least slot touched is one of the n that were stepped
abbrev pub is_past : Option ℕ → ℕ → Bool
is_past None n = false
is_past (Some t) n = nat_lt t n

-- of a change that touches this slot first, of n slots of these rows before and after it
abbrev pub slots_by : ℕ → Option ℕ → List (List (Option Pick)) → List (List (Option Pick)) → ℕ → SlotsChanged
slots_by m touched before after n = if is_past touched n then slots_between m before after n else Untouched

-- of a change in a state
abbrev pub slots_changed : State → Change → SlotsChanged
slots_changed st change =
    slots_by st.plan.settings.processors (slot_touched st.plan change) (rows_in st.plan st.now) (rows_in (plan_after st.plan change) st.now) st.now
