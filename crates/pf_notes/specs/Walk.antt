-- The quanta of one task in a run.
use Rattle.std.specs.Prelude.{◌≡◌, ℕ, zero, suc, ◌+◌, ◌<◌, ◌≤◌, ◌==◌, ◌&&◌, Bool, nat_le, if◌then◌else◌, Option, None, Some, IfSome, List, length, sum_by, All}
use Rattle.std.specs.List.{slice_get}
use Rattle.std.specs.Option.{option_map, option_map_or, option_and_then, option_or}
use Rattle.pf_weight.specs.Share.{is_heavy}
use Rattle.pf_window.specs.Window.{release_of, deadline_of, bit_of}
use Rattle.pf_window.specs.Group.{group_of}
use Rattle.pf_order.specs.declared.pick.Pick.{Pick}
use Rattle.pf_place.specs.Occupancy.{sitters, pick_of}
use Rattle.pf_place.specs.Turns.{IsRow}
use Rattle.pf_scenario.specs.declared.settings.TheConstants.{WIDE_HORIZON}
use Rattle.pf_scenario.specs.declared.event.Event.{Event}
use Rattle.pf_scenario.specs.declared.event.Event.TheVariants.{Delay}
use Rattle.pf_scenario.specs.declared.event.Numbered.{Numbered}
use Rattle.pf_run.specs.Record.{Slot, done}
use Rattle.pf_run.specs.Inside.{Joined}
use Rattle.pf_notes.specs.declared.quantum.Quantum.{Quantum}

-- the quantum is the last one of the task in the slots below t
abbrev pub IsLast : List Slot → ℕ → ℕ → Option Quantum → Type 0
IsLast r task t None = done r task t ≡ 0
IsLast r task t (Some q) =
    (q.slot < t) × (done r task q.slot + 1 ≡ q.sub) × (done r task (q.slot + 1) ≡ q.sub) × (done r task t ≡ q.sub)

-- by how much an event holds the task back, where it is of a slot up to `through`
abbrev pub delay_through : ℕ → ℕ → Event → ℕ
delay_through task through (Delay slot task' by) = if task' == task && nat_le slot through then by else 0
delay_through task through event = 0

-- and these events together
abbrev pub delays_through : ℕ → ℕ → List Numbered → ℕ
delays_through task through xs = sum_by (λ x. delay_through task through x.event) xs

-- the pick of the task in a row
abbrev pub seated_pick : List (Option Pick) → ℕ → Option Pick
seated_pick row task = pick_of (sitters row) task

-- the quantum of the task in slot t
abbrev pub quantum_in : List (List (Option Pick)) → ℕ → ℕ → Option Quantum
quantum_in rows task t = option_and_then (λ row. option_map (λ (p : Pick). record { slot = t; sub = p.sub }) (seated_pick row task)) (slice_get rows t)

-- the last quantum of the task in the slots below t
abbrev pub last_in : List (List (Option Pick)) → ℕ → ℕ → Option Quantum
last_in rows task zero = None
last_in rows task (suc t) = option_or (quantum_in rows task t) (last_in rows task t)

-- the first slot in which a task whose last quantum is this one may leave, where these events are in force
abbrev pub bound_after : Joined → List Numbered → Quantum → ℕ
bound_after j xs q =
    (if is_heavy j.weight then group_of j.weight q.sub else deadline_of j.weight q.sub)
    + (j.slot + delays_through j.task q.slot xs) + bit_of j.weight q.sub

abbrev pub bound_with : Joined → List Numbered → Option Quantum → ℕ
bound_with j xs last = option_map_or (bound_after j xs) last 0

-- the slot of the quantum
abbrev pub ran_of : Option Quantum → ℕ
ran_of last = option_map_or (λ q. q.slot) last 0

-- how many quanta it has had
abbrev pub sub_of : Option Quantum → ℕ
sub_of last = option_map_or (λ q. q.sub) last 0

-- the shifted release of its next subtask, after the events of the slots up to t
abbrev pub release_with : Joined → List Numbered → ℕ → Option Quantum → ℕ
release_with j xs t last = release_of j.weight (sub_of last + 1) + (j.slot + delays_through j.task t xs)

-- the task is let go in slot t, where these events are in force in the whole run
abbrev pub lets_go_by : List (List (Option Pick)) → Joined → List Numbered → ℕ → Bool
lets_go_by rows j xs t = nat_le (bound_with j xs (last_in rows j.task t)) t

-- rows of at most 64 processors, with subtasks numbered as in a run of so many slots
pub record AreRunRows (m : ℕ) (rows : List (List (Option Pick))) : Type 0 where
  pub short : length rows ≤ WIDE_HORIZON
  pub processors : m ≤ 64
  pub are_rows : All (IsRow m) rows
  pub subs : (task t : ℕ) → IfSome (quantum_in rows task t) (λ q. (1 ≤ q.sub) × (q.sub ≤ WIDE_HORIZON))
