-- What a run records: for each slot the subtasks that ran, and the events that were denied.
use Rattle.std.specs.Prelude.{ℕ, ◌+◌, ◌==◌, Bool, not, List, [], ◌∷◌, ◌++◌, length, take, filter, count_by}
use Rattle.std.specs.List.{list_any}
use Rattle.pf_place.specs.Pick.{Pick}
use Rattle.pf_scenario.specs.declared.event.Numbered.{Numbered}
use Rattle.pf_run.specs.declared.denied.Denied.{Denied}

-- a slot of a record: its picks and its denials, each in order
pub record Slot : Type 0 where
  pub picks : List Pick
  pub denials : List Denied

-- the denials of a record's slots
abbrev pub denials_of : List Slot → List Denied
denials_of [] = []
denials_of (slot ∷ r) = slot.denials ++ denials_of r

-- the task runs in the slot
abbrev pub runs : ℕ → Slot → Bool
runs task slot = list_any (λ p. p.task == task) slot.picks

-- done: how many of the slots below t have a pick of the task
unfoldable pub done : List Slot → ℕ → ℕ → ℕ
done r task t = count_by (runs task) (take t r)

-- the subtask that is next after the slots r
abbrev pub next_sub : List Slot → ℕ → ℕ
next_sub r task = done r task (length r) + 1

-- the event is among the denials
abbrev pub is_denied : List Denied → Numbered → Bool
is_denied denials x = list_any (λ d. d.id == x.id) denials

-- the events that aren't among the denials
unfoldable pub in_force : List Denied → List Numbered → List Numbered
in_force denials xs = filter (λ x. not (is_denied denials x)) xs
