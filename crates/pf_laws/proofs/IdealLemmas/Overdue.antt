-- What an overdue subtask is: its task stays, it is due by the end, and it has not run.
use Rattle.std.proofs.Common.{◌≡◌, ℕ, ◌≤◌, true, ◌&&◌, nat_le}
use Rattle.std.proofs.lemmas.Bool.{and_parts, and_from, leb-true, le-leb}
use Rattle.pf_laws.specs.Ideal.Schedule.{Schedule, is_overdue}

pub overdue_is : (s : Schedule) (t i : ℕ) → is_overdue s t i ≡ true →
    (s.stays t ≡ true) × (s.deadline t i ≤ s.end) × (s.done t s.end ≤ i)
overdue_is s t i h =
    let outer = and_parts (s.stays t && nat_le (s.deadline t i) s.end) (nat_le (s.done t s.end) i) h in
    let inner = and_parts (s.stays t) (nat_le (s.deadline t i) s.end) outer.0 in
    (inner.0, leb-true (s.deadline t i) s.end inner.1, leb-true (s.done t s.end) i outer.1)

pub is_overdue_from : (s : Schedule) (t i : ℕ) → s.stays t ≡ true → s.deadline t i ≤ s.end → s.done t s.end ≤ i →
    is_overdue s t i ≡ true
is_overdue_from s t i stays due late =
    and_from (s.stays t && nat_le (s.deadline t i) s.end) (nat_le (s.done t s.end) i)
    (and_from (s.stays t) (nat_le (s.deadline t i) s.end) stays (le-leb (s.deadline t i) s.end due))
    (le-leb (s.done t s.end) i late)
