-- A part of the schedule: the slots of a range.
use Rattle.std.specs.Prelude.{ℕ, ◌+◌, List, ◌∷◌, drop, take}
use Rattle.pf_desk.specs.Desk.{Seen}
use Rattle.pf_report.specs.Tables.{schedule_heading, schedule_records}
use Rattle.pf_text.specs.Page.{table_text}

-- the slots from `from` on and below `to` of what was seen
pub record Part : Type 0 where
  pub seen : Seen
  pub from : ℕ
  pub to : ℕ

-- the records of its rows from the k-th on
abbrev pub part_records : Part → ℕ → List (List (List ℕ))
part_records p k = schedule_records (p.from + k) (drop (p.from + k) (take p.to p.seen.rows))

-- the schedule of the slots from `from` on and below `to`: the heading, and a line for each of these slots
unfoldable pub schedule_part_text : Seen → ℕ → ℕ → List ℕ
schedule_part_text seen from to =
    table_text (schedule_heading seen.state.plan.settings.processors ∷ schedule_records from (drop from (take to seen.rows)))
