-- Whether two snapshots differ.
use Rattle.std.specs.Prelude.{Bool, not, ◌==◌, ◌&&◌, ◌||◌, List, length}
use Rattle.pf_desk.specs.Desk.{Seen}
use Rattle.pf_diff.specs.declared.cell.Cell.{Cell}
use Rattle.pf_diff.specs.Changes.{changes_of}
use Rattle.pf_diff.specs.Diff.{lag_cells, miss_cells, denial_cells}
use Rattle.pf_diff.specs.Summary.{cells_changed}

-- slots stepped, processors, base and cap are the same
abbrev pub have_same_settings : Seen → Seen → Bool
have_same_settings before after =
    (before.state.now == after.state.now)
    && (before.state.plan.settings.processors == after.state.plan.settings.processors)
    && (before.state.plan.settings.base == after.state.plan.settings.base)
    && (before.state.plan.settings.cap == after.state.plan.settings.cap)

-- a table has a line
abbrev pub has_changes : List Cell → List Cell → Bool
has_changes before after = not (length (changes_of before after) == 0)

abbrev pub has_changed_tables : Seen → Seen → Bool
has_changed_tables before after =
    has_changes (lag_cells before) (lag_cells after)
    || has_changes (miss_cells before) (miss_cells after)
    || has_changes (denial_cells before) (denial_cells after)

-- these, or a cell of the schedule, or a line of another table
abbrev pub is_different : Seen → Seen → Bool
is_different before after =
    not (have_same_settings before after) || not (cells_changed before after == 0) || has_changed_tables before after
