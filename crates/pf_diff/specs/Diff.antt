-- What differs between two snapshots, as four tables: the schedule, the lags, the misses and the denials.
use Rattle.std.specs.Prelude.{ℕ, ◌+◌, Bool, true, false, ◌==◌, ◌&&◌, if◌then◌else◌, Option, None, Some, List, [], ◌∷◌, ◌++◌, codes, map}
use Rattle.std.specs.Option.{option_map_or}
use Rattle.std.specs.Fmt.{decimal, signed_decimal}
use Rattle.pf_order.specs.declared.pick.Pick.{Pick}
use Rattle.pf_admit.specs.Refusals.{denial_name}
use Rattle.pf_run.specs.declared.denied.Denied.{Denied}
use Rattle.pf_run.specs.Computed.{run_of}
use Rattle.pf_tally.specs.declared.lag.Lag.{Lag}
use Rattle.pf_tally.specs.declared.miss.Miss.{Miss}
use Rattle.pf_tally.specs.Lags.{lags_of}
use Rattle.pf_tally.specs.Misses.{misses_of}
use Rattle.pf_desk.specs.Desk.{Seen}
use Rattle.pf_report.specs.Tables.{sitter_field}
use Rattle.pf_text.specs.Page.{table_text}
use Rattle.pf_diff.specs.declared.finding.Finding.{Finding}
use Rattle.pf_diff.specs.declared.finding.Finding.TheVariants as found
use Rattle.pf_diff.specs.declared.cell.Cell.{Cell}
use Rattle.pf_diff.specs.declared.change.Change.{Change}
use Rattle.pf_diff.specs.Changes.{changes_of}

-- the same sits on a processor, or nobody does
abbrev pub same_sitter : Option Pick → Option Pick → Bool
same_sitter None None = true
same_sitter (Some x) (Some y) = (x.task == y.task) && (x.sub == y.sub)
same_sitter x y = false

-- the record of a processor in slot t, where who sits on it differs
abbrev pub sitter_changes : ℕ → ℕ → Option Pick → Option Pick → List (List (List ℕ))
sitter_changes t p before after =
    if same_sitter before after then [] else (decimal t ∷ decimal p ∷ sitter_field before ∷ sitter_field after ∷ []) ∷ []

-- those of the processors from p on, as far as both rows go
abbrev pub row_changes : ℕ → ℕ → List (Option Pick) → List (Option Pick) → List (List (List ℕ))
row_changes t p [] row = []
row_changes t p (x ∷ xs) [] = []
row_changes t p (x ∷ xs) (y ∷ ys) = sitter_changes t p x y ++ row_changes t (p + 1) xs ys

-- those of the slots from t on, as far as both schedules go
abbrev pub slot_changes : ℕ → List (List (Option Pick)) → List (List (Option Pick)) → List (List (List ℕ))
slot_changes t [] rows = []
slot_changes t (x ∷ xs) [] = []
slot_changes t (x ∷ xs) (y ∷ ys) = row_changes t 0 x y ++ slot_changes (t + 1) xs ys

-- a lag by its task; a missed window by its task and subtask; a denial by its event and slot
abbrev pub lag_cell : Lag → Cell
lag_cell lag = record { first = lag.task; second = 0; finding = found.Lag lag.scaled }

abbrev pub miss_cell : Miss → Cell
miss_cell miss = record { first = miss.task; second = miss.sub; finding = option_map_or (λ slot. found.Ran slot) miss.ran found.Never }

abbrev pub denial_cell : Denied → Cell
denial_cell denied = record { first = denied.id; second = denied.slot; finding = found.Denied denied.denial }

-- those that were seen
abbrev pub lag_cells : Seen → List Cell
lag_cells seen = map lag_cell (lags_of seen.state.plan (run_of seen.state.plan seen.state.now))

abbrev pub miss_cells : Seen → List Cell
miss_cells seen = map miss_cell (misses_of seen.state.plan (run_of seen.state.plan seen.state.now))

abbrev pub denial_cells : Seen → List Cell
denial_cells seen = map denial_cell seen.denials

-- a lag; `ran S` or `never` of a missed subtask; the reason of a denial
abbrev pub finding_text : Finding → List ℕ
finding_text (found.Lag lag) = signed_decimal lag
finding_text (found.Ran slot) = codes "ran " ++ decimal slot
finding_text found.Never = codes "never"
finding_text (found.Denied denial) = denial_name denial

-- nothing where nothing is found
abbrev pub finding_field : Option Finding → List ℕ
finding_field finding = option_map_or finding_text finding []

-- a record of a table whose keys are two numbers, or else one: its key, and what is found before and after
abbrev pub change_record : Bool → Change → List (List ℕ)
change_record paired change =
    decimal change.first
    ∷ ((if paired then decimal change.second ∷ [] else []) ++ finding_field change.before ∷ finding_field change.after ∷ [])

-- changes, in a table whose keys are two numbers or one
pub record ChangeTable : Type 0 where
  pub changes : List Change
  pub paired : Bool

-- a table after its title and its heading
abbrev pub titled : List ℕ → List (List ℕ) → List (List (List ℕ)) → List ℕ
titled title heading records = table_text ((title ∷ []) ∷ heading ∷ records)

-- the schedule, by slot and processor; the lags, by task; the misses, by task and subtask; the denials, by event and slot
abbrev pub schedule_diff : Seen → Seen → List ℕ
schedule_diff before after =
    titled (codes "schedule") (codes "slot" ∷ codes "processor" ∷ codes "before" ∷ codes "after" ∷ []) (slot_changes 0 before.rows after.rows)

abbrev pub lags_diff : Seen → Seen → List ℕ
lags_diff before after =
    titled (codes "lags") (codes "task" ∷ codes "before" ∷ codes "after" ∷ [])
    (map (change_record false) (changes_of (lag_cells before) (lag_cells after)))

abbrev pub misses_diff : Seen → Seen → List ℕ
misses_diff before after =
    titled (codes "misses") (codes "task" ∷ codes "sub" ∷ codes "before" ∷ codes "after" ∷ [])
    (map (change_record true) (changes_of (miss_cells before) (miss_cells after)))

abbrev pub denials_diff : Seen → Seen → List ℕ
denials_diff before after =
    titled (codes "denials") (codes "event" ∷ codes "slot" ∷ codes "before" ∷ codes "after" ∷ [])
    (map (change_record true) (changes_of (denial_cells before) (denial_cells after)))

-- all four
unfoldable pub diff_text_of : Seen → Seen → List ℕ
diff_text_of before after =
    schedule_diff before after ++ (lags_diff before after ++ (misses_diff before after ++ denials_diff before after))
