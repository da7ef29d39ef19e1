-- A report as one JSON object: compact, its keys in byte order.
use Rattle.std.specs.Prelude.{ℕ, if◌then◌else◌, Option, None, Some, List, [], ◌++◌, codes, map}
use Rattle.std.specs.Option.{option_map_or}
use Rattle.serde_json.specs.Data.{Data, Members, null, number, unsigned, string, array, object, item, no_items, member, no_members}
use Rattle.serde_json.specs.Find.{of_integer}
use Rattle.serde_json.specs.View.{items_of}
use Rattle.serde_json.specs.Written.{compact_text}
use Rattle.pf_vocabulary.specs.Names.Slots.{unit_word}
use Rattle.pf_vocabulary.specs.declared.names.named.Named.{Named}
use Rattle.pf_vocabulary.specs.declared.names.slot_length.SlotLength.{SlotLength}
use Rattle.pf_vocabulary.specs.declared.names.titles.Titles.{Titles}
use Rattle.pf_order.specs.declared.pick.Pick.{Pick}
use Rattle.pf_admit.specs.Refusals.{denial_code, denial_name}
use Rattle.pf_run.specs.declared.denied.Denied.{Denied}
use Rattle.pf_run.specs.Computed.{run_of}
use Rattle.pf_tally.specs.declared.lag.Lag.{Lag}
use Rattle.pf_tally.specs.declared.miss.Miss.{Miss}
use Rattle.pf_tally.specs.Lags.{lags_of}
use Rattle.pf_tally.specs.Misses.{misses_of}
use Rattle.pf_desk.specs.Desk.{Seen}

abbrev pub count_data : ℕ → Data
count_data n = number (unsigned n)

-- an array, each element shown alike
abbrev pub array_data : {X : Type 0} → (X → Data) → List X → Data
array_data show xs = array (items_of (map show xs))

-- `[task,sub]`, null where the processor is idle
abbrev pub sitter_data : Option Pick → Data
sitter_data None = null
sitter_data (Some pick) = array (item (count_data pick.task) (item (count_data pick.sub) no_items))

abbrev pub denial_data : Denied → Data
denial_data denied =
    object (member (codes "code") (count_data (denial_code denied.denial))
    (member (codes "event") (count_data denied.id)
    (member (codes "reason") (string (denial_name denied.denial))
    (member (codes "slot") (count_data denied.slot) no_members))))

abbrev pub lag_data : Lag → Data
lag_data lag =
    object (member (codes "cost") (count_data lag.cost)
    (member (codes "lag") (number (of_integer lag.scaled))
    (member (codes "period") (count_data lag.period)
    (member (codes "received") (count_data lag.received)
    (member (codes "task") (count_data lag.task) no_members)))))

-- `ran` is null where the missed subtask didn't run
abbrev pub miss_data : Miss → Data
miss_data miss =
    object (member (codes "deadline") (count_data miss.deadline)
    (member (codes "ran") (option_map_or count_data miss.ran null)
    (member (codes "sub") (count_data miss.sub)
    (member (codes "task") (count_data miss.task) no_members))))

abbrev pub name_data : Named → Data
name_data named = object (member (codes "name") (string named.name) (member (codes "task") (count_data named.task) no_members))

-- how long a slot is; null where the script does not tell it
abbrev pub length_data : SlotLength → Data
length_data slot =
    object (member (codes "length") (count_data slot.length) (member (codes "unit") (string (unit_word slot.unit)) no_members))

abbrev pub slot_data : Option SlotLength → Data
slot_data slot = option_map_or length_data slot null

-- members that stand in a plan alone: the names of tasks, by task, before others, and the length of a slot at the end
abbrev pub names_before : Titles → Members → Members
names_before titles more = if titles.is_plan then member (codes "names") (array_data name_data titles.names) more else more

abbrev pub slot_member : Titles → Members
slot_member titles = if titles.is_plan then member (codes "slot") (slot_data titles.slot) no_members else no_members

-- the object of a report, of its parts
abbrev pub report_object : Titles → Data → ℕ → Data → Data → ℕ → Data → Data
report_object titles denials entries lags misses now schedule =
    object (member (codes "denials") denials
    (member (codes "entries") (count_data entries)
    (member (codes "lags") lags
    (member (codes "misses") misses
    (names_before titles (member (codes "now") (count_data now)
    (member (codes "schedule") schedule (slot_member titles))))))))

-- the report of what was seen: the denials, lags and misses as in their tables, and the rows of the slots below now
unfoldable pub report_data : Seen → Titles → Data
report_data seen titles =
    report_object titles (array_data denial_data seen.denials) seen.version
    (array_data lag_data (lags_of seen.state.plan (run_of seen.state.plan seen.state.now)))
    (array_data miss_data (misses_of seen.state.plan (run_of seen.state.plan seen.state.now)))
    seen.state.now (array_data (array_data sitter_data) seen.rows)

-- its text
abbrev pub json_text : Seen → Titles → List ℕ
json_text seen titles = compact_text (report_data seen titles)

-- the text of the members of a plan, each after its key
abbrev pub names_part : Titles → List ℕ
names_part titles = if titles.is_plan then codes ",\"names\":" ++ compact_text (array_data name_data titles.names) else []

abbrev pub slot_part : Titles → List ℕ
slot_part titles = if titles.is_plan then codes ",\"slot\":" ++ compact_text (slot_data titles.slot) else []
