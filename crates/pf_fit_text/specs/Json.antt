-- A fit as one JSON object: compact, its keys in byte order.
use Rattle.std.specs.Prelude.{ℕ, ◌+◌, ◌-◌, ◌/◌, ◌==◌, ℤ, Bool, nat_lt, if◌then◌else◌, Option, None, Some, List, [], ◌∷◌, ◌++◌, codes}
use Rattle.std.specs.Fmt.{decimal, signed_decimal}
use Rattle.std.specs.Option.{option_map}
use Rattle.pf_tally.specs.declared.level.Level.{Level}
use Rattle.pf_vocabulary.specs.Names.Names.{name_of}
use Rattle.pf_vocabulary.specs.Names.Slots.{unit_word}
use Rattle.pf_vocabulary.specs.declared.names.named.Named.{Named}
use Rattle.pf_vocabulary.specs.declared.names.slot_length.SlotLength.{SlotLength}
use Rattle.pf_vocabulary.specs.declared.names.titles.Titles.{Titles}
use Rattle.pf_tally.specs.declared.extremes.Extremes.{Extremes}
use Rattle.pf_tally.specs.declared.figures.Figures.{Figures}
use Rattle.pf_verdict.specs.Findings.{Found}
use Rattle.pf_verdict.specs.Totals.{totals_of}
use Rattle.pf_verdict.specs.Worst.{worst_lag, worst_response}
use Rattle.pf_verdict.specs.declared.totals.Totals.{Totals}
use Rattle.pf_verdict.specs.declared.worst.Rated.{Rated}
use Rattle.pf_fit_text.specs.Lines.{is_proved_in, verdict_word}
use Rattle.pf_fit_text.specs.Rows.{grow_at}
use Rattle.pf_fit_text.specs.declared.carried.Carried.{Carried}

-- a key with what stands before it, and a number
abbrev pub key : List ℕ → ℕ → List ℕ
key word number = word ++ decimal number

abbrev pub signed_key : List ℕ → ℤ → List ℕ
signed_key word number = word ++ signed_decimal number

-- a number, or null
abbrev pub key_or_null : List ℕ → Option ℕ → List ℕ
key_or_null word None = word ++ codes "null"
key_or_null word (Some number) = key word number

abbrev pub signed_or_null : List ℕ → Option ℤ → List ℕ
signed_or_null word None = word ++ codes "null"
signed_or_null word (Some number) = signed_key word number

unfoldable pub truth : List ℕ → Bool → List ℕ
truth word holds = word ++ (if holds then codes "true" else codes "false")

abbrev pub name_json : Option (List ℕ) → List ℕ
name_json None = codes ",\"name\":null"
name_json (Some name) = codes ",\"name\":\"" ++ name ++ codes "\""

-- the keys of a task up to `migrations`, after them those up to `preemptions`, and the others
abbrev pub task_front : Figures → Option ℕ → List ℕ
task_front f grow =
    key (codes "{\"cost\":") f.cost ++ key_or_null (codes ",\"grow\":") grow ++ key (codes ",\"jobs\":") f.jobs
    ++ signed_key (codes ",\"lag_max\":") f.lag.greatest ++ signed_key (codes ",\"lag_min\":") f.lag.least
    ++ key (codes ",\"migrations\":") f.migrations

abbrev pub with_middle : List ℕ → List Named → Figures → List ℕ
with_middle text names f =
    text ++ key (codes ",\"missed\":") f.missed ++ name_json (name_of names f.task) ++ key (codes ",\"period\":") f.period
    ++ key (codes ",\"preemptions\":") f.preemptions ++ key (codes ",\"quanta\":") f.quanta

abbrev pub greatest_of : Option Extremes → Option ℤ
greatest_of response = option_map (λ e. e.greatest) response

abbrev pub least_of : Option Extremes → Option ℤ
least_of response = option_map (λ e. e.least) response

abbrev pub with_end : List ℕ → Figures → List ℕ
with_end text f =
    text ++ signed_or_null (codes ",\"response_max\":") (greatest_of f.response)
    ++ signed_or_null (codes ",\"response_min\":") (least_of f.response) ++ key (codes ",\"tardiness_max\":") f.tardiness
    ++ key (codes ",\"task\":") f.task ++ codes "}"

unfoldable pub task_json : List Named → Figures → Option ℕ → List ℕ
task_json names f grow = with_end (with_middle (task_front f grow) names f) f

abbrev pub comma_behind : ℕ → List ℕ
comma_behind k = if k == 0 then [] else codes ","

-- these tasks, the first of which is the k-th and has the k-th of the costs
unfoldable pub tasks_from : List Named → List (Option ℕ) → ℕ → List Figures → List ℕ
tasks_from names grows k [] = []
tasks_from names grows k (f ∷ fs) = comma_behind k ++ task_json names f (grow_at grows k) ++ tasks_from names grows (k + 1) fs

-- the free units of a slot, below 0 where it is asked for too much
unfoldable pub free_json : Level → List ℕ
free_json level =
    if nat_lt level.room level.load then key (codes "{\"free\":-") (level.load - level.room) else key (codes "{\"free\":") (level.room - level.load)

unfoldable pub level_json : ℕ → Level → List ℕ
level_json base level =
    free_json level ++ key (codes ",\"load\":") level.load ++ key (codes ",\"processors\":") (level.room / base)
    ++ key (codes ",\"room\":") level.room ++ key (codes ",\"slot\":") level.slot ++ codes "}"

unfoldable pub tightest_json : ℕ → Option Level → List ℕ
tightest_json base None = codes "null"
tightest_json base (Some level) = level_json base level

unfoldable pub overload_json : ℕ → ℕ → ℕ → ℕ → List ℕ
overload_json base first above units =
    key (codes "{\"first\":") first ++ key (codes ",\"late\":") (units / base) ++ key (codes ",\"slots\":") above
    ++ key (codes ",\"units\":") units ++ codes "}"

unfoldable pub overloaded_json : ℕ → Option ℕ → ℕ → ℕ → List ℕ
overloaded_json base None above units = codes "null"
overloaded_json base (Some first) above units = overload_json base first above units

unfoldable pub length_json : SlotLength → List ℕ
length_json slot = key (codes "{\"length\":") slot.length ++ codes ",\"unit\":\"" ++ unit_word slot.unit ++ codes "\"}"

unfoldable pub slot_json : Option SlotLength → List ℕ
slot_json None = codes "null"
slot_json (Some slot) = length_json slot

abbrev pub task_of_rated : Option Rated → Option ℕ
task_of_rated rated = option_map (λ w. w.task) rated

-- the task with the worst lag, the sums, and the task with the worst response
unfoldable pub worst_object : Option ℕ → Totals → Option ℕ → List ℕ
worst_object lag totals response =
    key_or_null (codes "{\"lag\":") lag ++ key (codes ",\"migrations\":") totals.migrations
    ++ key (codes ",\"preemptions\":") totals.preemptions ++ key_or_null (codes ",\"response\":") response ++ codes "}"

abbrev pub worst_tasks : List Figures → List ℕ
worst_tasks figures =
    worst_object (task_of_rated (worst_lag figures)) (totals_of figures) (task_of_rated (worst_response figures))

-- null where there is no task
unfoldable pub worst_json : List Figures → List ℕ
worst_json [] = codes "null"
worst_json (f ∷ fs) = worst_tasks (f ∷ fs)

-- the lists, each an array
pub record Lists : Type 0 where
  pub denied : List ℕ
  pub missed : List ℕ
  pub refused : List ℕ

-- the keys up to `now`; after them those up to `processors`, up to `refused`, the tasks, and the others
abbrev pub front_json : Carried → Lists → List ℕ
front_json carried arrays =
    key (codes "{\"base\":") carried.base ++ key (codes ",\"cap\":") carried.cap ++ key (codes ",\"commands\":") carried.commands
    ++ codes ",\"denied\":" ++ arrays.denied ++ key (codes ",\"events\":") carried.events ++ codes ",\"missed\":" ++ arrays.missed
    ++ key (codes ",\"now\":") carried.now

abbrev pub with_overload : List ℕ → Carried → Found → List ℕ
with_overload text carried found =
    text ++ codes ",\"overloaded\":" ++ overloaded_json carried.base found.strain.first found.strain.above found.units
    ++ key (codes ",\"processors\":") carried.processors

abbrev pub with_proofs : List ℕ → Bool → Bool → List ℕ → List ℕ
with_proofs text run settings refused =
    text ++ truth (codes ",\"proved\":{\"run\":") run ++ truth (codes ",\"settings\":") settings ++ codes "},\"refused\":" ++ refused

abbrev pub with_proved : List ℕ → Carried → Found → Lists → List ℕ
with_proved text carried found arrays =
    with_proofs text (is_proved_in carried.now found.strain) found.carries arrays.refused

abbrev pub with_tasks : List ℕ → Titles → Found → List ℕ
with_tasks text titles found =
    text ++ codes ",\"slot\":" ++ slot_json titles.slot ++ codes ",\"tasks\":[" ++ tasks_from titles.names found.grows 0 found.figures

abbrev pub with_slots : List ℕ → List ℕ → ℕ → List ℕ
with_slots text tightest unreached = text ++ codes "],\"tightest\":" ++ tightest ++ key (codes ",\"unreached\":") unreached

abbrev pub with_tightest : List ℕ → Carried → Found → List ℕ
with_tightest text carried found = with_slots text (tightest_json carried.base found.strain.tightest) found.unreached

abbrev pub with_verdict : List ℕ → Found → List ℕ
with_verdict text found =
    text ++ codes ",\"verdict\":\"" ++ verdict_word found.verdict ++ codes "\",\"worst\":" ++ worst_json found.figures ++ codes "}\n"

abbrev pub with_findings : List ℕ → Carried → Titles → Found → List ℕ
with_findings text carried titles found = with_verdict (with_tightest (with_tasks text titles found) carried found) found

unfoldable pub fit_json : Carried → Titles → Found → Lists → List ℕ
fit_json carried titles found arrays =
    with_findings (with_proved (with_overload (front_json carried arrays) carried found) carried found arrays) carried titles found
