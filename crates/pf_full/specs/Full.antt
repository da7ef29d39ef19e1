-- All that a run tells as one JSON object: compact, its keys in byte order.
use Rattle.std.specs.Prelude.{ℕ, ℤ, Option, None, Some, List, codes}
use Rattle.std.specs.Option.{option_map_or}
use Rattle.serde_json.specs.Data.{Data, null, number, string, object, member, no_members}
use Rattle.serde_json.specs.Find.{of_integer}
use Rattle.serde_json.specs.Written.{compact_text}
use Rattle.pf_scenario.specs.Event.{slot_of}
use Rattle.pf_scenario.specs.System.{System}
use Rattle.pf_scenario.specs.declared.event.Event.{Event}
use Rattle.pf_scenario.specs.declared.event.Event.TheVariants.{Join, Leave, Delay, Limit}
use Rattle.pf_scenario.specs.declared.event.Numbered.{Numbered}
use Rattle.pf_run.specs.Computed.{run_of}
use Rattle.pf_tally.specs.declared.extremes.Extremes.{Extremes}
use Rattle.pf_tally.specs.declared.figures.Figures.{Figures}
use Rattle.pf_tally.specs.Figures.{figures_of}
use Rattle.pf_tally.specs.Lags.{lags_of}
use Rattle.pf_tally.specs.Misses.{misses_of}
use Rattle.pf_desk.specs.Desk.{Seen}
use Rattle.pf_vocabulary.specs.declared.names.titles.Titles.{Titles}
use Rattle.pf_report.specs.Json.{array_data, count_data, denial_data, lag_data, miss_data, names_before, sitter_data, slot_member}
use Rattle.pf_run_notes.specs.Refusals.{fault_code, fault_name}
use Rattle.pf_full.specs.declared.event_numbers.EventNumbers.{EventNumbers}
use Rattle.pf_full.specs.declared.refusal.Refusal.{Refusal}

-- null where there is none
abbrev pub optional_data : Option ℕ → Data
optional_data n = option_map_or count_data n null

abbrev pub signed_data : ℤ → Data
signed_data z = number (of_integer z)

abbrev pub least_data : Option Extremes → Data
least_data extremes = option_map_or (λ e. signed_data e.least) extremes null

abbrev pub greatest_data : Option Extremes → Data
greatest_data extremes = option_map_or (λ e. signed_data e.greatest) extremes null

-- the numbers that the kind of an event has
abbrev pub numbers_of : Event → EventNumbers
numbers_of (Join slot task cost period early) =
    record { task = Some task; cost = Some cost; period = Some period; early = Some early; by = None; count = None }
numbers_of (Leave slot task) = record { task = Some task; cost = None; period = None; early = None; by = None; count = None }
numbers_of (Delay slot task by) = record { task = Some task; cost = None; period = None; early = None; by = Some by; count = None }
numbers_of (Limit slot count) = record { task = None; cost = None; period = None; early = None; by = None; count = Some count }

abbrev pub kind_text : Event → List ℕ
kind_text (Join slot task cost period early) = codes "join"
kind_text (Leave slot task) = codes "leave"
kind_text (Delay slot task by) = codes "delay"
kind_text (Limit slot count) = codes "limit"

-- an event of this number, slot and kind
abbrev pub event_object : ℕ → ℕ → List ℕ → EventNumbers → Data
event_object id slot kind numbers =
    object (member (codes "by") (optional_data numbers.by)
    (member (codes "cost") (optional_data numbers.cost)
    (member (codes "count") (optional_data numbers.count)
    (member (codes "early") (optional_data numbers.early)
    (member (codes "event") (count_data id)
    (member (codes "kind") (string kind)
    (member (codes "period") (optional_data numbers.period)
    (member (codes "slot") (count_data slot)
    (member (codes "task") (optional_data numbers.task) no_members)))))))))

abbrev pub event_data : Numbered → Data
event_data x = event_object x.id (slot_of x.event) (kind_text x.event) (numbers_of x.event)

-- null where no job was done
abbrev pub figures_data : Figures → Data
figures_data f =
    object (member (codes "cost") (count_data f.cost)
    (member (codes "jobs") (count_data f.jobs)
    (member (codes "lag_max") (signed_data f.lag.greatest)
    (member (codes "lag_min") (signed_data f.lag.least)
    (member (codes "migrations") (count_data f.migrations)
    (member (codes "missed") (count_data f.missed)
    (member (codes "period") (count_data f.period)
    (member (codes "preemptions") (count_data f.preemptions)
    (member (codes "quanta") (count_data f.quanta)
    (member (codes "response_max") (greatest_data f.response)
    (member (codes "response_min") (least_data f.response)
    (member (codes "tardiness_max") (count_data f.tardiness)
    (member (codes "task") (count_data f.task) no_members)))))))))))))

-- a record of which a command was refused, with the number and the name of the fault
abbrev pub refusal_data : Refusal → Data
refusal_data refusal =
    object (member (codes "code") (count_data (fault_code refusal.fault))
    (member (codes "reason") (string (fault_name refusal.fault))
    (member (codes "record") (count_data refusal.record) no_members)))

-- settings, with so many slots between checkpoints
abbrev pub settings_data : ℕ → System → Data
settings_data every settings =
    object (member (codes "base") (count_data settings.base)
    (member (codes "cap") (count_data settings.cap)
    (member (codes "every") (count_data every)
    (member (codes "horizon") (count_data settings.horizon)
    (member (codes "processors") (count_data settings.processors) no_members)))))

-- what the object has in every version
pub record Parts : Type 0 where
  pub denials : Data
  pub entries : ℕ
  pub events : Data
  pub figures : Data
  pub lags : Data
  pub misses : Data
  pub now : ℕ
  pub refusals : Data
  pub schedule : Data
  pub settings : Data

-- the object, with the names of tasks and the length of a slot in a plan
abbrev pub object_of : Titles → Parts → Data
object_of titles p =
    object (member (codes "denials") p.denials
    (member (codes "entries") (count_data p.entries)
    (member (codes "events") p.events
    (member (codes "figures") p.figures
    (member (codes "lags") p.lags
    (member (codes "misses") p.misses
    (names_before titles (member (codes "now") (count_data p.now)
    (member (codes "refusals") p.refusals
    (member (codes "schedule") p.schedule
    (member (codes "settings") p.settings (slot_member titles))))))))))))

-- what was seen of a desk with so many slots between checkpoints, whose script has these titles: beside the report the events
-- held, by number, the figures of the tasks, and these refused records
unfoldable pub full_data : ℕ → Titles → List Refusal → Seen → Data
full_data every titles refusals seen = object_of titles (record {
  denials = array_data denial_data seen.denials;
  entries = seen.version;
  events = array_data event_data seen.state.plan.events;
  figures = array_data figures_data (figures_of seen.state.plan (run_of seen.state.plan seen.state.now) seen.rows);
  lags = array_data lag_data (lags_of seen.state.plan (run_of seen.state.plan seen.state.now));
  misses = array_data miss_data (misses_of seen.state.plan (run_of seen.state.plan seen.state.now));
  now = seen.state.now;
  refusals = array_data refusal_data refusals;
  schedule = array_data (array_data sitter_data) seen.rows;
  settings = settings_data every seen.state.plan.settings;
})

-- its text
abbrev pub full_text : ℕ → Titles → List Refusal → Seen → List ℕ
full_text every titles refusals seen = compact_text (full_data every titles refusals seen)
