-- What a picture tells of a listed task, beside its listing.
use Rattle.std.specs.Prelude.{ℕ, Bool, ◌&&◌, ◌==◌, nat_lt, Option, Some, None, List, [], ◌++◌, codes, map, filter, find}
use Rattle.std.specs.Fmt.{decimal}
use Rattle.std.specs.List.{list_any}
use Rattle.std.specs.Option.{option_and_then, option_map_or}
use Rattle.pf_vocabulary.specs.Names.Names.{name_of}
use Rattle.pf_vocabulary.specs.Names.Titled.{label_of}
use Rattle.pf_vocabulary.specs.declared.names.named.Named.{Named}
use Rattle.pf_scenario.specs.Event.{slot_of, is_join_of}
use Rattle.pf_scenario.specs.declared.event.Event.{Event}
use Rattle.pf_scenario.specs.declared.event.Event.TheVariants.{Join}
use Rattle.pf_scenario.specs.declared.event.Numbered.{Numbered}
use Rattle.pf_run.specs.declared.denied.Denied.{Denied}
use Rattle.pf_tally.specs.Own.{events_of_task}
use Rattle.pf_desk.specs.Desk.{Seen}
use Rattle.pf_courses.specs.Listing.{Listing, listings_of}
use Rattle.pf_picture.specs.Element.{put}
use Rattle.pf_picture.specs.declared.asked.Asked.{Asked}

-- a listed task, what it is called, the weight that its join asks for, by how many slots its subtasks may run before their
-- release, and its denied events in run order
pub record Drawing : Type 0 where
  pub listing : Listing
  pub label : List ℕ
  pub weight : List ℕ
  pub early : ℕ
  pub denied : List Denied

-- the weight that is asked for, and a dash where no join is held
unfoldable pub weight_text : Asked → List ℕ
weight_text asked = put [] asked.cost (codes "/" ++ decimal asked.period)

abbrev pub weight_of : Option Asked → List ℕ
weight_of asked = option_map_or weight_text asked (codes "-")

-- after the number of a task that is called by its name
unfoldable pub weight_behind : Option (List ℕ) → ℕ → List ℕ → List ℕ
weight_behind None task weight = weight
weight_behind (Some name) task weight = put [] task (codes ": " ++ weight)

abbrev pub early_of : Option Asked → ℕ
early_of asked = option_map_or (λ a. a.early) asked 0

-- what a join asks for
abbrev pub asked_by : Event → Option Asked
asked_by (Join slot task cost period early) = Some (record { cost = cost; period = period; early = early })
asked_by event = None

-- it joins the task in a slot below n
abbrev pub is_join_below : ℕ → ℕ → Numbered → Bool
is_join_below n task x = is_join_of task x.event && nat_lt (slot_of x.event) n

-- by the task's join, among its own events, that is held with a slot below n
abbrev pub asked_of : List Numbered → ℕ → ℕ → Option Asked
asked_of own n task = option_and_then (λ x. asked_by x.event) (find (is_join_below n task) own)

-- the denied event is one of these
abbrev pub is_denial_of : List Numbered → Denied → Bool
is_denial_of own denied = list_any (λ x. x.id == denied.id) own

-- a listed task whose join asks for this, and whose denied events these are
abbrev pub drawing_asked : List Named → Option Asked → List Denied → Listing → Drawing
drawing_asked names asked denied l = record {
  listing = l;
  label = label_of names l.task;
  weight = weight_behind (name_of names l.task) l.task (weight_of asked);
  early = early_of asked;
  denied = denied;
}

-- a listed task with these events of its own
abbrev pub drawing_by : List Named → List Numbered → ℕ → List Denied → Listing → Drawing
drawing_by names own n denials l = drawing_asked names (asked_of own n l.task) (filter (is_denial_of own) denials) l

abbrev pub drawing_of : List Named → List Numbered → ℕ → List Denied → Listing → Drawing
drawing_of names events n denials l = drawing_by names (events_of_task l.task events) n denials l

-- the listed tasks, by number
unfoldable pub drawings_of : Seen → List Named → List Drawing
drawings_of seen names = map (drawing_of names seen.state.plan.events seen.state.now seen.denials) (listings_of seen.state.plan seen.state.now seen.rows seen.denials)
