-- The lists of a fit's JSON: what was refused, denied and missed, whole.
use Rattle.std.specs.Prelude.{ℕ, Option, None, Some, List, [], ◌∷◌, ◌++◌, codes, filter_map, fold, map}
use Rattle.std.specs.Option.{option_map, option_and_then, unwrap_or}
use Rattle.pf_scenario.specs.Event.{task_of}
use Rattle.pf_scenario.specs.Scenario.{Plan}
use Rattle.pf_scenario.specs.declared.event.Numbered.{Numbered}
use Rattle.pf_run.specs.declared.denied.Denied.{Denied}
use Rattle.pf_run.specs.Record.{Slot}
use Rattle.pf_collections.specs.Table.Grown.{Grown, value_of}
use Rattle.pf_tally.specs.declared.miss.Miss.{Miss}
use Rattle.pf_notes.specs.Absence.{join_among}
use Rattle.pf_notes.specs.Grounds.{grounds_of}
use Rattle.pf_notes.specs.Point.{event_of}
use Rattle.pf_notes.specs.declared.grounds.Grounds.{Grounds}
use Rattle.pf_run_notes.specs.Late.{count_of_task, firsts_of}
use Rattle.pf_run_notes.specs.Made.{maker_of}
use Rattle.pf_run_notes.specs.declared.place.Place.{Place}
use Rattle.pf_fit_text.specs.Elements.{denied_json, missed_json, refused_json}
use Rattle.pf_script_results.specs.declared.refused_record.RefusedRecord.{RefusedRecord}

-- items with a comma between them, and one more
abbrev pub with_item : List ℕ → List ℕ → List ℕ
with_item [] item = item
with_item (x ∷ xs) item = x ∷ xs ++ codes "," ++ item

-- an array of these items
unfoldable pub array_text : List ℕ → List ℕ
array_text items = codes "[" ++ items ++ codes "]"

abbrev pub array_of : List (List ℕ) → List ℕ
array_of items = array_text (fold with_item [] items)

-- a refused record
abbrev pub refused_item : RefusedRecord → List ℕ
refused_item r = refused_json r.place r.fault r.event r.steps

-- a denial of this event, made by the record at this place, on these grounds
abbrev pub denied_with : Denied → Option Numbered → Option Place → Option Grounds → Option (List ℕ)
denied_with d (Some x) (Some place) (Some grounds) = Some (denied_json place d grounds (unwrap_or (task_of x.event) 0))
denied_with d x place grounds = None

abbrev pub denied_item : List Place → Plan → List Slot → Denied → Option (List ℕ)
denied_item made s r d = denied_with d (event_of d.id s.events) (maker_of made d.id) (grounds_of s r d)

-- the first window that a task missed, with how many, where this is its join
abbrev pub missed_at : Numbered → Miss → ℕ → Option Place → Option (List ℕ)
missed_at x miss count None = None
missed_at x miss count (Some place) = Some (missed_json place x.id miss count)

abbrev pub missed_with : List Place → Miss → ℕ → Option Numbered → Option (List ℕ)
missed_with made miss count None = None
missed_with made miss count (Some x) = missed_at x miss count (maker_of made x.id)

abbrev pub missed_item : List Place → Plan → List Miss → Miss → Option (List ℕ)
missed_item made s misses miss = missed_with made miss (count_of_task miss.task misses) (join_among miss.task s.events)

-- the same by a table of the counts
abbrev pub counted_item : List Place → Plan → Grown ℕ → Miss → Option (List ℕ)
counted_item made s counts miss = missed_with made miss (value_of counts miss.task) (join_among miss.task s.events)

-- the arrays
abbrev pub refused_array : List RefusedRecord → List ℕ
refused_array records = array_of (map refused_item records)

abbrev pub denied_array : List Place → Plan → List Slot → List Denied → List ℕ
denied_array made s r denials = array_of (filter_map (denied_item made s r) denials)

abbrev pub missed_array : List Place → Plan → List Miss → List ℕ
missed_array made s misses = array_of (filter_map (missed_item made s misses) (firsts_of misses))
