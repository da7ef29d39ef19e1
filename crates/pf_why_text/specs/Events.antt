-- The lines of a slot's events.
use Rattle.std.specs.Prelude.{ℕ, ◌==◌, Option, None, Some, List, [], ◌++◌, codes, find}
use Rattle.std.specs.Fmt.{decimal}
use Rattle.std.specs.List.{flat_map}
use Rattle.std.specs.Option.{option_and_then, option_map_or}
use Rattle.pf_scenario.specs.Scenario.{Plan}
use Rattle.pf_scenario.specs.declared.event.Numbered.{Numbered}
use Rattle.pf_run.specs.Record.{Slot}
use Rattle.pf_run.specs.declared.denied.Denied.{Denied}
use Rattle.pf_vocabulary.specs.declared.names.named.Named.{Named}
use Rattle.pf_vocabulary.specs.Names.Names.{name_of}
use Rattle.pf_notes.specs.Grounds.{grounds_of, grounds_text, task_of_grounds}
use Rattle.pf_notes.specs.Refusal.{record_text}
use Rattle.pf_notes.specs.declared.grounds.Grounds.{Grounds}

-- why an event was denied
abbrev pub sentence_text : List Named → Grounds → List ℕ
sentence_text names grounds = grounds_text (option_and_then (name_of names) (task_of_grounds grounds)) grounds

-- that an event was denied, and why, in the record r of the scenario
abbrev pub denied_text : List Named → Plan → List Slot → Denied → List ℕ
denied_text names s r d =
    codes "denied: " ++ option_map_or (sentence_text names) (grounds_of s r d) []

-- whether an event was taken
abbrev pub outcome_text : List Named → Plan → List Slot → Option Denied → List ℕ
outcome_text names s r None = codes "taken"
outcome_text names s r (Some d) = denied_text names s r d

-- the denial of the event of this number
abbrev pub denial_among : List Denied → ℕ → Option Denied
denial_among denials id = find (λ d. d.id == id) denials

-- the line of an event
abbrev pub event_text : List Named → Plan → List Slot → List Denied → Numbered → List ℕ
event_text names s r denials x =
    (codes "event " ++ (decimal x.id ++ codes ", ")) ++ (record_text x.event ++ (codes ": "
    ++ (outcome_text names s r (denial_among denials x.id) ++ codes "\n")))

-- those of some events
abbrev pub events_text : List Named → Plan → List Slot → List Denied → List Numbered → List ℕ
events_text names s r denials xs = flat_map (event_text names s r denials) xs
