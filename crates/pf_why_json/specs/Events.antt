-- The events of a slot as JSON.
use Rattle.std.specs.Prelude.{ℕ, Option, None, Some, List, [], ◌++◌, codes, map}
use Rattle.std.specs.Option.{option_map, option_map_or}
use Rattle.std.specs.Fmt.{decimal}
use Rattle.pf_admit.specs.Refusals.{denial_code, denial_name}
use Rattle.pf_scenario.specs.Event.{slot_of}
use Rattle.pf_scenario.specs.Scenario.{Plan}
use Rattle.pf_scenario.specs.declared.event.Event.{Event}
use Rattle.pf_scenario.specs.declared.event.Event.TheVariants.{Join, Leave, Delay, Limit}
use Rattle.pf_scenario.specs.declared.event.Numbered.{Numbered}
use Rattle.pf_run.specs.Record.{Slot}
use Rattle.pf_run.specs.declared.denied.Denied.{Denied}
use Rattle.pf_vocabulary.specs.declared.names.named.Named.{Named}
use Rattle.pf_notes.specs.Grounds.{grounds_of}
use Rattle.pf_why_text.specs.Events.{denial_among, sentence_text}
use Rattle.pf_why_json.specs.declared.numbers.EventNumbers.{EventNumbers}
use Rattle.pf_why_json.specs.Members.{key_or_null, quoted_or_null}

-- the numbers that a kind of event has
abbrev pub numbers_of : Event → EventNumbers
numbers_of (Join slot task cost period early) =
    record { by = None; cost = Some cost; count = None; early = Some early; period = Some period; task = Some task }
numbers_of (Leave slot task) = record { by = None; cost = None; count = None; early = None; period = None; task = Some task }
numbers_of (Delay slot task by) = record { by = Some by; cost = None; count = None; early = None; period = None; task = Some task }
numbers_of (Limit slot count) = record { by = None; cost = None; count = Some count; early = None; period = None; task = None }

abbrev pub kind_of : Event → List ℕ
kind_of (Join slot task cost period early) = codes "join"
kind_of (Leave slot task) = codes "leave"
kind_of (Delay slot task by) = codes "delay"
kind_of (Limit slot count) = codes "limit"

-- the keys up to `event`
unfoldable pub event_front : ℕ → Option ℕ → EventNumbers → List ℕ
event_front id code n =
    key_or_null (codes "{\"by\":") n.by ++ key_or_null (codes ",\"code\":") code ++ key_or_null (codes ",\"cost\":") n.cost
    ++ key_or_null (codes ",\"count\":") n.count ++ key_or_null (codes ",\"early\":") n.early ++ codes ",\"event\":" ++ decimal id

-- after them those up to `task`
unfoldable pub event_middle : Event → Option (List ℕ) → EventNumbers → List ℕ
event_middle event reason n =
    codes ",\"kind\":\"" ++ kind_of event ++ codes "\"" ++ key_or_null (codes ",\"period\":") n.period
    ++ quoted_or_null (codes ",\"reason\":") reason ++ codes ",\"slot\":" ++ decimal (slot_of event) ++ key_or_null (codes ",\"task\":") n.task

-- why it was denied, in the record r of the scenario
abbrev pub why_denied : List Named → Plan → List Slot → Denied → List ℕ
why_denied names s r d = option_map_or (sentence_text names) (grounds_of s r d) []

-- an event, with this denial where it was denied
abbrev pub event_object : List Named → Plan → List Slot → Option Denied → Numbered → List ℕ
event_object names s r denied x =
    event_front x.id (option_map (λ d. denial_code d.denial) denied) (numbers_of x.event)
    ++ (event_middle x.event (option_map (λ d. denial_name d.denial) denied) (numbers_of x.event)
    ++ (quoted_or_null (codes ",\"text\":") (option_map (why_denied names s r) denied) ++ codes "}"))

-- an event by the denials
abbrev pub event_json : List Named → Plan → List Slot → List Denied → Numbered → List ℕ
event_json names s r denials x = event_object names s r (denial_among denials x.id) x

abbrev pub events_json : List Named → Plan → List Slot → List Denied → List Numbered → List (List ℕ)
events_json names s r denials xs = map (event_json names s r denials) xs
