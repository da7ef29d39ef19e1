-- A script of what was seen: one that opens a desk as this one was opened, makes its events, and steps as far.
use Rattle.std.specs.Prelude.{ℕ, ◌==◌, if◌then◌else◌, Option, List, [], ◌∷◌, ◌++◌, codes, map}
use Rattle.std.specs.Fmt.{decimal}
use Rattle.std.specs.Option.{option_map_or}
use Rattle.pf_vocabulary.specs.Names.Slots.{unit_word}
use Rattle.pf_vocabulary.specs.declared.names.named.Named.{Named}
use Rattle.pf_vocabulary.specs.declared.names.slot_length.SlotLength.{SlotLength}
use Rattle.pf_vocabulary.specs.declared.names.titles.Titles.{Titles}
use Rattle.pf_scenario.specs.System.{System, near_horizon}
use Rattle.pf_scenario.specs.declared.event.Event.{Event}
use Rattle.pf_scenario.specs.declared.event.Event.TheVariants.{Join, Leave, Delay, Limit}
use Rattle.pf_scenario.specs.declared.event.Numbered.{Numbered}
use Rattle.pf_desk.specs.Desk.{Seen}
use Rattle.pf_text.specs.Page.{table_text}

-- `plan,1` in a plan; else `pfair,2` where the settings are wide
abbrev pub heading_records : System → Titles → List (List (List ℕ))
heading_records settings titles =
    if titles.is_plan then (codes "plan" ∷ codes "1" ∷ []) ∷ []
    else if settings.horizon == near_horizon then []
    else (codes "pfair" ∷ codes "2" ∷ []) ∷ []

-- `settings,M,BASE,CAP,EVERY`, with so many slots between checkpoints
abbrev pub settings_record : System → ℕ → List (List ℕ)
settings_record settings every =
    codes "settings" ∷ decimal settings.processors ∷ decimal settings.base ∷ decimal settings.cap ∷ decimal every ∷ []

-- `slot,LENGTH,UNIT`, where the length of a slot is told
abbrev pub length_record : SlotLength → List (List ℕ)
length_record slot = codes "slot" ∷ decimal slot.length ∷ unit_word slot.unit ∷ []

abbrev pub slot_records : Option SlotLength → List (List (List ℕ))
slot_records slot = option_map_or (λ length. length_record length ∷ []) slot []

-- `name,TASK,TEXT`
abbrev pub name_record : Named → List (List ℕ)
name_record named = codes "name" ∷ decimal named.task ∷ named.name ∷ []

-- what the script tells that the desk does not hold: the length of a slot, and the names, by task
abbrev pub title_records : Titles → List (List (List ℕ))
title_records titles = slot_records titles.slot ++ map name_record titles.names

-- the record that inserts an event
abbrev pub insert_record : Event → List (List ℕ)
insert_record (Join slot task cost period early) =
    codes "join" ∷ decimal slot ∷ decimal task ∷ decimal cost ∷ decimal period ∷ decimal early ∷ []
insert_record (Leave slot task) = codes "leave" ∷ decimal slot ∷ decimal task ∷ []
insert_record (Delay slot task by) = codes "delay" ∷ decimal slot ∷ decimal task ∷ decimal by ∷ []
insert_record (Limit slot count) = codes "limit" ∷ decimal slot ∷ decimal count ∷ []

-- one for each of these events, in their order
abbrev pub insert_records : List Numbered → List (List (List ℕ))
insert_records events = map (λ x. insert_record x.event) events

-- `step,N`, and none where no slot was stepped
abbrev pub step_records : ℕ → List (List (List ℕ))
step_records n = if n == 0 then [] else (codes "step" ∷ decimal n ∷ []) ∷ []

-- the records of the script: the settings, after the heading where it has one; what the desk does not hold; the events held, by
-- number; the steps
abbrev pub script_rows : ℕ → Seen → Titles → List (List (List ℕ))
script_rows every seen titles =
    heading_records seen.state.plan.settings titles
    ++ settings_record seen.state.plan.settings every
    ∷ (title_records titles ++ (insert_records seen.state.plan.events ++ step_records seen.state.now))

-- its text, where the desk has so many slots between checkpoints
unfoldable pub script_text_of : ℕ → Seen → Titles → List ℕ
script_text_of every seen titles = table_text (script_rows every seen titles)
