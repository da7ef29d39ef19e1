-- What changes did that were made, and how each is taken back.
use Rattle.std.specs.Prelude.{ℕ, ◌-◌, ◌==◌, if◌then◌else◌, find, map, take, length, Option, None, Some, List, [], ◌++◌, codes}
use Rattle.std.specs.Option.{option_and_then, option_map, option_to_list}
use Rattle.std.specs.Fmt.{decimal}
use Rattle.pf_scenario.specs.Scenario.{Plan}
use Rattle.pf_scenario.specs.declared.change.Change.{Change}
use Rattle.pf_scenario.specs.declared.change.Change.TheVariants.{Insert, Alter, Strike}
use Rattle.pf_scenario.specs.declared.event.Event.{Event}
use Rattle.pf_desk.specs.declared.reply.Reply.{Reply}
use Rattle.pf_desk.specs.declared.reply.Reply.TheVariants.{Edited, Stepped, Refused}
use Rattle.pf_notes.specs.Refusal.{record_text}
use Rattle.pf_script.specs.declared.plan.labels.Labelled.{Labelled}
use Rattle.pf_script.specs.Plan.Labels.{label_of_number}
use Rattle.pf_session.specs.declared.made.Made.{Made}
use Rattle.pf_session.specs.declared.made.Made.TheVariants.{Inserted, Altered, Struck}

-- the event of a number, where it is held
abbrev pub event_held : Plan → ℕ → Option Event
event_held s id = option_map (λ x. x.event) (find (λ x. x.id == id) s.events)

-- the event that a change strikes, or puts another one in the place of
abbrev pub event_before : Plan → Change → Option Event
event_before s (Insert event) = None
event_before s (Alter id event) = event_held s id
event_before s (Strike id) = event_held s id

-- the number of the event of a change that was made
abbrev pub number_made : Reply → Option ℕ
number_made (Edited id) = Some id
number_made (Stepped slot row) = None
number_made (Refused fault) = None

-- what a change did, where it was made: the number of its event, and what that was before
abbrev pub made_of : Change → Option Event → ℕ → Option Made
made_of (Insert event) before id = Some (Inserted id)
made_of (Alter number event) before id = option_map (λ was. Altered number was) before
made_of (Strike number) before id = option_map (λ was. Struck number was) before

-- the changes that are not taken back, the last one last, after one that was answered so
abbrev pub made_behind : Plan → Change → Option ℕ → List Made → List Made
made_behind s change number made =
    made ++ option_to_list (option_and_then (made_of change (event_before s change)) number)

-- the change that takes one back
abbrev pub taking_back : Made → Change
taking_back (Inserted id) = Strike id
taking_back (Altered id was) = Alter id was
taking_back (Struck id was) = Insert was

-- a change of an event that goes by a new number
abbrev pub new_number : ℕ → ℕ → ℕ → ℕ
new_number old new id = if id == old then new else id

abbrev pub renumbered : ℕ → ℕ → Made → Made
renumbered old new (Inserted id) = Inserted (new_number old new id)
renumbered old new (Altered id was) = Altered (new_number old new id) was
renumbered old new (Struck id was) = Struck (new_number old new id) was

-- the label by which a struck event went, and goes again
abbrev pub label_back : List Labelled → Made → Option (List ℕ)
label_back labels (Inserted id) = None
label_back labels (Altered id was) = None
label_back labels (Struck id was) = label_of_number labels id

-- those that are left where this one was taken back, which made an event of this number
abbrev pub left_behind : Made → ℕ → List Made → List Made
left_behind (Struck id was) number made = map (renumbered id number) made
left_behind (Inserted id) number made = made
left_behind (Altered id was) number made = made

-- after an undo of the last one; one that is refused takes nothing back
abbrev pub made_behind_undo : Made → Option ℕ → List Made → List Made
made_behind_undo newest None made = made
made_behind_undo newest (Some number) made = left_behind newest number (take (length made - 1) made)

-- those that can be taken back the other way, after this one was taken back
abbrev pub reversed_behind : Plan → Made → Option ℕ → List Made → List Made
reversed_behind s newest None others = others
reversed_behind s newest (Some number) others =
    left_behind newest number others ++ option_to_list (made_of (taking_back newest) (event_before s (taking_back newest)) number)

-- a change that was made leaves nothing to make again
abbrev pub undone_behind : Option ℕ → List Made → List Made
undone_behind None undone = undone
undone_behind (Some number) undone = []

-- the record of a change, a line
abbrev pub change_line : Change → List ℕ
change_line (Insert event) = record_text event ++ codes "\n"
change_line (Alter id event) = codes "alter," ++ (decimal id ++ (codes "," ++ (record_text event ++ codes "\n")))
change_line (Strike id) = codes "strike," ++ (decimal id ++ codes "\n")

-- the record of a change that takes one back, whose event goes by this label
abbrev pub back_line : Option (List ℕ) → Change → List ℕ
back_line None change = change_line change
back_line (Some label) change = codes "label," ++ (label ++ (codes ",again," ++ change_line change))
