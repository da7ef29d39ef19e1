-- The records of version 2 for what a record says.
use Rattle.std.specs.Prelude.{ℕ, Bool, true, false, List, [], ◌∷◌, ◌++◌, codes}
use Rattle.std.specs.Fmt.{decimal}
use Rattle.pf_scenario.specs.declared.event.Event.{Event}
use Rattle.pf_scenario.specs.declared.event.Event.TheVariants.{Join, Leave, Delay, Limit}
use Rattle.pf_scenario.specs.declared.change.Change.{Change}
use Rattle.pf_scenario.specs.declared.change.Change.TheVariants.{Insert, Alter, Strike}
use Rattle.pf_script.specs.declared.line.Line.{Line}
use Rattle.pf_script.specs.declared.line.Line.TheVariants.{Edit, Steps}
use Rattle.pf_script.specs.declared.record.ScriptSettings.{ScriptSettings}
use Rattle.pf_script.specs.declared.plan.said.Said.{Said}
use Rattle.pf_script.specs.declared.plan.said.Said.TheVariants.{Settings, Slot, Name, Asks}

-- an event as it is inserted, EARLY written
abbrev pub event_fields : Event → List (List ℕ)
event_fields (Join slot task cost period early) =
    codes "join" ∷ decimal slot ∷ decimal task ∷ decimal cost ∷ decimal period ∷ decimal early ∷ []
event_fields (Leave slot task) = codes "leave" ∷ decimal slot ∷ decimal task ∷ []
event_fields (Delay slot task by) = codes "delay" ∷ decimal slot ∷ decimal task ∷ decimal by ∷ []
event_fields (Limit slot count) = codes "limit" ∷ decimal slot ∷ decimal count ∷ []

abbrev pub change_fields : Change → List (List ℕ)
change_fields (Insert event) = event_fields event
change_fields (Alter id event) = codes "alter" ∷ decimal id ∷ event_fields event
change_fields (Strike id) = codes "strike" ∷ decimal id ∷ []

abbrev pub strict_fields : Bool → List (List ℕ)
strict_fields true = codes "strict" ∷ []
strict_fields false = []

abbrev pub line_fields : Line → List (List ℕ)
line_fields (Edit change strict) = strict_fields strict ++ change_fields change
line_fields (Steps count) = codes "step" ∷ decimal count ∷ []

-- the settings in full
abbrev pub settings_fields : ScriptSettings → List (List ℕ)
settings_fields s =
    codes "settings" ∷ decimal s.settings.processors ∷ decimal s.settings.base ∷ decimal s.settings.cap ∷ decimal s.every ∷ []

-- none for a slot and for a name
abbrev pub said_records : Said → List (List (List ℕ))
said_records (Settings s) = settings_fields s ∷ []
said_records (Slot length) = []
said_records (Name task name) = []
said_records (Asks line label) = line_fields line ∷ []

-- `pfair,2`
abbrev pub heading_fields : List (List ℕ)
heading_fields = codes "pfair" ∷ codes "2" ∷ []

-- no record of any script
abbrev pub bad_fields : List (List ℕ)
bad_fields = [] ∷ []
