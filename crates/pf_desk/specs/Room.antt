-- What edits and commands leave of the room of a scenario whose processors carry the cap.
use Rattle.std.specs.Prelude.{⊤, ◌≡◌, ◌↔◌, ℕ, nat_le, Bool, true, None, List, All}
use Rattle.pf_scenario.specs.System.{System}
use Rattle.pf_scenario.specs.Scenario.{Plan, plan_after}
use Rattle.pf_scenario.specs.Edit.{IsScenario, edit_fault}
use Rattle.pf_scenario.specs.declared.event.Event.{Event}
use Rattle.pf_scenario.specs.declared.event.Event.TheVariants.{Limit}
use Rattle.pf_scenario.specs.declared.change.Change.{Change}
use Rattle.pf_scenario.specs.declared.change.Change.TheVariants.{Insert, Alter, Strike}
use Rattle.pf_tally.specs.Room.{LeavesRoom, CarriesCap, MissesNone}
use Rattle.pf_desk.specs.declared.command.Command.{Command}
use Rattle.pf_desk.specs.declared.command.Command.TheVariants.{Edit, Step}
use Rattle.pf_desk.specs.declared.entry.Entry.{Entry}
use Rattle.pf_desk.specs.Machine.{State}
use Rattle.pf_desk.specs.History.{IsLegalFrom, state_behind}

-- a limit that the change brings leaves enough processors in use to carry the cap
abbrev pub KeepsRoom : System → Change → Type 0
KeepsRoom settings (Insert event) = LeavesRoom settings event
KeepsRoom settings (Alter id event) = LeavesRoom settings event
KeepsRoom settings (Strike id) = ⊤

abbrev pub AsksWithinRoom : System → Command → Type 0
AsksWithinRoom settings Step = ⊤
AsksWithinRoom settings (Edit change strict) = KeepsRoom settings change

-- Room is kept: of the edits without a fault those alone end it that bring a limit which leaves too few processors.
abbrev pub RoomIsKept : Type 0
RoomIsKept = (s : Plan) (change : Change) → CarriesCap s → edit_fault s change ≡ None →
    CarriesCap (plan_after s change) ↔ KeepsRoom s.settings change

-- a scenario within its limits whose processors carry the cap
pub record HasRoom (s : Plan) : Type 0 where
  pub scenario : IsScenario s
  pub carries : CarriesCap s

-- commands that keep the room, each answered as by the machine
pub record AreWithinRoom (st : State) (entries : List Entry) : Type 0 where
  pub legal : IsLegalFrom st entries
  pub asked : All (λ e. AsksWithinRoom st.plan.settings e.command) entries

-- Room goes on: commands that keep the room lead to a scenario that has it.
abbrev pub RoomGoesOn : Type 0
RoomGoesOn = (st : State) (entries : List Entry) → HasRoom st.plan → AreWithinRoom st entries → HasRoom (state_behind st entries).plan

-- no window is missed in any run of any scenario that such commands lead to
abbrev pub MissesNoneAfter : State → Type 0
MissesNoneAfter st = (entries : List Entry) → AreWithinRoom st entries → MissesNone (state_behind st entries).plan

-- where an event is a limit, it leaves as many processors in use as are needed
abbrev pub leaves_needed : ℕ → Event → Bool
leaves_needed needed (Limit slot count) = nat_le needed count
leaves_needed needed event = true
