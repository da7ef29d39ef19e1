-- A script that is gone over again, beside the history of a desk.
use Rattle.std.specs.Prelude.{⊤, ℕ, ◌≡◌, ◌<◌, Bool, Option, None, Some, Result, List, [], ◌∷◌, ◌++◌, OnOk}
use Rattle.pf_script_run.specs.Carried.{asked_in}
use Rattle.pf_desk.specs.History.{IsLegalFrom}
use Rattle.pf_desk.specs.Machine.{State}
use Rattle.pf_desk.specs.declared.command.Command.{Command}
use Rattle.pf_vocabulary.specs.declared.names.named.Named.{Named}
use Rattle.pf_plain_script.specs.Carried.{state_behind_line}
use Rattle.pf_plain_script.specs.declared.origin.Origin.{Origin}
use Rattle.pf_script_desk.specs.Asked.{commands_in, commands_of}
use Rattle.pf_script.specs.declared.line.Line.{Line}
use Rattle.pf_script.specs.declared.record.LineTold.{LineTold}
use Rattle.pf_script_results.specs.declared.course.Course.{Course}
use Rattle.pf_script_results.specs.Places.{ArePlaces, place_of}
use Rattle.pf_script_results.specs.Recount.{Recounted, behind_line, behind_lines}
use Rattle.pf_script_results.specs.Replies.{IsOwn}
use Rattle.pf_script_results.specs.declared.stop.Stop.{Stop}

-- it stands after records up to this number, where the machine is in this state
pub record IsAt (origins : Option (List Origin)) (script : List ℕ) (bound : ℕ) (st : State) (c : Course) : Type 0 where
  pub places : ArePlaces origins script bound c.places
  pub scenario : c.scenario ≡ st.plan
  pub legal : IsLegalFrom st c.replies

-- the numbers of these records rise, and are above this one
abbrev pub RiseAbove : ℕ → List LineTold → Type 0
RiseAbove bound [] = ⊤
RiseAbove bound (line ∷ lines) = (bound < line.number) × RiseAbove line.number lines

-- the first of some records was taken, if there was one
abbrev pub TakesLine : Option LineTold → List LineTold → List LineTold → Type 0
TakesLine None old new = old ≡ []
TakesLine (Some told) old new = old ≡ told ∷ new

-- it went over a record of this number, which asks for this, where it is not stopped: it then stands after it, and what the
-- records came to is what they come to with this one; and it is stopped by running out of memory alone where the history has the
-- commands of the record, and then has those after it
pub record Walks (file : List ℕ) (hints : Bool) (names : List Named) (whole : Bool) (number : ℕ) (asks : Line) (r : Result (Unit {0}) Stop)
    (before : Course) (was : Recounted) (behind : Course) (now : Recounted) : Type 0 where
  pub course : (origins : Option (List Origin)) (script : List ℕ) (bound : ℕ) (st : State) → IsAt origins script bound st before → bound < number →
      OnOk r (IsAt origins script number (state_behind_line st asks) behind)
  pub value : (origins : Option (List Origin)) (script : List ℕ) (bound : ℕ) (st : State) → IsAt origins script bound st before → bound < number →
      OnOk r (now ≡ behind_line file hints names whole st (place_of origins script number) asks was)
  pub own : (origins : Option (List Origin)) (script : List ℕ) (bound : ℕ) (st : State) (rest : List Command) → IsAt origins script bound st before →
      asked_in before.replies ≡ commands_of asks ++ rest → IsOwn r
  pub rest : (rest : List Command) → asked_in before.replies ≡ commands_of asks ++ rest → OnOk r (asked_in behind.replies ≡ rest)

-- it stands somewhere after records; with those that are left they come to `whole`, and the history has the commands of those
-- left, where it had those of all
pub record Stands (file : List ℕ) (hints : Bool) (names : List Named) (keeps : Bool) (origins : Option (List Origin)) (script : List ℕ) (c : Course)
    (recounted : Recounted) (left : List LineTold) (whole : Recounted) (had : Type 0) : Type 0 where
  pub bound : ℕ
  pub state : State
  pub at : IsAt origins script bound state c
  pub rises : RiseAbove bound left
  pub comes : behind_lines file hints names keeps (place_of origins script) state left recounted ≡ whole
  pub has : had → asked_in c.replies ≡ commands_in left
