-- What a script asks for, and how a drill of it is stopped.
use Rattle.std.proofs.Common.{◌≡◌, ℕ, ◌+◌, Option, Some, None, List, [], ◌∷◌, ◌++◌, ◌∙◌, refl, sym, ap, append_assoc, subst}
use Rattle.std.specs.Prelude.{All, Result, Ok, Err, IfOk, IfErr}
use Rattle.pf_scenario.specs.System.{System}
use Rattle.pf_desk.specs.declared.command.Command.{Command}
use Rattle.pf_board.specs.declared.quantum.Quantum.{Quantum}
use Rattle.pf_script.specs.declared.fault.ScriptFault.{ScriptFault}
use Rattle.pf_script.specs.declared.fault.ScriptFault.TheVariants as script
use Rattle.pf_script.specs.declared.opened.OpenedScript.{OpenedScript}
use Rattle.pf_script.specs.declared.record.LineTold.{LineTold}
use Rattle.pf_script.specs.Answers.{ReadsLine}
use Rattle.pf_script_desk.specs.Asked.{Asked, BadRecord, Whole, asked_by, asked_up_to, commands_in, commands_of, lines_asked}
use Rattle.pf_script.specs.Opened.{Opens}
use Rattle.pf_script.specs.Told.{FaultTold, LinesTold, Told}
use Rattle.pf_vocabulary.specs.declared.fault.fault.Fault.{Fault}
use Rattle.pf_vocabulary.specs.declared.fault.fault.Fault.TheVariants as why
use Rattle.pf_drill.specs.declared.worker.Worker.{Worker}
use Rattle.pf_script.specs.Faults.{fault_of_script}
use Rattle.pf_drill.specs.Drilled.{Drills, IsDrill, IsDrilled, IsHalt, Stops}
use Rattle.pf_drill.specs.Gates.{Arrived}

-- Use: a script that was read up to no settings is bad.
pub opening_stops : (shut : Type 0) (t : Told) (fields : List (List ℕ)) (fault : ScriptFault) → Opens (Err fault) fields t
    → Stops shut (asked_by t) (fault_of_script fault)
opening_stops shut t fields (script.Bad bad) h = rw (h.0, h.1) refl
opening_stops shut t fields (script.Missing bad) h = rw (h.0, h.1) refl
opening_stops shut t fields script.Memory h = tt

-- Use: with its settings it asks for what its lines do.
pub opening_asks : (t : Told) (opened : OpenedScript) → t ≡ record { opening = Some opened.opening; rest = opened.lines }
    → lines_asked opened.opening.settings opened.lines ≡ asked_by t
opening_asks t opened is = rw is refl

-- a line with a fault, which all lines have
bad_line : (settings : System) (all left : LinesTold) (fault : FaultTold) → left.fault ≡ all.fault → left ≡ record { lines = []; fault = Some fault }
    → lines_asked settings all ≡ BadRecord fault.bad.number
bad_line settings all left fault same is =
    ap (λ (f : Option FaultTold). asked_up_to f (Whole settings (commands_in all.lines))) (sym same ∙ ap (λ (rest : LinesTold). rest.fault) is)

-- Use: a line that was not read stops the drill.
pub line_stops : (shut : Type 0) (settings : System) (all left behind : LinesTold) (fields : List (List ℕ)) (fault : ScriptFault) → left.fault ≡ all.fault
    → ReadsLine (Err fault) fields left behind → Stops shut (lines_asked settings all) (fault_of_script fault)
line_stops shut settings all left behind fields (script.Bad bad) same h = bad_line settings all left _ same h
line_stops shut settings all left behind fields (script.Missing bad) same h = bad_line settings all left _ same h
line_stops shut settings all left behind fields script.Memory same h = tt

-- Use: one line further the commands given and those left are the same together.
pub commands_on : (given more all : List Command) (left behind : LinesTold) (line : LineTold) → left ≡ record behind { lines = line ∷ behind.lines }
    → more ≡ given ++ commands_of line.asks → given ++ commands_in left.lines ≡ all → more ++ commands_in behind.lines ≡ all
commands_on given more all left behind line read on same =
    ap (λ (cs : List Command). cs ++ commands_in behind.lines) on
    ∙ append_assoc given (commands_of line.asks) (commands_in behind.lines)
    ∙ ap (λ (rest : LinesTold). given ++ commands_in rest.lines) (sym read)
    ∙ same

-- Use: where no line has a fault the script is whole.
pub whole : (settings : System) (rest : LinesTold) (commands : List Command) → rest.fault ≡ None → commands ≡ commands_in rest.lines
    → lines_asked settings rest ≡ Whole settings commands
whole settings rest commands none are = rw (none, are) refl

-- Use: what stops it where no gate is shut.
pub any_stop : (shut : Type 0) (asked : Asked) (fault : Fault) → Stops ⊥ asked fault → Stops shut asked fault
any_stop shut asked (why.BadRecord number) h = h
any_stop shut asked why.Read h = absurd h
any_stop shut asked why.Write h = absurd h
any_stop shut asked why.TooLong h = absurd h
any_stop shut asked (why.BadRange range) h = absurd h
any_stop shut asked why.GateShut h = absurd h
any_stop shut asked why.NoViewer h = h
any_stop shut asked why.Unread h = h
any_stop shut asked why.NoMemory h = h

-- Use: a halt stops whatever was asked for.
pub stopped : (shut : Type 0) (asked : Asked) (fault : Fault) → IsHalt shut fault → Stops shut asked fault
stopped shut asked (why.BadRecord number) halt = absurd halt
stopped shut asked why.Read halt = halt
stopped shut asked why.Write halt = halt
stopped shut asked why.TooLong halt = halt
stopped shut asked why.GateShut halt = halt
stopped shut asked (why.BadRange range) halt = absurd halt
stopped shut asked why.NoViewer halt = halt
stopped shut asked why.Unread halt = halt
stopped shut asked why.NoMemory halt = halt

-- Use: the rest of a drill, whose commands are all known.
pub finished : {V F : Type 0} (lets_in : Worker → Quantum → Type 0) (items : V → List ℕ) (asked : Asked) (settings : System) (commands : List Command) (taken : List Quantum)
    (r : Result V F) → asked ≡ Whole settings commands → All (Arrived lets_in) taken
    → IfOk r (λ v. IsDrill settings commands taken (items v)) → IfOk r (λ v. Drills lets_in asked (items v))
finished lets_in items asked settings commands taken (Ok v) is arrived drill =
    let drilled : IsDrilled lets_in settings commands (items v) = record { taken = taken; drill = drill; arrived = arrived } in
    rw is drilled
finished lets_in items asked settings commands taken (Err fault) is arrived drill = tt

pub stopped_if : {V : Type 0} (shut : Type 0) (asked : Asked) (r : Result V Fault) → IfErr r (IsHalt ⊥) → IfErr r (Stops shut asked)
stopped_if shut asked (Ok v) halt = tt
stopped_if shut asked (Err fault) halt = any_stop shut asked fault (stopped ⊥ asked fault halt)

pub drills_same : {V F : Type 0} (lets_in : Worker → Quantum → Type 0) (items : V → List ℕ) (a b : Asked) (r : Result V F) → a ≡ b
    → IfOk r (λ v. Drills lets_in a (items v)) → IfOk r (λ v. Drills lets_in b (items v))
drills_same lets_in items a b r is drills = subst (λ x. IfOk r (λ v. Drills lets_in x (items v))) is drills

pub stops_same : {V : Type 0} (shut : Type 0) (a b : Asked) (r : Result V Fault) → a ≡ b → IfErr r (Stops shut a) → IfErr r (Stops shut b)
stops_same shut a b r is stops = subst (λ x. IfErr r (Stops shut x)) is stops
