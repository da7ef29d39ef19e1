-- A script of version 1 or 2 that has a bad record.
use Rattle.std.proofs.Common.{◌≡◌, ℕ, ◌∷◌, Bool, false, List, Option, Some, None, Err, sym, subst}
use Rattle.std.specs.Prelude.{if◌then◌else◌}
use Rattle.pf_script_run.specs.Carried.{Stops}
use Rattle.pf_vocabulary.specs.declared.fault.fault.Fault.{Fault}
use Rattle.pf_vocabulary.specs.declared.fault.fault.Fault.TheVariants as why
use Rattle.pf_text.specs.Rows.Rows.{Row}
use Rattle.pf_script.specs.Told.{FaultTold, told}
use Rattle.pf_session.specs.Session.{SessionState}
use Rattle.pf_script.specs.Plan.Heading.{heading_fault, is_plan_heading}
use Rattle.pf_session_turns.specs.Opening.{IsOpened, opened_plain, opened_plan, opened_rows}

-- Use: it is not opened.
pub stopped_plain : (s : SessionState) (found : List Row) (told : Option FaultTold) (fault : Fault) → Stops told fault
    → IsOpened (opened_plain s found told) (Err fault)
stopped_plain s found told why.NoMemory h = tt
stopped_plain s found (Some first) (why.BadRecord number) h = let e : Some first.bad.number ≡ Some number = h in cc
stopped_plain s found None (why.BadRecord number) h = let e : None ≡ Some number = h in cc
stopped_plain s found told why.TooLong h = absurd h
stopped_plain s found told (why.BadRange range) h = absurd h
stopped_plain s found told why.Read h = absurd h
stopped_plain s found told why.Write h = absurd h
stopped_plain s found told why.NoViewer h = absurd h
stopped_plain s found told why.Unread h = absurd h
stopped_plain s found told why.GateShut h = absurd h

-- Use: nor are its rows, where the first is no heading of a plan.
pub stopped_rows : (s : SessionState) (bytes : List ℕ) (row : Row) (rest : List Row) (fault : Fault) → is_plan_heading row.fields ≡ false
    → Stops (told bytes).rest.fault fault → IsOpened (opened_rows s bytes (row ∷ rest)) (Err fault)
stopped_rows s bytes row rest fault is_plan stops =
    subst
    (λ (b : Bool). IsOpened (if b then opened_plan s (heading_fault row.fields) rest else opened_plain s (row ∷ rest) (told bytes).rest.fault) (Err fault))
    (sym is_plan) (stopped_plain s (row ∷ rest) (told bytes).rest.fault fault stops)
