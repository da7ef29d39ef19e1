use Rattle.std.proofs.Common.{◌≡◌, ℕ, List, Option, length}
use Rattle.pf_script_run.specs.Carried.{asked_in}
use Rattle.pf_desk.specs.Machine.{State}
use Rattle.pf_plain_script.specs.declared.origin.Origin.{Origin}
use Rattle.pf_script_desk.specs.Asked.{commands_in}
use Rattle.pf_script_results.specs.Places.{place_of}
use Rattle.pf_script_results.specs.Recount.{behind_lines}
use Rattle.pf_script_results.specs.Walk.{IsAt, RiseAbove, Stands}
use Rattle.pf_script_results.proofs.recounting.take_lines.Given as goal

-- after the records so far, with those left, is what it was
abbrev pub invariant-records : goal.invariant-records
invariant-records l =
    (origins : Option (List Origin)) (script : List ℕ) (bound : ℕ) (st : State) → IsAt origins script bound st l.fn.course
    → RiseAbove bound l.fn.lines.lines
    → Stands l.telling.file.now l.telling.hints l.telling.names.now l.telling.whole origins script l.course l.recount l.lines.lines
    (behind_lines l.telling.file.now l.telling.hints l.telling.names.now l.telling.whole (place_of origins script) st l.fn.lines.lines l.fn.recount)
    (asked_in l.fn.course.replies ≡ commands_in l.fn.lines.lines)

abbrev pub decreases-records : goal.decreases-records
decreases-records l = length l.lines.lines
