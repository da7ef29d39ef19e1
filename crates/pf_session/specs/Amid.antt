-- What a record leaves where memory is refused after a part of it was done.
use Rattle.std.specs.Prelude.{ℕ, ◌≡◌, ◌⊎◌, ◌≤◌, true, Option, None, Some, is_some, List, replicate}
use Rattle.pf_desk.specs.Machine.{State}
use Rattle.pf_desk.specs.declared.command.Command.TheVariants as command
use Rattle.pf_plain_script.specs.Carried.{state_behind}
use Rattle.pf_plain_script.specs.Plain.{course_behind}
use Rattle.pf_script.specs.declared.line.Line.TheVariants.{Edit, Steps}
use Rattle.pf_script.specs.declared.plan.said.Said.{Said}
use Rattle.pf_script.specs.declared.plan.said.Said.TheVariants.{Settings, Slot, Name, Asks}
use Rattle.pf_session.specs.Session.{SessionState}

-- of so many steps some were taken, or all
pub record IsAmidSteps (st : State) (count : ℕ) (new : State) : Type 0 where
  pub taken : ℕ
  pub some : 1 ≤ taken
  pub within : taken ≤ count
  pub state : new ≡ state_behind st (replicate taken command.Step)

abbrev pub HasStepped : Option State → ℕ → Option State → Type 0
HasStepped (Some st) count (Some new) = IsAmidSteps st count new
HasStepped desk count new = ⊥

-- a record with a label was carried out, and the label not kept
abbrev pub IsUnlabelled : SessionState → Said → Option (List ℕ) → SessionState → Type 0
IsUnlabelled s said label t = (is_some label ≡ true) × (t.course.desk ≡ (course_behind s.course said).desk)

-- a session is left in mid-change by a record that said this: it took some of its steps, or did all but keep its label
abbrev pub IsAmid : SessionState → Said → SessionState → Type 0
IsAmid s (Settings opening) t = ⊥
IsAmid s (Slot length) t = ⊥
IsAmid s (Name task name) t = ⊥
IsAmid s (Asks (Edit change strict) label) t = IsUnlabelled s (Asks (Edit change strict) label) label t
IsAmid s (Asks (Steps count) label) t =
    HasStepped s.course.desk count t.course.desk ⊎ IsUnlabelled s (Asks (Steps count) label) label t
