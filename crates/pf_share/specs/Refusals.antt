-- What is refused at a shared desk: its number in the table of refusals.
use Rattle.std.specs.Prelude.{ℕ}
use Rattle.pf_share.specs.declared.fault.OpenFault.{OpenFault}
use Rattle.pf_share.specs.declared.fault.OpenFault.TheVariants as opening
use Rattle.pf_share.specs.declared.step_refusal.StepRefusal.{StepRefusal}
use Rattle.pf_share.specs.declared.step_refusal.StepRefusal.TheVariants as step

abbrev pub open_fault_code : OpenFault → ℕ
open_fault_code opening.BadSettings = 33
open_fault_code opening.NoViewer = 34
open_fault_code opening.NoMemory = 90

abbrev pub step_refusal_code : StepRefusal → ℕ
step_refusal_code (step.Pending processor) = 32
step_refusal_code step.NoMemory = 90

-- nothing was read
abbrev pub unread_code : ℕ
unread_code = 37
