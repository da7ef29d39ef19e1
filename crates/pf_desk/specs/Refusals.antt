-- What a desk that is not opened tells: a number in the table of refusals.
use Rattle.std.specs.Prelude.{ℕ}
use Rattle.pf_desk.specs.declared.fault.OpenFault.{OpenFault}
use Rattle.pf_desk.specs.declared.fault.OpenFault.TheVariants.{BadSettings, NoMemory}

abbrev pub open_fault_code : OpenFault → ℕ
open_fault_code BadSettings = 33
open_fault_code NoMemory = 90
