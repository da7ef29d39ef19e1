-- The fault of a task whose script gave no next record.
use Rattle.pf_vocabulary.specs.declared.fault.fault.Fault.{Fault}
use Rattle.pf_vocabulary.specs.declared.fault.fault.Fault.TheVariants as why
use Rattle.pf_script.specs.declared.fault.ScriptFault.{ScriptFault}
use Rattle.pf_script.specs.declared.fault.ScriptFault.TheVariants as script

abbrev pub fault_of_script : ScriptFault → Fault
fault_of_script (script.Bad bad) = why.BadRecord bad.number
fault_of_script (script.Missing bad) = why.BadRecord bad.number
fault_of_script script.Memory = why.NoMemory
