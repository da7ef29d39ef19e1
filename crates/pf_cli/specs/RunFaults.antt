-- Why a script is not run or drilled to its end.
use Rattle.std.specs.Prelude.{ℕ}
use Rattle.pf_vocabulary.specs.declared.fault.fault.Fault.{Fault}
use Rattle.pf_vocabulary.specs.declared.fault.fault.Fault.TheVariants as why
use Rattle.pf_cli.specs.declared.run_fault.RunFault.{RunFault}
use Rattle.pf_cli.specs.declared.run_fault.RunFault.TheVariants.{BadLine, ScriptTooLong, BadRange, ReadFault, WriteFault, NoMemory, NoViewer, Unread, GateShut}

-- the number of a fault in the table of refusals
abbrev pub code_of : RunFault → ℕ
code_of NoViewer = 34
code_of Unread = 37
code_of (BadLine number) = 50
code_of ReadFault = 51
code_of WriteFault = 52
code_of ScriptTooLong = 53
code_of GateShut = 54
code_of (BadRange range) = 55
code_of NoMemory = 90

-- the fault of a task, as one of a run
abbrev pub run_fault : Fault → RunFault
run_fault (why.BadRecord number) = BadLine number
run_fault why.TooLong = ScriptTooLong
run_fault (why.BadRange range) = BadRange range
run_fault why.Read = ReadFault
run_fault why.Write = WriteFault
run_fault why.NoMemory = NoMemory
run_fault why.NoViewer = NoViewer
run_fault why.Unread = Unread
run_fault why.GateShut = GateShut
