-- The fault of a task whose script was not read, or whose text was not put or written.
use Rattle.pf_vocabulary.specs.declared.fault.fault.Fault.{Fault}
use Rattle.pf_vocabulary.specs.declared.fault.fault.Fault.TheVariants as why
use Rattle.pf_stream.specs.declared.output_fault.OutputFault.{OutputFault}
use Rattle.pf_stream.specs.declared.output_fault.OutputFault.TheVariants as output
use Rattle.pf_stream.specs.declared.reading.ReadingFault.{ReadingFault}
use Rattle.pf_stream.specs.declared.reading.ReadingFault.TheVariants as reading

abbrev pub fault_of_reading : ReadingFault → Fault
fault_of_reading reading.Read = why.Read
fault_of_reading reading.TooLong = why.TooLong
fault_of_reading reading.Memory = why.NoMemory

abbrev pub fault_of_output : OutputFault → Fault
fault_of_output output.Write = why.Write
fault_of_output output.Memory = why.NoMemory
