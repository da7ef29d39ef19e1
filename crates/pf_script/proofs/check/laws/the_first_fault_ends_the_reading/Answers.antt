use Rattle.pf_script.proofs.CheckLemmas.FirstFaults.{first_fault_ends_reading, read_scripts_have_no_fault}
use Rattle.pf_script.proofs.CheckLemmas.ReadRecords.{read_records_have_no_fault}
use Rattle.pf_script.proofs.check.laws.the_first_fault_ends_the_reading.Goals as goal

pub returns : goal.returns
returns c = record {
  records = read_records_have_no_fault;
  first = first_fault_ends_reading;
  scripts = read_scripts_have_no_fault;
}
