use Rattle.std.proofs.Common.{◌≡◌, ◌++◌, length}
use Rattle.pf_script.specs.Told.{faults_in}
use Rattle.pf_c_api.specs.Faults.{fault_lines}
use Rattle.pf_c_api.proofs.faults.fault_lines.Given as goal

-- the lines to come are those of the faults left
abbrev pub invariant-records : goal.invariant-records
invariant-records l = record {
  text : l.text.items ++ fault_lines (faults_in l.reader) ≡ fault_lines (faults_in l.fn.reader);
}

abbrev pub decreases-records : goal.decreases-records
decreases-records l = length l.reader
