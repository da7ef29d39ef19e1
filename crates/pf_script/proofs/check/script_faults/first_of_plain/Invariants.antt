use Rattle.std.proofs.Common.{◌≡◌, length}
use Rattle.pf_script.specs.Told.{faults, faults_in}
use Rattle.pf_script.proofs.check.script_faults.first_of_plain.Given as goal

-- the faults of what is left are all
abbrev pub invariant-records : goal.invariant-records
invariant-records l = record {
  faults : faults_in l.reader ≡ faults l.fn.script;
  telling : l.telling ≡ l.fn.telling;
}

abbrev pub decreases-records : goal.decreases-records
decreases-records l = length l.reader
