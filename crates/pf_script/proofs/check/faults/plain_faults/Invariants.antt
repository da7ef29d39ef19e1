use Rattle.std.proofs.Common.{◌≡◌, ◌≤◌, ◌+◌, length}
use Rattle.pf_script.specs.Script.{script_records}
use Rattle.pf_script.specs.Told.{readings, records_in}
use Rattle.pf_script.specs.Check.Lines.{no_lines}
use Rattle.pf_script.proofs.CheckLemmas.Plainly.{lines_with}
use Rattle.pf_script.proofs.check.faults.plain_faults.Given as goal

-- with what is left the lines and the count are those of all records
abbrev pub invariant-records : goal.invariant-records
invariant-records l = record {
  lines : lines_with l.telling l.found.lines l.reader ≡ lines_with l.fn.telling no_lines (readings l.fn.script);
  count : l.found.records + records_in l.reader ≡ length (script_records l.fn.script);
  lacking : l.found.lines.lacking ≤ l.found.records + 1;
  others : l.found.lines.others ≤ l.found.records;
}

abbrev pub decreases-records : goal.decreases-records
decreases-records l = length l.reader
