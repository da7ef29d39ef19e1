use Rattle.std.proofs.Common.{◌≡◌, length}
use Rattle.pf_script.specs.Told.{told, told_in}
use Rattle.pf_script.proofs.Opening.{AreUnopened}
use Rattle.pf_script.proofs.opened.OpenedScript.open.Given as goal

-- headings tell nothing
abbrev pub invariant-records : goal.invariant-records
invariant-records l = record {
  told : told_in l.reader ≡ told l.fn.bytes;
  unopened : AreUnopened l.reader;
}

abbrev pub decreases-records : goal.decreases-records
decreases-records l = length l.reader
