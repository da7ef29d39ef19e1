use Rattle.std.proofs.Common.{◌≡◌, IsTrue, length}
use Rattle.pf_journal.specs.Lines.{records_of}
use Rattle.pf_journal.specs.Kept.{IsKept, disk_of}
use Rattle.pf_journal.specs.Texts.{whole_lines}
use Rattle.pf_journal.proofs.Adding.{Midway}
use Rattle.pf_journal.proofs.journal.Journal.put_lines.Given as goal

abbrev pub invariant-loop-line : goal.invariant-loop-line
invariant-loop-line g l = record {
  kept : IsKept g.D.Disk.seen g.D.Disk.may_leave g.D.Disk.is_usable g.D.Disk.is_clean l.self;
  calm : g.D.Disk.is_clean (disk_of l.self) ≡ g.D.Disk.is_clean (disk_of l.fn.self);
  faults : g.D.Disk.faults (disk_of l.self) ≡ g.D.Disk.faults (disk_of l.fn.self);
  midway : Midway (IsTrue (g.D.Disk.is_clean (disk_of l.fn.self))) (records_of (g.D.Disk.seen (disk_of l.fn.self)))
      (records_of (g.D.Disk.seen (disk_of l.self))) (whole_lines l.fn.text) l.batch l.rest;
}

abbrev pub decreases-loop-line : goal.decreases-loop-line
decreases-loop-line g l = length l.rest
