use Rattle.std.proofs.Common.{length}
use Rattle.pf_desk.specs.Desk.{IsDesk}
use Rattle.pf_c_api.proofs.Records.{IsUnderWay}
use Rattle.pf_c_api.proofs.running.carry_out.Given as goal

abbrev pub invariant-records : goal.invariant-records
invariant-records l = record {
  way : IsUnderWay l.caller l.fn.lines l.lines l.fn.desk l.desk;
  desk : IsDesk l.desk;
}

abbrev pub decreases-records : goal.decreases-records
decreases-records l = length l.lines.lines
