use Rattle.std.proofs.Common.{◌≡◌, ◌<◌, ◌+◌, ◌-◌, ◌^◌, false, length, None}
use Rattle.pf_script.specs.PlanCheck.Checked.{faults_from}
use Rattle.pf_script.proofs.plan_check.plan_faults.PlanFaults.next.Given as goal

-- the faults of the rows that are left are all: that of the heading was told
abbrev pub invariant-rows : goal.invariant-rows
invariant-rows l = record {
  heading : l.self-inside.heading ≡ None;
  going : l.self-inside.ended ≡ false;
  faults : faults_from l.self-inside.progress (l.self-inside.number + 1) l.self-inside.rows.end l.self-inside.rows.rows ≡ l.fn.self.faults;
  records : l.self-inside.number + length l.self-inside.rows.rows ≡ l.fn.self.records;
  few : l.self-inside.number + length l.self-inside.rows.rows < 2 ^ 64 - 2;
}

abbrev pub decreases-rows : goal.decreases-rows
decreases-rows l = length l.self-inside.rows.rows
