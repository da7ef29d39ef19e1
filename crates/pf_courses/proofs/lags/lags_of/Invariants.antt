use Rattle.std.proofs.Common.{◌≡◌, ◌+◌, ◌-◌, ◌≤◌, map}
use Rattle.std.specs.Prelude.{max}
use Rattle.std.specs.List.{range_with_len}
use Rattle.pf_courses.specs.Built.{clock_by, lag_with}
use Rattle.pf_courses.proofs.lags.lags_of.Given as goal

abbrev pub invariant-loop-t : goal.invariant-loop-t
invariant-loop-t l = record {
  clock : l.clock ≡ clock_by l.fn.task l.stops l.t;
  most : l.clock ≤ l.t;
  lags : l.lags.items ≡ map (lag_with l.fn.task l.ran l.stops) (range_with_len l.fn.task.slot (l.t - l.fn.task.slot));
  short : l.t ≤ max l.fn.task.slot (l.end + 1);
}
