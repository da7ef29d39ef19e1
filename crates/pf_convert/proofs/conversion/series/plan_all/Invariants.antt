use Rattle.std.proofs.Common.{◌≡◌, ℕ, ◌<◌, length, get_or}
use Rattle.std.specs.Prelude.{All}
use Rattle.pf_convert.specs.declared.conversion.planned.Planned.{Planned}
use Rattle.pf_convert.specs.Conversion.Planned.{AreBasesOrNone, IsPlannedAt}
use Rattle.pf_convert.specs.Conversion.Series.{HoldAll, IsPlannedUnder, quantum_of}
use Rattle.pf_convert.proofs.conversion.series.plan_all.Given as goal

abbrev pub invariant-loop-length : goal.invariant-loop-length
invariant-loop-length l = record {
  as_many : length l.all.items ≡ l.length-index;
  each : (k : ℕ) (d : Planned) → k < length l.all.items → IsPlannedAt (quantum_of l.terms.switch (get_or l.quanta k 0)) l.terms.arrivals l.tasks (get_or l.all.items k d);
  holds : HoldAll l.all.items;
  bases : AreBasesOrNone l.bases.items;
  known : All (IsPlannedUnder l.terms l.tasks) l.known.items;
}
