use Rattle.std.proofs.Common.{◌≡◌, ◌∷◌, ◌++◌, codes, map}
use Rattle.std.specs.Fmt.{decimal}
use Rattle.std.specs.List.{range_with_len}
use Rattle.pf_report.proofs.schedule.push_heading.Given as goal

abbrev pub invariant-loop-processor : goal.invariant-loop-processor
invariant-loop-processor l = l.table ≡ record {
  text = l.fn.table.text;
  fields = codes "slot" ∷ map (λ p. codes "p" ++ decimal p) (range_with_len 0 l.processor-counter);
}
