use Rattle.std.proofs.Common.{◌++◌, codes, arith}
use Rattle.std.specs.Fmt.{decimal}
use Rattle.std.proofs.lemmas.List.FromFn.{map-range_with_len_more}
use Rattle.pf_report.proofs.schedule.push_heading.Goals as goal

pub loop-processor-preserved : goal.loop-processor-preserved
loop-processor-preserved c =
    let more = map-range_with_len_more (λ p. codes "p" ++ decimal p) 0 c.loop-processor.processor-counter c.loop-processor.processor-counter (omega arith) in
    rw (c.in_ok-show-2.ensures, c.loop-processor.invariant, more)
