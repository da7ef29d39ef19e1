use Rattle.std.proofs.Common.{[], ◌∷◌, length, get_or, sym, ap, subst, arith, length-append}
use Rattle.pf_convert.specs.Conversion.Planned.{HoldsPlan, IsPlannedAt}
use Rattle.pf_convert.specs.Conversion.Series.{quantum_of}
use Rattle.pf_convert.proofs.ConversionLemmas.Each.{each_more}
use Rattle.pf_convert.proofs.conversion.series.plan_all.Goals as goal

pub loop-length-preserved : goal.loop-length-preserved
loop-length-preserved c =
    let all = c.loop-length.all.items in
    let p = c.in_ok-planned.planned in
    let e = c.in_ok-push.ensures.items in
    let t = c.args.terms in
    let here = subst (λ k. IsPlannedAt (quantum_of t.switch (get_or c.args.quanta.now k 0)) t.arrivals c.args.tasks.now p)
    (sym c.loop-length.invariant.as_many) c.in_ok-planned.ensures.planned in
    record {
      as_many = omega (arith, ap length e, length-append all (p ∷ []), c.loop-length.invariant.as_many);
      each =
          each_more (λ k planned. IsPlannedAt (quantum_of t.switch (get_or c.args.quanta.now k 0)) t.arrivals c.args.tasks.now planned) all p
          c.loop-length.invariant.each here c.push.new.self.items e;
      holds = each_more (λ k planned. HoldsPlan planned.plan) all p c.loop-length.invariant.holds c.in_ok-planned.ensures.holds c.push.new.self.items e;
      bases = c.in_ok-planned.ensures.bases;
      known = c.in_ok-planned.ensures.known;
    }
