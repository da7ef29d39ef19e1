use Rattle.std.proofs.Common.{◌≡◌, ◌+◌, ◌-◌, ◌++◌, ◌∷◌, [], ◌≤◌, map, arith, rules, w64, ap, ap₂, sym, ◌∙◌}
use Rattle.std.specs.Prelude.{not, pos, ◌-ℤ◌, ◌*◌}
use Rattle.std.specs.List.{range_with_len}
use Rattle.std.proofs.lemmas.Int.{to_z-of_z}
use mir.Val.{SFits}
use Rattle.pf_courses.specs.Built.{lag_with}
use Rattle.pf_courses.proofs.Built.{clock_runs, clock_stands, cells_more}
use Rattle.pf_courses.proofs.lags.lags_of.Goals as goal
use Rattle.pf_courses.proofs.lags.lags_of.Goals.{then-not-is_stopped, else-not-is_stopped}

pub loop-t-preserved : goal.loop-t-preserved
loop-t-preserved c =
    let j = c.args.task in
    let t = c.loop-t.t in
    let joined : j.slot ≤ t = omega (arith, ap (λ j. j.slot) c.task.view_is) in
    let fits : SFits w64 c.lag_from.result = search rules in
    let lag = to_z-of_z w64 c.lag_from.result fits ∙ c.lag_from.ensures ∙ ap (λ j. pos (j.weight.cost * c.loop-t.clock) -ℤ pos (j.weight.period * c.slots_below-received.result)) c.task.view_is ∙ ap₂ (λ clock received. pos (j.weight.cost * clock) -ℤ pos (j.weight.period * received)) c.loop-t.invariant.clock c.slots_below-received.ensures.value in
    record {
      clock = elim c.if-not-is_stopped.branch [
        | then-not-is_stopped w ↦ clock_runs j c.args.stops.now t c.loop-t.clock _ joined c.loop-t.invariant.clock (ap not (sym c.is_stopped.ensures ∙ w.if-not-is_stopped.true)) w.clock-is
        | else-not-is_stopped w ↦ clock_stands j c.args.stops.now t c.loop-t.clock _ joined c.loop-t.invariant.clock (ap not (sym c.is_stopped.ensures ∙ w.if-not-is_stopped.false)) w.clock-is
      ];
      most = elim c.if-not-is_stopped.branch [ then-not-is_stopped w ↦ omega (arith, w.clock-is, c.loop-t.invariant.most) | else-not-is_stopped w ↦ omega (arith, w.clock-is, c.loop-t.invariant.most) ];
      lags = c.in_ok-push.ensures.items ∙ ap₂ (λ xs x. xs ++ x ∷ []) c.loop-t.invariant.lags lag ∙ sym (cells_more (lag_with j c.args.ran.now c.args.stops.now) j.slot t joined);
      short = omega (arith, c.loop-t-test.true);
    }

pub returns : goal.returns
returns c =
    let j = c.args.task in
    c.loop-t.invariant.lags ∙ ap (λ n. map (lag_with j c.args.ran.now c.args.stops.now) (range_with_len j.slot n))
    (let z : c.loop-t.t - j.slot ≡ c.args.end + 1 - j.slot = omega (arith, c.loop-t-test.false, c.loop-t.invariant.short) in z)
