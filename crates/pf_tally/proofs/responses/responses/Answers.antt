use Rattle.std.proofs.Common.{◌≡◌, ◌+◌, ◌%◌, ap, ap₂, sym, ◌∙◌, rules, w64}
use Rattle.std.proofs.lemmas.Int.{to_z-of_z}
use mir.Val.{SFits}
use Rattle.pf_tally.specs.Late.{released_at}
use Rattle.pf_tally.proofs.Jobs.{job_ends, job_goes_on}
use Rattle.pf_tally.proofs.responses.responses.Goals as goal
use Rattle.pf_tally.proofs.responses.responses.Goals.{then-from-cost-eq0+in_ok-push, else-from-cost-eq0}

pub loop-slot-preserved : goal.loop-slot-preserved
loop-slot-preserved c =
    let release = released_at c.args.task c.args.delays.now in
    let cost = c.args.task.weight.cost in
    let cost_is : c.cost-cost.result ≡ c.args.task.weight.cost = c.cost-cost.ensures.value ∙ ap (λ j. j.weight.cost) c.task.view_is in
    let left : c.from.result % c.cost-cost.result ≡ c.loop-slot.i % c.args.task.weight.cost = ap₂ (λ i cost. i % cost) c.from.ensures cost_is in
    elim c.if-from-cost-eq0.branch [
      | then-from-cost-eq0+in_ok-push w ↦
          let fits : SFits w64 w.response_of.result = search rules in
          rw w.responses-is (record {
            all = job_ends release cost c.args.slots.now c.loop-slot.i c.loop-slot.slot-index c.loop-slot-test.true c.loop-slot.responses.items _ _ _ w.response_of.result (sym left ∙ w.if-from-cost-eq0.true)
                w.in_ok-push.ensures.items (to_z-of_z w64 w.response_of.result fits) w.response_of.ensures c.loop-slot.invariant.all;
            at = ap (λ i. i + 1) c.loop-slot.invariant.at;
          })
      | else-from-cost-eq0 w ↦
          rw w.responses-is (record {
            all = job_goes_on release cost c.args.slots.now c.loop-slot.i c.loop-slot.slot-index c.loop-slot-test.true c.loop-slot.responses.items _ (λ same. w.if-from-cost-eq0.false (left ∙ same)) c.loop-slot.invariant.all;
            at = ap (λ i. i + 1) c.loop-slot.invariant.at;
          })
    ]
