use Rattle.std.proofs.Common.{◌≡◌, ◌+◌, ◌-◌, subst, arith}
use Rattle.pf_heap.specs.Forest.{nowhere}
use Rattle.pf_heap.specs.Table.{IsListing}
use Rattle.pf_heap.proofs.Seeking.{listing_begun, listed, list_above}
use Rattle.pf_heap.proofs.table.Roots.list.Goals as goal

pub loop-step-init : goal.loop-step-init
loop-step-init c = λ can bound e.
    subst (λ b. IsListing c.args.nodes.now can.trees can.others nowhere b) (let f : 16 ≡ bound = omega (arith, e) in f) (listing_begun _ _ can)

pub push-link-requires-clause-can : goal.push-link-requires-clause-can
push-link-requires-clause-can c =
    let can = c.requires.can in
    list_above can (c.loop-step.invariant can ((16 - 1 - c.loop-step.step) + 1) (omega arith))

pub loop-step-preserved : goal.loop-step-preserved
loop-step-preserved c = λ can bound e.
    subst (λ b. IsListing c.push-link.new.nodes can.trees can.others c.push-link.result b) (let f : 16 - 1 - c.loop-step.step ≡ bound = omega (arith, e) in f)
    (c.push-link.ensures (list_above can (c.loop-step.invariant can ((16 - 1 - c.loop-step.step) + 1) (omega arith))))

pub returns : goal.returns
returns c = λ can. listed (c.loop-step.invariant can 0 (omega arith))
