use Rattle.std.proofs.Common.{ap, sym, ◌∙◌}
use Rattle.std.proofs.lemmas.List.{get_or_read}
use Rattle.pf_heap.specs.declared.node.Node.{Node}
use Rattle.pf_heap.specs.Memory.{no_node}
use Rattle.pf_heap.proofs.Standing.{head_within}
use Rattle.pf_heap.proofs.Steps.{is_cut, is_uncut}
use Rattle.pf_heap.proofs.adding.cut.Goals as goal

pub returns-then-node-rank : goal.returns-then-node-rank
returns-then-node-rank c = λ can rises.
    let within = head_within _ _ can.list _ can.parts.stand.0 can.link_is c.if-link-eq-NOWHERE.false in
    let node_is = get_or_read c.args.nodes.now c.args.link c.index-nodes-link.result within c.index-nodes-link.is no_node in
    is_uncut _ _ _ can.list can.others can.small can.link_is can.parts rises
    (λ _ e. c.if-node-rank.true (ap (λ (n : Node). n.rank) node_is ∙ e))

pub returns : goal.returns
returns c = λ can rises.
    let within = head_within _ _ can.list _ can.parts.stand.0 can.link_is c.if-link-eq-NOWHERE.false in
    let node_is = get_or_read c.args.nodes.now c.args.link c.index-nodes-link.result within c.index-nodes-link.is no_node in
    is_cut c.args.nodes.now _ _ _ _ can.list can.others can.link_is c.if-link-eq-NOWHERE.false
    (ap (λ (n : Node). n.rank) (sym node_is) ∙ c.if-node-rank.false) rises can.parts c.relink.ensures
    (ap (λ (n : Node). n.sibling) node_is)
