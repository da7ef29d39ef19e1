use Rattle.pf_heap.proofs.Halves.{half_node, first_within, second_within, in_second, in_first, second_kept, first_kept}
use Rattle.pf_heap.proofs.splitting.keep_half.Goals as goal

pub top-requires : goal.top-requires
top-requires c = record { can = half_node c.requires.can }

pub relink-requires : goal.relink-requires
relink-requires c = first_within c.requires.can

pub returns-then-top-y : goal.returns-then-top-y
returns-then-top-y c = λ can. second_kept can (in_second can c.top.ensures c.if-top-y.true) c.relink.ensures

pub relink-requires-2 : goal.relink-requires-2
relink-requires-2 c = second_within c.requires.can

pub returns : goal.returns
returns c = λ can. first_kept can (in_first can c.top.ensures c.if-top-y.false) c.relink-2.ensures
