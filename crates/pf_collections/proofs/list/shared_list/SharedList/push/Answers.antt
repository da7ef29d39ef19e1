use Rattle.std.proofs.Common.{arith}
use Rattle.pf_collections.proofs.ListLemmas.Groups.{length-grouped}
use Rattle.pf_collections.proofs.list.shared_list.SharedList.push.Goals as goal

pub overflow_add-self : goal.overflow_add-self
overflow_add-self g c =
    let groups = c.self.invariant.groups in
    omega (arith, c.self.invariant.within, length-grouped c.self.inside.full c.self.inside.last groups.whole, groups.few, groups.part)
