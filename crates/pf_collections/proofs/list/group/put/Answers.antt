use Rattle.std.proofs.Common.{Some, ap, ◌∙◌}
use Rattle.pf_collections.proofs.ListLemmas.Owners.{equal_put}
use Rattle.pf_collections.proofs.list.group.put.Goals as goal

pub returns-in-Ok : goal.returns-in-Ok
returns-in-Ok g c = equal_put c.args.items.now.items c.args.k c.in-Ok.owner (ap Some c.in-Ok.ensures ∙ c.requires)
