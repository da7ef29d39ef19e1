use Rattle.std.proofs.Common.{rules}
use Rattle.pf_collections.proofs.ListLemmas.Owners.{first_values}
use Rattle.pf_collections.proofs.list.group.Group.truncate.Goals as goal

pub returns-in-Some-get_mut-clause-ok : goal.returns-in-Some-get_mut-clause-ok
returns-in-Some-get_mut-clause-ok g c = let first = first_values c.args.count c.in-Some-get_mut.items.now.items in search rules

pub returns-clause-ok : goal.returns-clause-ok
returns-clause-ok g c = let first = first_values c.args.count c.owners.result.now in search rules
