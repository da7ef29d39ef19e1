use Rattle.std.proofs.Common.{rules}
use Rattle.pf_collections.proofs.ListLemmas.Owners.{shared_alike}
use Rattle.pf_collections.proofs.list.group.share.Goals as goal

pub returns : goal.returns
returns g c = let alike = shared_alike c.args.owners.now in search rules
