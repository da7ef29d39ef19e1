use Rattle.std.proofs.Common.{◌∙◌}
use Rattle.shared_load.proofs.SoakLemmas.Kept.{takes_on}
use Rattle.shared_load.proofs.soak.calls.take.Goals as goal

pub returns : goal.returns
returns g c = takes_on _ _ _ _ c.take.result c.take.ensures.taken ∙ c.requires
