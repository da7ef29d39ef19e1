use Rattle.std.proofs.Common.{◌∙◌}
use Rattle.pf_tally.proofs.InForce.{among_from_search}
use Rattle.pf_tally.proofs.standing.is_among.Goals as goal

pub returns : goal.returns
returns c = c.is_ok.ensures.value ∙ among_from_search _ _ _ c.requires c.binary_search.ensures.position
