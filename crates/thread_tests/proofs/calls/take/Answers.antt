use Rattle.std.proofs.Common.{◌∙◌}
use Rattle.pf_share.specs.Histories.{IsHistory, quanta_of}
use Rattle.thread_tests.proofs.Kept.{takes_on}
use Rattle.thread_tests.proofs.calls.take.Goals as goal

pub returns : goal.returns
returns g c = takes_on IsHistory quanta_of _ _ _ _ c.take.result c.take.ensures.taken ∙ c.requires
