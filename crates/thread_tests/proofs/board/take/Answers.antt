use Rattle.std.proofs.Common.{◌∙◌}
use Rattle.thread_tests.specs.Entries.{quanta_of}
use Rattle.thread_tests.proofs.Kept.{takes_on}
use Rattle.thread_tests.proofs.board.take.Goals as goal

pub returns : goal.returns
returns c = takes_on (λ terms log. Unit {0}) quanta_of _ _ _ _ c.take.result c.take.ensures.taken ∙ c.requires
