use Rattle.pf_share.proofs.Growing.{admits, copies, knows}
use Rattle.pf_share.proofs.publisher.acquainted_reader.Goals as goal

pub reader-requires : goal.reader-requires
reader-requires c x = admits x

pub tell-requires : goal.tell-requires
tell-requires c = copies _ _

pub learn-requires-clause-rule : goal.learn-requires-clause-rule
learn-requires-clause-rule c = knows _ _ _ _
