use Rattle.std.proofs.Common.{refl}
use Rattle.pf_c_api.proofs.WhatIf.{supposed}
use Rattle.pf_c_api.proofs.supposing.suppose.Goals as goal

pub returns-in-Ok-clause-supposes : goal.returns-in-Ok-clause-supposes
returns-in-Ok-clause-supposes c =
    supposed _ _ _ c.args.held.now _ c.in-Ok.prepared _ _ _ _ _ _ c.in-Ok.ensures.ok c.prepare.ensures.before refl c.tell_ready.ensures.tells
