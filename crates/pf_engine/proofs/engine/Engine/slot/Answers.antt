use Rattle.std.proofs.Common.{sym, ◌∙◌, subst}
use Rattle.pf_engine.specs.Fits.{CanTake}
use Rattle.pf_engine.specs.Taking.{Advances}
use Rattle.pf_engine.proofs.Fitting.{fits_slot}
use Rattle.pf_engine.proofs.engine.Engine.slot.Goals as goal

pub prepare-requires : goal.prepare-requires
prepare-requires c = subst (λ e. CanTake e c.args.events.now) (sym c.self.view_is) c.requires

pub advance-requires-clause-can : goal.advance-requires-clause-can
advance-requires-clause-can c = subst (λ e. CanTake e c.args.events.now) (sym (c.in_ok-room.ensures.kept ∙ c.self.view_is)) c.requires

pub returns-clause-slot : goal.returns-clause-slot
returns-clause-slot c = λ s r scenario fits same.
    fits_slot s r c.args.self.now c.args.events.now c.advance.result c.advance.new.self.kept scenario fits same
    (subst (λ e. Advances e c.args.events.now c.advance.result c.advance.new.self.kept)
    (c.in_ok-room.ensures.kept ∙ c.self.view_is) c.advance.ensures.advances)
