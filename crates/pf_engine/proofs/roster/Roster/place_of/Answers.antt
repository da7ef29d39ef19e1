use Rattle.std.proofs.Common.{sym, ap, ◌∙◌, arith}
use Rattle.pf_engine.specs.Fits.{KeptTask}
use Rattle.pf_engine.proofs.Places.{none_beyond, none_there, only_there}
use Rattle.pf_engine.proofs.roster.Roster.place_of.Goals as goal

pub returns-then-place-len : goal.returns-then-place-len
returns-then-place-len c =
    rw (← c.self.view_is)
    (none_beyond _ _ _ _ c.self.invariant (c.from-place.ensures ∙ c.get.ensures) (omega (arith, c.self.inside.tasks.ok.0)))

pub returns-then-index-task : goal.returns-then-index-task
returns-then-index-task c =
    rw (← c.self.view_is)
    (none_there _ _ _ _ c.index.result.now c.self.invariant (c.from-place.ensures ∙ c.get.ensures)
    (λ same. c.if-index-task.true (ap (λ (x : KeptTask). x.task) c.index.ensures ∙ same)))

pub returns : goal.returns
returns c =
    rw (← c.self.view_is)
    (only_there _ _ _ _ c.index.result.now c.self.invariant (c.from-place.ensures ∙ c.get.ensures) (omega (arith, c.self.inside.tasks.ok.0))
    (ap (λ (x : KeptTask). x.task) (sym c.index.ensures) ∙ c.if-index-task.false))
