use Rattle.std.proofs.Common.{subst, sym}
use Rattle.std.proofs.lemmas.Result.{IfOk-weaker}
use Rattle.pf_desk.specs.Desk.{StandsForHistory}
use Rattle.pf_desk.proofs.Entering.{run_stands}
use Rattle.pf_desk.proofs.Readying.{snapshot_stands}
use Rattle.pf_desk.proofs.desk.Desk.snapshot.Goals as goal

pub snapshot-requires : goal.snapshot-requires
snapshot-requires c = run_stands c.self.inside.run _ c.self.invariant.keeps

pub returns-clause-shown : goal.returns-clause-shown
returns-clause-shown c =
    IfOk-weaker c.snapshot.result _ _
    (λ s shows. rw (← c.self.view_is) (rw c.len.ensures.value at shows)) c.snapshot.ensures

pub returns-clause-stands : goal.returns-clause-stands
returns-clause-stands c =
    IfOk-weaker c.snapshot.result _ _
    (λ s shows. subst (λ d. StandsForHistory d.history s) c.self.view_is
    (subst (StandsForHistory c.self.inside.history.entries) (sym (rw c.len.ensures.value at shows))
    (snapshot_stands c.self.inside.run.scenario c.self.inside.run.timeline c.self.inside.history.entries 0 c.self.invariant.keeps)))
    c.snapshot.ensures
