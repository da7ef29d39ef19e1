use Rattle.std.proofs.Common.{◌∙◌, [], ◌∷◌, arith, subst}
use Rattle.std.proofs.lemmas.Result.{on_ok_weaker}
use Rattle.sqlite_disk.specs.Disk.{Torn, Mixed}
use Rattle.pf_journal.proofs.Putting.{behind_crash, behind_done, behind_mixed, gate_crash, gate_done, gate_mixed}
use Rattle.pf_journal.proofs.steps.add.Goals as goal

pub returns-in_err-write-clause-crash : goal.returns-in_err-write-clause-crash
returns-in_err-write-clause-crash g c clean left may =
    behind_crash (g.D.Disk.seen c.args.disk.now) c.args.gate c.args.added.now (c.requires.shut clean) left (c.write.ensures.crash clean left may)

pub returns-clause-added : goal.returns-clause-added
returns-clause-added g c =
    on_ok_weaker c.write-2.result (λ holds clean.
    let file = g.D.Disk.seen c.args.disk.now in
    let shut = c.requires.shut clean in
    let staged = behind_done file c.args.gate c.args.added.now shut (g.D.Disk.seen c.write.new.disk) c.write.ensures.others c.in_ok-write.ensures.written in
    gate_done file c.args.gate c.args.added.now shut (g.D.Disk.seen c.write-2.new.disk)
    (subst (λ f. Torn c.args.gate 1 f (g.D.Disk.seen c.write-2.new.disk)) staged c.write-2.ensures.others) holds) c.write-2.ensures.written

pub returns-clause-crash : goal.returns-clause-crash
returns-clause-crash g c clean left may =
    let file = g.D.Disk.seen c.args.disk.now in
    let shut = c.requires.shut clean in
    let staged = behind_done file c.args.gate c.args.added.now shut (g.D.Disk.seen c.write.new.disk) c.write.ensures.others c.in_ok-write.ensures.written in
    let still = c.write.ensures.calm ∙ clean in
    gate_crash file c.args.gate c.args.added.now shut left
    (subst (λ f. Torn c.args.gate 1 f left) staged (c.write-2.ensures.crash still left may))

pub returns-in_err-write-clause-mixed : goal.returns-in_err-write-clause-mixed
returns-in_err-write-clause-mixed g c mixing clean left may =
    behind_mixed (g.D.Disk.seen c.args.disk.now) c.args.gate c.args.added.now (c.requires.shut clean) left (c.write.ensures.crash clean left may)

pub returns-clause-mixed : goal.returns-clause-mixed
returns-clause-mixed g c mixing clean left may =
    let file = g.D.Disk.seen c.args.disk.now in
    let shut = c.requires.shut clean in
    let staged = behind_done file c.args.gate c.args.added.now shut (g.D.Disk.seen c.write.new.disk) c.write.ensures.others c.in_ok-write.ensures.written in
    let still = c.write.ensures.calm ∙ clean in
    gate_mixed file c.args.gate c.args.added.now shut left
    (subst (λ f. Mixed c.args.gate (32 ∷ []) f left) staged (c.write-2.ensures.mixed mixing (omega (arith, c.requires.room)) still left may))
