use Rattle.std.proofs.Common.{ap}
use Rattle.pf_share.proofs.Looking.{some_found, none_found, all_empty}
use Rattle.pf_share.proofs.shown_desk.ShownDesk.find_untaken.Goals as goal

pub returns-clause-some : goal.returns-clause-some
returns-clause-some g c =
    some_found c.args.board.now.processors g.N.Naming.board.processors c.args.pass.now c.report.new.pass c.self.inside.keeper c.check-found.new.keeper c.check-found.result
    (ap (λ b. b.processors) c.requires.board.0) c.check-found.ensures.some c.self.invariant.no_loads c.report.ensures.pass

pub returns-clause-none : goal.returns-clause-none
returns-clause-none g c =
    none_found c.args.board.now.processors g.N.Naming.board.processors c.args.pass.now c.report.new.pass c.self.inside.keeper c.check-found.new.keeper c.check-found.result
    (ap (λ b. b.processors) c.requires.board.0) c.check-found.ensures.none c.self.invariant.no_loads c.report.ensures.pass

pub returns-clause-empty : goal.returns-clause-empty
returns-clause-empty g c =
    all_empty c.args.board.now.processors g.N.Naming.board.processors c.self.inside.keeper c.check-found.new.keeper c.report.new.keeper c.check-found.result
    (ap (λ b. b.processors) c.requires.board.0) c.check-found.ensures.none (ap (λ k. k.empty) c.report.ensures.keeper)
