use Rattle.std.proofs.Common.{refl, ap}
use Rattle.pf_desk_board.proofs.Looking.{some_found, none_found, all_empty}
use Rattle.pf_shared_desk.proofs.desk_core.DeskCore.find_untaken.Goals as goal

pub returns-clause-some : goal.returns-clause-some
returns-clause-some c =
    some_found c.args.board.now.processors c.args.board.now.processors c.args.pass.now c.report.new.pass c.args.self.now.keeper c.check-found.new.keeper c.check-found.result
    refl c.check-found.ensures.some c.requires.core.is_kept.no_loads c.report.ensures.pass

pub returns-clause-none : goal.returns-clause-none
returns-clause-none c =
    none_found c.args.board.now.processors c.args.board.now.processors c.args.pass.now c.report.new.pass c.args.self.now.keeper c.check-found.new.keeper c.check-found.result
    refl c.check-found.ensures.none c.requires.core.is_kept.no_loads c.report.ensures.pass

pub returns-clause-empty : goal.returns-clause-empty
returns-clause-empty c =
    all_empty c.args.board.now.processors c.args.board.now.processors c.args.self.now.keeper c.check-found.new.keeper c.report.new.keeper c.check-found.result
    refl c.check-found.ensures.none (ap (λ k. k.empty) c.report.ensures.keeper)
