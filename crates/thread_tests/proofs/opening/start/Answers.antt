use Rattle.std.proofs.Common.{◌≡◌, sym, subst}
use Rattle.std.specs.Prelude.{All}
use Rattle.pf_board.specs.Passes.{AreOf}
use Rattle.pf_share.specs.Locked.{origin_of}
use Rattle.thread_tests.proofs.opening.start.Goals as goal

pub returns-clause-passes : goal.returns-clause-passes
returns-clause-passes g c = subst (λ l. AreOf g.N.Naming.board.id l) (sym c.start.ensures.0) c.requires.passes

pub returns-clause-viewers : goal.returns-clause-viewers
returns-clause-viewers g c =
    subst (λ l. All (λ v. v.origin ≡ origin_of g.N.Naming.board g.N.Naming.book) l) (sym c.start.ensures.1) c.requires.viewers
