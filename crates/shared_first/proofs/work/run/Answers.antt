use Rattle.std.proofs.Common.{◌≡◌, [], sym, subst}
use Rattle.std.specs.Prelude.{All}
use Rattle.pf_share.specs.Locked.{origin_of}
use Rattle.shared_first.specs.Handed.{Took}
use Rattle.shared_first.proofs.work.run.Goals as goal

pub seat-requires-clause-passes : goal.seat-requires-clause-passes
seat-requires-clause-passes g c =
    subst (λ l. All (Took g.N.Naming.board.id []) l) (sym c.start-shared.ensures.0) c.requires.passes

pub seat-requires-clause-viewers : goal.seat-requires-clause-viewers
seat-requires-clause-viewers g c =
    subst (λ l. All (λ v. v.origin ≡ origin_of g.N.Naming.board g.N.Naming.book) l) (sym c.start-shared.ensures.1) c.requires.viewers
