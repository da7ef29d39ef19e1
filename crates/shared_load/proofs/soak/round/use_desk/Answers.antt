use Rattle.std.proofs.Common.{◌≡◌, sym, subst}
use Rattle.std.specs.Prelude.{All}
use Rattle.pf_board.specs.Passes.{AreOf}
use Rattle.pf_share.specs.Locked.{origin_of}
use Rattle.shared_load.proofs.soak.round.use_desk.Goals as goal

pub seat_all-requires-clause-passes : goal.seat_all-requires-clause-passes
seat_all-requires-clause-passes g c = subst (λ l. AreOf g.N.Naming.board.id l) (sym c.start-shared.ensures.0) c.requires.passes

pub seat_all-requires-clause-viewers : goal.seat_all-requires-clause-viewers
seat_all-requires-clause-viewers g c =
    subst (λ l. All (λ v. v.origin ≡ origin_of g.N.Naming.board g.N.Naming.book) l) (sym c.start-shared.ensures.1) c.requires.viewers
