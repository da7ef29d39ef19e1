use Rattle.std.specs.Prelude.{◌≡◌, All}
use Rattle.pf_board.specs.Passes.{AreOf}
use Rattle.pf_share.specs.Locked.{origin_of}
use Rattle.shared_load.specs.Soak.Seated.{IsSeated}
use Rattle.shared_load.proofs.soak.seats.seat_all.Given as goal

-- those that have a seat, and the passes and viewers that are left
abbrev pub invariant-loop-number : goal.invariant-loop-number
invariant-loop-number g l = record {
  passes : AreOf g.N.Naming.board.id l.passes.items;
  viewers : All (λ v. v.origin ≡ origin_of g.N.Naming.board g.N.Naming.book) l.viewers.items;
  workers : All (IsSeated g.N.Naming.board g.N.Naming.book) l.workers.items;
}
