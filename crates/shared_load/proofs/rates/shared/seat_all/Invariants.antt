use Rattle.std.specs.Prelude.{◌≡◌, All}
use Rattle.pf_share.specs.Locked.{origin_of}
use Rattle.shared_load.proofs.rates.shared.seat_all.Given as goal

-- the passes and viewers that are left
abbrev pub invariant-loop-number : goal.invariant-loop-number
invariant-loop-number g l = record {
  passes : All (λ p. p.board ≡ g.N.Naming.board.id) l.passes.items;
  viewers : All (λ v. v.origin ≡ origin_of g.N.Naming.board g.N.Naming.book) l.viewers.items;
}
