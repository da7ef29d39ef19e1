use Rattle.std.specs.Prelude.{◌≡◌, ◌≤◌, []}
use Rattle.pf_share.specs.Locked.{origin_of}
use Rattle.shared_first.specs.Handed.{Took}
use Rattle.shared_first.proofs.reader.follow.Given as goal

abbrev pub invariant-loop : goal.invariant-loop
invariant-loop g l = record {
  pass : Took g.N.Naming.board.id [] l.pass;
  viewer : l.viewer.origin ≡ origin_of g.N.Naming.board g.N.Naming.book;
  read : l.found ≤ l.read;
}
