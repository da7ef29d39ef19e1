use Rattle.std.specs.Io.KnownBytes.{Keeps}
use Rattle.pf_stream.proofs.tries.write_on.Given as goal

-- the writes that were interrupted gave nothing
abbrev pub invariant-tries : goal.invariant-tries
invariant-tries g l = Keeps (g.W.Write.contents l.initial.writer) (g.W.Write.contents l.writer)
