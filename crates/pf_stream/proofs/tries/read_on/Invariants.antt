use Rattle.std.proofs.Common.{◌≡◌, length}
use Rattle.std.specs.Io.KnownBytes.{Keeps}
use Rattle.pf_stream.proofs.tries.read_on.Given as goal

-- the reads that were interrupted took nothing
abbrev pub invariant-tries : goal.invariant-tries
invariant-tries g l = (length l.buf ≡ length l.initial.buf) × Keeps (g.R.Read.remaining l.initial.reader) (g.R.Read.remaining l.reader)
