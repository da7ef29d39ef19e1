use Rattle.std.proofs.Common.{◌≡◌, length}
use Rattle.std.specs.Io.KnownBytes.{Keeps}
use Rattle.pf_stream.proofs.patient.PatientRead.read.Given as goal

-- the reads that would have blocked took nothing
abbrev pub invariant-tries : goal.invariant-tries
invariant-tries g l = (length l.buf ≡ length l.initial.buf) × Keeps (g.S.Read.remaining l.initial.self.stream) (g.S.Read.remaining l.self.stream)
