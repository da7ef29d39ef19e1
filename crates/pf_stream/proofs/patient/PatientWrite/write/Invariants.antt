use Rattle.std.specs.Io.KnownBytes.{Keeps}
use Rattle.pf_stream.proofs.patient.PatientWrite.write.Given as goal

-- the writes that would have blocked gave nothing
abbrev pub invariant-tries : goal.invariant-tries
invariant-tries g l = Keeps (g.S.Write.contents l.initial.self.stream) (g.S.Write.contents l.self.stream)
