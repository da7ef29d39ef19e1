-- What a counted reader or writer holds.
use Rattle.std.specs.Prelude.{ℕ}
use Rattle.pf_stream.specs.declared.patient.Patient.{Patient}
use Rattle.pf_stream.specs.declared.source.CountedReader.{CountedReader}
use Rattle.pf_stream.specs.declared.sink.CountedWriter.{CountedWriter}

-- the reader underneath, and how many of its reads failed
abbrev pub reader_under : {R : Type 0} → CountedReader R → R
reader_under r = r.reader

abbrev pub read_failures : {R : Type 0} → CountedReader R → ℕ
read_failures r = r.failures

-- the writer underneath, and how many of its writes failed
abbrev pub writer_under : {W : Type 0} → CountedWriter W → W
writer_under w = w.writer

abbrev pub write_failures : {W : Type 0} → CountedWriter W → ℕ
write_failures w = w.failures

-- the stream underneath one that waits
abbrev pub stream_under : {S C : Type 0} → Patient S C → S
stream_under p = p.stream
