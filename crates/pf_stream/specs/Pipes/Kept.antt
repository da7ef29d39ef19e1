-- What a writer keeps of its failures.
use Rattle.std.specs.Prelude.{Bool}
use Rattle.pf_stream.specs.declared.sink.CountedWriter.{CountedWriter}
use Rattle.pf_stream.specs.declared.pipes.kept_writer.KeptWriter.{KeptWriter}

-- what counts underneath, and what is kept
abbrev pub counted_writer : {W : Type 0} → KeptWriter W → CountedWriter W
counted_writer w = w.writer

abbrev pub was_closed : {W : Type 0} → KeptWriter W → Bool
was_closed w = w.closed
