use Rattle.std.proofs.Common.{◌≡◌, ◌+◌, ◌-◌, ◌≤◌, length, vec_len}
use Rattle.std.specs.Io.KnownBytes.{Consumes}
use Rattle.pf_stream.specs.Reading.{longest_script}
use Rattle.pf_stream.proofs.reading.read_script.Given as goal

-- the bytes taken so far are the text, and no read has failed
abbrev pub invariant-loop-piece : goal.invariant-loop-piece
invariant-loop-piece g l = record {
  taken : Consumes (g.S.Read.remaining l.fn.reader) (g.S.Read.remaining l.reader) l.text.items;
  count : g.S.Source.failed l.reader ≡ g.S.Source.failed l.fn.reader;
  within : vec_len l.text ≤ longest_script + 1;
  piece : length l.piece ≡ 8192;
}

abbrev pub decreases-loop-piece : goal.decreases-loop-piece
decreases-loop-piece g l = longest_script + 1 - vec_len l.text
