use Rattle.std.proofs.Common.{◌≡◌, ◌+◌, ◌≤◌, drop}
use Rattle.pf_convert.specs.List.Quotes.{Reading, first_reading, reading_from, state_of}
use Rattle.pf_convert.proofs.list.open_line.open_line.Given as goal

abbrev pub invariant-loop-byte : goal.invariant-loop-byte
invariant-loop-byte l =
    let here : Reading = record { state = state_of l.state; line = l.line; before = l.before; begun = l.begun } in
    record {
      read : reading_from here (drop l.byte-index l.bytes) ≡ reading_from first_reading l.bytes;
      near : l.line ≤ l.byte-index + 1;
    }
