use Rattle.std.proofs.Common.{arith}
use Rattle.pf_session_lines.proofs.Parted.{all_written}
use Rattle.pf_session_lines.proofs.row_text.push_parted.Goals as goal

pub returns : goal.returns
returns c =
    all_written c.loop-byte.place.quoted c.loop-byte.place.is_behind c.loop-byte.text.items c.args.line.now c.loop-byte.byte-index _
    (omega (arith, c.loop-byte-test.false)) c.loop-byte.invariant
