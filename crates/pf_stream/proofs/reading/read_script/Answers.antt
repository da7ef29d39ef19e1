use Rattle.std.proofs.Common.{ℕ, arith}
use Rattle.std.proofs.lemmas.List.{length-take}
use Rattle.pf_stream.proofs.Taking.{takes-append}
use Rattle.pf_stream.proofs.reading.read_script.Goals as goal

pub returns-then-is_err-clause-taken : goal.returns-then-is_err-clause-taken
returns-then-is_err-clause-taken g c =
    let inv = c.loop-piece.invariant in
    takes-append _ _ _ _ _ _ inv.taken c.in-Ok.ensures.bytes.0
    (omega (arith, c.loop-piece.text.ok.0, length-take {A = ℕ}))
