use Rattle.std.proofs.Common.{◌≡◌, ℕ, false, arith, rules, tests}
use Rattle.std.specs.Prelude.{◌==◌}
use Rattle.std.proofs.lemmas.List.{length-take, length-drop}
use Rattle.pf_stream.proofs.Sending.{appends-next, took-nothing, took-part}
use Rattle.pf_stream.proofs.writing.write_out.Goals as goal

pub returns-in-Ok-eq0-clause-err : goal.returns-in-Ok-eq0-clause-err
returns-in-Ok-eq0-clause-err g c =
    took-nothing _ _ _ c.loop-at.at c.args.text.now c.loop-at.invariant.taken (rw c.in-Ok-eq0.field-0-test at c.in-Ok-eq0.ensures.bytes)

pub loop-at-preserved : goal.loop-at-preserved
loop-at-preserved g c =
    let some : (c.in-Ok.taken == 0) ≡ false = search (rules, tests) in
    record {
      taken = appends-next _ _ _ c.loop-at.at c.in-Ok.taken c.args.text.now c.loop-at.invariant.taken c.in-Ok.ensures.bytes;
      count = omega (arith, rw some at c.in-Ok.ensures.count, c.loop-at.invariant.count);
      within = omega (arith, c.in-Ok.ensures.bound, length-take {A = ℕ}, length-drop {A = ℕ});
    }

pub returns-in-Err-clause-err : goal.returns-in-Err-clause-err
returns-in-Err-clause-err g c = took-part _ _ _ c.loop-at.at c.args.text.now c.loop-at.invariant.taken c.in-Err.ensures.bytes
