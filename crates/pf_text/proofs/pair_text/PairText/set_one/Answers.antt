use Rattle.std.proofs.Common.{◌≡◌, ◌+◌, ◌-◌, ◌≤◌, length, arith, append-nil}
use Rattle.std.specs.Fmt.{decimal}
use Rattle.std.proofs.lemmas.Fmt.{length-decimal-le}
use Rattle.std.proofs.lemmas.List.{drop_all, drop-set, drop-set-lt}
use Rattle.pf_text.proofs.pair_text.PairText.set_one.Goals as goal

pub write_digits-start-requires : goal.write_digits-start-requires
write_digits-start-requires c =
    let few : length (decimal c.args.number) ≤ 20 = length-decimal-le 20 c.args.number (omega arith) (omega arith) c.ranges.number.fits in
    (omega arith, omega arith)

pub overflow_sub-self : goal.overflow_sub-self
overflow_sub-self c =
    let few : length (decimal c.args.number) ≤ 20 = length-decimal-le 20 c.args.number (omega arith) (omega arith) c.ranges.number.fits in
    omega arith

pub invariant_of-self : goal.invariant_of-self
invariant_of-self c =
    let w = c.write_digits-start in
    let few : length (decimal c.args.number) ≤ 20 = length-decimal-le 20 c.args.number (omega arith) (omega arith) c.ranges.number.fits in
    let e : w.result - 1 + 1 ≡ w.result = omega arith in (
      omega arith,
      omega arith,
      rw (drop-set w.new.buf (w.result - 1) 32 (omega arith), e, drop-set-lt w.result w.new.buf (w.result - 1) 32 (omega arith)),
    )

pub returns : goal.returns
returns c =
    let w = c.write_digits-start in
    let few : length (decimal c.args.number) ≤ 20 = length-decimal-le 20 c.args.number (omega arith) (omega arith) c.ranges.number.fits in
    rw (drop-set-lt w.result w.new.buf (w.result - 1) 32 (omega arith), w.ensures.written, drop_all 42 c.self.inside.bytes (omega (arith, c.self.told)), append-nil)
