use Rattle.std.proofs.Common.{◌≡◌, ◌+◌, ◌-◌, ◌≤◌, length, arith, append-nil, append_assoc}
use Rattle.std.specs.Fmt.{decimal}
use Rattle.std.proofs.lemmas.List.{drop_all, drop-set, drop-set-lt, length-set}
use Rattle.pf_lemmas.proofs.Digits.{twenty_digits}
use Rattle.pf_text.proofs.pair_text.PairText.set.Goals as goal

pub write_digits-slash-requires : goal.write_digits-slash-requires
write_digits-slash-requires c = (omega (arith, twenty_digits c.args.second c.ranges.second.fits), omega arith)

pub overflow_sub-slash : goal.overflow_sub-slash
overflow_sub-slash c = omega (arith, twenty_digits c.args.second c.ranges.second.fits)

pub write_digits-start-requires : goal.write_digits-start-requires
write_digits-start-requires c =
    let few : length (decimal c.args.first) ≤ 20 = twenty_digits c.args.first c.ranges.first.fits in
    let few_behind : length (decimal c.args.second) ≤ 20 = twenty_digits c.args.second c.ranges.second.fits in
    (omega arith, omega (arith, length-set c.write_digits-slash.new.buf (c.write_digits-slash.result - 1) 47))

pub overflow_sub-self : goal.overflow_sub-self
overflow_sub-self c =
    omega (arith, twenty_digits c.args.first c.ranges.first.fits, twenty_digits c.args.second c.ranges.second.fits)

pub invariant_of-self : goal.invariant_of-self
invariant_of-self c =
    let w = c.write_digits-start in
    let few : length (decimal c.args.first) ≤ 20 = twenty_digits c.args.first c.ranges.first.fits in
    let few_behind : length (decimal c.args.second) ≤ 20 = twenty_digits c.args.second c.ranges.second.fits in
    let long : length w.new.buf ≡ 42 = omega (arith, length-set c.write_digits-slash.new.buf (c.write_digits-slash.result - 1) 47) in
    let e : w.result - 1 + 1 ≡ w.result = omega arith in (
      omega arith,
      omega arith,
      rw (drop-set w.new.buf (w.result - 1) 32 (omega arith), e, drop-set-lt w.result w.new.buf (w.result - 1) 32 (omega arith)),
    )

pub returns : goal.returns
returns c =
    let w = c.write_digits-start in
    let v = c.write_digits-slash in
    let few : length (decimal c.args.first) ≤ 20 = twenty_digits c.args.first c.ranges.first.fits in
    let few_behind : length (decimal c.args.second) ≤ 20 = twenty_digits c.args.second c.ranges.second.fits in
    let e : v.result - 1 + 1 ≡ v.result = omega arith in
    rw (drop-set-lt w.result w.new.buf (w.result - 1) 32 (omega arith), w.ensures.written, drop-set v.new.buf (v.result - 1) 47 (omega arith), e, v.ensures.written, drop_all 42 c.self.inside.bytes (omega (arith, c.self.told)), append-nil, append_assoc)
