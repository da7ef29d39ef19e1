use Rattle.std.proofs.Common.{Some, sym, ◌∙◌, ap, get_or, subst, ◌^◌, ◌<◌, arith}
use Rattle.std.proofs.lemmas.List.{take_all}
use Rattle.std.proofs.lemmas.Int.Digits.{digits_value_more}
use Rattle.std.proofs.lemmas.Grind.{pow_more}
use Rattle.std.specs.Str.Parse.{digits_value}
use Rattle.pf_lemmas.proofs.Digits.{digits-more, digits-none, ten-pow, digit-is}
use Rattle.pf_convert.proofs.ListLemmas.Digits.{few_digits-digits, few_digits-none}
use Rattle.pf_convert.proofs.list.time.parse_digits.Goals as goal

pub returns-then-not-is_ascii_digit-clause-value : goal.returns-then-not-is_ascii_digit-clause-value
returns-then-not-is_ascii_digit-clause-value c =
    let none = digits-none c.args.field.now c.loop-byte.byte-index c.loop-byte-test.true (cc) in
    sym (few_digits-none c.args.field.now (cc) c.if-field-gt-MOST_DIGITS.false none)

pub loop-byte-preserved : goal.loop-byte-preserved
loop-byte-preserved c =
    let inv = c.loop-byte.invariant in
    let i = c.loop-byte.byte-index in
    let d = digit-is (get_or c.args.field.now i 0) (cc) in
    let more = digits_value_more 10 c.args.field.now i c.loop-byte-test.true in
    record {
      digits = digits-more c.args.field.now i c.loop-byte-test.true inv.digits (cc);
      value = rw (more, ← inv.value) (omega (arith, c.from.ensures));
      small = omega (arith, pow_more 10 i, c.from.ensures);
    }

pub returns : goal.returns
returns c =
    let inv = c.loop-byte.invariant in
    let whole = take_all c.loop-byte.byte-index c.args.field.now c.loop-byte-test.false in
    record {
      value = ap Some (inv.value ∙ ap (digits_value 10) whole) ∙ sym (few_digits-digits c.args.field.now (cc) c.if-field-gt-MOST_DIGITS.false (rw whole at inv.digits));
      small = (subst (λ i. c.loop-byte.value < 10 ^ i) (omega arith) inv.small, omega arith);
    }

pub overflow_mul-value : goal.overflow_mul-value
overflow_mul-value c = omega (arith, ten-pow c.loop-byte.byte-index 8 (omega arith))

pub overflow_add-value : goal.overflow_add-value
overflow_add-value c = omega (arith, ten-pow c.loop-byte.byte-index 8 (omega arith), c.from.ensures, c.from.type_inv)
