use Rattle.std.proofs.Common.{◌∙◌, ◌/◌, ◌++◌, decimal, ap, arith}
use Rattle.std.proofs.Math.Nat.{one-le-pow}
use Rattle.std.proofs.lemmas.Result.{on_ok_weaker}
use Rattle.pf_text.proofs.ColumnsLemmas.Digits.{whole_and_digits}
use Rattle.pf_text.proofs.columns.decimals.push_places.Goals as goal

pub nonzero_div-number : goal.nonzero_div-number
nonzero_div-number c = omega (arith, c.pow.ensures, one-le-pow c.args.places 10 (omega arith))

pub returns : goal.returns
returns c =
    on_ok_weaker c.push_last_digits.result
    (λ e. whole_and_digits c.args.text.now.items c.push_wide.new.text.items c.push.new.self.items c.push_last_digits.new.text.items c.args.places c.args.number
    (c.in_ok-push_wide.ensures ∙ ap (λ v. c.args.text.now.items ++ decimal (c.args.number / v)) c.pow.ensures) c.in_ok-push.ensures.items e)
    c.push_last_digits.ensures
