use Rattle.std.proofs.Common.{◌∙◌, ◌+◌, ◌-◌, ◌%◌, ◌/◌, ◌++◌, [], ◌∷◌, sym, ap, arith, append_assoc}
use Rattle.pf_text.specs.Columns.Decimals.{last_digits}
use Rattle.pf_text.proofs.ColumnsLemmas.Digits.{no_digits, digit_more}
use Rattle.pf_text.proofs.columns.decimals.+push_last_digits.Goals as goal

pub returns-then-places-eq0 : goal.returns-then-places-eq0
returns-then-places-eq0 t c = no_digits c.args.text.now.items c.args.places c.args.number c.if-places-eq0.true

pub returns : goal.returns
returns t c =
    c.in_ok-push.ensures.items ∙ ap (λ xs. xs ++ (48 + c.args.number % 10) ∷ []) c.in_ok-push_last_digits.ensures
    ∙ append_assoc c.args.text.now.items (last_digits (c.args.places - 1) (c.args.number / 10)) ((48 + c.args.number % 10) ∷ [])
    ∙ ap (λ ys. c.args.text.now.items ++ ys) (sym (digit_more c.args.places c.args.number (omega arith)))
