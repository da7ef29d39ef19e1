use Rattle.std.proofs.Common.{◌∙◌, ◌++◌, ap, arith}
use Rattle.std.proofs.lemmas.Result.{on_ok_weaker}
use Rattle.pf_text.proofs.ColumnsLemmas.Digits.{no_places, place_left_out, places_told}
use Rattle.pf_text.proofs.columns.decimals.+push_fewest_places.Goals as goal

pub returns-then-places-eq0 : goal.returns-then-places-eq0
returns-then-places-eq0 t c =
    on_ok_weaker c.push_wide.result
    (λ e. e ∙ ap (λ ys. c.args.text.now.items ++ ys) (no_places c.args.places c.args.number c.if-places-eq0.true)) c.push_wide.ensures

pub returns-then-number-eq0 : goal.returns-then-number-eq0
returns-then-number-eq0 t c =
    on_ok_weaker c.push_fewest_places.result
    (λ e. e ∙ ap (λ ys. c.args.text.now.items ++ ys) (place_left_out c.args.places c.args.number (omega arith) c.if-number-eq0.true))
    c.push_fewest_places.ensures

pub returns : goal.returns
returns t c =
    on_ok_weaker c.push_places.result
    (λ e. e ∙ ap (λ ys. c.args.text.now.items ++ ys) (places_told c.args.places c.args.number (omega arith) c.if-number-eq0.false))
    c.push_places.ensures
