use Rattle.std.proofs.Common.{◌≡◌, rules, inl, inr, string_bytes}
use Rattle.std.proofs.lemmas.Result.{IfOk-weaker}
use Rattle.std.proofs.lemmas.Str.Pattern.{split_text_parts}
use Rattle.std.specs.Prelude.{Some, None}
use Rattle.pf_arguments.specs.Hints.Refused.{tip_front}
use Rattle.pf_arguments.specs.Texts.{IsWithoutTip}
use Rattle.pf_arguments.proofs.texts.without_tip.Goals as goal

pub returns-in-Some : goal.returns-in-Some
returns-in-Some c =
    let front = c.in-Some.front in
    let rest = c.in-Some.rest in
    let parts = split_text_parts tip_front c.args.all.now (Some (front, rest)) c.in-Some.ensures.cases in
    IfOk-weaker c.cut.result _ (λ told. IsWithoutTip c.args.all.now (string_bytes told)) (λ told is. inl (front.now, rest.now, parts, is)) c.cut.ensures

pub returns-in-None : goal.returns-in-None
returns-in-None c =
    let none = split_text_parts tip_front c.args.all.now None c.in-None.ensures.cases in
    IfOk-weaker c.from_str.result _ (λ told. IsWithoutTip c.args.all.now (string_bytes told))
    (λ told is.
    let same : string_bytes told ≡ c.args.all.now = search (rules, is) in
    inr (none, same))
    c.from_str.ensures.ok
