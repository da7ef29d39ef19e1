use Rattle.std.proofs.Common.{◌≡◌, ◌++◌, rules, inl, inr, codes, string_bytes}
use Rattle.std.proofs.lemmas.Result.{IfOk-weaker}
use Rattle.std.proofs.lemmas.Str.Pattern.{split_text_parts}
use Rattle.std.specs.Prelude.{Some, None}
use Rattle.pf_arguments.specs.Texts.{IsCut}
use Rattle.pf_arguments.proofs.texts.cut.Goals as goal

pub returns-in-Some : goal.returns-in-Some
returns-in-Some c =
    let tip = c.in-Some.field-0-0 in
    let behind = c.in-Some.behind in
    let parts = split_text_parts (codes "\n\n") c.args.rest.now (Some (tip, behind)) c.in-Some.ensures.cases in
    IfOk-weaker c.format.result _ (λ told. IsCut c.args.all.now c.args.front.now c.args.rest.now (string_bytes told))
    (λ told is.
    let bytes : string_bytes told ≡ c.args.front.now ++ (codes "\n" ++ behind.now) = search (rules, is) in
    inl (tip.now, behind.now, parts, bytes))
    c.format.ensures.ok

pub returns-in-None : goal.returns-in-None
returns-in-None c =
    let none = split_text_parts (codes "\n\n") c.args.rest.now None c.in-None.ensures.cases in
    IfOk-weaker c.from_str.result _ (λ told. IsCut c.args.all.now c.args.front.now c.args.rest.now (string_bytes told))
    (λ told is.
    let same : string_bytes told ≡ c.args.all.now = search (rules, is) in
    inr (none, same))
    c.from_str.ensures.ok
