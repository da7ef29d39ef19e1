use Rattle.std.proofs.Common.{◌≡◌, ◌∙◌, ◌-◌, List, ℕ, drop, length, map, take, ap, subst, sym}
use Rattle.std.specs.Prelude.{IfOk}
use Rattle.pf_arguments.specs.Hints.Refused.{hint_by, refused_hint}
use Rattle.pf_arguments.proofs.HintsLemmas.Mapped.{rest_whole, split_first}
use Rattle.pf_arguments.proofs.hints.refused.refused_hint.Goals as goal

pub returns-in-len1-up : goal.returns-in-len1-up
returns-in-len1-up g c =
    let words = c.args.words.now in
    let whole = split_first words c.in-len1-up.len_at_least c.first-item.result c.first-item.is in
    let same = ap (λ ws. refused_hint (map g.S.AsStr.text ws)) whole
    ∙ ap (λ ws. hint_by (g.S.AsStr.text c.first-item.result) (map g.S.AsStr.text ws)) (sym (rest_whole words))
    ∙ ap (λ t. hint_by t (map g.S.AsStr.text (take (length words - 1) (drop 1 words)))) (sym c.as_str.ensures) in
    subst (λ (e : List ℕ). IfOk c.hint_by.result (λ text. text.items ≡ e)) (sym same) c.hint_by.ensures
