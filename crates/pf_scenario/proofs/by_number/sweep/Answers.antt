use Rattle.std.proofs.Common.{◌<◌, sym, ap, ◌∙◌, subst, rules}
use Rattle.std.specs.List.{AllPairs}
use Rattle.std.specs.Option.{is_some}
use Rattle.std.proofs.lemmas.List.Elements.{filter_from_retain}
use Rattle.std.proofs.lemmas.List.Kept.{AllPairs-filter}
use Rattle.pf_scenario.specs.declared.card.Card.{Card}
use Rattle.pf_scenario.specs.Cards.{event_on, listed}
use Rattle.pf_scenario.proofs.Numbering.{listed-swept}
use Rattle.pf_scenario.proofs.by_number.sweep.Goals as goal

pub returns-then-len-held-clause-same : goal.returns-then-len-held-clause-same
returns-then-len-held-clause-same c =
    let kept = filter_from_retain _ (λ (card : Card). is_some (event_on card)) (λ p x b q r. search rules) _ c.args.cards.now.items c.retain.new.self.items c.retain.ensures.filtered in
    ap listed (c.shrink_to_fit.ensures.items ∙ kept) ∙ listed-swept c.args.cards.now.items

pub returns-then-len-held-clause-rising : goal.returns-then-len-held-clause-rising
returns-then-len-held-clause-rising c =
    let kept = filter_from_retain _ (λ (card : Card). is_some (event_on card)) (λ p x b q r. search rules) _ c.args.cards.now.items c.retain.new.self.items c.retain.ensures.filtered in
    subst (AllPairs (λ x y. x.id < y.id)) (sym (c.shrink_to_fit.ensures.items ∙ kept)) (AllPairs-filter (λ x y. x.id < y.id) (λ (card : Card). is_some (event_on card)) c.args.cards.now.items c.requires)
