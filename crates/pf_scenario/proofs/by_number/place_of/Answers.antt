use Rattle.std.proofs.Common.{rules}
use Rattle.std.proofs.lemmas.List.Sorted.{answers_always}
use Rattle.pf_scenario.specs.declared.card.Card.{Card}
use Rattle.pf_scenario.proofs.Finding.{found_place}
use Rattle.pf_scenario.proofs.by_number.place_of.Goals as goal

pub returns : goal.returns
returns c =
    let found = c.binary_search_by_key.ensures in
    rw c.ok.ensures.value (found_place c.args.cards.now c.args.id c.binary_search_by_key.result c.requires found.bound
    (found.position (λ (card : Card). card.id) (answers_always _ _ _ (λ f a r g k. search rules))))
