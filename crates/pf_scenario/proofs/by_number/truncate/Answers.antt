use Rattle.std.proofs.Common.{◌≡◌, ◌<◌, ◌≤◌, ltb, List, length, true, false, ap, ◌∙◌, sym, subst, rules}
use Rattle.std.specs.List.{All, AllPairs}
use Rattle.std.specs.List.Sorted.{IsPartitionPoint}
use Rattle.std.proofs.lemmas.List.Sorted.{IsPartitionPoint-from_clause, IsPartitionedBy-ltb}
use Rattle.pf_scenario.specs.declared.card.Card.{Card}
use Rattle.pf_scenario.specs.Cards.{listed}
use Rattle.pf_scenario.proofs.Numbering.{listed-cut, rising-cut}
use Rattle.pf_scenario.proofs.Finding.{cut_below, cut_above, never_fall}
use Rattle.pf_scenario.proofs.by_number.truncate.Goals as goal

-- the place that the search of the Vec's slice gave
cut : (lent cards : List Card) (id at : Prim.Native.Nat.ℕ) → lent ≡ cards → IsPartitionPoint (λ c. ltb c.id id ≡ true) (λ c. ltb c.id id ≡ false) lent at → IsPartitionPoint (λ c. ltb c.id id ≡ true) (λ c. ltb c.id id ≡ false) cards at
cut lent cards id at e h = subst (λ xs. IsPartitionPoint (λ c. ltb c.id id ≡ true) (λ c. ltb c.id id ≡ false) xs at) e h

pub returns-clause-same : goal.returns-clause-same
returns-clause-same c =
    let cards = c.args.cards.now.items in
    let at = c.partition_point-count.result in
    let lent = c.deref-2.result.now in
    let same = c.deref-2.ensures.value in
    let bound = subst (λ xs. at ≤ length xs) same c.partition_point-count.ensures.bound in
    let point = cut lent cards c.args.id at same (IsPartitionPoint-from_clause (λ (x : Card). ltb x.id c.args.id) lent at c.partition_point-count.ensures.partitioned
    (IsPartitionedBy-ltb (λ (x : Card). x.id) lent c.args.id (never_fall lent (subst (λ xs. AllPairs (λ x y. x.id < y.id) xs) (sym same) c.requires.rising))) (λ a r g h. search rules)) in
    ap listed c.truncate.ensures.items ∙ listed-cut cards at c.args.id c.requires.last (cut_above cards c.args.id at bound point)

pub returns-clause-rising : goal.returns-clause-rising
returns-clause-rising c =
    subst (AllPairs (λ x y. x.id < y.id)) (sym c.truncate.ensures.items) (rising-cut c.args.cards.now.items c.partition_point-count.result c.requires.rising)

pub returns-clause-below : goal.returns-clause-below
returns-clause-below c =
    let cards = c.args.cards.now.items in
    let at = c.partition_point-count.result in
    let lent = c.deref-2.result.now in
    let same = c.deref-2.ensures.value in
    let bound = subst (λ xs. at ≤ length xs) same c.partition_point-count.ensures.bound in
    let point = cut lent cards c.args.id at same (IsPartitionPoint-from_clause (λ (x : Card). ltb x.id c.args.id) lent at c.partition_point-count.ensures.partitioned
    (IsPartitionedBy-ltb (λ (x : Card). x.id) lent c.args.id (never_fall lent (subst (λ xs. AllPairs (λ x y. x.id < y.id) xs) (sym same) c.requires.rising))) (λ a r g h. search rules)) in
    subst (All (λ card. card.id < c.args.id)) (sym c.truncate.ensures.items) (cut_below cards c.args.id at bound point)
