-- What a search finds in a table of cards, and what a cut of it leaves on either side.
use Rattle.std.proofs.Common.{◌≡◌, ◌≢◌, ℕ, ◌+◌, ◌-◌, ◌<◌, ◌≤◌, true, false, ltb, List, length, get_or, take, drop, sym, subst, arith, inl, inr}
use Rattle.std.specs.List.{All, slice_get}
use Rattle.std.specs.declared.option.Option.TheVariants.{Some}
use Rattle.std.specs.List.Sorted.{IsBinarySearchResult, IsSearchInRange, IsPartitionPoint, IsNonDecreasingBy}
use Rattle.std.specs.Result.{result_ok}
use Rattle.std.specs.declared.result.Result.{Result}
use Rattle.std.specs.declared.result.Result.TheVariants.{Ok, Err}
use Rattle.std.specs.Ordering.{nat_cmp, is_lt}
use Rattle.std.specs.declared.cmp.Ordering.TheVariants.{Less, Equal, Greater}
use Rattle.std.specs.Cmp.{nat_cmp_total}
use Rattle.std.proofs.lemmas.Bool.{cases_lt, ltb-true, ltb-false}
use Rattle.std.proofs.lemmas.List.{length-take-le, length-drop, get_or-take, get_or-drop}
use Rattle.std.proofs.lemmas.Bool.Decides.{nat_tests}
use Rattle.std.proofs.lemmas.List.Sorted.{searchable_from_sorted}
use Rattle.std.proofs.lemmas.Option.{get_or_from_slice_get, slice_get_within}
use Rattle.pf_scenario.specs.Cards.{IsPlaceOf, AreRising, AreBelow, AreBehind, IsCut}
use Rattle.pf_scenario.specs.declared.card.Card.{Card}

tied : (a b : ℕ) → nat_cmp a b ≡ Equal → a ≡ b
tied a b h = grind (arith, nat_tests)

apart : (a b : ℕ) → nat_cmp a b ≡ Less → a ≢ b
apart a b h e = grind (arith, nat_tests)

beyond : (a b : ℕ) → nat_cmp a b ≡ Greater → a ≢ b
beyond a b h e = grind (arith, nat_tests)

not_less : (a b : ℕ) → a < b → is_lt (nat_cmp b a) ≡ false
not_less a b h = grind (arith, nat_tests)

pub found_place : (cards : List Card) (id : ℕ) (r : Result ℕ ℕ) → AreRising cards → IsSearchInRange r (length cards) → IsBinarySearchResult (λ c. nat_cmp c.id id) cards r → IsPlaceOf cards id (result_ok r)
found_place cards id (Ok at) up bound here = record {
  within = bound;
  number = λ d. tied (get_or cards at d).id id (here d);
}
found_place cards id (Err at) up bound parts =
    let cut = parts (searchable_from_sorted nat_cmp_total (λ (c : Card). c.id) cards id (λ k d low high. not_less _ _ (up k (k + 1) d (omega arith) high))) in
    λ k d low. elim (cases_lt k at) [
      | inl before ↦ apart _ _ (cut.0 k d (omega arith) before)
      | inr after ↦ beyond _ _ (cut.1 k d (omega arith) low)
    ]

-- the cards below a number, and those from it on
pub cut_below : (cards : List Card) (id at : ℕ) → at ≤ length cards → IsPartitionPoint (λ c. ltb c.id id ≡ true) (λ c. ltb c.id id ≡ false) cards at → All (λ c. c.id < id) (take at cards)
cut_below cards id at le cut = λ k d low.
    let below : k < at = omega (arith, low, length-take-le at cards le) in
    rw (get_or-take at cards k d below) (ltb-true _ _ (cut.0 k d (omega arith) below))

pub cut_above : (cards : List Card) (id at : ℕ) → at ≤ length cards → IsPartitionPoint (λ c. ltb c.id id ≡ true) (λ c. ltb c.id id ≡ false) cards at → All (λ c. id ≤ c.id) (drop at cards)
cut_above cards id at le cut = λ k d low.
    let within : at + k < length cards = omega (arith, low, length-drop at cards) in
    rw (get_or-drop at cards k d) (ltb-false _ _ (cut.1 (at + k) d (omega arith) within))

-- numbers that rise do not fall
pub never_fall : (cards : List Card) → AreRising cards → IsNonDecreasingBy (λ c. c.id) cards
never_fall cards up i j d le low = elim (cases_lt i j) [
  | inl before ↦ let rises = up i j d before low in omega arith
  | inr same ↦ let equal : i ≡ j = omega arith in subst (λ k. (get_or cards i d).id ≤ (get_or cards k d).id) equal (omega arith)
]

-- where one of the cards is below a number, so are those before it
pub below_last : (cards : List Card) (id at : ℕ) (card : Card) → AreRising cards → slice_get cards (at - 1) ≡ Some card → card.id < id → AreBelow cards id at
below_last cards id at card up here low = λ k d before within.
    let is = get_or_from_slice_get cards (at - 1) card d here in
    let inside = slice_get_within cards (at - 1) card here in
    let last : (get_or cards (at - 1) d).id < id = subst (λ c. c.id < id) (sym is) low in
    elim (cases_lt k (at - 1)) [
      | inl less ↦ let rises = up k (at - 1) d less inside in omega arith
      | inr not ↦ let same : k ≡ at - 1 = omega arith in subst (λ n. (get_or cards n d).id < id) (sym same) last
    ]

-- where one of the cards is not below a number, nor are those after it
pub behind_first : (cards : List Card) (id at : ℕ) (card : Card) → AreRising cards → slice_get cards at ≡ Some card → id ≤ card.id → AreBehind cards id at
behind_first cards id at card up here high = λ k d from within.
    let is = get_or_from_slice_get cards at card d here in
    let first : id ≤ (get_or cards at d).id = subst (λ c. id ≤ c.id) (sym is) high in
    elim (cases_lt at k) [
      | inl less ↦ let rises = up at k d less within in omega arith
      | inr not ↦ let same : k ≡ at = omega arith in subst (λ n. id ≤ (get_or cards n d).id) (sym same) first
    ]

-- where the cards cease to be below a number and the card is another one's, none is of the number
pub absent_at_cut : (cards : List Card) (id at : ℕ) (card : Card) → AreRising cards → IsCut cards id at → slice_get cards at ≡ Some card → card.id ≢ id → All (λ c. c.id ≢ id) cards
absent_at_cut cards id at card up cut here other = λ k d within e.
    let is = get_or_from_slice_get cards at card d here in
    let inside = slice_get_within cards at card here in
    let first : (get_or cards at d).id ≢ id = subst (λ c. c.id ≢ id) (sym is) other in
    elim (cases_lt k at) [
      | inl before ↦ let low = cut.below k d before within in absurd (omega arith)
      | inr from ↦ elim (cases_lt at k) [
        | inl behind ↦ let rises = up at k d behind within in let high = cut.behind at d (omega arith) inside in absurd (omega arith)
        | inr not ↦ let same : k ≡ at = omega arith in first (subst (λ n. (get_or cards n d).id ≡ id) same e)
      ]
    ]
