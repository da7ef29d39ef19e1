-- Passes that were tied one after another.
use Rattle.std.proofs.Common.{◌≡◌, ℕ, zero, suc, ◌+◌, ◌<◌, List, [], ◌∷◌, length, refl, ap, subst, ◌∙◌, arith, below_more}
use Rattle.std.specs.Prelude.{slice_index_or}
use mathlib.Core.Option.{some}
use lib.ListN.{get_elem?}
use Rattle.pf_lemmas.proofs.Lists.{at_any}

-- Use: an element by its place.
pub at_place : {X : Type 0} (xs : List X) (k : ℕ) (d : X) → k < length xs → get_elem? xs k ≡ some (slice_index_or xs k d)
at_place [] k d lt = absurd (omega arith)
at_place (x ∷ xs) zero d lt = refl
at_place (x ∷ xs) (suc k) d lt = at_place xs k d (omega arith)

pub at_some : {X : Type 0} (xs : List X) (k : ℕ) (x : X) → get_elem? xs k ≡ some x → (k < length xs) × (slice_index_or xs k x ≡ x)
at_some [] k x e = absurd cc
at_some (y ∷ xs) zero x e = (omega arith, cc)
at_some (y ∷ xs) (suc k) x e = let rest = at_some xs k x e in (omega (arith, rest.0), rest.1)

-- Use: one more of them is so.
pub so_far : {X : Type 0} (P : X → Type 0) (all xs : List X) (i : ℕ) (x : X) → xs ≡ all → i < length xs
    → ((k : ℕ) (d : X) → k < i → P (slice_index_or all k d)) → P (slice_index_or xs i x) → (k : ℕ) (d : X) → k < i + 1 → P (slice_index_or all k d)
so_far {X} P all xs i x same within before here k d lt =
    below_more (λ j. (e : X) → P (slice_index_or all j e)) i (λ j less e. before j e less)
    (λ e.
    let is : slice_index_or xs i x ≡ slice_index_or all i e = at_any xs i x e within ∙ ap (λ l. slice_index_or l i e) same in
    subst P is here)
    k lt d
