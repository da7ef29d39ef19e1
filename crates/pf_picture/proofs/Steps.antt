-- What is appended slot by slot.
use Rattle.std.proofs.Common.{◌≡◌, ◌∙◌, ℕ, suc, ◌+◌, ◌-◌, ◌<◌, ◌≤◌, List, [], ◌∷◌, ◌++◌, ap, sym, arith}
use Rattle.std.specs.List.{flat_map, range_with_len}
use Rattle.std.proofs.lemmas.List.{flat_map_more}
use Rattle.std.proofs.lemmas.List.Concat.{flat_map-cons}
use Rattle.pf_lemmas.proofs.Ranges.{range_more}

-- Use: one slot further.
pub steps_next : (f : ℕ → List ℕ) (a t : ℕ) (old before after : List ℕ) → a ≤ t → after ≡ before ++ f t → before ≡ old ++ flat_map f (range_with_len a (t - a)) →
    after ≡ old ++ flat_map f (range_with_len a (t + 1 - a))
steps_next f a t old before after above push so_far =
    push ∙ ap (λ x. x ++ f t) so_far ∙ flat_map_more f old (range_with_len a (t - a)) t
    ∙ ap (λ q. old ++ flat_map f (range_with_len a (t - a) ++ q ∷ [])) (let z : t ≡ a + (t - a) = omega arith in z)
    ∙ ap (λ ts. old ++ flat_map f ts) (sym (range_more a (t - a)))
    ∙ ap (λ n. old ++ flat_map f (range_with_len a n)) (let z : t - a + 1 ≡ t + 1 - a = omega arith in z)

-- Use: the first of those that are left, and the others.
pub first_and_others : (f : ℕ → List ℕ) (a b : ℕ) → a < b → flat_map f (range_with_len a (b - a)) ≡ f a ++ flat_map f (range_with_len (a + 1) (b - (a + 1)))
first_and_others f a b some =
    ap (λ n. flat_map f (range_with_len a n)) (let z : b - a ≡ suc (b - (a + 1)) = omega arith in z)
    ∙ flat_map-cons f a (range_with_len (a + 1) (b - (a + 1)))
