-- The order of numbers, and what comparisons tell.
use Rattle.std.proofs.Common.{◌≡◌, ℕ, ◌<◌, ◌≤◌, ◌⊎◌, true, false, cond, eqb, ap, ◌∙◌, refl, inl, inr, ⊎_elim, arith}
use Rattle.std.specs.Prelude.{max}
use Rattle.std.specs.Ordering.{is_eq, is_lt, nat_cmp, ord_max, ordering_reverse}
use Rattle.std.specs.declared.cmp.Ordering.{Ordering}
use Rattle.std.specs.declared.cmp.Ordering.TheVariants.{Less, Equal, Greater}
use Rattle.std.proofs.lemmas.Bool.{cases_lt, le-ltb, ne_eqb, eq-eqb}
use Rattle.std.proofs.lemmas.Bool.Decides.{nat_tests}
use Rattle.std.proofs.lemmas.Grind.{common_steps}

pub is_less : (o : Ordering) → is_lt o ≡ true → o ≡ Less
is_less Less e = refl
is_less Equal e = cc
is_less Greater e = cc

pub is_equal : (o : Ordering) → is_eq o ≡ true → o ≡ Equal
is_equal Less e = cc
is_equal Equal e = refl
is_equal Greater e = cc

-- what comes before the other doesn't come after it
pub not_both : (o : Ordering) → is_lt o ≡ true → is_lt (ordering_reverse o) ≡ false
not_both Less e = refl
not_both Equal e = refl
not_both Greater e = cc

pub cmp_equal : (x y : ℕ) → x ≡ y → nat_cmp x y ≡ Equal
cmp_equal x y h =
    ap (λ b. cond b Less (cond (eqb x y) Equal Greater)) (le-ltb x y (omega arith))
    ∙ ap (λ b. cond b Equal Greater) (eq-eqb x y h)

pub cmp_greater : (x y : ℕ) → y < x → nat_cmp x y ≡ Greater
cmp_greater x y h =
    ap (λ b. cond b Less (cond (eqb x y) Equal Greater)) (le-ltb x y (omega arith))
    ∙ ap (λ b. cond b Equal Greater) (ne_eqb x y (λ e. omega arith))

pub max_grouped : (a b c : ℕ) → max (max a b) c ≡ max a (max b c)
max_grouped a b c = omega arith

-- the greater one, as the order of numbers tells it
pub greater_of : (a b : ℕ) → ord_max nat_cmp a b ≡ max a b
greater_of a b = grind (arith, common_steps, nat_tests)

pub within_or : (n p : ℕ) → (n ≤ p) ⊎ (p < n)
within_or n p = ⊎_elim inr inl (cases_lt p n)
