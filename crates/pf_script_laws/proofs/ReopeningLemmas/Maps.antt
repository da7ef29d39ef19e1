-- Lists under a function: what is found, kept and sorted.
use Rattle.std.proofs.Common.{◌≡◌, ◌+◌, Bool, true, false, not, ◌||◌, nat_lt, cond, Some, None, List, [], ◌∷◌, map, refl, ap, ap₂, ◌∙◌}
use Rattle.std.specs.List.{All, list_any, position, prefix_len}
use Rattle.std.specs.declared.cmp.Ordering.{Ordering}
use Rattle.std.specs.Ordering.{is_lt}
use Rattle.std.proofs.lemmas.List.{length-map}
use Rattle.std.proofs.lemmas.List.Elements.{All-head, All-tail}
use Rattle.pf_scenario.specs.Sorted.{put_in_order, sorted_by}
use Rattle.pf_scenario.proofs.Lists.{Pairs}
use Rattle.pf_scenario.proofs.Sorting.{All-sorted_by}

pub list_any-map : {X Y : Type 0} (p : Y → Bool) (f : X → Y) (xs : List X) → list_any p (map f xs) ≡ list_any (λ x. p (f x)) xs
list_any-map p f [] = refl
list_any-map p f (x ∷ xs) = ap (λ b. p (f x) || b) (list_any-map p f xs)

prefix_len-map : {X Y : Type 0} (p : Y → Bool) (f : X → Y) (xs : List X) → prefix_len p (map f xs) ≡ prefix_len (λ x. p (f x)) xs
prefix_len-map p f [] = refl
prefix_len-map p f (x ∷ xs) = ap (λ n. cond (p (f x)) (1 + n) 0) (prefix_len-map p f xs)

pub position-map : {X Y : Type 0} (p : Y → Bool) (f : X → Y) (xs : List X) → position p (map f xs) ≡ position (λ x. p (f x)) xs
position-map p f xs =
    ap₂ (λ i n. cond (nat_lt i n) (Some i) None) (prefix_len-map (λ y. not (p y)) f xs) (length-map xs f)

-- a function that leaves the order of two elements alone
abbrev pub KeepsOrder : {X Y : Type 0} → (X → X → Ordering) → (Y → Y → Ordering) → (X → Y) → X → X → Type 0
KeepsOrder R S f x y = S (f x) (f y) ≡ R x y

put_in_order-map : {X Y : Type 0} (R : X → X → Ordering) (S : Y → Y → Ordering) (f : X → Y) (x : X) (ys : List X)
    → All (KeepsOrder R S f x) ys → put_in_order S (f x) (map f ys) ≡ map f (put_in_order R x ys)
put_in_order-map R S f x [] kept = refl
put_in_order-map R S f x (y ∷ ys) kept =
    ap (λ o. cond (is_lt o) (f x ∷ f y ∷ map f ys) (f y ∷ put_in_order S (f x) (map f ys))) (All-head (KeepsOrder R S f x) y ys kept)
    ∙ placed (is_lt (R x y)) (put_in_order S (f x) (map f ys)) (put_in_order R x ys) (put_in_order-map R S f x ys (All-tail (KeepsOrder R S f x) y ys kept))
  where
    placed : (b : Bool) (zs : List _) (ws : List _) → zs ≡ map f ws → cond b (f x ∷ f y ∷ map f ys) (f y ∷ zs) ≡ map f (cond b (x ∷ y ∷ ys) (y ∷ ws))
    placed true zs ws e = refl
    placed false zs ws e = ap (λ vs. f y ∷ vs) e

-- elements whose order is left alone are sorted as before
pub sorted_by-map : {X Y : Type 0} (R : X → X → Ordering) (S : Y → Y → Ordering) (f : X → Y) (xs : List X)
    → Pairs (KeepsOrder R S f) xs → sorted_by S (map f xs) ≡ map f (sorted_by R xs)
sorted_by-map R S f [] kept = refl
sorted_by-map R S f (x ∷ xs) kept =
    ap (put_in_order S (f x)) (sorted_by-map R S f xs kept.1)
    ∙ put_in_order-map R S f x (sorted_by R xs) (All-sorted_by (KeepsOrder R S f x) R xs kept.0)
