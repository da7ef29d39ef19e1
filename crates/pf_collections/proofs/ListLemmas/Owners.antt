-- The same items, with other owners.
use Rattle.std.proofs.Common.{◌≡◌, ℕ, zero, suc, Some, None, List, [], ◌∷◌, take, set, ap, ap₂, refl}
use Rattle.std.specs.Arc.{arc_value}
use Rattle.std.specs.List.{AllZip, slice_get}
use Rattle.std.specs.declared.sync.Arc.{Arc}
use Rattle.pf_collections.specs.List.Sharing.{values_of}

pub shared_alike : {X A : Type 0} (xs ys : List (Arc X A))
    → AllZip (λ (x : Arc X A) (y : Arc X A). arc_value {X = X} {Z = A} y ≡ arc_value {X = X} {Z = A} x) xs ys → values_of ys ≡ values_of xs
shared_alike [] [] same = refl
shared_alike [] (y ∷ ys) same = absurd same
shared_alike (x ∷ xs) [] same = absurd same
shared_alike (x ∷ xs) (y ∷ ys) same = ap₂ (λ value values. value ∷ values) same.0 (shared_alike xs ys same.1)

pub first_values : {X A : Type 0} (n : ℕ) (owners : List (Arc X A)) → values_of (take n owners) ≡ take n (values_of owners)
first_values zero owners = refl
first_values (suc n) [] = refl
first_values {X = X} {A = A} (suc n) (owner ∷ owners) = ap (λ values. arc_value {X = X} {Z = A} owner ∷ values) (first_values n owners)

-- an owner of an equal item in place of the k-th
pub equal_put : {X A : Type 0} (owners : List (Arc X A)) (k : ℕ) (owner : Arc X A)
    → Some (arc_value {X = X} {Z = A} owner) ≡ slice_get (values_of owners) k → values_of (set owners k owner) ≡ values_of owners
equal_put [] k owner is = refl
equal_put {X = X} {A = A} (first ∷ owners) zero owner is =
    let value : X = arc_value {X = X} {Z = A} owner in
    let old : X = arc_value {X = X} {Z = A} first in
    let e : Some value ≡ Some old = is in
    let same : value ≡ old = cc in
    ap (λ value. value ∷ values_of owners) same
equal_put {X = X} {A = A} (first ∷ owners) (suc k) owner is =
    ap (λ values. arc_value {X = X} {Z = A} first ∷ values) (equal_put owners k owner is)
