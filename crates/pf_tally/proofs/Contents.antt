-- What a list has, by its places and by a test.
use Rattle.std.proofs.Common.{◌≡◌, Bool, true, ◌||◌, List, [], ◌∷◌, map, Contains, refl, ap, sym, subst, ⊎_elim}
use Rattle.std.specs.List.{list_any}
use Rattle.std.proofs.lemmas.Bool.{or_cases, false≢true}
use Rattle.std.proofs.lemmas.List.Folds.{list_any_at}
use Rattle.pf_run.proofs.Containing.{contains_none, contains_head, contains_tail, contains_cases}

module _ {X : Type 0} where
  pub list_any-contains : (p : X → Bool) (xs : List X) → list_any p xs ≡ true → (x : X) × Contains xs x × (p x ≡ true)
  list_any-contains p [] h = absurd (false≢true h)
  list_any-contains p (x ∷ xs) h = ⊎_elim
      (λ here. (x, contains_head x xs, here))
      (λ later. let it = list_any-contains p xs later in (it.0, contains_tail x xs it.0 it.1, it.2))
      (or_cases (p x) (list_any p xs) h)

  pub contains-list_any : (p : X → Bool) (xs : List X) (x : X) → Contains xs x → p x ≡ true → list_any p xs ≡ true
  contains-list_any p xs x at passes = list_any_at p xs at.0 x at.1 (subst (λ y. p y ≡ true) (sym at.2) passes)

  pub list_any-map : {Y : Type 0} (p : Y → Bool) (f : X → Y) (xs : List X) → list_any p (map f xs) ≡ list_any (λ x. p (f x)) xs
  list_any-map p f [] = refl
  list_any-map p f (x ∷ xs) = ap (λ b. p (f x) || b) (list_any-map p f xs)

  pub in_map : {Y : Type 0} (f : X → Y) (xs : List X) (x : X) → Contains xs x → Contains (map f xs) (f x)
  in_map f [] x at = absurd (contains_none x at)
  in_map f (z ∷ zs) x at = ⊎_elim
      (λ same. subst (λ w. Contains (map f (z ∷ zs)) (f w)) same (contains_head (f z) (map f zs)))
      (λ later. contains_tail (f z) (map f zs) (f x) (in_map f zs x later))
      (contains_cases z zs x at)
