-- Searches through lists.
use Rattle.std.proofs.Common.{◌≡◌, ◌||◌, Bool, true, false, Option, None, Some, List, [], ◌∷◌, cond, find, filter, All, subst, refl, sym, ap, ◌∙◌, ⊎_elim}
use Rattle.std.specs.List.{list_any}
use Rattle.std.proofs.lemmas.Bool.{cases_Bool, cond-true, cond-false}
use Rattle.std.proofs.lemmas.List.Elements.{All-head, All-tail}
use Rattle.pf_lemmas.proofs.Options.{some_is}

-- what is found is one of the elements.
pub found_all : {X : Type 0} (p : X → Bool) (P : X → Type 0) (xs : List X) (x : X) → find p xs ≡ Some x → All P xs → P x
found_all p P [] x e all = cc
found_all p P (y ∷ ys) x e all = ⊎_elim
    (λ yes. subst P (some_is y x (sym (cond-true (p y) (Some y) (find p ys) yes) ∙ e)) (All-head P y ys all))
    (λ no. found_all p P ys x (sym (cond-false (p y) (Some y) (find p ys) no) ∙ e) (All-tail P y ys all))
    (cases_Bool (p y))

-- what is found is what was looked for.
pub found_passes : {X : Type 0} (p : X → Bool) (xs : List X) (x : X) → find p xs ≡ Some x → p x ≡ true
found_passes p [] x e = cc
found_passes p (y ∷ ys) x e = ⊎_elim
    (λ here. ap p (sym (some_is y x (sym (cond-true (p y) (Some y) (find p ys) here) ∙ e))) ∙ here)
    (λ later. found_passes p ys x (sym (cond-false (p y) (Some y) (find p ys) later) ∙ e))
    (cases_Bool (p y))

-- what is not found is not there.
pub missed_any : {X : Type 0} (p : X → Bool) (xs : List X) → find p xs ≡ None → list_any p xs ≡ false
missed_any p [] e = refl
missed_any p (y ∷ ys) e = ⊎_elim
    (λ yes. let no : ◌≡◌ {A = Option _} (Some y) None = sym (cond-true (p y) (Some y) (find p ys) yes) ∙ e in cc)
    (λ no. ap (λ b. b || list_any p ys) no ∙ missed_any p ys (sym (cond-false (p y) (Some y) (find p ys) no) ∙ e))
    (cases_Bool (p y))

filter_cond : {X : Type 0} (p : X → Bool) (a c : Bool) (x : X) (o q : Option X) (keep : Bool) → p x ≡ a → (a ≡ true → keep ≡ c) → o ≡ cond c q None →
    cond keep (cond a (Some x) o) o ≡ cond c (cond a (Some x) q) None
filter_cond p true true x o q true is same e = refl
filter_cond p true true x o q false is same e = let no : false ≡ true = same refl in cc
filter_cond p true false x o q true is same e = let no : true ≡ false = same refl in cc
filter_cond p true false x o q false is same e = e
filter_cond p false true x o q true is same e = e
filter_cond p false true x o q false is same e = e
filter_cond p false false x o q true is same e = e
filter_cond p false false x o q false is same e = e

find_of_cond : {X : Type 0} (p : X → Bool) (b : Bool) (x : X) (xs : List X) → find p (cond b (x ∷ xs) xs) ≡ cond b (cond (p x) (Some x) (find p xs)) (find p xs)
find_of_cond p true x xs = refl
find_of_cond p false x xs = refl

-- a filter that keeps all that is looked for, or none of it.
pub find-filter : {X : Type 0} (p keep : X → Bool) (c : Bool) → ((x : X) → p x ≡ true → keep x ≡ c) → (xs : List X) →
    find p (filter keep xs) ≡ cond c (find p xs) None
find-filter p keep true same [] = refl
find-filter p keep false same [] = refl
find-filter p keep c same (x ∷ xs) =
    find_of_cond p (keep x) x (filter keep xs)
    ∙ filter_cond p (p x) c x (find p (filter keep xs)) (find p xs) (keep x) refl (same x) (find-filter p keep c same xs)
