-- Lists: counts, sums and searches through a filter and a map.
use Rattle.std.proofs.Common.{◌≡◌, ℕ, ◌+◌, ◌≤◌, Bool, true, false, not, ◌||◌, ◌&&◌, cond, Option, Some, None, List, [], ◌∷◌, map, filter, find, sum_by, count_by, option_map, refl, sym, ap, ap₂, ◌∙◌, arith}
use Rattle.std.specs.List.{list_any}
use Rattle.std.proofs.lemmas.List.Sums.{sum_by-cons}
use Rattle.std.proofs.lemmas.List.Folds.{fold-map}

pub map_map : {A B C : Type 0} (f : B → C) (g : A → B) (xs : List A) → map f (map g xs) ≡ map (λ x. f (g x)) xs
map_map f g [] = refl
map_map f g (x ∷ xs) = ap (λ ys. f (g x) ∷ ys) (map_map f g xs)

pub map_same : {A B : Type 0} (f g : A → B) → ((x : A) → f x ≡ g x) → (xs : List A) → map f xs ≡ map g xs
map_same f g same [] = refl
map_same f g same (x ∷ xs) = ap₂ (λ y ys. y ∷ ys) (same x) (map_same f g same xs)

filter_map_cond : {A B : Type 0} (f : A → B) (b : Bool) (x : A) (xs : List A) (ys : List B) → ys ≡ map f xs →
    cond b (f x ∷ ys) ys ≡ map f (cond b (x ∷ xs) xs)
filter_map_cond f true x xs ys e = ap (λ zs. f x ∷ zs) e
filter_map_cond f false x xs ys e = e

-- a filter of a map
pub filter-map : {A B : Type 0} (p : B → Bool) (f : A → B) (xs : List A) →
    filter p (map f xs) ≡ map f (filter (λ x. p (f x)) xs)
filter-map p f [] = refl
filter-map p f (x ∷ xs) = filter_map_cond f (p (f x)) x (filter (λ y. p (f y)) xs) (filter p (map f xs)) (filter-map p f xs)

find_cond : {A B : Type 0} (f : A → B) (b : Bool) (x : A) (o : Option A) (q : Option B) → q ≡ option_map f o →
    cond b (Some (f x)) q ≡ option_map f (cond b (Some x) o)
find_cond f true x o q e = refl
find_cond f false x o q e = e

pub find-map : {A B : Type 0} (p : B → Bool) (f : A → B) (xs : List A) →
    find p (map f xs) ≡ option_map f (find (λ x. p (f x)) xs)
find-map p f [] = refl
find-map p f (x ∷ xs) = find_cond f (p (f x)) x (find (λ y. p (f y)) xs) (find p (map f xs)) (find-map p f xs)

pub sum_by-map : {A B : Type 0} (h : B → ℕ) (f : A → B) (xs : List A) → sum_by h (map f xs) ≡ sum_by (λ x. h (f x)) xs
sum_by-map h f xs = fold-map (λ a y. a + h y) f 0 xs

-- two filters, one after the other
both_cond : {A : Type 0} (p : A → Bool) (b : Bool) (x : A) (xs ys : List A) → xs ≡ filter p ys →
    cond (b && p x) (x ∷ xs) xs ≡ filter p (cond b (x ∷ ys) ys)
both_cond p true x xs ys e = ap (λ zs. cond (p x) (x ∷ zs) zs) e
both_cond p false x xs ys e = e

pub filter_both : {A : Type 0} (p q r : A → Bool) → ((x : A) → r x ≡ (q x && p x)) → (xs : List A) →
    filter r xs ≡ filter p (filter q xs)
filter_both p q r both [] = refl
filter_both p q r both (x ∷ xs) =
    ap (λ b. cond b (x ∷ filter r xs) (filter r xs)) (both x)
    ∙ both_cond p (q x) x (filter r xs) (filter q xs) (filter_both p q r both xs)

-- what a filter keeps is no more
pub count_by-cons : {A : Type 0} (p : A → Bool) (x : A) (xs : List A) → count_by p (x ∷ xs) ≡ cond (p x) 1 0 + count_by p xs
count_by-cons p x xs = sum_by-cons (λ y. cond (p y) 1 0) x xs

kept_count : {A : Type 0} (p : A → Bool) (b : Bool) (x : A) (ys : List A) (n : ℕ) → count_by p ys ≤ n →
    count_by p (cond b (x ∷ ys) ys) ≤ cond (p x) 1 0 + n
kept_count p true x ys n h = omega (arith, count_by-cons p x ys)
kept_count p false x ys n h = omega arith

pub count_by-filter-le : {A : Type 0} (p q : A → Bool) (xs : List A) → count_by p (filter q xs) ≤ count_by p xs
count_by-filter-le p q [] = omega arith
count_by-filter-le p q (x ∷ xs) =
    rw (count_by-cons p x xs) (kept_count p (q x) x (filter q xs) (count_by p xs) (count_by-filter-le p q xs))

-- what is counted nowhere isn't there
none_cond : (b c : Bool) (n : ℕ) → cond b 1 0 + n ≡ 0 → (n ≡ 0 → c ≡ false) → (b || c) ≡ false
none_cond true c n e h = absurd (omega arith)
none_cond false c n e h = h (omega arith)

pub none_counted : {A : Type 0} (p : A → Bool) (xs : List A) → count_by p xs ≡ 0 → list_any p xs ≡ false
none_counted p [] none = refl
none_counted p (x ∷ xs) none =
    none_cond (p x) (list_any p xs) (count_by p xs) (sym (count_by-cons p x xs) ∙ none) (none_counted p xs)

-- the value found, or 0
abbrev pub found : {A : Type 0} → (A → ℕ) → Option A → ℕ
found f None = 0
found f (Some x) = f x

-- where at most one passes, a sum over the others lacks just what is found
found_cond : {A : Type 0} (p : A → Bool) (f : A → ℕ) (b : Bool) (x : A) (xs rest : List A) (o : Option A) →
    (cond b 1 0 + count_by p xs ≤ 1) → (count_by p xs ≡ 0 → rest ≡ xs) →
    (sum_by f rest + found f o ≡ sum_by f xs) →
    sum_by f (cond (not b) (x ∷ rest) rest) + found f (cond b (Some x) o) ≡ f x + sum_by f xs
found_cond p f true x xs rest o once none sum = rw (none (omega arith)) (omega arith)
found_cond p f false x xs rest o once none sum = omega (arith, sum_by-cons f x rest)

none_left : {A : Type 0} (p : A → Bool) (b : Bool) (x : A) (xs rest : List A) → cond b 1 0 + count_by p xs ≡ 0 →
    (count_by p xs ≡ 0 → rest ≡ xs) → cond (not b) (x ∷ rest) rest ≡ x ∷ xs
none_left p true x xs rest e h = absurd (omega arith)
none_left p false x xs rest e h = ap (λ ys. x ∷ ys) (h (omega arith))

pub filter_none : {A : Type 0} (p : A → Bool) (xs : List A) → count_by p xs ≡ 0 → filter (λ x. not (p x)) xs ≡ xs
filter_none p [] none = refl
filter_none p (x ∷ xs) none =
    none_left p (p x) x xs (filter (λ y. not (p y)) xs) (sym (count_by-cons p x xs) ∙ none) (filter_none p xs)

pub sum_without : {A : Type 0} (p : A → Bool) (f : A → ℕ) (xs : List A) → count_by p xs ≤ 1 →
    sum_by f (filter (λ x. not (p x)) xs) + found f (find p xs) ≡ sum_by f xs
sum_without p f [] once = refl
sum_without p f (x ∷ xs) once =
    let parts : cond (p x) 1 0 + count_by p xs ≤ 1 = rw (count_by-cons p x xs) at once in
    found_cond p f (p x) x xs (filter (λ y. not (p y)) xs) (find p xs) parts (filter_none p xs)
    (sum_without p f xs (omega arith))
    ∙ sym (sum_by-cons f x xs)

-- what is found passes and is counted
some_cond : {A : Type 0} (p : A → Bool) (b : Bool) (x y : A) (o : Option A) (n : ℕ) → b ≡ p x → cond b (Some x) o ≡ Some y →
    (o ≡ Some y → (1 ≤ n) × (p y ≡ true)) → (1 ≤ cond b 1 0 + n) × (p y ≡ true)
some_cond p true x y o n e f h = (omega arith, ap p (sym cc) ∙ sym e)
some_cond p false x y o n e f h = (omega (arith, (h f).0), (h f).1)

pub found_counted : {A : Type 0} (p : A → Bool) (xs : List A) (y : A) → find p xs ≡ Some y → (1 ≤ count_by p xs) × (p y ≡ true)
found_counted p [] y e = cc
found_counted p (x ∷ xs) y e =
    rw (count_by-cons p x xs) (some_cond p (p x) x y (find p xs) (count_by p xs) refl e (found_counted p xs y))

-- what is counted nowhere isn't found
none_found_cond : {A : Type 0} (b : Bool) (x : A) (o : Option A) (n : ℕ) → cond b 1 0 + n ≡ 0 → (n ≡ 0 → o ≡ None) →
    cond b (Some x) o ≡ None
none_found_cond true x o n e h = absurd (omega arith)
none_found_cond false x o n e h = h (omega arith)

pub none_found : {A : Type 0} (p : A → Bool) (xs : List A) → count_by p xs ≡ 0 → find p xs ≡ None
none_found p [] none = refl
none_found p (x ∷ xs) none =
    none_found_cond (p x) x (find p xs) (count_by p xs) (sym (count_by-cons p x xs) ∙ none) (none_found p xs)
