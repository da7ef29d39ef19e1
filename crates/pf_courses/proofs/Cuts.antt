-- What lies between two cuts of a list.
use Rattle.std.proofs.Common.{◌≡◌, ℕ, zero, suc, ◌-◌, ◌<◌, ◌≤◌, Bool, true, false, ◌&&◌, ◌||◌, nat_lt, cond, List, [], ◌∷◌, Option, None, Some, length, take, drop, get_or, filter, find, refl, sym, ap, ap₂, ◌∙◌, subst, ⊎_elim, arith}
use Rattle.std.specs.Prelude.{not, max, slice_range}
use Rattle.std.specs.List.{list_any, slice_get}
use Rattle.std.specs.List.Sorted.{IsPartitionPoint, IsPartitionedBy}
use Rattle.std.proofs.lemmas.Bool.{cases_lt, cases_Bool, lt-ltb, le-ltb, or_right}
use Rattle.std.proofs.lemmas.Bool.Decides.{nat_tests}
use Rattle.pf_courses.specs.Cut.{IsCut}

module _ {X : Type 0} where
  -- a partition point of a list that a field holds
  pub cut_found : (p : X → Bool) (ws us vs : List X) (k : ℕ) → ws ≡ us → us ≡ vs → IsPartitionedBy p us → k ≤ length ws →
      (IsPartitionedBy p ws → IsPartitionPoint (λ y. p y ≡ true) (λ y. p y ≡ false) ws k) → IsCut p k vs
  cut_found p ws us vs k first second parted within found =
      let P : List X → Type 0 = IsPartitionedBy p in
      let Q : List X → Type 0 = IsCut p k in
      let at = found (subst P (sym first) parted) in
      let cut : IsCut p k ws = record {
        within = within;
        before = λ i d below. at.0 i d (omega arith) below;
        behind = λ i d above below. at.1 i d above below;
      } in
      subst Q (first ∙ second) cut

  cut_tail : (p : X → Bool) (x : X) (xs : List X) (k : ℕ) → IsCut p k (x ∷ xs) → IsCut p (k - 1) xs
  cut_tail p x xs k cut = record {
    within = omega (arith, cut.within);
    before = λ i d below. cut.before (suc i) d (omega arith);
    behind = λ i d above below. cut.behind (suc i) d (omega arith) (omega arith);
  }

  -- a test that passes where either does
  pub cut_either : (p q : X → Bool) (xs : List X) (a b : ℕ) → IsCut p a xs → IsCut q b xs → IsCut (λ x. p x || q x) (max a b) xs
  cut_either p q xs a b first second = record {
    within = omega (arith, first.within, second.within);
    before = λ i d below. ⊎_elim
        (λ e. ap (λ v. v || q (get_or xs i d)) (first.before i d e))
        (λ f. or_right (p (get_or xs i d)) (q (get_or xs i d)) (second.before i d (omega arith)))
        (cases_lt i a);
    behind = λ i d above below. ap₂ (λ v w. v || w) (first.behind i d (omega arith) below) (second.behind i d (omega arith) below);
  }

  -- the elements that pass the first test and not the second lie between the cuts
  pub any_between : (p q : X → Bool) (xs : List X) (a b : ℕ) → IsCut p a xs → IsCut q b xs → list_any (λ x. p x && not (q x)) xs ≡ nat_lt b a
  any_between p q [] a b first second = sym (le-ltb b a (omega (arith, first.within)))
  any_between p q (x ∷ xs) a b first second =
      let rest = any_between p q xs (a - 1) (b - 1) (cut_tail p x xs a first) (cut_tail q x xs b second) in
      ⊎_elim
      (λ some. ⊎_elim
      (λ over. both_false (p x) (q x) (list_any (λ x. p x && not (q x)) xs) (second.before 0 x over)
      ∙ rest ∙ (let z : nat_lt (b - 1) (a - 1) ≡ nat_lt b a = grind (arith, nat_tests) in z))
      (λ none. both_true (p x) (q x) (list_any (λ x. p x && not (q x)) xs) (first.before 0 x some) (second.behind 0 x none (omega arith))
      ∙ sym (lt-ltb b a (omega arith)))
      (cases_lt 0 b))
      (λ none. first_false (p x) (q x) (list_any (λ x. p x && not (q x)) xs) (first.behind 0 x none (omega arith))
      ∙ rest ∙ (let z : nat_lt (b - 1) (a - 1) ≡ nat_lt b a = grind (arith, nat_tests) in z))
      (cases_lt 0 a)
    where
      both_true : (v w r : Bool) → v ≡ true → w ≡ false → ((v && not w) || r) ≡ true
      both_true true false r e f = refl
      both_true true true r e f = cc
      both_true false w r e f = cc

      both_false : (v w r : Bool) → w ≡ true → ((v && not w) || r) ≡ r
      both_false true true r e = refl
      both_false false w r e = refl
      both_false true false r e = cc

      first_false : (v w r : Bool) → v ≡ false → ((v && not w) || r) ≡ r
      first_false false w r f = refl
      first_false true w r f = cc

  pub filter_between : (p q : X → Bool) (xs : List X) (a b : ℕ) → IsCut p a xs → IsCut q b xs → filter (λ x. p x && not (q x)) xs ≡ slice_range xs b a
  filter_between p q [] a b first second = none (a - b) b
    where
      none : (n b : ℕ) → [] ≡ take n (drop b (let e : List X = [] in e))
      none zero zero = refl
      none zero (suc b) = refl
      none (suc n) zero = refl
      none (suc n) (suc b) = refl
  filter_between p q (x ∷ xs) zero b first second =
      let rest = filter_between p q xs 0 (b - 1) (cut_tail p x xs 0 first) (cut_tail q x xs b second) in
      let one : 0 - (b - 1) ≡ 0 = omega arith in
      let two : 0 - b ≡ 0 = omega arith in
      kept_none (p x) (q x) x (filter (λ x. p x && not (q x)) xs) (first.behind 0 x (omega arith) (omega arith))
      ∙ rest
      ∙ ap (λ n. take n (drop (b - 1) xs)) one
      ∙ sym (ap (λ n. take n (drop b (x ∷ xs))) two)
    where
      kept_none : (v w : Bool) (x : X) (ys : List X) → v ≡ false → cond (v && not w) (x ∷ ys) ys ≡ ys
      kept_none false w x ys f = refl
      kept_none true w x ys f = cc
  filter_between p q (x ∷ xs) (suc a) zero first second =
      let rest = filter_between p q xs a 0 (let P : ℕ → Type 0 = λ n. IsCut p n xs in subst P (let z : suc a - 1 ≡ a = omega arith in z) (cut_tail p x xs (suc a) first)) (cut_tail q x xs 0 second) in
      kept_one (p x) (q x) x (filter (λ x. p x && not (q x)) xs) (first.before 0 x (omega arith)) (second.behind 0 x (omega arith) (omega arith))
      ∙ ap (λ ys. x ∷ ys) (rest ∙ ap (λ n. take n xs) (let z : a - 0 ≡ a = omega arith in z))
      ∙ sym (ap (λ n. take n (x ∷ xs)) (let z : suc a - 0 ≡ suc a = omega arith in z))
    where
      kept_one : (v w : Bool) (x : X) (ys : List X) → v ≡ true → w ≡ false → cond (v && not w) (x ∷ ys) ys ≡ x ∷ ys
      kept_one true false x ys e f = refl
      kept_one true true x ys e f = cc
      kept_one false w x ys e f = cc
  filter_between p q (x ∷ xs) (suc a) (suc b) first second =
      let rest = filter_between p q xs a b (let P : ℕ → Type 0 = λ n. IsCut p n xs in subst P (let z : suc a - 1 ≡ a = omega arith in z) (cut_tail p x xs (suc a) first))
      (let P : ℕ → Type 0 = λ n. IsCut q n xs in subst P (let z : suc b - 1 ≡ b = omega arith in z) (cut_tail q x xs (suc b) second)) in
      kept_over (p x) (q x) x (filter (λ x. p x && not (q x)) xs) (second.before 0 x (omega arith))
      ∙ rest ∙ ap (λ n. take n (drop b xs)) (let z : a - b ≡ suc a - suc b = omega arith in z)
    where
      kept_over : (v w : Bool) (x : X) (ys : List X) → w ≡ true → cond (v && not w) (x ∷ ys) ys ≡ ys
      kept_over true true x ys e = refl
      kept_over false w x ys e = refl
      kept_over true false x ys e = cc

  -- the element that a test keeps, if there is one
  abbrev pub kept : (X → Bool) → Option X → Option X
  kept f None = None
  kept f (Some x) = cond (f x) (Some x) None

  none_found : (p q : X → Bool) (xs : List X) → ((i : ℕ) (d : X) → i < length xs → p (get_or xs i d) ≡ false) → find (λ x. p x && not (q x)) xs ≡ None
  none_found p q [] none = refl
  none_found p q (x ∷ xs) none =
      skip (p x) (q x) x (find (λ x. p x && not (q x)) xs) (none 0 x (omega arith)) ∙ none_found p q xs (λ i d below. none (suc i) d (omega arith))
    where
      skip : (v w : Bool) (x : X) (o : Option X) → v ≡ false → cond (v && not w) (Some x) o ≡ o
      skip false w x o f = refl
      skip true w x o f = cc

  -- the first of them is the one after the second cut
  pub find_behind : (p q : X → Bool) (xs : List X) (b : ℕ) → IsPartitionedBy p xs → IsCut q b xs → find (λ x. p x && not (q x)) xs ≡ kept (λ x. p x && not (q x)) (slice_get xs b)
  find_behind p q [] b parted second = refl
  find_behind p q (x ∷ xs) zero parted second = ⊎_elim
      (λ e. yes_kept (p x && not (q x)) x (find (λ x. p x && not (q x)) xs) e)
      (λ f.
      let never : p x ≡ false = not_first (p x) (q x) f (second.behind 0 x (omega arith) (omega arith)) in
      no_kept (p x && not (q x)) x (find (λ x. p x && not (q x)) xs) f (none_found p q xs (λ i d below. ⊎_elim
      (λ later. absurd (both (p x) never (parted 0 (suc i) d (omega arith) (omega arith) later)))
      (λ fails. fails)
      (cases_Bool (p (get_or xs i d))))))
      (cases_Bool (p x && not (q x)))
    where
      yes_kept : (v : Bool) (x : X) (o : Option X) → v ≡ true → cond v (Some x) o ≡ cond v (Some x) None
      yes_kept true x o e = refl
      yes_kept false x o e = cc

      no_kept : (v : Bool) (x : X) (o : Option X) → v ≡ false → o ≡ None → cond v (Some x) o ≡ cond v (Some x) None
      no_kept true x o f e = cc
      no_kept false x o f e = e

      not_first : (v w : Bool) → (v && not w) ≡ false → w ≡ false → v ≡ false
      not_first true true e f = cc
      not_first true false e f = e
      not_first false w e f = refl

      both : (v : Bool) → v ≡ false → v ≡ true → ⊥
      both true f e = cc
      both false f e = cc
  find_behind p q (x ∷ xs) (suc b) parted second =
      over (p x) (q x) x (find (λ x. p x && not (q x)) xs) (second.before 0 x (omega arith))
      ∙ find_behind p q xs b (λ i j d le lt e. parted (suc i) (suc j) d (omega arith) (omega arith) e)
      (let P : ℕ → Type 0 = λ n. IsCut q n xs in subst P (let z : suc b - 1 ≡ b = omega arith in z) (cut_tail q x xs (suc b) second))
    where
      over : (v w : Bool) (x : X) (o : Option X) → w ≡ true → cond (v && not w) (Some x) o ≡ o
      over true true x o e = refl
      over false w x o e = refl
      over true false x o e = cc

  pub got_past : (xs : List X) (k : ℕ) → length xs ≤ k → slice_get xs k ≡ None
  got_past [] k over = refl
  got_past (x ∷ xs) zero over = absurd (omega arith)
  got_past (x ∷ xs) (suc k) over = got_past xs k (omega arith)

  pub got_here : (xs : List X) (k : ℕ) (x : X) → k < length xs → x ≡ get_or xs k x → slice_get xs k ≡ Some x
  got_here [] k x within is = absurd (omega arith)
  got_here (y ∷ xs) zero x within is = ap (λ z. Some z) (sym is)
  got_here (y ∷ xs) (suc k) x within is = got_here xs k x (omega arith) is
