-- Lists of values by rising slots.
use Rattle.std.proofs.Common.{◌≡◌, ◌≢◌, ℕ, zero, suc, ◌<◌, ◌≤◌, Bool, true, false, cond, eqb, List, [], ◌∷◌, length, get_or, set, take, drop, Some, refl, sym, ap, ◌∙◌, arith, ⊎_elim}
use Rattle.std.specs.Prelude.{insert, remove}
use Rattle.std.proofs.lemmas.Bool.{cases_lt, and_parts, lt-ltb}
use Rattle.std.specs.Ordering.{nat_cmp, is_lt, is_eq, eq_by_cmp}
use Rattle.std.specs.declared.cmp.Ordering.TheVariants.{Less, Equal, Greater}
use Rattle.std.specs.FinMap.Entries.{put, where_key, find, is_sorted, below_all, by_order}
use Rattle.pf_lemmas.proofs.Orders.{cmp_equal, cmp_greater}

cmp-less : (x y : ℕ) → x < y → nat_cmp x y ≡ Less
cmp-less x y h = ap (λ b. cond b Less (cond (eqb x y) Equal Greater)) (lt-ltb x y h)

pub eq_by-same : (x y : ℕ) → x ≡ y → eq_by_cmp nat_cmp x y ≡ true
eq_by-same x y h = ap is_eq (cmp_equal x y h)

pub eq_by-other : (x y : ℕ) → x ≢ y → eq_by_cmp nat_cmp x y ≡ false
eq_by-other x y h =
    ⊎_elim (λ lt. ap is_eq (cmp-less x y lt))
    (λ ge. ap is_eq (cmp_greater x y (let ne : x ≢ y = h in omega arith)))
    (cases_lt x y)

is_lt_lt : (x y : ℕ) → is_lt (nat_cmp x y) ≡ true → x < y
is_lt_lt x y h =
    ⊎_elim (λ lt. lt)
    (λ ge. ⊎_elim (λ lt. absurd (let e : false ≡ true = sym (ap is_lt (cmp_greater x y lt)) ∙ h in cc))
    (λ le. absurd (let e : false ≡ true = sym (ap is_lt (cmp_equal x y (omega arith))) ∙ h in cc)) (cases_lt y x))
    (cases_lt x y)

module _ {X : Type 0} where
  -- the first of a list in order is below all others
  below_at : (x : ℕ) (es : List (ℕ × X)) (k : ℕ) (d : ℕ × X) → below_all nat_cmp x es ≡ true → k < length es → x < (get_or es k d).0
  below_at x [] k d h lt = absurd (omega arith)
  below_at x (e ∷ es) zero d h lt = is_lt_lt x e.0 (and_parts (is_lt (nat_cmp x e.0)) (below_all nat_cmp x es) h).0
  below_at x (e ∷ es) (suc k) d h lt =
      below_at x es k d (and_parts (is_lt (nat_cmp x e.0)) (below_all nat_cmp x es) h).1 (omega arith)

  pub rises : (es : List (ℕ × X)) (i j : ℕ) (d : ℕ × X) → is_sorted nat_cmp es ≡ true → i < j → j < length es → (get_or es i d).0 < (get_or es j d).0
  rises [] i j d s lt h = absurd (omega arith)
  rises (e ∷ es) zero zero d s lt h = absurd (omega arith)
  rises (e ∷ es) zero (suc j) d s lt h =
      below_at e.0 es j d (and_parts (below_all nat_cmp e.0 es) (is_sorted nat_cmp es) s).0 (omega arith)
  rises (e ∷ es) (suc i) zero d s lt h = absurd (omega arith)
  rises (e ∷ es) (suc i) (suc j) d s lt h =
      rises es i j d (and_parts (below_all nat_cmp e.0 es) (is_sorted nat_cmp es) s).1 (omega arith) (omega arith)

  -- the value at a slot that has one
  pub find_at : (es : List (ℕ × X)) (k : ℕ) (d : ℕ × X) → is_sorted nat_cmp es ≡ true → k < length es → find nat_cmp (get_or es k d).0 es ≡ Some (get_or es k d).1
  find_at [] k d s h = absurd (omega arith)
  find_at (e ∷ es) zero d s h = ap (λ b. cond b (Some e.1) (find nat_cmp e.0 es)) (eq_by-same e.0 e.0 refl)
  find_at (e ∷ es) (suc k) d s h =
      let parts = and_parts (below_all nat_cmp e.0 es) (is_sorted nat_cmp es) s in
      let lt : e.0 < (get_or es k d).0 = below_at e.0 es k d parts.0 (omega arith) in
      let ne : (get_or es k d).0 ≢ e.0 = λ p. omega arith in
      ap (λ b. cond b (Some e.1) (find nat_cmp (get_or es k d).0 es)) (eq_by-other (get_or es k d).0 e.0 ne)
      ∙ find_at es k d parts.1 (omega arith)

  -- a slot that has a value has it at some place
  pub find_place : (q : ℕ) (es : List (ℕ × X)) (x : X) (d : ℕ × X) → find nat_cmp q es ≡ Some x → (k : ℕ) × (k < length es) × ((get_or es k d).0 ≡ q) × ((get_or es k d).1 ≡ x)
  find_place q [] x d h = absurd (cc)
  find_place q (e ∷ es) x d h =
      ⊎_elim
      (λ ne. let m = find_place q es x d (sym (ap (λ b. cond b (Some e.1) (find nat_cmp q es)) (eq_by-other q e.0 (λ p. omega (arith, ne, p)))) ∙ h) in
      (suc m.0, omega (arith, m.1), m.2, m.3))
      (λ rest. ⊎_elim
      (λ ne. let m = find_place q es x d (sym (ap (λ b. cond b (Some e.1) (find nat_cmp q es)) (eq_by-other q e.0 (λ p. omega (arith, ne, p)))) ∙ h) in
      (suc m.0, omega (arith, m.1), m.2, m.3))
      (λ le. let same : q ≡ e.0 = omega (arith, rest, le) in
      let is : Some e.1 ≡ Some x = sym (ap (λ b. cond b (Some e.1) (find nat_cmp q es)) (eq_by-same q e.0 same)) ∙ h in
      (0, omega arith, sym same, cc))
      (cases_lt e.0 q))
      (cases_lt q e.0)

  -- the place of a slot: where a value is put
  pub put-at : (s : ℕ) (v : X) (es : List (ℕ × X)) (at : ℕ) (d : ℕ × X) → at < length es →
      ((k : ℕ) → k < at → (get_or es k d).0 < s) → (get_or es at d).0 ≡ s → put nat_cmp s v es ≡ set es at (s, v)
  put-at s v [] at d h before is = absurd (omega arith)
  put-at s v (e ∷ es) zero d h before is =
      ap (λ o. by_order o ((s, v) ∷ e ∷ es) ((e.0, v) ∷ es) (e ∷ put nat_cmp s v es)) (cmp_equal s e.0 (sym is))
      ∙ ap (λ x. (x, v) ∷ es) is
  put-at s v (e ∷ es) (suc at) d h before is =
      ap (λ o. by_order o ((s, v) ∷ e ∷ es) ((e.0, v) ∷ es) (e ∷ put nat_cmp s v es)) (cmp_greater s e.0 (before 0 (omega arith)))
      ∙ ap (λ l. e ∷ l) (put-at s v es at d (omega arith) (λ k lt. before (suc k) (omega arith)) is)

  pub put-between : (s : ℕ) (v : X) (es : List (ℕ × X)) (at : ℕ) (d : ℕ × X) → at ≤ length es →
      ((k : ℕ) → k < at → (get_or es k d).0 < s) → (at < length es → s < (get_or es at d).0) → put nat_cmp s v es ≡ insert es at (s, v)
  put-between s v [] zero d h before after = refl
  put-between s v [] (suc at) d h before after = absurd (omega arith)
  put-between s v (e ∷ es) zero d h before after =
      ap (λ o. by_order o ((s, v) ∷ e ∷ es) ((e.0, v) ∷ es) (e ∷ put nat_cmp s v es)) (cmp-less s e.0 (after (omega arith)))
  put-between s v (e ∷ es) (suc at) d h before after =
      ap (λ o. by_order o ((s, v) ∷ e ∷ es) ((e.0, v) ∷ es) (e ∷ put nat_cmp s v es)) (cmp_greater s e.0 (before 0 (omega arith)))
      ∙ ap (λ l. e ∷ l) (put-between s v es at d (omega arith) (λ k lt. before (suc k) (omega arith)) (λ lt. after (omega arith)))

  where_all : (p : ℕ → Bool) (es : List (ℕ × X)) (d : ℕ × X) → ((k : ℕ) → k < length es → p (get_or es k d).0 ≡ true) → where_key nat_cmp p es ≡ es
  where_all p [] d h = refl
  where_all p (e ∷ es) d h =
      ap (λ b. cond b (e ∷ where_key nat_cmp p es) (where_key nat_cmp p es)) (h 0 (omega arith))
      ∙ ap (λ l. e ∷ l) (where_all p es d (λ k lt. h (suc k) (omega arith)))

  where_none : (p : ℕ → Bool) (es : List (ℕ × X)) (d : ℕ × X) → ((k : ℕ) → k < length es → p (get_or es k d).0 ≡ false) → where_key nat_cmp p es ≡ []
  where_none p [] d h = refl
  where_none p (e ∷ es) d h =
      ap (λ b. cond b (e ∷ where_key nat_cmp p es) (where_key nat_cmp p es)) (h 0 (omega arith))
      ∙ where_none p es d (λ k lt. h (suc k) (omega arith))

  -- a test that the first n pass and no other
  pub where_front : (p : ℕ → Bool) (es : List (ℕ × X)) (n : ℕ) (d : ℕ × X) → n ≤ length es → ((k : ℕ) → k < n → p (get_or es k d).0 ≡ true) →
      ((k : ℕ) → n ≤ k → k < length es → p (get_or es k d).0 ≡ false) → where_key nat_cmp p es ≡ take n es
  where_front p es zero d h front back = where_none p es d (λ k lt. back k (omega arith) lt)
  where_front p [] (suc n) d h front back = refl
  where_front p (e ∷ es) (suc n) d h front back =
      ap (λ b. cond b (e ∷ where_key nat_cmp p es) (where_key nat_cmp p es)) (front 0 (omega arith))
      ∙ ap (λ l. e ∷ l) (where_front p es n d (omega arith) (λ k lt. front (suc k) (omega arith)) (λ k le lt. back (suc k) (omega arith) (omega arith)))

  -- a test that all but the first n pass
  pub where_back : (p : ℕ → Bool) (es : List (ℕ × X)) (n : ℕ) (d : ℕ × X) → n ≤ length es → ((k : ℕ) → k < n → p (get_or es k d).0 ≡ false) →
      ((k : ℕ) → n ≤ k → k < length es → p (get_or es k d).0 ≡ true) → where_key nat_cmp p es ≡ drop n es
  where_back p es zero d h front back = where_all p es d (λ k lt. back k (omega arith) lt)
  where_back p [] (suc n) d h front back = refl
  where_back p (e ∷ es) (suc n) d h front back =
      ap (λ b. cond b (e ∷ where_key nat_cmp p es) (where_key nat_cmp p es)) (front 0 (omega arith))
      ∙ where_back p es n d (omega arith) (λ k lt. front (suc k) (omega arith)) (λ k le lt. back (suc k) (omega arith) (omega arith))

  -- a test that all but the one at n pass
  pub where_but : (p : ℕ → Bool) (es : List (ℕ × X)) (n : ℕ) (d : ℕ × X) → n < length es → p (get_or es n d).0 ≡ false →
      ((k : ℕ) → k ≢ n → k < length es → p (get_or es k d).0 ≡ true) → where_key nat_cmp p es ≡ remove es n
  where_but p [] n d h at others = absurd (omega arith)
  where_but p (e ∷ es) zero d h at others =
      ap (λ b. cond b (e ∷ where_key nat_cmp p es) (where_key nat_cmp p es)) at
      ∙ where_all p es d (λ k lt. others (suc k) (λ i. omega arith) (omega arith))
  where_but p (e ∷ es) (suc n) d h at others =
      ap (λ b. cond b (e ∷ where_key nat_cmp p es) (where_key nat_cmp p es)) (others 0 (λ i. omega arith) (omega arith))
      ∙ ap (λ l. e ∷ l) (where_but p es n d (omega arith) at (λ k ne lt. others (suc k) (λ i. ne (omega arith)) (omega arith)))
