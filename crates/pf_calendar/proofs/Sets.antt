-- Sets of keys: members, unions, sizes.
use Rattle.std.proofs.Common.{◌≡◌, ℕ, zero, suc, ◌+◌, ◌-◌, ◌<◌, ◌≤◌, Bool, true, false, cond, ◌⊎◌, inl, inr, List, [], ◌∷◌, ◌++◌, length, get_or, refl, sym, ap, ◌∙◌, arith, ⊎_elim}
use Rattle.std.specs.Prelude.{◌||◌, ◌&&◌, not}
use Rattle.std.specs.List.{list_any}
use Rattle.std.proofs.Math.Bool.{or-false, or_assoc}
use Rattle.std.proofs.lemmas.Bool.{or_cases, false_from_ne_true, and_parts}
use Rattle.std.specs.Ordering.{eq_by_cmp}
use Rattle.std.specs.FinSet as fin
use Rattle.std.specs.FinSet.{contains-empty, contains-union, contains-insert, contains-remove, contains-items, len-empty, len-insert, len-remove, same_set, empty_of_len}
use Rattle.pf_order.specs.Priority.{Priority, key_cmp}
use Rattle.pf_order.proofs.Order.{key_cmp_total, only_equal_keys_tie}
use Rattle.pf_heap.specs.Keys.{Keys}
use Rattle.pf_heap.proofs.Sets.{tied_keys, key_alike}
use Rattle.pf_calendar.specs.Queues.{all_of}

pub has_none : (q : Priority) → fin.contains {R = key_cmp} fin.empty q ≡ true → ⊥
has_none q h = let e : false ≡ true = sym (contains-empty key_cmp q) ∙ h in cc

pub union_cases : (s t : Keys) (q : Priority) → fin.contains (fin.union s t) q ≡ true → (fin.contains s q ≡ true) ⊎ (fin.contains t q ≡ true)
union_cases s t q h = or_cases (fin.contains s q) (fin.contains t q) (sym (contains-union key_cmp_total s t q) ∙ h)

pub insert_cases : (s : Keys) (k q : Priority) → fin.contains (fin.insert s k) q ≡ true → (q ≡ k) ⊎ (fin.contains s q ≡ true)
insert_cases s k q h =
    ⊎_elim (λ e. inl (tied_keys q k e)) (λ e. inr e)
    (or_cases (eq_by_cmp key_cmp q k) (fin.contains s q) (sym (contains-insert key_cmp_total s k q) ∙ h))

pub remove_in : (s : Keys) (k q : Priority) → fin.contains (fin.remove s k) q ≡ true → fin.contains s q ≡ true
remove_in s k q h = (and_parts (not (eq_by_cmp key_cmp q k)) (fin.contains s q) (sym (contains-remove key_cmp_total s k q) ∙ h)).1

pub union_assoc : (s t u : Keys) → fin.union (fin.union s t) u ≡ fin.union s (fin.union t u)
union_assoc s t u =
    same_set key_cmp_total only_equal_keys_tie _ _ (λ q.
    contains-union key_cmp_total (fin.union s t) u q ∙ ap (λ b. b || fin.contains u q) (contains-union key_cmp_total s t q)
    ∙ or_assoc (fin.contains s q) (fin.contains t q) (fin.contains u q)
    ∙ sym (contains-union key_cmp_total s (fin.union t u) q ∙ ap (λ b. fin.contains s q || b) (contains-union key_cmp_total t u q)))

pub union-empty : (s : Keys) → fin.union s fin.empty ≡ s
union-empty s =
    same_set key_cmp_total only_equal_keys_tie _ _ (λ q.
    contains-union key_cmp_total s fin.empty q ∙ ap (λ b. fin.contains s q || b) (contains-empty key_cmp q) ∙ or-false (fin.contains s q))

pub all_of-push : (lists : List Keys) (keys : Keys) → all_of (lists ++ keys ∷ []) ≡ fin.union (all_of lists) keys
all_of-push [] keys =
    same_set key_cmp_total only_equal_keys_tie _ _ (λ q.
    contains-union key_cmp_total keys fin.empty q ∙ ap (λ b. fin.contains keys q || b) (contains-empty key_cmp q) ∙ or-false (fin.contains keys q)
    ∙ sym (contains-union key_cmp_total fin.empty keys q ∙ ap (λ b. b || fin.contains keys q) (contains-empty key_cmp q)))
all_of-push (l ∷ lists) keys = ap (fin.union l) (all_of-push lists keys) ∙ sym (union_assoc l (all_of lists) keys)

-- what is in all these lists is in one of them
pub some_list : (lists : List Keys) (q : Priority) → fin.contains (all_of lists) q ≡ true → (k : ℕ) × (k < length lists) × (fin.contains (get_or lists k fin.empty) q ≡ true)
some_list [] q h = absurd (has_none q h)
some_list (l ∷ lists) q h =
    ⊎_elim (λ here. (0, omega arith, here))
    (λ there. let m = some_list lists q there in (suc m.0, omega (arith, m.1), m.2))
    (union_cases l (all_of lists) q h)

-- ---- sizes

at_most_one : (b : Bool) (n : ℕ) → cond b n (n + 1) ≤ n + 1
at_most_one true n = omega arith
at_most_one false n = omega arith

pub len-insert-le : (s : Keys) (k : Priority) → fin.len (fin.insert s k) ≤ fin.len s + 1
len-insert-le s k = omega (arith, len-insert key_cmp_total s k, at_most_one (fin.contains s k) (fin.len s))

pub len-insert_new : (s : Keys) (k : Priority) → fin.contains s k ≡ false → fin.len (fin.insert s k) ≡ fin.len s + 1
len-insert_new s k h = len-insert key_cmp_total s k ∙ ap (λ b. cond b (fin.len s) (fin.len s + 1)) h

pub len-remove_one : (s : Keys) (k : Priority) → fin.contains s k ≡ true → fin.len (fin.remove s k) ≡ fin.len s - 1
len-remove_one s k h = len-remove key_cmp_total s k ∙ ap (λ b. cond b (fin.len s - 1) (fin.len s)) h

key_from : (s : Keys) (ks : List Priority) → fin.items s ≡ ks → 1 ≤ fin.len s → (k : Priority) × (fin.contains s k ≡ true)
key_from s [] e some =
    let none : (q : Priority) → fin.contains s q ≡ false = λ q. contains-items s q ∙ ap (list_any (eq_by_cmp key_cmp q)) e in
    let is : s ≡ fin.empty = same_set key_cmp_total only_equal_keys_tie s fin.empty (λ q. none q ∙ sym (contains-empty key_cmp q)) in
    absurd (omega (arith, some, ap fin.len is, len-empty key_cmp))
key_from s (k ∷ ks) e some =
    (k, contains-items s k ∙ ap (list_any (eq_by_cmp key_cmp k)) e ∙ ap (λ b. b || list_any (eq_by_cmp key_cmp k) ks) (key_alike k))

-- a set that isn't empty has a key
pub some_key : (s : Keys) → 1 ≤ fin.len s → (k : Priority) × (fin.contains s k ≡ true)
some_key s some = key_from s (fin.items s) refl some

pub some_has : (s : Keys) (k : Priority) → fin.contains s k ≡ true → 1 ≤ fin.len s
some_has s k h =
    ⊎_elim (λ e. absurd (has_none k (sym (ap (λ t. fin.contains t k) (empty_of_len s e)) ∙ h))) (λ le. le) (zero_or (fin.len s)) where
      zero_or : (n : ℕ) → (n ≡ 0) ⊎ (1 ≤ n)
      zero_or zero = inl refl
      zero_or (suc n) = inr (omega arith)

taken_back : (e a b : Bool) → (e ≡ true → b ≡ true) → (a || b) ≡ (e || (a || (not e && b)))
taken_back true a b h = ap (λ c. a || c) (h refl) ∙ or_true a where
  or_true : (x : Bool) → (x || true) ≡ true
  or_true true = refl
  or_true false = refl
taken_back false a b h = refl

-- one key of the second set is put in last
union_last : (s t : Keys) (k : Priority) → fin.contains t k ≡ true → fin.union s t ≡ fin.insert (fin.union s (fin.remove t k)) k
union_last s t k h =
    same_set key_cmp_total only_equal_keys_tie _ _ (λ q.
    contains-union key_cmp_total s t q
    ∙ taken_back (eq_by_cmp key_cmp q k) (fin.contains s q) (fin.contains t q) (λ e. ap (fin.contains t) (tied_keys q k e) ∙ h)
    ∙ sym (contains-insert key_cmp_total (fin.union s (fin.remove t k)) k q
    ∙ ap (λ b. eq_by_cmp key_cmp q k || b)
    (contains-union key_cmp_total s (fin.remove t k) q ∙ ap (λ b. fin.contains s q || b) (contains-remove key_cmp_total t k q))))

union_sized : (n : ℕ) (s t : Keys) → fin.len t ≡ n → fin.len (fin.union s t) ≤ fin.len s + n
union_sized zero s t e =
    let none : t ≡ fin.empty = empty_of_len t e in
    omega (arith, ap (λ x. fin.len (fin.union s x)) none, ap fin.len (union-empty s))
union_sized (suc n) s t e =
    let k = some_key t (omega (arith, e)) in
    omega (
      arith,
      ap fin.len (union_last s t k.0 k.1),
      len-insert-le (fin.union s (fin.remove t k.0)) k.0,
      union_sized n s (fin.remove t k.0) (omega (arith, len-remove_one t k.0 k.1, e)),
    )

pub not_in_removed : (t : Keys) (k : Priority) → fin.contains (fin.remove t k) k ≡ true → ⊥
not_in_removed t k h =
    let e : false ≡ true = sym (contains-remove key_cmp_total t k k ∙ ap (λ b. not b && fin.contains t k) (key_alike k)) ∙ h in cc

apart_sized : (n : ℕ) (s t : Keys) → fin.len t ≡ n → ((q : Priority) → fin.contains s q ≡ true → fin.contains t q ≡ true → ⊥) → fin.len (fin.union s t) ≡ fin.len s + n
apart_sized zero s t e apart =
    let none : t ≡ fin.empty = empty_of_len t e in
    omega (arith, ap (λ x. fin.len (fin.union s x)) none, ap fin.len (union-empty s))
apart_sized (suc n) s t e apart =
    let k = some_key t (omega (arith, e)) in
    let new : fin.contains (fin.union s (fin.remove t k.0)) k.0 ≡ false =
    false_from_ne_true _ (λ h. ⊎_elim (λ here. apart k.0 here k.1) (λ there. not_in_removed t k.0 there) (union_cases s (fin.remove t k.0) k.0 h)) in
    omega (
      arith,
      ap fin.len (union_last s t k.0 k.1),
      len-insert_new (fin.union s (fin.remove t k.0)) k.0 new,
      apart_sized n s (fin.remove t k.0) (omega (arith, len-remove_one t k.0 k.1, e)) (λ q here there. apart q here (remove_in t k.0 q there)),
    )

-- sets that share no key
pub len-union_apart : (s t : Keys) → ((q : Priority) → fin.contains s q ≡ true → fin.contains t q ≡ true → ⊥) → fin.len (fin.union s t) ≡ fin.len s + fin.len t
len-union_apart s t apart = apart_sized (fin.len t) s t refl apart

pub len-union-le : (s t : Keys) → fin.len (fin.union s t) ≤ fin.len s + fin.len t
len-union-le s t = union_sized (fin.len t) s t refl
