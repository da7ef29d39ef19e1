-- Sets of keys that are listed: when two lists are of one set, and when a set's keys come out as they are listed.
use Rattle.std.proofs.Common.{◌≡◌, ℕ, Bool, true, false, cond, List, [], ◌∷◌, ◌++◌, refl, sym, ap, ◌∙◌, subst, ⊎_elim}
use Rattle.std.specs.Prelude.{◌||◌, ◌&&◌, ◌==◌, not, filter}
use Rattle.std.specs.List.{list_any, list_all}
use Rattle.std.specs.Ordering.{eq_by_cmp}
use Rattle.std.specs.FinSet as set
use Rattle.std.specs.FinSet.{contains-union, contains-remove, contains-retain, contains-from_list, same_set}
use Rattle.std.proofs.lemmas.Bool.{and_parts, or_cases, false_from_ne_true, not-true, eqb-false}
use Rattle.std.proofs.lemmas.List.Folds.{list_any-append}
use Rattle.pf_order.specs.Priority.{Priority, precedes, key_cmp}
use Rattle.pf_order.proofs.Order.{key_cmp_total, only_equal_keys_tie, none_precedes_itself, preceding_is_transitive}
use Rattle.pf_heap.specs.Keys.{Keys, IsFirst, HasNone, other_keys}
use Rattle.pf_heap.proofs.Sets.{tied_keys, key_alike}
use Rattle.pf_laws.specs.Examples.Heaps.{ComeOut}

-- the key is one of these
abbrev pub is_in : Priority → List Priority → Bool
is_in q ks = list_any (eq_by_cmp key_cmp q) ks

pub contains-listed : (ks : List Priority) (q : Priority) → set.contains (set.from_list {R = key_cmp} ks) q ≡ is_in q ks
contains-listed ks q = contains-from_list key_cmp_total ks q

-- a list of one key has no other
pub one_listed : (k q : Priority) → set.contains (set.from_list {R = key_cmp} (k ∷ [])) q ≡ true → q ≡ k
one_listed k q has =
    ⊎_elim (λ same. tied_keys q k same) (λ none. cc) (or_cases (eq_by_cmp key_cmp q k) false (sym (contains-listed (k ∷ []) q) ∙ has))

-- all of these are among those: a test that computes
abbrev pub are_in : List Priority → List Priority → Bool
are_in ys xs = list_all (λ x. is_in x ys) xs

-- what all of these pass, each of them does
pass : (p : Priority → Bool) (ks : List Priority) → list_all p ks ≡ true → (q : Priority) → is_in q ks ≡ true → p q ≡ true
pass p [] all q here = cc
pass p (x ∷ ks) all q here =
    let parts = and_parts (p x) (list_all p ks) all in
    ⊎_elim
    (λ same. ap p (tied_keys q x same) ∙ parts.0)
    (λ later. pass p ks parts.1 q later)
    (or_cases (eq_by_cmp key_cmp q x) (is_in q ks) here)

in_from_test : (xs ys : List Priority) → are_in ys xs ≡ true → (q : Priority) → is_in q xs ≡ true → is_in q ys ≡ true
in_from_test xs ys all q here = pass (λ x. is_in x ys) xs all q here

both_or_none : (a b : Bool) → (a ≡ true → b ≡ true) → (b ≡ true → a ≡ true) → a ≡ b
both_or_none a true there back = back refl
both_or_none true false there back = sym (there refl)
both_or_none false false there back = refl

-- lists of the same keys are of one set
pub same_keys : (xs ys : List Priority) → are_in ys xs ≡ true → are_in xs ys ≡ true → set.from_list {R = key_cmp} xs ≡ set.from_list ys
same_keys xs ys there back =
    same_set key_cmp_total only_equal_keys_tie _ _ (λ q.
    contains-listed xs q
    ∙ both_or_none (is_in q xs) (is_in q ys) (in_from_test xs ys there q) (in_from_test ys xs back q)
    ∙ sym (contains-listed ys q))

-- a union lists both
pub union_listed : (xs ys : List Priority) → set.union (set.from_list {R = key_cmp} xs) (set.from_list ys) ≡ set.from_list (xs ++ ys)
union_listed xs ys =
    same_set key_cmp_total only_equal_keys_tie _ _ (λ q.
    contains-union key_cmp_total (set.from_list {R = key_cmp} xs) (set.from_list ys) q
    ∙ ap (λ b. b || set.contains (set.from_list {R = key_cmp} ys) q) (contains-listed xs q)
    ∙ ap (λ b. is_in q xs || b) (contains-listed ys q)
    ∙ sym (list_any-append (eq_by_cmp key_cmp q) xs ys)
    ∙ sym (contains-listed (xs ++ ys) q))

-- the keys that pass a test
kept : (e b t r : Bool) → (e ≡ true → t ≡ true) → (b && t) ≡ r → ((e || b) && t) ≡ (e || r)
kept true b t r alike rest = alike refl
kept false b t r alike rest = rest

dropped : (e b t r : Bool) → (e ≡ true → t ≡ false) → (b && t) ≡ r → ((e || b) && t) ≡ r
dropped true true t r alike rest = rest
dropped true false t r alike rest = alike refl ∙ rest
dropped false b t r alike rest = rest

in_where : (p : Priority → Bool) (xs : List Priority) (q : Priority) → (is_in q xs && p q) ≡ is_in q (filter p xs)
in_where p [] q = refl
in_where p (x ∷ xs) q = one (p x) (λ same. ap p (tied_keys q x same)) (in_where p xs q) where
  one : (t : Bool) → (eq_by_cmp key_cmp q x ≡ true → p q ≡ t) → (is_in q xs && p q) ≡ is_in q (filter p xs) →
      (is_in q (x ∷ xs) && p q) ≡ is_in q (cond t (x ∷ filter p xs) (filter p xs))
  one true alike rest = kept (eq_by_cmp key_cmp q x) (is_in q xs) (p q) (is_in q (filter p xs)) alike rest
  one false alike rest = dropped (eq_by_cmp key_cmp q x) (is_in q xs) (p q) (is_in q (filter p xs)) alike rest

-- the keys of other tasks, listed
pub others_listed : (xs : List Priority) (task : ℕ) →
    other_keys (set.from_list xs) task ≡ set.from_list (filter (λ k. not (k.task == task)) xs)
others_listed xs task =
    same_set key_cmp_total only_equal_keys_tie _ _ (λ q.
    contains-retain (set.from_list {R = key_cmp} xs) (λ k. not (k.task == task)) q
    (λ x tie. ap (λ (k : Priority). not (k.task == task)) (sym (only_equal_keys_tie q x tie)))
    ∙ ap (λ b. b && not (q.task == task)) (contains-listed xs q)
    ∙ in_where (λ k. not (k.task == task)) xs q
    ∙ sym (contains-listed (filter (λ k. not (k.task == task)) xs) q))

-- of which there are none
pub other_tasks : (keys : Keys) (task : ℕ) → HasNone (other_keys keys task) task
other_tasks keys task q has =
    let parts = and_parts (set.contains keys q) (not (q.task == task))
    (sym (contains-retain keys (λ k. not (k.task == task)) q (λ x tie. ap (λ (k : Priority). not (k.task == task)) (sym (only_equal_keys_tie q x tie)))) ∙ has) in
    eqb-false q.task task (not-true _ parts.1)

-- of these keys only one is of the task: a test that computes
abbrev pub is_only_of : ℕ → Priority → List Priority → Bool
is_only_of task k ks = list_all (λ x. not (x.task == task) || eq_by_cmp key_cmp x k) ks

pub only_of_task : (task : ℕ) (k : Priority) (ks : List Priority) → is_only_of task k ks ≡ true →
    (q : Priority) → set.contains (set.from_list {R = key_cmp} ks) q ≡ true → q.task ≡ task → q ≡ k
only_of_task task k ks all q has of_task =
    let passes = pass (λ x. not (x.task == task) || eq_by_cmp key_cmp x k) ks all q (sym (contains-listed ks q) ∙ has) in
    ⊎_elim
    (λ other. absurd (eqb-false q.task task (not-true _ other) of_task))
    (λ same. tied_keys q k same)
    (or_cases (not (q.task == task)) (eq_by_cmp key_cmp q k) passes)

-- each key precedes all after it: a test that computes
abbrev pub are_in_order : List Priority → Bool
are_in_order [] = true
are_in_order (k ∷ ks) = list_all (precedes k) ks && are_in_order ks

not_back : (x y : Priority) → precedes x y ≡ true → precedes y x ≡ false
not_back x y before =
    false_from_ne_true (precedes y x) (λ back.
    let itself : precedes x x ≡ true = preceding_is_transitive x y x before back in
    let none : precedes x x ≡ false = none_precedes_itself x in cc)

not_behind : (k : Priority) (ks : List Priority) → list_all (precedes k) ks ≡ true → is_in k ks ≡ false
not_behind k ks all =
    false_from_ne_true (is_in k ks) (λ here.
    let itself : precedes k k ≡ true = pass (precedes k) ks all k here in
    let none : precedes k k ≡ false = none_precedes_itself k in cc)

first_listed : (k : Priority) (ks : List Priority) → list_all (precedes k) ks ≡ true → IsFirst (set.from_list (k ∷ ks)) k
first_listed k ks all = (
  contains-listed (k ∷ ks) k ∙ ap (λ b. b || is_in k ks) (key_alike k),
  λ q has.
      ⊎_elim
      (λ same. ap (λ x. precedes x k) (tied_keys q k same) ∙ none_precedes_itself k)
      (λ later. not_back k q (pass (precedes k) ks all q later))
      (or_cases (eq_by_cmp key_cmp q k) (is_in q ks) (sym (contains-listed (k ∷ ks) q) ∙ has)),
)

only_first : (k : Priority) (ks : List Priority) → list_all (precedes k) ks ≡ true → (q : Priority) → IsFirst (set.from_list (k ∷ ks)) q → q ≡ k
only_first k ks all q first =
    ⊎_elim
    (λ same. tied_keys q k same)
    (λ later.
    let before : precedes k q ≡ true = pass (precedes k) ks all q later in
    let none : precedes k q ≡ false = first.1 k (first_listed k ks all).0 in cc)
    (or_cases (eq_by_cmp key_cmp q k) (is_in q ks) (sym (contains-listed (k ∷ ks) q) ∙ first.0))

rest_is : (e b : Bool) → (e ≡ true → b ≡ false) → (not e && (e || b)) ≡ b
rest_is true b gone = sym (gone refl)
rest_is false b gone = refl

pub rest_listed : (k : Priority) (ks : List Priority) → list_all (precedes k) ks ≡ true → set.remove (set.from_list {R = key_cmp} (k ∷ ks)) k ≡ set.from_list ks
rest_listed k ks all =
    same_set key_cmp_total only_equal_keys_tie _ _ (λ q.
    contains-remove key_cmp_total (set.from_list {R = key_cmp} (k ∷ ks)) k q
    ∙ ap (λ b. not (eq_by_cmp key_cmp q k) && b) (contains-listed (k ∷ ks) q)
    ∙ rest_is (eq_by_cmp key_cmp q k) (is_in q ks) (λ same. ap (λ x. is_in x ks) (tied_keys q k same) ∙ not_behind k ks all)
    ∙ sym (contains-listed ks q))

-- keys that are listed in their order come out so
pub come_out : (ks : List Priority) → are_in_order ks ≡ true → ComeOut (set.from_list ks) ks
come_out [] all = refl
come_out (k ∷ ks) all =
    let parts = and_parts (list_all (precedes k) ks) (are_in_order ks) all in
    ((first_listed k ks parts.0, only_first k ks parts.0), subst (λ keys. ComeOut keys ks) (sym (rest_listed k ks parts.0)) (come_out ks parts.1))

-- and so do the keys of a set that is so listed
pub come_out_of : (keys : Keys) (ks : List Priority) → keys ≡ set.from_list ks → are_in_order ks ≡ true → ComeOut keys ks
come_out_of keys ks is all = subst (λ s. ComeOut s ks) (sym is) (come_out ks all)
