-- A forest's keys as a set, by their weights.
use Rattle.std.proofs.Common.{◌≡◌, ◌≢◌, ℕ, ◌+◌, ◌≤◌, Bool, true, false, cond, ltb, eqb, refl, sym, ap, ◌∙◌, subst, arith, ⊎_elim}
use Rattle.std.proofs.Math.Bool.{and-false, and-true, or-false, or_assoc}
use Rattle.std.specs.Prelude.{◌||◌, ◌&&◌, not}
use Rattle.std.proofs.lemmas.Bool.Decides.{nat_tests}
use Rattle.std.proofs.lemmas.Bool.{cases_lt, eqb-true, eqb-false}
use Rattle.std.specs.Cmp.{Equal-is}
use Rattle.std.specs.Ordering.{eq_by_cmp, is_eq}
use Rattle.std.specs.FinSet as set
use Rattle.std.specs.FinSet.{contains-empty, contains-insert, contains-union, contains-remove, same_set}
use Rattle.std.proofs.lemmas.Cmp.{tied_itself}
use Rattle.pf_order.specs.Priority.{Priority, key_cmp}
use Rattle.pf_order.proofs.Order.{key_cmp_total, only_equal_keys_tie}
use Rattle.pf_heap.specs.Forest.{Forest, none, tree, forest_weight, same, of_task, of_key, size, IsBelow, AllBelow}
use Rattle.pf_heap.specs.Keys.{Keys, other_keys}
use Rattle.pf_heap.specs.View.{keys}
use Rattle.pf_heap.proofs.Forests.{same-self, same-other, equal_from_same, forest_weight-add, forest_weight-le}

either : (b c d : Bool) (m n : ℕ) → c ≡ ltb 0 m → d ≡ ltb 0 n → (b || (c || d)) ≡ ltb 0 (cond b 1 0 + (m + n))
either true c d m n p q = grind (arith, nat_tests)
either false c d m n p q = rw (p, q) (grind (arith, nat_tests))

pub contains-keys : (q : Priority) (f : Forest) → set.contains (keys f) q ≡ ltb 0 (forest_weight (of_key q) f)
contains-keys q none = contains-empty key_cmp q
contains-keys q (tree at key rank kids rest) =
    contains-insert key_cmp_total (set.union (keys kids) (keys rest)) key q
    ∙ ap (λ b. eq_by_cmp key_cmp q key || b) (contains-union key_cmp_total (keys kids) (keys rest) q)
    ∙ either (eq_by_cmp key_cmp q key) _ _ (forest_weight (of_key q) kids) (forest_weight (of_key q) rest) (contains-keys q kids) (contains-keys q rest)

pub tied_keys : (q k : Priority) → eq_by_cmp key_cmp q k ≡ true → q ≡ k
tied_keys q k e = only_equal_keys_tie q k ((Equal-is (key_cmp q k)).0 e)

pub key_alike : (k : Priority) → eq_by_cmp key_cmp k k ≡ true
key_alike k = ap is_eq (tied_itself key_cmp_total k)

-- ---- sets by weights

joined : (a b c : Bool) (l m n : ℕ) → a ≡ ltb 0 l → b ≡ ltb 0 m → c ≡ ltb 0 n → l ≡ m + n → a ≡ (b || c)
joined a b c l m n p q r e = rw (p, q, r) (grind (arith, nat_tests))

pub keys_union : (h f g : Forest) → ((w : ℕ → Priority → ℕ) → forest_weight w h ≡ forest_weight w f + forest_weight w g) → keys h ≡ set.union (keys f) (keys g)
keys_union h f g kept =
    same_set key_cmp_total only_equal_keys_tie (keys h) (set.union (keys f) (keys g)) (λ q.
    joined _ _ _ _ _ _ (contains-keys q h) (contains-keys q f) (contains-keys q g) (kept (of_key q))
    ∙ sym (contains-union key_cmp_total (keys f) (keys g) q))

inserted : (a b c : Bool) (l m : ℕ) → a ≡ ltb 0 l → c ≡ ltb 0 m → l ≡ cond b 1 0 + m → a ≡ (b || c)
inserted a true c l m p q e = rw p (grind (arith, nat_tests))
inserted a false c l m p q e = rw (p, q) (grind (arith, nat_tests))

pub keys_insert : (h f : Forest) (at : ℕ) (key : Priority) → ((w : ℕ → Priority → ℕ) → forest_weight w h ≡ w at key + forest_weight w f) → keys h ≡ set.insert (keys f) key
keys_insert h f at key kept =
    same_set key_cmp_total only_equal_keys_tie (keys h) (set.insert (keys f) key) (λ q.
    inserted _ (eq_by_cmp key_cmp q key) _ _ _ (contains-keys q h) (contains-keys q f) (kept (of_key q))
    ∙ sym (contains-insert key_cmp_total (keys f) key q))

removed : (a b c : Bool) (l m : ℕ) → a ≡ ltb 0 l → c ≡ ltb 0 m → cond b 1 0 + l ≡ m → m ≤ 1 → a ≡ (not b && c)
removed a true c l m p q e le = rw p (grind (arith, nat_tests))
removed a false c l m p q e le = rw (p, q) (grind (arith, nat_tests))

task_of_key : (q : Priority) (at : ℕ) (key : Priority) → of_key q at key ≤ of_task q.task at key
task_of_key q at key =
    elim (eq_by_cmp key_cmp q key) as (λ b. eq_by_cmp key_cmp q key ≡ b → cond b 1 0 ≤ same q.task key.task) [
      | true ↦ λ e. omega (arith, same-self q.task, ap (λ (k : Priority). same q.task k.task) (tied_keys q key e))
      | false ↦ λ e. omega arith
    ] refl

-- no key is there twice where no task is
pub key-le-task : (q : Priority) (f : Forest) → forest_weight (of_key q) f ≤ forest_weight (of_task q.task) f
key-le-task q f = forest_weight-le (of_key q) (of_task q.task) f (task_of_key q)

-- two keys of one task weigh no more than the task
two_of_task : (p q : Priority) → p.task ≡ q.task → eq_by_cmp key_cmp p q ≡ false → (at : ℕ) (key : Priority) →
    of_key p at key + of_key q at key ≤ of_task p.task at key
two_of_task p q task differ at key =
    elim (eq_by_cmp key_cmp p key) as (λ b. eq_by_cmp key_cmp p key ≡ b → cond b 1 0 + of_key q at key ≤ of_task p.task at key) [
      | true ↦ λ e. elim (eq_by_cmp key_cmp q key) as (λ c. eq_by_cmp key_cmp q key ≡ c → cond true 1 0 + cond c 1 0 ≤ of_task p.task at key) [
        | true ↦ λ f.
            let same_key : true ≡ false = sym (key_alike p) ∙ ap (eq_by_cmp key_cmp p) (tied_keys p key e ∙ sym (tied_keys q key f)) ∙ differ in cc
        | false ↦ λ f. omega (arith, same-self p.task, ap (λ (k : Priority). same p.task k.task) (tied_keys p key e))
      ] refl
      | false ↦ λ e. omega (arith, task_of_key q at key, ap (λ t. same t key.task) task)
    ] refl

pub two-le-task : (p q : Priority) (f : Forest) → p.task ≡ q.task → eq_by_cmp key_cmp p q ≡ false →
    forest_weight (of_key p) f + forest_weight (of_key q) f ≤ forest_weight (of_task p.task) f
two-le-task p q f task differ =
    let both : ℕ → Priority → ℕ = λ at key. of_key p at key + of_key q at key in
    omega (arith, forest_weight-add (of_key p) (of_key q) both f (λ at key. refl), forest_weight-le both (of_task p.task) f (two_of_task p q task differ))

pub keys_remove : (h f : Forest) (at : ℕ) (key : Priority) → ((t : ℕ) → forest_weight (of_task t) f ≤ 1) → ((w : ℕ → Priority → ℕ) → w at key + forest_weight w h ≡ forest_weight w f) → keys h ≡ set.remove (keys f) key
keys_remove h f at key once kept =
    same_set key_cmp_total only_equal_keys_tie (keys h) (set.remove (keys f) key) (λ q.
    removed _ (eq_by_cmp key_cmp q key) _ _ _ (contains-keys q h) (contains-keys q f) (kept (of_key q)) (omega (arith, key-le-task q f, once q.task))
    ∙ sym (contains-remove key_cmp_total (keys f) key q))

-- ---- how many keys

-- a forest's keys, added one by one
add_keys : Forest → Keys → Keys
add_keys none s = s
add_keys (tree at key rank kids rest) s = set.insert (add_keys kids (add_keys rest s)) key

positive_sum : (b : Bool) (m n : ℕ) → ltb 0 (cond b 1 0 + (m + n)) ≡ (b || (ltb 0 m || ltb 0 n))
positive_sum true m n = grind (arith, nat_tests)
positive_sum false m n = grind (arith, nat_tests)

contains-add_keys : (q : Priority) (f : Forest) (s : Keys) → set.contains (add_keys f s) q ≡ (ltb 0 (forest_weight (of_key q) f) || set.contains s q)
unfolding add_keys
contains-add_keys q none s = refl
contains-add_keys q (tree at key rank kids rest) s =
    contains-insert key_cmp_total (add_keys kids (add_keys rest s)) key q
    ∙ ap (λ b. eq_by_cmp key_cmp q key || b)
    (contains-add_keys q kids (add_keys rest s) ∙ ap (λ b. ltb 0 (forest_weight (of_key q) kids) || b) (contains-add_keys q rest s)
    ∙ sym (or_assoc (ltb 0 (forest_weight (of_key q) kids)) (ltb 0 (forest_weight (of_key q) rest)) (set.contains s q)))
    ∙ sym (or_assoc (eq_by_cmp key_cmp q key) (ltb 0 (forest_weight (of_key q) kids) || ltb 0 (forest_weight (of_key q) rest)) (set.contains s q))
    ∙ ap (λ b. b || set.contains s q) (sym (positive_sum (eq_by_cmp key_cmp q key) (forest_weight (of_key q) kids) (forest_weight (of_key q) rest)))

absent_both : (m : ℕ) (b : Bool) → m ≡ 0 → b ≡ false → (ltb 0 m || b) ≡ false
absent_both m b e f = rw (e, f) refl

pub of_key-self : (k : Priority) (at : ℕ) → of_key k at k ≡ 1
of_key-self k at = ap (λ b. let n : ℕ = cond b 1 0 in n) (key_alike k)

len-add_keys : (f : Forest) (s : Keys) → ((q : Priority) → forest_weight (of_key q) f ≤ 1) → ((q : Priority) → 1 ≤ forest_weight (of_key q) f → set.contains s q ≡ false) →
    set.len (add_keys f s) ≡ size f + set.len s
unfolding add_keys
len-add_keys none s once apart = omega arith
len-add_keys (tree at key rank kids rest) s once apart =
    let own = of_key-self key at in
    let one = once key in
    let by_rest = len-add_keys rest s (λ q. omega (arith, once q)) (λ q h. apart q (omega (arith, h))) in
    let by_kids = len-add_keys kids (add_keys rest s) (λ q. omega (arith, once q))
    (λ q h. contains-add_keys q rest s ∙ absent_both (forest_weight (of_key q) rest) (set.contains s q) (omega (arith, once q, h)) (apart q (omega (arith, h)))) in
    let absent : set.contains (add_keys kids (add_keys rest s)) key ≡ false =
    contains-add_keys key kids (add_keys rest s)
    ∙ absent_both (forest_weight (of_key key) kids) (set.contains (add_keys rest s) key) (omega (arith, one, own))
    (contains-add_keys key rest s ∙ absent_both (forest_weight (of_key key) rest) (set.contains s key) (omega (arith, one, own)) (apart key (omega (arith, own)))) in
    let e = set.len-insert key_cmp_total (add_keys kids (add_keys rest s)) key in
    let n : set.len (set.insert (add_keys kids (add_keys rest s)) key) ≡ set.len (add_keys kids (add_keys rest s)) + 1 =
    e ∙ ap (λ b. cond b (set.len (add_keys kids (add_keys rest s))) (set.len (add_keys kids (add_keys rest s)) + 1)) absent in
    omega (arith, n, by_kids, by_rest)

pub len-keys : (f : Forest) → ((t : ℕ) → forest_weight (of_task t) f ≤ 1) → set.len (keys f) ≡ size f
len-keys f once =
    let e : keys f ≡ add_keys f set.empty =
    same_set key_cmp_total only_equal_keys_tie (keys f) (add_keys f set.empty) (λ q.
    contains-keys q f
    ∙ sym (contains-add_keys q f set.empty ∙ ap (λ b. ltb 0 (forest_weight (of_key q) f) || b) (contains-empty key_cmp q) ∙ or-false (ltb 0 (forest_weight (of_key q) f)))) in
    ap set.len e
    ∙ len-add_keys f set.empty (λ q. omega (arith, key-le-task q f, once q.task)) (λ q h. contains-empty key_cmp q)
    ∙ omega (arith, set.len-empty key_cmp)

-- ---- which keys

positive : (m : ℕ) → ltb 0 m ≡ true → 1 ≤ m
positive m e = grind (arith, nat_tests)

is_positive : (m : ℕ) → 1 ≤ m → ltb 0 m ≡ true
is_positive m e = grind (arith, nat_tests)

pub weigh_from_contains : (f : Forest) (q : Priority) → set.contains (keys f) q ≡ true → 1 ≤ forest_weight (of_key q) f
weigh_from_contains f q h = positive (forest_weight (of_key q) f) (sym (contains-keys q f) ∙ h)

pub contains_from_weigh : (f : Forest) (q : Priority) → 1 ≤ forest_weight (of_key q) f → set.contains (keys f) q ≡ true
contains_from_weigh f q h = contains-keys q f ∙ is_positive (forest_weight (of_key q) f) h

pub below_in : (p q : Priority) (f : Forest) → AllBelow p f → 1 ≤ forest_weight (of_key q) f → IsBelow p q
below_in p q none all h = absurd (omega (arith, h))
below_in p q (tree at key rank kids rest) all h =
    elim (eq_by_cmp key_cmp q key) as (λ b. eq_by_cmp key_cmp q key ≡ b → 1 ≤ cond b 1 0 + (forest_weight (of_key q) kids + forest_weight (of_key q) rest) → IsBelow p q) [
      | true ↦ λ e _. subst (λ k. IsBelow p k) (sym (tied_keys q key e)) all.0
      | false ↦ λ e n. ⊎_elim (λ lt. below_in p q kids all.1 (omega (arith, lt))) (λ ge. below_in p q rest all.2 (omega (arith, n, ge))) (cases_lt 0 (forest_weight (of_key q) kids))
    ] refl h

-- some key of this task
pub key_of_task : (t : ℕ) (f : Forest) → 1 ≤ forest_weight (of_task t) f → (k : Priority) × (1 ≤ forest_weight (of_key k) f) × (k.task ≡ t)
key_of_task t none h = absurd (omega (arith, h))
key_of_task t (tree at key rank kids rest) h =
    ⊎_elim
    (λ lt. (key, omega (arith, of_key-self key at), sym (equal_from_same t key.task (omega (arith, lt)))))
    (λ ge. ⊎_elim
    (λ lt. let m = key_of_task t kids (omega (arith, lt)) in (m.0, omega (arith, m.1), m.2))
    (λ le. let m = key_of_task t rest (omega (arith, h, ge, le)) in (m.0, omega (arith, m.1), m.2))
    (cases_lt 0 (forest_weight (of_task t) kids)))
    (cases_lt 0 (same t key.task))

-- ---- all tasks but one

retained : (a c : Bool) (q t : ℕ) (l m : ℕ) → a ≡ ltb 0 l → c ≡ ltb 0 m → (q ≡ t → l ≡ 0) → (q ≢ t → l ≡ m) → a ≡ (c && not (eqb q t))
retained a c q t l m p s gone stays =
    elim (eqb q t) as (λ b. eqb q t ≡ b → a ≡ (c && not b)) [
      | true ↦ λ e. let z : l ≡ 0 = gone (eqb-true q t e) in p ∙ ap (ltb 0) z ∙ sym (and-false c)
      | false ↦ λ e. let z : l ≡ m = stays (eqb-false q t e) in p ∙ ap (ltb 0) z ∙ sym s ∙ sym (and-true c)
    ] refl

pub keys_without : (h f : Forest) (key : Priority) (task : ℕ) → key.task ≡ task → ((t : ℕ) → forest_weight (of_task t) f ≤ 1) →
    ((v : Priority → ℕ) → v key + forest_weight (λ _ k. v k) h ≡ forest_weight (λ _ k. v k) f) → keys h ≡ other_keys (keys f) task
keys_without h f key task is once kept =
    same_set key_cmp_total only_equal_keys_tie (keys h) (other_keys (keys f) task) (λ q.
    retained _ _ q.task task (forest_weight (of_key q) h) (forest_weight (of_key q) f) (contains-keys q h) (contains-keys q f)
    (λ e. omega (arith, key-le-task q h, kept (λ k. same q.task k.task), once q.task, same-self q.task, ap (λ x. same q.task x) (e ∙ sym is)))
    (λ d. omega (
      arith,
      kept (λ k. cond (eq_by_cmp key_cmp q k) 1 0),
      task_of_key q 0 key,
      same-other q.task key.task (λ e. d (e ∙ is)),
    ))
    ∙ sym (set.contains-retain (keys f) (λ k. not (eqb k.task task)) q
    (λ x tie. ap (λ (k : Priority). not (eqb k.task task)) (sym (only_equal_keys_tie q x tie)))))
