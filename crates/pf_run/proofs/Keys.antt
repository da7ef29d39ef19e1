-- The keys of the subtasks that may run: of tasks inside, each the next of its task, and no two of one task.
use Rattle.std.proofs.Common.{◌≡◌, ℕ, ◌+◌, ◌≤◌, Bool, true, ◌==◌, nat_le, cond, Option, Some, None, List, [], ◌∷◌, length, filter_map, count_by, All, Contains, refl, sym, ap, subst, arith}
use Rattle.std.specs.List.{cons_option}
use Rattle.std.proofs.lemmas.Bool.{eq-eqb}
use Rattle.std.proofs.lemmas.Option.{cond_some}
use Rattle.std.proofs.lemmas.List.Elements.{All-head, All-tail, All-weaker, All-cons, All-nil, All-contains, All-contains_itself}
use Rattle.pf_place.specs.Priority.{Priority}
use Rattle.pf_place.specs.First.{AreFirst}
use Rattle.pf_scenario.specs.declared.event.Numbered.{Numbered}
use Rattle.pf_admit.specs.declared.member.Member.{Member}
use Rattle.pf_run.specs.Record.{Slot, next_sub}
use Rattle.pf_run.specs.Inside.{Joined, inside, member_of, eligible_from, next_key, ready_key, ready}
use Rattle.pf_run.specs.Inside.{joins_of}
use Rattle.pf_run.proofs.Counting.{count_by-cons}
use Rattle.pf_run.proofs.Points.{inside_count}

-- what holds of each that is given
all_cons_option : {A B : Type 0} (P : A → Type 0) (Q : B → Type 0) (x : A) (o : Option B) (ys : List B) →
    ((y : B) → o ≡ Some y → P x → Q y) → P x → All Q ys → All Q (cons_option o ys)
all_cons_option P Q x None ys from p rest = rest
all_cons_option P Q x (Some y) ys from p rest = All-cons Q y ys (from y refl p) rest

pub all_filter_map : {A B : Type 0} (P : A → Type 0) (Q : B → Type 0) (h : A → Option B) →
    ((x : A) (y : B) → h x ≡ Some y → P x → Q y) → (xs : List A) → All P xs → All Q (filter_map h xs)
all_filter_map P Q h from [] all = All-nil Q
all_filter_map P Q h from (x ∷ xs) all =
    all_cons_option P Q x (h x) (filter_map h xs) (from x) (All-head P x xs all)
    (all_filter_map P Q h from xs (All-tail P x xs all))

-- each is counted
-- 1 for a test that passes
abbrev passed : Bool → ℕ
passed b = cond b 1 0

one_if : (b : Bool) → b ≡ true → passed b ≡ 1
one_if b e = ap passed e

same_if : (b c : Bool) → b ≡ c → passed b ≡ passed c
same_if b c e = ap passed e

counted_each : {A : Type 0} (f : A → ℕ) (xs : List A) → All (λ x. 1 ≤ count_by (λ y. f y == f x) xs) xs
counted_each f [] = All-nil (λ x. 1 ≤ count_by (λ y. f y == f x) [])
counted_each f (x ∷ xs) =
    All-cons (λ z. 1 ≤ count_by (λ y. f y == f z) (x ∷ xs)) x xs
    (omega (arith, count_by-cons (λ y. f y == f x) x xs, one_if (f x == f x) (eq-eqb (f x) (f x) refl)))
    (All-weaker (λ z. 1 ≤ count_by (λ y. f y == f z) xs) (λ z. 1 ≤ count_by (λ y. f y == f z) (x ∷ xs))
    (λ z h. omega (arith, count_by-cons (λ y. f y == f z) x xs)) xs (counted_each f xs))

-- a key is of a task that joined, and of its next subtask
pub record IsNextKey (r : List Slot) (xs : List Numbered) (k : Priority) : Type 0 where
  pub next : k.sub ≡ next_sub r k.task
  pub joined : 1 ≤ joins_of k.task xs

key_task : (t task : ℕ) (m : Member) (k : Priority) → ready_key t task m ≡ Some k → next_key task m ≡ k
key_task t task m k e = (cond_some (nat_le (eligible_from m) t) (next_key task m) k e).1

next_key_of : (r : List Slot) (xs : List Numbered) (j : Joined) (k : Priority) →
    ready_key (length r) j.task (member_of r xs j) ≡ Some k → 1 ≤ joins_of j.task xs → IsNextKey r xs k
unfolding member_of
next_key_of r xs j k e joined =
    let same = key_task (length r) j.task (member_of r xs j) k e in
    subst (λ q. IsNextKey r xs q) same (record { next = refl; joined = joined })

pub ready_next : (base : ℕ) (r : List Slot) (xs : List Numbered) → All (IsNextKey r xs) (ready base r xs)
unfolding ready
ready_next base r xs =
    all_filter_map (λ (j : Joined). 1 ≤ count_by (λ i. i.task == j.task) (inside base xs)) (IsNextKey r xs)
    (λ j. ready_key (length r) j.task (member_of r xs j))
    (λ j k e counted. next_key_of r xs j k e (omega (arith, inside_count base j.task xs)))
    (inside base xs) (counted_each (λ (j : Joined). j.task) (inside base xs))

-- no more keys of a task than joins
count_option : (task task' : ℕ) (o : Option Priority) (ks : List Priority) (n : ℕ) → ((k : Priority) → o ≡ Some k → k.task ≡ task') →
    count_by (λ k. k.task == task) ks ≤ n → count_by (λ k. k.task == task) (cons_option o ks) ≤ cond (task' == task) 1 0 + n
count_option task task' None ks n of h = omega arith
count_option task task' (Some k) ks n of h =
    omega (arith, count_by-cons (λ q. q.task == task) k ks, same_if (k.task == task) (task' == task) (ap (λ t. t == task) (of k refl)))

keys_count : (r : List Slot) (xs : List Numbered) (task : ℕ) (js : List Joined) →
    count_by (λ k. k.task == task) (filter_map (λ (j : Joined). ready_key (length r) j.task (member_of r xs j)) js)
    ≤ count_by (λ j. j.task == task) js
keys_count r xs task [] = omega arith
keys_count r xs task (j ∷ js) =
    let key : Joined → Option Priority = λ i. ready_key (length r) i.task (member_of r xs i) in
    let step = count_option task j.task (key j) (filter_map key js) (count_by (λ (i : Joined). i.task == task) js)
    (λ k e. sym (ap (λ q. q.task) (key_task (length r) j.task (member_of r xs j) k e))) (keys_count r xs task js) in
    omega (arith, step, count_by-cons (λ (i : Joined). i.task == task) j js)

pub ready_count : (base : ℕ) (r : List Slot) (xs : List Numbered) (task : ℕ) →
    count_by (λ k. k.task == task) (ready base r xs) ≤ joins_of task xs
unfolding ready
ready_count base r xs task = omega (arith, keys_count r xs task (inside base xs), inside_count base task xs)

-- what is chosen of them
pub all_chosen : (P : Priority → Type 0) (n : ℕ) (keys chosen : List Priority) → AreFirst n keys chosen → All P keys → All P chosen
all_chosen P n keys chosen first all =
    All-weaker (Contains chosen) P (λ k among. All-contains P keys k all ((first.exactly k).0 among).0) chosen (All-contains_itself chosen)
