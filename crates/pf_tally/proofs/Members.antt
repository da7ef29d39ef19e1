-- The tasks that joined, each once, and those that admission finds inside.
use Rattle.std.proofs.Common.{◌≡◌, ℕ, ◌+◌, ◌≤◌, ◌==◌, Bool, true, false, not, cond, Option, None, Some, List, [], ◌∷◌, filter_map, find, option_map, count_by, Contains, arith, refl, ap, sym, ◌∙◌, subst, ⊎_elim}
use Rattle.std.specs.List.{cons_option}
use Rattle.std.proofs.lemmas.Bool.{eqb-true, eq-eqb, not-true, both_ways}
use Rattle.pf_weight.specs.Share.{share_of}
use Rattle.pf_scenario.specs.Event.{is_join_of}
use Rattle.pf_scenario.specs.declared.event.Event.{Event}
use Rattle.pf_scenario.specs.declared.event.Event.TheVariants.{Join, Leave, Delay, Limit}
use Rattle.pf_scenario.specs.declared.event.Numbered.{Numbered}
use Rattle.pf_admit.specs.declared.member.Member.{Member}
use Rattle.pf_run.specs.Record.{Slot}
use Rattle.pf_run.specs.Inside.{Joined, joined_by, join_of, has_left, inside, member_of, member_at}
use Rattle.pf_run.specs.Inside.{joins_of}
use Rattle.pf_run.proofs.Containing.{contains_none, contains_head, contains_tail, contains_cases, from_filter}
use Rattle.pf_run.proofs.Counting.{count_by-cons}
use Rattle.pf_tally.proofs.Joined.{inside_joined}

-- the tasks that these events bring
abbrev pub joined_of : ℕ → List Numbered → List Joined
joined_of base xs = filter_map (join_of base) xs

pub joined_count : (base task : ℕ) (xs : List Numbered) → count_by (λ j. j.task == task) (joined_of base xs) ≡ joins_of task xs
joined_count base task [] = refl
joined_count base task (x ∷ xs) =
    one x.event (joined_of base xs) (joins_of task xs) (joined_count base task xs)
    ∙ sym (count_by-cons (λ y. is_join_of task y.event) x xs)
  where
    one : (event : Event) (js : List Joined) (n : ℕ) → count_by (λ j. j.task == task) js ≡ n →
        count_by (λ j. j.task == task) (cons_option (joined_by base event) js) ≡ cond (is_join_of task event) 1 0 + n
    one (Join slot task' cost period early) js n e =
        count_by-cons (λ j. j.task == task)
        (record { task = task'; slot = slot; weight = share_of base cost period; early = early }) js
        ∙ ap (λ m. cond (task' == task) 1 0 + m) e
    one (Leave slot task') js n e = omega (arith, e)
    one (Delay slot task' by) js n e = omega (arith, e)
    one (Limit slot count) js n e = omega (arith, e)

module _ {X : Type 0} (p : X → Bool) where
  pub contains_counted : (xs : List X) (x : X) → Contains xs x → p x ≡ true → 1 ≤ count_by p xs
  contains_counted [] x at h = absurd (contains_none x at)
  contains_counted (y ∷ ys) x at h = ⊎_elim
      (λ here. omega (arith, count_by-cons p y ys, ap {B = ℕ} (λ z. cond (p z) 1 0) here, ap {B = ℕ} (λ b. cond b 1 0) h))
      (λ later. omega (arith, count_by-cons p y ys, contains_counted ys x later h))
      (contains_cases y ys x at)

  pub counted_once : (xs : List X) (x y : X) → count_by p xs ≤ 1 → Contains xs x → Contains xs y → p x ≡ true →
      p y ≡ true → x ≡ y
  counted_once [] x y once at_x at_y of_x of_y = absurd (contains_none x at_x)
  counted_once (z ∷ zs) x y once at_x at_y of_x of_y = ⊎_elim
      (λ is_x. ⊎_elim (λ is_y. sym is_x ∙ is_y)
      (λ later. absurd (omega (arith, once, count_by-cons p z zs, passed z x is_x of_x, contains_counted zs y later of_y)))
      (contains_cases z zs y at_y))
      (λ later. ⊎_elim
      (λ is_y. absurd (omega (arith, once, count_by-cons p z zs, passed z y is_y of_y, contains_counted zs x later of_x)))
      (λ too. counted_once zs x y (omega (arith, once, count_by-cons p z zs)) later too of_x of_y)
      (contains_cases z zs y at_y))
      (contains_cases z zs x at_x) where
        passed : (z x : X) → z ≡ x → p x ≡ true → ◌≡◌ {A = ℕ} (cond (p z) 1 0) 1
        passed z x is h = ap {B = ℕ} (λ w. cond (p w) 1 0) is ∙ ap {B = ℕ} (λ b. cond b 1 0) h

  pub found_is : (xs : List X) (x : X) → find p xs ≡ Some x → Contains xs x × (p x ≡ true)
  found_is [] x found = cc
  found_is (y ∷ ys) x found = by (p y) refl found (λ later. found_is ys x later) where
    by : (b : Bool) → p y ≡ b → cond b (Some y) (find p ys) ≡ Some x →
        (find p ys ≡ Some x → Contains ys x × (p x ≡ true)) → Contains (y ∷ ys) x × (p x ≡ true)
    by true is found rest =
        let same : y ≡ x = cc in
        (subst (λ z. Contains (y ∷ ys) z) same (contains_head y ys), subst (λ z. p z ≡ true) same is)
    by false is found rest = let both = rest found in (contains_tail y ys x both.0, both.1)

  pub find_is : (xs : List X) (x : X) → count_by p xs ≤ 1 → Contains xs x → p x ≡ true → find p xs ≡ Some x
  find_is [] x once at h = absurd (contains_none x at)
  find_is (y ∷ ys) x once at h = by (p y) refl (λ later. find_is ys x (omega (arith, once, count_by-cons p y ys)) later h) where
    by : (b : Bool) → p y ≡ b → (Contains ys x → find p ys ≡ Some x) → cond b (Some y) (find p ys) ≡ Some x
    by true is rest = ⊎_elim (λ same. ap (λ z. Some z) same)
        (λ later.
        absurd (omega (arith, once, count_by-cons p y ys, contains_counted ys x later h, ap {B = ℕ} (λ b. cond b 1 0) is)))
        (contains_cases y ys x at)
    by false is rest = ⊎_elim (λ same. absurd (both_ways (p y) is (subst (λ z. p z ≡ true) (sym same) h))) rest
        (contains_cases y ys x at)

-- where no task joined twice, those that joined are told apart by their numbers
pub one_joined : (base : ℕ) (xs : List Numbered) (i j : Joined) → joins_of j.task xs ≤ 1 → Contains (joined_of base xs) i →
    Contains (joined_of base xs) j → i.task ≡ j.task → i ≡ j
one_joined base xs i j once at_i at_j same =
    counted_once (λ k. k.task == j.task) (joined_of base xs) i j (omega (arith, once, joined_count base j.task xs)) at_i at_j
    (eq-eqb i.task j.task same) (eq-eqb j.task j.task refl)

pub find_joined : (base : ℕ) (xs : List Numbered) (j : Joined) → joins_of j.task xs ≤ 1 → Contains (joined_of base xs) j →
    find (λ k. k.task == j.task) (joined_of base xs) ≡ Some j
find_joined base xs j once at =
    find_is (λ k. k.task == j.task) (joined_of base xs) j (omega (arith, once, joined_count base j.task xs)) at
    (eq-eqb j.task j.task refl)

-- the task that admission finds inside
pub record IsMemberAt (base : ℕ) (q : List Slot) (xs : List Numbered) (task : ℕ) (m : Member) : Type 0 where
  pub task_of : Joined
  pub inside : Contains (inside base xs) task_of
  pub joined : Contains (joined_of base xs) task_of
  pub stays : has_left xs task_of.task ≡ false
  pub number : task_of.task ≡ task
  pub is : member_of q xs task_of ≡ m

pub member_found : (base : ℕ) (q : List Slot) (xs : List Numbered) (task : ℕ) (m : Member) →
    member_at base q xs task ≡ Some m → IsMemberAt base q xs task m
unfolding inside
member_found base q xs task m found = by (find (λ j. j.task == task) (inside base xs)) refl found where
  by : (o : Option Joined) → find (λ j. j.task == task) (inside base xs) ≡ o → option_map (member_of q xs) o ≡ Some m →
      IsMemberAt base q xs task m
  by None is none = cc
  by (Some j) is some =
      let both = found_is (λ k. k.task == task) (inside base xs) j is in
      record {
        task_of = j;
        inside = both.0;
        joined = inside_joined base xs j both.0;
        stays = not-true (has_left xs j.task) (from_filter (λ k. not (has_left xs k.task)) (joined_of base xs) j both.0).1;
        number = eqb-true j.task task both.1;
        is = cc;
      }
