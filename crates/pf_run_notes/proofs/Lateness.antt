-- One missed window more, counted to its task.
use Rattle.std.proofs.Common.{◌≡◌, ◌≢◌, ℕ, zero, suc, ◌+◌, ◌-◌, ◌≤◌, ◌<◌, ◌==◌, ◌||◌, Bool, true, false, cond, List, [], ◌∷◌, ◌++◌, length, get_or, set, replicate, count_by, fold, refl, sym, ap, ap₂, ◌∙◌, ⊎_elim, arith}
use Rattle.std.specs.List.{list_any}
use Rattle.std.proofs.Math.Bool.{or-false}
use Rattle.std.proofs.lemmas.Bool.{cases_Bool, cases_eq, cond-true, cond-false, eq-eqb, ne_eqb, or_parts}
use Rattle.std.proofs.lemmas.List.{length-append, length-replicate, get_or-set_same, get_or-set_other}
use Rattle.std.proofs.lemmas.List.Sums.{sum_by_push, fold_push}
use Rattle.std.proofs.lemmas.List.Folds.{list_any-append}
use Rattle.pf_collections.specs.Table.Grown.{Grown, value_of, with_value, grown_to}
use Rattle.pf_run.proofs.Counting.{count_by-cons, none_counted}
use Rattle.pf_tally.specs.declared.miss.Miss.{Miss}
use Rattle.pf_run_notes.specs.Late.{is_of_task, count_of_task, with_first, firsts_of}

count_more : (task : ℕ) (misses : List Miss) (miss : Miss) → count_of_task task (misses ++ miss ∷ []) ≡ count_of_task task misses + cond (miss.task == task) 1 0
count_more task misses miss = sum_by_push (λ m. cond (is_of_task task m) 1 0) misses miss

firsts_more : (misses : List Miss) (miss : Miss) → firsts_of (misses ++ miss ∷ []) ≡ with_first (firsts_of misses) miss
firsts_more misses miss = fold_push with_first [] misses miss

any_with : (t : ℕ) (acc : List Miss) (x : Miss) → list_any (is_of_task t) (with_first acc x) ≡ (list_any (is_of_task t) acc || is_of_task t x)
any_with t acc x = ⊎_elim
    (λ had.
    ap (λ b. list_any (is_of_task t) (cond b acc (acc ++ x ∷ []))) had
    ∙ ⊎_elim
    (λ (own : x.task ≡ t).
    let there : list_any (is_of_task t) acc ≡ true = ap (λ n. list_any (is_of_task n) acc) (sym own) ∙ had in
    there ∙ sym (ap (λ b. b || is_of_task t x) there))
    (λ other. sym (ap (λ b. list_any (is_of_task t) acc || b) (ne_eqb x.task t other) ∙ or-false (list_any (is_of_task t) acc)))
    (cases_eq x.task t))
    (λ fresh.
    ap (λ b. list_any (is_of_task t) (cond b acc (acc ++ x ∷ []))) fresh
    ∙ list_any-append (is_of_task t) acc (x ∷ [])
    ∙ ap (λ b. list_any (is_of_task t) acc || b) (or-false (is_of_task t x)))
    (cases_Bool (list_any (is_of_task x.task) acc))

any_after : (t : ℕ) (xs acc : List Miss) → list_any (is_of_task t) acc ≡ false → list_any (is_of_task t) xs ≡ false →
    list_any (is_of_task t) (fold with_first acc xs) ≡ false
any_after t [] acc none less = none
any_after t (x ∷ xs) acc none less =
    any_after t xs (with_first acc x)
    (any_with t acc x ∙ ap₂ (λ a b. a || b) none (or_parts (is_of_task t x) (list_any (is_of_task t) xs) less).0)
    (or_parts (is_of_task t x) (list_any (is_of_task t) xs) less).1

any_there : (t : ℕ) (xs acc : List Miss) → list_any (is_of_task t) acc ≡ true → list_any (is_of_task t) (fold with_first acc xs) ≡ true
any_there t [] acc some = some
any_there t (x ∷ xs) acc some = any_there t xs (with_first acc x) (any_with t acc x ∙ ap (λ b. b || is_of_task t x) some)

any_found : (t : ℕ) (xs acc : List Miss) → list_any (is_of_task t) xs ≡ true → list_any (is_of_task t) (fold with_first acc xs) ≡ true
any_found t [] acc e = cc
any_found t (x ∷ xs) acc e = ⊎_elim
    (λ here. any_there t xs (with_first acc x) (any_with t acc x ∙ ap (λ b. list_any (is_of_task t) acc || b) here ∙ or-true (list_any (is_of_task t) acc)))
    (λ later. any_found t xs (with_first acc x) (sym (ap (λ b. b || list_any (is_of_task t) xs) later) ∙ e))
    (cases_Bool (is_of_task t x))
  where
    or-true : (b : Bool) → (b || true) ≡ true
    or-true true = refl
    or-true false = refl

none_counted_back : {A : Type 0} (p : A → Bool) (xs : List A) → list_any p xs ≡ false → count_by p xs ≡ 0
none_counted_back p [] e = refl
none_counted_back p (x ∷ xs) e = ⊎_elim
    (λ here. let no : true ≡ false = sym (ap (λ b. b || list_any p xs) here) ∙ e in cc)
    (λ later.
    let none : count_by p xs ≡ 0 = none_counted_back p xs (sym (ap (λ b. b || list_any p xs) later) ∙ e) in
    let zero_more : cond (p x) 1 0 ≡ 0 = ap {B = ℕ} (λ b. cond b 1 0) later in
    omega (arith, count_by-cons p x xs, none, zero_more))
    (cases_Bool (p x))

-- Use: the first window of its task.
pub late_first : (misses firsts : List Miss) (miss : Miss) → firsts ≡ firsts_of misses → count_of_task miss.task misses ≡ 0 →
    firsts ++ miss ∷ [] ≡ firsts_of (misses ++ miss ∷ [])
late_first misses firsts miss are none =
    let fresh : list_any (is_of_task miss.task) (firsts_of misses) ≡ false =
    any_after miss.task misses [] refl (none_counted (is_of_task miss.task) misses none) in
    sym (firsts_more misses miss
    ∙ cond-false (list_any (is_of_task miss.task) (firsts_of misses)) (firsts_of misses) (firsts_of misses ++ miss ∷ []) fresh
    ∙ ap (λ xs. xs ++ miss ∷ []) (sym are))

-- Use: one more of its task.
pub late_again : (misses firsts : List Miss) (miss : Miss) → firsts ≡ firsts_of misses → 0 < count_of_task miss.task misses →
    firsts ≡ firsts_of (misses ++ miss ∷ [])
late_again misses firsts miss are some = ⊎_elim
    (λ there.
    are ∙ sym (firsts_more misses miss
    ∙ cond-true (list_any (is_of_task miss.task) (firsts_of misses)) (firsts_of misses) (firsts_of misses ++ miss ∷ [])
    (any_found miss.task misses [] there)))
    (λ none. let zero_count = none_counted_back (is_of_task miss.task) misses none in absurd (omega (arith, some, zero_count)))
    (cases_Bool (list_any (is_of_task miss.task) misses))

-- Use: the counts.
pub late_counts : (misses : List Miss) (miss : Miss) (old new : Grown ℕ) (count : ℕ) → ((task : ℕ) → value_of old task ≡ count_of_task task misses) →
    count ≡ value_of old miss.task → ((task : ℕ) → value_of new task ≡ cond (miss.task == task) (count + 1) (value_of old task)) →
    (task : ℕ) → value_of new task ≡ count_of_task task (misses ++ miss ∷ [])
late_counts misses miss old new count counts is set task = ⊎_elim
    (λ (same : miss.task ≡ task).
    let one : cond (miss.task == task) 1 0 ≡ 1 = ap {B = ℕ} (λ b. cond b 1 0) (eq-eqb miss.task task same) in
    let now : value_of new task ≡ count + 1 = set task ∙ cond-true (miss.task == task) (count + 1) (value_of old task) (eq-eqb miss.task task same) in
    let before : count ≡ count_of_task task misses = is ∙ ap (value_of old) same ∙ counts task in
    omega (arith, now, before, one, count_more task misses miss))
    (λ other.
    let none : cond (miss.task == task) 1 0 ≡ 0 = ap {B = ℕ} (λ b. cond b 1 0) (ne_eqb miss.task task other) in
    let now : value_of new task ≡ value_of old task = set task ∙ cond-false (miss.task == task) (count + 1) (value_of old task) (ne_eqb miss.task task other) in
    omega (arith, now, counts task, none, count_more task misses miss))
    (cases_eq miss.task task)

-- Use: a value is set.
pub value_set : (table : Grown ℕ) (task x t : ℕ) → task < length table.0 → value_of (with_value table task x) t ≡ cond (task == t) x (value_of table t)
value_set table task x t within = ⊎_elim
    (λ (same : task ≡ t).
    ap (λ n. get_or (set table.0 task x) n table.1) (sym same) ∙ get_or-set_same table.0 task x table.1 within
    ∙ sym (cond-true (task == t) x (value_of table t) (eq-eqb task t same)))
    (λ (other : task ≢ t). get_or-set_other table.0 task t x table.1 (λ e. other (sym e)) ∙ sym (cond-false (task == t) x (value_of table t) (ne_eqb task t other)))
    (cases_eq task t)

-- Use: the first windows.
pub late_firsts : (misses old new : List Miss) (miss : Miss) (count : ℕ) → old ≡ firsts_of misses → count ≡ count_of_task miss.task misses →
    new ≡ cond (count == 0) (old ++ miss ∷ []) old → new ≡ firsts_of (misses ++ miss ∷ [])
late_firsts misses old new miss count are is set = ⊎_elim
    (λ (none : count ≡ 0).
    set ∙ cond-true (count == 0) (old ++ miss ∷ []) old (eq-eqb count 0 none) ∙ late_first misses old miss are (sym is ∙ none))
    (λ some.
    set ∙ cond-false (count == 0) (old ++ miss ∷ []) old (ne_eqb count 0 some)
    ∙ late_again misses old miss are (positive count (count_of_task miss.task misses) some is))
    (cases_eq count 0)
  where
    positive : (a b : ℕ) → a ≢ 0 → a ≡ b → 0 < b
    positive zero b some e = absurd (some refl)
    positive (suc a) b some e = omega (arith, e)

-- Use: a table grown to a number has its place.
pub grown_long : (table : Grown ℕ) (n : ℕ) → n ≤ length (grown_to n table).0
grown_long table n = omega (arith, length-append table.0 (replicate (n - length table.0) table.1), length-replicate (n - length table.0) table.1)
