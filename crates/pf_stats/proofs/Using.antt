-- The quanta and the changes of a processor, one row further.
use Rattle.std.proofs.Common.{◌≡◌, ◌∙◌, ℕ, ◌+◌, ◌<◌, ◌≤◌, cond, List, [], ◌∷◌, Option, Some, length, map, drop, nat_eq, is_some, ap, sym, suc, ◌-◌, arith}
use Rattle.std.specs.List.{range_with_len, slice_get}
use Rattle.std.specs.Option.{option_eq}
use Rattle.std.proofs.lemmas.List.{at_drop_more, at_drop_all}
use Rattle.pf_order.specs.declared.pick.Pick.{Pick}
use Rattle.pf_run.proofs.Counting.{count_by-cons}
use Rattle.pf_tally.proofs.Noting.{got_at}
use Rattle.pf_stats.specs.Processors.{changes_behind, changes_in, quanta_on, task_on}

-- what a function of the rows left is, at the row of slot t
left_at : {Y : Type 0} (f : List (List (Option Pick)) → Y) (rows : List (List (Option Pick))) (t : ℕ) (row : List (Option Pick)) → t < length rows →
    Some row ≡ slice_get rows t → f (drop t rows) ≡ f (row ∷ drop (t + 1) rows)
left_at f rows t row within is = at_drop_more f rows t row within ∙ ap (λ r. f (r ∷ drop (t + 1) rows)) (got_at rows t row is)

pub quanta_left : (p : ℕ) (rows : List (List (Option Pick))) (t : ℕ) (row : List (Option Pick)) → t < length rows → Some row ≡ slice_get rows t →
    quanta_on p (drop t rows) ≡ cond (is_some (task_on p row)) 1 0 + quanta_on p (drop (t + 1) rows)
quanta_left p rows t row within is =
    left_at (quanta_on p) rows t row within is ∙ count_by-cons (λ r. is_some (task_on p r)) row (drop (t + 1) rows)

pub quanta_over : (p : ℕ) (rows : List (List (Option Pick))) (t : ℕ) → length rows ≤ t → quanta_on p (drop t rows) ≡ 0
quanta_over p rows t past = at_drop_all (quanta_on p) rows t past

pub changes_left : (p : ℕ) (x : Option ℕ) (rows : List (List (Option Pick))) (t : ℕ) (row : List (Option Pick)) → t < length rows → Some row ≡ slice_get rows t →
    changes_behind x (map (task_on p) (drop t rows))
    ≡ cond (option_eq nat_eq x (task_on p row)) 0 1 + changes_behind (task_on p row) (map (task_on p) (drop (t + 1) rows))
changes_left p x rows t row within is = left_at (λ rs. changes_behind x (map (task_on p) rs)) rows t row within is

pub changes_over : (p : ℕ) (x : Option ℕ) (rows : List (List (Option Pick))) (t : ℕ) → length rows ≤ t → changes_behind x (map (task_on p) (drop t rows)) ≡ 0
changes_over p x rows t past = at_drop_all (λ rs. changes_behind x (map (task_on p) rs)) rows t past

-- the first of the numbers that are left
pub first_left : {Y : Type 0} (f : ℕ → Y) (k m : ℕ) → k < m → map f (range_with_len k (m - k)) ≡ f k ∷ map f (range_with_len (k + 1) (m - (k + 1)))
first_left f k m below =
    let more : m - k ≡ suc (m - (k + 1)) = omega arith in
    ap (λ n. map f (range_with_len k n)) more

-- none is left
pub none_left : {Y : Type 0} (f : ℕ → Y) (k m : ℕ) → m ≤ k → map f (range_with_len k (m - k)) ≡ []
none_left f k m past =
    let none : m - k ≡ 0 = omega arith in
    ap (λ n. map f (range_with_len k n)) none

-- the first row begins
pub changes_first : (p : ℕ) (rows : List (List (Option Pick))) (row : List (Option Pick)) → 0 < length rows → Some row ≡ slice_get rows 0 →
    changes_behind (task_on p row) (map (task_on p) (drop 1 rows)) ≡ changes_in (map (task_on p) rows)
changes_first p [] row within is = cc
changes_first p (r ∷ rows) row within is = ap (λ q. changes_behind (task_on p q) (map (task_on p) rows)) (sym (got_at (r ∷ rows) 0 row is))
