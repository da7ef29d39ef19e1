-- A point of the run order, one event further: the tasks inside, their load, their shifts and the count.
use Rattle.std.proofs.Common.{◌≡◌, ℕ, ◌+◌, ◌≤◌, Bool, true, false, not, ◌||◌, ◌&&◌, ◌==◌, cond, Some, None, List, [], ◌∷◌, ◌++◌, length, filter, filter_map, count_by, refl, sym, ap, ap₂, ◌∙◌, arith, append-nil}
use Rattle.std.proofs.Math.Bool.{or-false}
use Rattle.std.specs.List.{cons_option}
use Rattle.std.proofs.lemmas.Bool.Decides.{nat_tests}
use Rattle.std.proofs.lemmas.List.Sums.{sum_by_push, fold_push}
use Rattle.std.proofs.lemmas.List.Folds.{list_any-append}
use Rattle.std.proofs.lemmas.List.Elements.{filter_agree, filter-append, filter_map-append}
use Rattle.pf_scenario.specs.Share.{share_of}
use Rattle.pf_scenario.specs.declared.event.Event.{Event}
use Rattle.pf_scenario.specs.declared.event.Event.TheVariants.{Join, Leave, Delay, Limit}
use Rattle.pf_scenario.specs.declared.event.Numbered.{Numbered}
use Rattle.pf_run.specs.Record.{Slot, done, next_sub}
use Rattle.pf_run.specs.Inside.{Joined, joined_by, join_of, has_left, inside, count_after, count_of, hold_back_of, shift_of, member_of}
use Rattle.pf_scenario.specs.Event.{is_join_of, is_leave_of}
use Rattle.pf_run.specs.Inside.{joins_of}
use Rattle.pf_run.proofs.Counting.{filter_both, count_by-cons, count_by-filter-le}

not_or : (a b : Bool) → not (a || b) ≡ (not a && not b)
not_or true b = refl
not_or false b = refl

-- one event more
pub has_left_push : (xs : List Numbered) (x : Numbered) (task : ℕ) →
    has_left (xs ++ x ∷ []) task ≡ (has_left xs task || is_leave_of task x.event)
has_left_push xs x task =
    list_any-append (λ y. is_leave_of task y.event) xs (x ∷ [])
    ∙ ap (λ b. has_left xs task || b) (or-false (is_leave_of task x.event))

-- one that is no leave leaves all who joined inside
stays : (xs : List Numbered) (x : Numbered) (js : List Joined) → ((task : ℕ) → is_leave_of task x.event ≡ false) →
    filter (λ j. not (has_left (xs ++ x ∷ []) j.task)) js ≡ filter (λ j. not (has_left xs j.task)) js
stays xs x js other = filter_agree _ _
    (λ j. ap not (has_left_push xs x j.task ∙ ap (λ b. has_left xs j.task || b) (other j.task) ∙ or-false (has_left xs j.task))) js

-- the tasks that joined, one event further
joined_push : (base : ℕ) (xs : List Numbered) (x : Numbered) →
    filter_map (join_of base) (xs ++ x ∷ []) ≡ filter_map (join_of base) xs ++ cons_option (join_of base x) []
joined_push base xs x = filter_map-append (join_of base) xs (x ∷ [])

pub inside_push_other : (base : ℕ) (xs : List Numbered) (x : Numbered) → join_of base x ≡ None →
    ((task : ℕ) → is_leave_of task x.event ≡ false) → inside base (xs ++ x ∷ []) ≡ inside base xs
unfolding inside
inside_push_other base xs x none other =
    stays xs x (filter_map (join_of base) (xs ++ x ∷ [])) other
    ∙ ap (filter (λ j. not (has_left xs j.task)))
    (joined_push base xs x ∙ ap (λ o. filter_map (join_of base) xs ++ cons_option o []) none ∙ append-nil _)

pub inside_push_join : (base : ℕ) (xs : List Numbered) (x : Numbered) (j : Joined) → join_of base x ≡ Some j →
    ((task : ℕ) → is_leave_of task x.event ≡ false) → has_left xs j.task ≡ false →
    inside base (xs ++ x ∷ []) ≡ inside base xs ++ j ∷ []
unfolding inside
inside_push_join base xs x j some other fresh =
    stays xs x (filter_map (join_of base) (xs ++ x ∷ [])) other
    ∙ ap (filter (λ j. not (has_left xs j.task)))
    (joined_push base xs x ∙ ap (λ o. filter_map (join_of base) xs ++ cons_option o []) some)
    ∙ filter-append (λ j. not (has_left xs j.task)) (filter_map (join_of base) xs) (j ∷ [])
    ∙ ap (λ b. filter (λ j. not (has_left xs j.task)) (filter_map (join_of base) xs) ++ cond (not b) (j ∷ []) []) fresh

swap_test : (a b : ℕ) → (a == b) ≡ (b == a)
swap_test a b = grind (arith, nat_tests)

pub inside_push_leave : (base : ℕ) (xs : List Numbered) (id slot task : ℕ) →
    inside base (xs ++ record { id = id; event = Leave slot task } ∷ []) ≡ filter (λ j. not (j.task == task)) (inside base xs)
unfolding inside
inside_push_leave base xs id slot task =
    let x : Numbered = record { id = id; event = Leave slot task } in
    ap (filter (λ j. not (has_left (xs ++ x ∷ []) j.task))) (joined_push base xs x ∙ append-nil _)
    ∙ filter_both (λ j. not (j.task == task)) (λ j. not (has_left xs j.task)) (λ j. not (has_left (xs ++ x ∷ []) j.task))
    (λ j. ap not (has_left_push xs x j.task ∙ ap (λ b. has_left xs j.task || b) (swap_test task j.task))
    ∙ not_or (has_left xs j.task) (j.task == task))
    (filter_map (join_of base) xs)

-- at most as many tasks of a number are inside as joined
joined_count : (base task : ℕ) (xs : List Numbered) →
    count_by (λ j. j.task == task) (filter_map (join_of base) xs) ≡ joins_of task xs
joined_count base task [] = refl
joined_count base task (x ∷ xs) =
    one base task x.event (filter_map (join_of base) xs) (joins_of task xs) (joined_count base task xs)
    ∙ sym (count_by-cons (λ y. is_join_of task y.event) x xs)
  where
    one : (base task : ℕ) (event : Event) (js : List Joined) (n : ℕ) → count_by (λ j. j.task == task) js ≡ n →
        count_by (λ j. j.task == task) (cons_option (joined_by base event) js) ≡ cond (is_join_of task event) 1 0 + n
    one base task (Join slot task' cost period early) js n e =
        count_by-cons (λ j. j.task == task) (record { task = task'; slot = slot; weight = share_of base cost period; early = early }) js ∙ ap (λ m. cond (task' == task) 1 0 + m) e
    one base task (Leave slot task') js n e = omega arith
    one base task (Delay slot task' by) js n e = omega arith
    one base task (Limit slot count) js n e = omega arith

pub inside_count : (base task : ℕ) (xs : List Numbered) → count_by (λ j. j.task == task) (inside base xs) ≤ joins_of task xs
unfolding inside
inside_count base task xs = omega (
  arith,
  joined_count base task xs,
  count_by-filter-le (λ j. j.task == task) (λ j. not (has_left xs j.task)) (filter_map (join_of base) xs),
)

-- the count and the shifts, one event further
pub count_push : (m : ℕ) (xs : List Numbered) (x : Numbered) → count_of m (xs ++ x ∷ []) ≡ count_after (count_of m xs) x.event
unfolding count_of
count_push m xs x = fold_push (λ count y. count_after count y.event) m xs x

pub shift_push : (r : List Slot) (xs : List Numbered) (x : Numbered) (j : Joined) (i : ℕ) →
    shift_of r (xs ++ x ∷ []) j i ≡ shift_of r xs j i + hold_back_of r j.task i x.event
unfolding shift_of
shift_push r xs x j i = omega (arith, sum_by_push (λ y. hold_back_of r j.task i y.event) xs x)

-- an event that is no delay shifts nothing
abbrev pub ShiftsNone : Event → Type 0
ShiftsNone event = (r : List Slot) (task i : ℕ) → hold_back_of r task i event ≡ 0

pub member_push_other : (r : List Slot) (xs : List Numbered) (x : Numbered) → ShiftsNone x.event → (j : Joined) →
    member_of r (xs ++ x ∷ []) j ≡ member_of r xs j
unfolding member_of
member_push_other r xs x none j =
    let shift : shift_of r (xs ++ x ∷ []) j (next_sub r j.task) ≡ shift_of r xs j (next_sub r j.task) =
    omega (arith, shift_push r xs x j (next_sub r j.task), none r j.task (next_sub r j.task)) in
    let last : shift_of r (xs ++ x ∷ []) j (done r j.task (length r)) ≡ shift_of r xs j (done r j.task (length r)) =
    omega (arith, shift_push r xs x j (done r j.task (length r)), none r j.task (done r j.task (length r))) in
    ap₂ (λ s l. record { weight = j.weight; joined = j.slot; early = j.early; done = done r j.task (length r); shift = s; last = l }) shift last
