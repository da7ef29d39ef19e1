-- The tasks inside after events in force, by their joins and leaves.
use Rattle.std.proofs.Common.{◌≡◌, ℕ, ◌+◌, ◌≤◌, ◌==◌, ◌||◌, Bool, true, false, not, Option, None, Some, List, [], ◌∷◌, ◌++◌, ◌<◌, get_or, cond, find, filter, filter_map, sum_by, take, length, refl, sym, ap, ◌∙◌, arith}
use Rattle.std.specs.List.{list_any, cons_option}
use Rattle.std.specs.Option.{option_and_then}
use Rattle.std.proofs.lemmas.Bool.{eqb-true}
use Rattle.std.proofs.lemmas.List.{take_all, take_more}
use Rattle.std.proofs.lemmas.List.Elements.{filter_map-append}
use Rattle.std.proofs.lemmas.List.Sums.{sum_by-cons}
use Rattle.std.proofs.lemmas.List.Sorted.{list_any-IsPermutation}
use Rattle.pf_lemmas.proofs.Finding.{missed_any, find-filter}
use Rattle.pf_weight.specs.Share.{share_of}
use Rattle.pf_scenario.specs.Event.{is_join_of, is_leave_of}
use Rattle.pf_scenario.specs.declared.event.Event.{Event}
use Rattle.pf_scenario.specs.declared.event.Event.TheVariants.{Join, Leave, Delay, Limit}
use Rattle.pf_scenario.specs.declared.event.Numbered.{Numbered}
use Rattle.pf_run.specs.Inside.{Joined, joined_by, join_of, has_left, inside, load_of}
use Rattle.pf_notes.specs.Absence.{join_among, leave_among}
use Rattle.pf_notes.specs.Point.{joined_at}
use Rattle.pf_notes.specs.Leavers.{leaver_of, left_by, AreLeavers, units_beside, units_staying}
use Rattle.pf_notes.proofs.Finding.{found_any}

brings : (base task : ℕ) (x : Numbered) (event : Event) (js : List Joined) (o : Option Numbered) → event ≡ x.event →
    find (λ j. j.task == task) js ≡ option_and_then (join_of base) o →
    find (λ j. j.task == task) (cons_option (joined_by base event) js) ≡ option_and_then (join_of base) (cond (is_join_of task event) (Some x) o)
brings base task x (Join slot task' cost period early) js o is e = one (task' == task)
  where
    j : Joined
    j = record { task = task'; slot = slot; weight = share_of base cost period; early = early }

    one : (b : Bool) → cond b (Some j) (find (λ j. j.task == task) js) ≡ option_and_then (join_of base) (cond b (Some x) o)
    one true = ap (joined_by base) is
    one false = e
brings base task x (Leave slot task') js o is e = e
brings base task x (Delay slot task' by) js o is e = e
brings base task x (Limit slot count) js o is e = e

-- the task among those that joined
joined_first : (base task : ℕ) (xs : List Numbered) →
    find (λ j. j.task == task) (filter_map (join_of base) xs) ≡ option_and_then (join_of base) (join_among task xs)
joined_first base task [] = refl
joined_first base task (x ∷ xs) =
    brings base task x x.event (filter_map (join_of base) xs) (join_among task xs) refl (joined_first base task xs)

joined_is : (base task : ℕ) (xs : List Numbered) →
    joined_at base xs task ≡ cond (not (has_left xs task)) (option_and_then (join_of base) (join_among task xs)) None
unfolding inside
joined_is base task xs =
    find-filter (λ j. j.task == task) (λ j. not (has_left xs j.task)) (not (has_left xs task))
    (λ j is. ap (λ t. not (has_left xs t)) (eqb-true j.task task is)) (filter_map (join_of base) xs)
    ∙ ap (λ o. cond (not (has_left xs task)) o None) (joined_first base task xs)

-- Use: a task whose leave was found is not inside.
pub joined_left : (base task : ℕ) (xs : List Numbered) (x : Numbered) → leave_among task xs ≡ Some x → None ≡ joined_at base xs task
joined_left base task xs x found =
    sym (joined_is base task xs
    ∙ ap (λ b. cond (not b) (option_and_then (join_of base) (join_among task xs)) None) (found_any (λ x. is_leave_of task x.event) xs x found))

-- Use: a task with no leave is inside where it joined.
pub joined_stays : (base task : ℕ) (xs : List Numbered) → leave_among task xs ≡ None →
    option_and_then (join_of base) (join_among task xs) ≡ joined_at base xs task
joined_stays base task xs none =
    sym (joined_is base task xs
    ∙ ap (λ b. cond (not b) (option_and_then (join_of base) (join_among task xs)) None) (missed_any (λ x. is_leave_of task x.event) xs none))

-- who leaves
leaves : (task : ℕ) (event : Event) (ts : List ℕ) (b : Bool) → list_any (λ n. n == task) ts ≡ b →
    list_any (λ n. n == task) (cons_option (leaver_of event) ts) ≡ (is_leave_of task event || b)
leaves task (Join slot task' cost period early) ts b e = e
leaves task (Leave slot task') ts b e = ap (λ c. (task' == task) || c) e
leaves task (Delay slot task' by) ts b e = e
leaves task (Limit slot count) ts b e = e

left_is : (task : ℕ) (xs : List Numbered) → list_any (λ n. n == task) (filter_map left_by xs) ≡ has_left xs task
left_is task [] = refl
left_is task (x ∷ xs) = leaves task x.event (filter_map left_by xs) (has_left xs task) (left_is task xs)

leaver_is : (task : ℕ) (xs : List Numbered) (tasks : List ℕ) → AreLeavers xs tasks → list_any (λ n. n == task) tasks ≡ has_left xs task
leaver_is task xs tasks are = sym (list_any-IsPermutation (λ n. n == task) (filter_map left_by xs) tasks are.same) ∙ left_is task xs

zero_more : (n : ℕ) → n ≡ 0 + n
zero_more n = omega arith

kept_units : (zs : List Numbered) (left : List ℕ) (j : Joined) (js : List Joined) (n : ℕ) → list_any (λ n. n == j.task) left ≡ has_left zs j.task →
    sum_by (λ j. j.weight.units) (filter (λ j. not (has_left zs j.task)) js) ≡ n →
    sum_by (λ j. j.weight.units) (filter (λ j. not (has_left zs j.task)) (j ∷ js)) ≡ units_beside left j + n
kept_units zs left j js n same e = by (has_left zs j.task) ∙ ap (λ b. cond b 0 j.weight.units + n) (sym same)
  where
    kept : List Joined
    kept = filter (λ j. not (has_left zs j.task)) js

    by : (b : Bool) → sum_by (λ j. j.weight.units) (cond (not b) (j ∷ kept) kept) ≡ cond b 0 j.weight.units + n
    by true = e ∙ zero_more n
    by false = sum_by-cons (λ (j : Joined). j.weight.units) j kept ∙ ap (λ m. j.weight.units + m) e

units_more : (base : ℕ) (zs : List Numbered) (left : List ℕ) (event : Event) (js : List Joined) (n : ℕ) →
    ((task : ℕ) → list_any (λ n. n == task) left ≡ has_left zs task) →
    sum_by (λ j. j.weight.units) (filter (λ j. not (has_left zs j.task)) js) ≡ n →
    sum_by (λ j. j.weight.units) (filter (λ j. not (has_left zs j.task)) (cons_option (joined_by base event) js)) ≡ units_staying base left event + n
units_more base zs left (Join slot task cost period early) js n same e =
    kept_units zs left (record { task = task; slot = slot; weight = share_of base cost period; early = early }) js n (same task) e
units_more base zs left (Leave slot task) js n same e = e ∙ zero_more n
units_more base zs left (Delay slot task by) js n same e = e ∙ zero_more n
units_more base zs left (Limit slot count) js n same e = e ∙ zero_more n

units_are : (base : ℕ) (zs : List Numbered) (left : List ℕ) (xs : List Numbered) →
    ((task : ℕ) → list_any (λ n. n == task) left ≡ has_left zs task) →
    sum_by (λ j. j.weight.units) (filter (λ j. not (has_left zs j.task)) (filter_map (join_of base) xs))
    ≡ sum_by (λ x. units_staying base left x.event) xs
units_are base zs left [] same = refl
units_are base zs left (x ∷ xs) same =
    units_more base zs left x.event (filter_map (join_of base) xs) (sum_by (λ x. units_staying base left x.event) xs) same (units_are base zs left xs same)
    ∙ sym (sum_by-cons (λ x. units_staying base left x.event) x xs)

-- Use: the units of those that stay are the load.
pub load_is : (base k load : ℕ) (left : List ℕ) (xs : List Numbered) → AreLeavers xs left → length xs ≤ k →
    load ≡ sum_by (λ x. units_staying base left x.event) (take k xs) → load ≡ load_of base xs
unfolding load_of inside
load_is base k load left xs are whole is =
    is ∙ ap (sum_by (λ x. units_staying base left x.event)) (take_all k xs whole)
    ∙ sym (units_are base xs left xs (λ task. leaver_is task xs left are))

-- Use: one event further.
pub leaving_more : (k : ℕ) (xs : List Numbered) (d : Numbered) (old new : List ℕ) → k < length xs →
    new ≡ old ++ cons_option (leaver_of (get_or xs k d).event) [] → old ≡ filter_map left_by (take k xs) → new ≡ filter_map left_by (take (k + 1) xs)
leaving_more k xs d old new within is so_far =
    is ∙ ap (λ tasks. tasks ++ cons_option (leaver_of (get_or xs k d).event) []) so_far
    ∙ sym (ap (filter_map left_by) (take_more xs k d within) ∙ filter_map-append left_by (take k xs) (get_or xs k d ∷ []))
