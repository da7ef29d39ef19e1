-- Of a task only its own events count: for its shifts, its clock, its leave and its misses.
use Rattle.std.proofs.Common.{◌≡◌, ℕ, ◌+◌, ◌-◌, ◌<◌, ◌≤◌, true, false, ◌&&◌, ◌==◌, nat_le, not, cond, Option, None, Some, List, [], ◌∷◌, ◌++◌, length, take, get_or, filter, find, count_by, sum_by, ⊎_elim, refl, sym, ap, ap₂, ◌∙◌, subst, arith}
use Rattle.std.specs.List.{range_with_len}
use Rattle.std.specs.Option.{option_map_or}
use Rattle.std.proofs.lemmas.Bool.{cases_Bool, cond-false}
use Rattle.std.proofs.lemmas.List.{append-nil, take_all, take_more}
use Rattle.std.proofs.lemmas.List.Elements.{All-filter, filter-append}
use Rattle.std.proofs.lemmas.Map.Views.{any-filter_same}
use Rattle.std.proofs.lemmas.List.Sums.{sum_by-cons, length-filter, count_by-le-length}
use Rattle.pf_lemmas.proofs.Filters.{filter_same}
use Rattle.pf_window.specs.Window.{release_of}
use Rattle.pf_scenario.specs.Event.{slot_of, task_of, is_leave_of}
use Rattle.pf_scenario.specs.declared.event.Event.{Event}
use Rattle.pf_scenario.specs.declared.event.Event.TheVariants.{Join, Leave, Delay, Limit}
use Rattle.pf_scenario.specs.declared.event.Numbered.{Numbered}
use Rattle.pf_scenario.specs.declared.limits.TheConstants.{LONGEST_DELAY}
use Rattle.pf_run.specs.Record.{Slot, done}
use Rattle.pf_run.specs.Inside.{Joined, has_left, hold_back_of, shift_of}
use Rattle.pf_tally.specs.Clock.{Stop, next_at, stop_by, stops_behind, is_stopped, clock_of}
use Rattle.pf_tally.specs.Misses.{leaves_after}
use Rattle.pf_tally.specs.Log.{RiseFrom}
use Rattle.pf_tally.specs.Held.{delay_from, CanTally}
use Rattle.pf_collections.specs.Table.Lists.{noted_of}
use Rattle.pf_tally.specs.Own.{is_own, events_of_task, AreDiaries}

-- an event of another task, or of none, holds nothing back, stops no clock and is no leave
back_of_other : (r : List Slot) (task i : ℕ) (x : Event) → is_own task x ≡ false → hold_back_of r task i x ≡ 0
back_of_other r task i (Delay slot task' by) other = ap (λ b. cond (b && nat_le (done r task slot + 1) i) by 0) other
back_of_other r task i (Join slot task' cost period early) other = refl
back_of_other r task i (Leave slot task') other = refl
back_of_other r task i (Limit slot count) other = refl

stop_of_other : (r : List Slot) (before : List Numbered) (j : Joined) (x : Event) → is_own j.task x ≡ false → stop_by r before j x ≡ []
stop_of_other r before j (Delay slot task by) other =
    let start = release_of j.weight (next_at r j slot) + shift_of r before j (next_at r j slot) in
    let stop : Stop = record { start = start; end = start + by } in
    cond-false (task == j.task) (stop ∷ []) [] other
stop_of_other r before j (Join slot task cost period early) other = refl
stop_of_other r before j (Leave slot task) other = refl
stop_of_other r before j (Limit slot count) other = refl

leave_of_other : (task : ℕ) (x : Event) → is_own task x ≡ false → is_leave_of task x ≡ false
leave_of_other task (Leave slot task') other = other
leave_of_other task (Join slot task' cost period early) other = refl
leave_of_other task (Delay slot task' by) other = refl
leave_of_other task (Limit slot count) other = refl

-- the own events of one event and others
own_one : (task : ℕ) (x : Numbered) (xs : List Numbered) → is_own task x.event ≡ true → events_of_task task (x ∷ xs) ≡ x ∷ events_of_task task xs
own_one task x xs is = ap (λ b. cond b (x ∷ events_of_task task xs) (events_of_task task xs)) is

own_other : (task : ℕ) (x : Numbered) (xs : List Numbered) → is_own task x.event ≡ false → events_of_task task (x ∷ xs) ≡ events_of_task task xs
own_other task x xs other = ap (λ b. cond b (x ∷ events_of_task task xs) (events_of_task task xs)) other

-- the shift of each subtask
backs_own : (r : List Slot) (task i : ℕ) (xs : List Numbered) → sum_by (λ x. hold_back_of r task i x.event) (events_of_task task xs) ≡ sum_by (λ x. hold_back_of r task i x.event) xs
backs_own r task i [] = refl
backs_own r task i (x ∷ xs) =
    let rest = backs_own r task i xs in
    let whole = sum_by-cons (λ x. hold_back_of r task i x.event) x xs in
    ⊎_elim
    (λ is. ap (sum_by (λ x. hold_back_of r task i x.event)) (own_one task x xs is) ∙ sum_by-cons (λ x. hold_back_of r task i x.event) x (events_of_task task xs)
    ∙ ap (λ n. hold_back_of r task i x.event + n) rest ∙ sym whole)
    (λ other. ap (sum_by (λ x. hold_back_of r task i x.event)) (own_other task x xs other) ∙ rest ∙ (omega (arith, whole, back_of_other r task i x.event other)))
    (cases_Bool (is_own task x.event))

pub shift_own : (r : List Slot) (xs : List Numbered) (j : Joined) → shift_of r (events_of_task j.task xs) j ≡ shift_of r xs j
unfolding shift_of
shift_own r xs j = λ k i. j.slot + backs_own r j.task i xs k

-- the stops of its clock
stop_own : (r : List Slot) (before : List Numbered) (j : Joined) (x : Event) → stop_by r (events_of_task j.task before) j x ≡ stop_by r before j x
stop_own r before j (Delay slot task by) =
    let sub = next_at r j slot in
    ap (λ (shift : ℕ → ℕ). let start = release_of j.weight sub + shift sub in let stop : Stop = record { start = start; end = start + by } in cond (task == j.task) (stop ∷ []) [])
    (shift_own r before j)
stop_own r before j (Join slot task cost period early) = refl
stop_own r before j (Leave slot task) = refl
stop_own r before j (Limit slot count) = refl

pub stops_own : (r : List Slot) (j : Joined) (before xs : List Numbered) → stops_behind r j (events_of_task j.task before) (events_of_task j.task xs) ≡ stops_behind r j before xs
stops_own r j before [] = refl
stops_own r j before (x ∷ xs) =
    let rest = stops_own r j (before ++ x ∷ []) xs in
    let more : events_of_task j.task (before ++ x ∷ []) ≡ events_of_task j.task before ++ events_of_task j.task (x ∷ []) = filter-append (λ x. is_own j.task x.event) before (x ∷ []) in
    ⊎_elim
    (λ is.
    ap (stops_behind r j (events_of_task j.task before)) (own_one j.task x xs is)
    ∙ ap₂ (λ a b. a ++ b) (stop_own r before j x.event)
    (ap (λ ys. stops_behind r j ys (events_of_task j.task xs)) (sym (more ∙ ap (λ ys. events_of_task j.task before ++ ys) (own_one j.task x [] is))) ∙ rest))
    (λ other.
    ap (stops_behind r j (events_of_task j.task before)) (own_other j.task x xs other)
    ∙ ap (λ ys. stops_behind r j ys (events_of_task j.task xs)) (sym (more ∙ ap (λ ys. events_of_task j.task before ++ ys) (own_other j.task x [] other) ∙ append-nil (events_of_task j.task before)))
    ∙ rest
    ∙ ap (λ ss. ss ++ stops_behind r j (before ++ x ∷ []) xs) (sym (stop_of_other r before j x.event other)))
    (cases_Bool (is_own j.task x.event))

pub clock_own : (r : List Slot) (xs : List Numbered) (j : Joined) (n : ℕ) → clock_of r (events_of_task j.task xs) j n ≡ clock_of r xs j n
unfolding clock_of
clock_own r xs j n = ap (λ ss. count_by (λ t. not (is_stopped ss t)) (range_with_len j.slot (n - j.slot))) (stops_own r j [] xs)

-- its leave
leave_is_own : (task : ℕ) (x : Event) → is_leave_of task x ≡ true → is_own task x ≡ true
leave_is_own task (Leave slot task') is = is
leave_is_own task (Join slot task' cost period early) is = cc
leave_is_own task (Delay slot task' by) is = cc
leave_is_own task (Limit slot count) is = cc

left_own : (xs : List Numbered) (task : ℕ) → has_left (events_of_task task xs) task ≡ has_left xs task
left_own xs task = any-filter_same (λ x. is_leave_of task x.event) (λ x. is_own task x.event) true (λ x is. leave_is_own task x.event is) xs

-- Use: the tasks that stay, by their own events.
pub staying_own : (xs : List Numbered) (table : List (List Numbered)) (js : List Joined) → AreDiaries xs table →
    filter (λ j. not (has_left (noted_of table j.task) j.task)) js ≡ filter (λ j. not (has_left xs j.task)) js
staying_own xs table js are =
    filter_same (λ j. not (has_left (noted_of table j.task) j.task)) (λ j. not (has_left xs j.task)) js
    (λ k d within. let task = (get_or js k d).task in ap (λ ys. not (has_left ys task)) (are.each task) ∙ ap not (left_own xs task))

pub find_own : (xs : List Numbered) (task : ℕ) → find (λ x. is_leave_of task x.event) (events_of_task task xs) ≡ find (λ x. is_leave_of task x.event) xs
find_own [] task = refl
find_own (x ∷ xs) task =
    let rest = find_own xs task in
    ⊎_elim
    (λ is. ap (find (λ x. is_leave_of task x.event)) (own_one task x xs is) ∙ ap (λ found. cond (is_leave_of task x.event) (Some x) found) rest)
    (λ other.
    ap (find (λ x. is_leave_of task x.event)) (own_other task x xs other)
    ∙ rest
    ∙ sym (cond-false (is_leave_of task x.event) (Some x) (find (λ x. is_leave_of task x.event) xs) (leave_of_other task x.event other)))
    (cases_Bool (is_own task x.event))

pub leaves_own : (xs : List Numbered) (j : Joined) → leaves_after (events_of_task j.task xs) j ≡ leaves_after xs j
leaves_own xs j = λ k t. option_map_or (λ x. nat_le t (slot_of x.event)) (find_own xs j.task k) true

-- what is known of the task
rise_lower : (u v : ℕ) (xs : List Numbered) → u ≤ v → RiseFrom v xs → RiseFrom u xs
rise_lower u v [] lower rise = tt
rise_lower u v (x ∷ xs) lower rise = let first : v ≤ slot_of x.event = rise.0 in (omega arith, rise.1)

rise_own : (u task : ℕ) (xs : List Numbered) → RiseFrom u xs → RiseFrom u (events_of_task task xs)
rise_own u task [] rise = tt
rise_own u task (x ∷ xs) rise =
    let P : List Numbered → Type 0 = RiseFrom u in
    let rest = rise_own (slot_of x.event) task xs rise.1 in
    ⊎_elim
    (λ is. subst P (sym (own_one task x xs is)) (rise.0, rest))
    (λ other. subst P (sym (own_other task x xs other)) (rise_lower u (slot_of x.event) (events_of_task task xs) rise.0 rest))
    (cases_Bool (is_own task x.event))

-- Use: it can be tallied by its own events.
pub can_own : (j : Joined) (ran : List ℕ) (xs : List Numbered) (n : ℕ) → CanTally j ran xs n → CanTally j ran (events_of_task j.task xs) n
can_own j ran xs n can = record {
  number = can.number;
  share = can.share;
  joined = can.joined;
  ran_rise = can.ran_rise;
  ran_within = can.ran_within;
  within = can.within;
  rise = rise_own 0 j.task xs can.rise;
  delays = record {
    joined = can.delays.joined;
    short = All-filter (λ x. is_own j.task x.event) (λ x. delay_from j x.event ≤ LONGEST_DELAY) xs can.delays.short;
    few = omega (arith, can.delays.few, length-filter (λ x. is_own j.task x.event) xs, count_by-le-length (λ x. is_own j.task x.event) xs);
  };
}

-- The walk that notes each event of the task that it is of: before any, after one more, and after all.
pub no_diaries : (xs : List Numbered) (table : List (List Numbered)) → ((task : ℕ) → noted_of table task ≡ []) → AreDiaries (take 0 xs) table
no_diaries xs table empty = record { each = empty }

own_push : (task : ℕ) (xs : List Numbered) (x : Numbered) (owner : Option ℕ) → owner ≡ task_of x.event →
    events_of_task task (xs ++ x ∷ []) ≡ events_of_task task xs ++ cond (option_map_or (λ o. o == task) owner false) (x ∷ []) []
own_push task xs x owner of_owner =
    filter-append (λ x. is_own task x.event) xs (x ∷ [])
    ∙ ap (λ owner. events_of_task task xs ++ cond (option_map_or (λ o. o == task) owner false) (x ∷ []) []) (sym of_owner)

pub diary_none : (xs : List Numbered) (table : List (List Numbered)) (k : ℕ) (d : Numbered) → k < length xs → None ≡ task_of (get_or xs k d).event →
    AreDiaries (take k xs) table → AreDiaries (take (k + 1) xs) table
diary_none xs table k d within of_owner before =
    let P : List Numbered → Type 0 = λ ys. AreDiaries ys table in
    subst P (sym (take_more xs k d within)) (record {
      each = λ task. before.each task ∙ sym (own_push task (take k xs) (get_or xs k d) None of_owner ∙ append-nil (events_of_task task (take k xs)));
    })

pub diary_some : (xs : List Numbered) (table after : List (List Numbered)) (k owner : ℕ) (d : Numbered) → k < length xs → Some owner ≡ task_of (get_or xs k d).event →
    ((task : ℕ) → noted_of after task ≡ noted_of table task ++ cond (owner == task) (get_or xs k d ∷ []) []) →
    AreDiaries (take k xs) table → AreDiaries (take (k + 1) xs) after
diary_some xs table after k owner d within of_owner noted before =
    let x = get_or xs k d in
    let P : List Numbered → Type 0 = λ ys. AreDiaries ys after in
    subst P (sym (take_more xs k d within)) (record {
      each = λ task.
          noted task ∙ ap (λ ys. ys ++ cond (owner == task) (x ∷ []) []) (before.each task)
          ∙ sym (own_push task (take k xs) x (Some owner) of_owner);
    })

pub all_diaries : (xs : List Numbered) (table : List (List Numbered)) (k : ℕ) → length xs ≤ k → AreDiaries (take k xs) table → AreDiaries xs table
all_diaries xs table k over are = let P : List Numbered → Type 0 = λ ys. AreDiaries ys table in subst P (take_all k xs over) are
