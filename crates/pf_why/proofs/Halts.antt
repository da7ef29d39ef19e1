-- The stop of a task's clock that a slot is in, event by event.
use Rattle.std.proofs.Common.{◌≡◌, ◌∙◌, ℕ, ◌+◌, ◌*◌, ◌^◌, ◌<◌, ◌≤◌, ◌==◌, Bool, true, false, cond, take, find, filter_map, map, sum_by, Option, None, Some, List, [], ◌∷◌, ◌++◌, length, All, Contains, refl, sym, ap, ap₂, arith}
use Rattle.std.specs.List.{cons_option}
use Rattle.std.specs.Option.{option_or}
use Rattle.std.proofs.lemmas.List.{append-nil, length-take-le}
use Rattle.std.proofs.lemmas.List.Elements.{All-push, All-take}
use Rattle.std.proofs.lemmas.List.Sums.{sum_by-le, sum_by_push}
use Rattle.pf_scenario.specs.Event.{slot_of}
use Rattle.pf_scenario.specs.declared.event.Numbered.{Numbered}
use Rattle.pf_scenario.specs.declared.limits.TheConstants.{LONGEST_DELAY}
use Rattle.pf_run.specs.Record.{Slot}
use Rattle.pf_run.specs.Inside.{Joined, join_of}
use Rattle.pf_run.proofs.Containing.{contains_head, contains_tail}
use Rattle.pf_tally.specs.Clock.{next_at, stop_by}
use Rattle.pf_tally.specs.Held.{AreDelays, delay_from, held_by, stop_of}
use Rattle.pf_tally.specs.Log.{RiseFrom}
use Rattle.pf_tally.proofs.Delays.{stops_are}
use Rattle.pf_why.specs.Upcoming.{brought_in, halt_among, halt_behind, halt_from, halt_held}

-- Use: the shift stays small.
pub shift_room : (j : Joined) (xs : List Numbered) (shift k : ℕ) → AreDelays j xs → k ≤ length xs
    → shift ≡ j.slot + sum_by (λ x. delay_from j x.event) (take k xs) → shift < 2 ^ 40
shift_room j xs shift k delays within is =
    let sum : sum_by (λ x. delay_from j x.event) (take k xs) ≤ length (take k xs) * LONGEST_DELAY =
    sum_by-le (λ x. delay_from j x.event) LONGEST_DELAY (take k xs) (All-take (λ x. delay_from j x.event ≤ LONGEST_DELAY) k xs delays.short) in
    omega (arith, sum, length-take-le k xs within, is, delays.joined, delays.few)

-- the stop by one event, as the run and as the slots in which the task ran tell it
halt_is : (r : List Slot) (j : Joined) (t shift : ℕ) (before : List Numbered) (x : Numbered) → All (λ y. slot_of y.event ≤ slot_of x.event) before
    → shift ≡ j.slot + sum_by (λ x. delay_from j x.event) before
    → halt_among x.id t (stop_by r before j x.event) ≡ halt_held (next_at r j) j t shift x
halt_is r j t shift before x earlier is =
    let one = stops_are r j before (x ∷ []) (slot_of x.event) shift (omega arith, tt) earlier is in
    ap (halt_among x.id t)
    (sym (append-nil (stop_by r before j x.event)) ∙ one
    ∙ ap (map (stop_of j.weight)) (append-nil (held_by (next_at r j) j shift x.event)))

-- Use: the stop that a slot is in.
pub halts_are : (r : List Slot) (j : Joined) (t : ℕ) (before xs : List Numbered) (u shift : ℕ) → RiseFrom u xs → All (λ y. slot_of y.event ≤ u) before
    → shift ≡ j.slot + sum_by (λ x. delay_from j x.event) before → halt_behind r j t before xs ≡ halt_from (next_at r j) j t shift xs
halts_are r j t before [] u shift rise earlier is = refl
halts_are r j t before (x ∷ xs) u shift rise earlier is =
    let first : u ≤ slot_of x.event = rise.0 in
    let all : All (λ y. slot_of y.event ≤ slot_of x.event) before = λ k d within. omega (arith, earlier k d within) in
    ap₂ (λ a b. option_or a b) (halt_is r j t shift before x all is)
    (halts_are r j t (before ++ x ∷ []) xs (slot_of x.event) (shift + delay_from j x.event) rise.1
    (All-push (λ y. slot_of y.event ≤ slot_of x.event) before x all (omega arith))
    (omega (arith, is, sum_by_push (λ x. delay_from j x.event) before x)))

-- Use: a task that is brought is brought by one of the events.
pub record IsBrought (base : ℕ) (xs : List Numbered) (j : Joined) : Type 0 where
  pub join : Numbered
  pub among : Contains xs join
  pub brings : join_of base join ≡ Some j

-- an event more before the others
later : (base : ℕ) (x : Numbered) (xs : List Numbered) (j : Joined) → IsBrought base xs j → IsBrought base (x ∷ xs) j
later base x xs j b = record { join = b.join; among = contains_tail x xs b.join b.among; brings = b.brings }

one : (base task : ℕ) (x : Numbered) (xs : List Numbered) (j k : Joined) → (brought_in base xs task ≡ Some j → IsBrought base xs j)
    → join_of base x ≡ Some k → (b : Bool) → cond b (Some k) (brought_in base xs task) ≡ Some j → IsBrought base (x ∷ xs) j
one base task x xs j k rest brings true found =
    let same : k ≡ j = cc in record { join = x; among = contains_head x xs; brings = brings ∙ ap Some same }
one base task x xs j k rest brings false found = later base x xs j (rest found)

first_or_later : (base task : ℕ) (x : Numbered) (xs : List Numbered) (j : Joined) → (brought_in base xs task ≡ Some j → IsBrought base xs j)
    → (o : Option Joined) → join_of base x ≡ o → find (λ j. j.task == task) (cons_option o (filter_map (join_of base) xs)) ≡ Some j
    → IsBrought base (x ∷ xs) j
first_or_later base task x xs j rest None brings found = later base x xs j (rest found)
first_or_later base task x xs j rest (Some k) brings found = one base task x xs j k rest brings (k.task == task) found

pub brought_by : (base task : ℕ) (xs : List Numbered) (j : Joined) → brought_in base xs task ≡ Some j → IsBrought base xs j
brought_by base task [] j is = cc
brought_by base task (x ∷ xs) j is = first_or_later base task x xs j (λ found. brought_by base task xs j found) (join_of base x) refl is
