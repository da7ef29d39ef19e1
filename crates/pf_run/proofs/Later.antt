-- How often a task ran and how far it is shifted, one slot further.
use Rattle.std.proofs.Common.{◌≡◌, ℕ, ◌+◌, ◌≤◌, ◌&&◌, ◌==◌, nat_le, cond, List, [], ◌∷◌, ◌++◌, length, count_by, All, refl, sym, ap, ◌∙◌, arith}
use Rattle.std.proofs.lemmas.Bool.{le-leb}
use Rattle.std.proofs.lemmas.List.{take_all, take-append-le}
use Rattle.std.proofs.lemmas.List.Sums.{sum_by_push, sum_by-take-le}
use Rattle.std.proofs.lemmas.List.Elements.{All-weaker}
use Rattle.pf_lemmas.proofs.Sums.{sum_by-agree}
use Rattle.pf_scenario.specs.Event.{slot_of}
use Rattle.pf_scenario.specs.declared.event.Event.{Event}
use Rattle.pf_scenario.specs.declared.event.Event.TheVariants.{Join, Leave, Delay, Limit}
use Rattle.pf_scenario.specs.declared.event.Numbered.{Numbered}
use Rattle.pf_run.specs.Record.{Slot, runs, done, next_sub}
use Rattle.pf_run.specs.Inside.{Joined, hold_back_of, shift_of}

-- how often a task ran, one slot further
pub done_all : (r : List Slot) (task : ℕ) → done r task (length r) ≡ count_by (runs task) r
unfolding done
done_all r task = ap (count_by (runs task)) (take_all (length r) r (omega arith))

pub done_most : (r : List Slot) (task t : ℕ) → done r task t ≤ count_by (runs task) r
unfolding done
done_most r task t = sum_by-take-le (λ d. cond (runs task d) 1 0) r t

done_before : (r : List Slot) (d : Slot) (task t : ℕ) → t ≤ length r → done (r ++ d ∷ []) task t ≡ done r task t
unfolding done
done_before r d task t within = ap (count_by (runs task)) (take-append-le t r (d ∷ []) within)

pub runs_push : (r : List Slot) (d : Slot) (task : ℕ) → count_by (runs task) (r ++ d ∷ []) ≡ count_by (runs task) r + cond (runs task d) 1 0
runs_push r d task = sum_by_push (λ e. cond (runs task e) 1 0) r d

-- what a delay holds back, one slot further
held_same : (r : List Slot) (d : Slot) (task i : ℕ) (event : Event) → slot_of event ≤ length r →
    hold_back_of (r ++ d ∷ []) task i event ≡ hold_back_of r task i event
held_same r d task i (Delay slot task' by) within =
    ap (λ n. cond ((task' == task) && nat_le (n + 1) i) by 0) (done_before r d task slot within)
held_same r d task i (Join slot task' cost period early) within = refl
held_same r d task i (Leave slot task') within = refl
held_same r d task i (Limit slot count) within = refl

-- each delay so far counts for the next subtask, and for those after it
held_later : (r : List Slot) (task i : ℕ) (event : Event) → next_sub r task ≤ i →
    hold_back_of r task i event ≡ hold_back_of r task (next_sub r task) event
held_later r task i (Delay slot task' by) later =
    let before : done r task slot + 1 ≤ next_sub r task = omega (arith, done_most r task slot, done_all r task) in
    ap (λ b. cond ((task' == task) && b) by 0)
    (le-leb (done r task slot + 1) i (omega arith) ∙ sym (le-leb (done r task slot + 1) (next_sub r task) before))
held_later r task i (Join slot task' cost period early) later = refl
held_later r task i (Leave slot task') later = refl
held_later r task i (Limit slot count) later = refl

pub shift_same : (r : List Slot) (d : Slot) (xs : List Numbered) (j : Joined) (i : ℕ) → All (λ x. slot_of x.event ≤ length r) xs →
    shift_of (r ++ d ∷ []) xs j i ≡ shift_of r xs j i
unfolding shift_of
shift_same r d xs j i past = ap (λ n. j.slot + n) (sum_by-agree _ _ xs
    (All-weaker (λ x. slot_of x.event ≤ length r) (λ x. hold_back_of (r ++ d ∷ []) j.task i x.event ≡ hold_back_of r j.task i x.event)
    (λ x within. held_same r d j.task i x.event within) xs past))

pub shift_later : (r : List Slot) (xs : List Numbered) (j : Joined) (i : ℕ) → next_sub r j.task ≤ i →
    shift_of r xs j i ≡ shift_of r xs j (next_sub r j.task)
unfolding shift_of
shift_later r xs j i later = ap (λ n. j.slot + n)
    (sum_by-agree _ _ xs (λ k e within. held_later r j.task i _ later))
