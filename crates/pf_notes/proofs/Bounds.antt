-- What a task's last quantum says of its leave and of its next subtask.
use Rattle.std.proofs.Common.{◌≡◌, ℕ, ◌+◌, ◌<◌, ◌≤◌, Bool, true, false, ◌&&◌, ◌==◌, nat_le, cond, Option, None, Some, List, [], ◌∷◌, ◌++◌, length, take, get_or, sum_by, All, refl, sym, ap, ap₂, ◌∙◌, ⊎_elim, arith}
use Rattle.std.proofs.lemmas.Bool.{cases_lt, le-leb, cond-true, cond-false, eq-eqb, ne_eqb}
use Rattle.std.proofs.lemmas.Bool.Decides.{nat_tests}
use Rattle.std.proofs.lemmas.List.{length-take-le}
use Rattle.std.proofs.lemmas.List.Elements.{All-head, All-tail}
use Rattle.std.proofs.lemmas.List.Sums.{sum_by-cons, sum_by-append}
use Rattle.pf_weight.specs.Share.{is_heavy}
use Rattle.pf_window.specs.Window.{release_of, deadline_of, bit_of}
use Rattle.pf_window.specs.Group.{group_of}
use Rattle.pf_scenario.specs.Event.{slot_of}
use Rattle.pf_scenario.specs.declared.event.Event.{Event}
use Rattle.pf_scenario.specs.declared.event.Event.TheVariants.{Join, Leave, Delay, Limit}
use Rattle.pf_scenario.specs.declared.event.Numbered.{Numbered}
use Rattle.pf_admit.specs.Member.{free_from, due_of_last, next_release}
use Rattle.pf_run.specs.Record.{Slot, done, next_sub}
use Rattle.pf_run.specs.Inside.{Joined, hold_back_of, shift_of, member_of}
use Rattle.pf_tally.proofs.Delays.{done_rises}
use Rattle.pf_notes.specs.Walk.{IsLast, delay_through, delays_through, bound_with, release_with, sub_of}
use Rattle.pf_notes.specs.declared.quantum.Quantum.{Quantum}
use Rattle.pf_notes.proofs.Quanta.{done_front}

-- an event holds subtask i back just where it is of a slot up to `through`
held_is : (q : List Slot) (task i through t : ℕ) (event : Event) → slot_of event ≤ t →
    ((u : ℕ) → u ≤ t → nat_le (done q task u + 1) i ≡ nat_le u through) → hold_back_of q task i event ≡ delay_through task through event
held_is q task i through t (Delay slot task' by) within same = ap (λ b. cond ((task' == task) && b) by 0) (same slot within)
held_is q task i through t (Join slot task' cost period early) within same = refl
held_is q task i through t (Leave slot task') within same = refl
held_is q task i through t (Limit slot count) within same = refl

held_are : (q : List Slot) (task i through t : ℕ) (xs : List Numbered) → All (λ x. slot_of x.event ≤ t) xs →
    ((u : ℕ) → u ≤ t → nat_le (done q task u + 1) i ≡ nat_le u through) →
    sum_by (λ x. hold_back_of q task i x.event) xs ≡ delays_through task through xs
held_are q task i through t [] within same = refl
held_are q task i through t (x ∷ xs) within same =
    sum_by-cons (λ x. hold_back_of q task i x.event) x xs
    ∙ ap₂ (λ a b. a + b) (held_is q task i through t x.event (All-head (λ x. slot_of x.event ≤ t) x xs within) same)
    (held_are q task i through t xs (All-tail (λ x. slot_of x.event ≤ t) x xs within) same)
    ∙ sym (sum_by-cons (λ x. delay_through task through x.event) x xs)

-- Use: delays after a slot do not count up to it.
pub delays_apart : (task through : ℕ) (xs ys zs : List Numbered) → zs ≡ xs ++ ys → All (λ y. through < slot_of y.event) ys →
    delays_through task through zs ≡ delays_through task through xs
delays_apart task through xs ys zs split later =
    ap (delays_through task through) split ∙ sum_by-append (λ x. delay_through task through x.event) xs ys
    ∙ ap (λ n. delays_through task through xs + n) (none ys later) ∙ (let z : delays_through task through xs + 0 ≡ delays_through task through xs = omega arith in z)
  where
    one : (event : Event) → through < slot_of event → delay_through task through event ≡ 0
    one (Delay slot task' by) after = off (task' == task) (nat_le slot through) (let z : nat_le slot through ≡ false = grind (arith, nat_tests, after) in z)
      where
        off : (a b : Bool) → b ≡ false → cond (a && b) by 0 ≡ 0
        off true true e = cc
        off true false e = refl
        off false b e = refl
    one (Join slot task' cost period early) after = refl
    one (Leave slot task') after = refl
    one (Limit slot count) after = refl

    none : (ys : List Numbered) → All (λ y. through < slot_of y.event) ys → delays_through task through ys ≡ 0
    none [] later = refl
    none (y ∷ ys) later =
        sum_by-cons (λ x. delay_through task through x.event) y ys
        ∙ ap₂ (λ a b. a + b) (one y.event (All-head (λ y. through < slot_of y.event) y ys later))
        (none ys (All-tail (λ y. through < slot_of y.event) y ys later))

module _ (r : List Slot) (t : ℕ) (within : t ≤ length r) (xs : List Numbered) (early : All (λ x. slot_of x.event ≤ t) xs) (j : Joined) where
  abbrev pub front : List Slot
  front = take t r

  long : length front ≡ t
  long = length-take-le t r within

  pub done_is : done front j.task (length front) ≡ done r j.task t
  done_is = ap (done front j.task) long ∙ done_front r j.task t t (omega arith)

  -- the subtask that ran last
  last_shift : (q : Quantum) → IsLast r j.task t (Some q) → shift_of front xs j (done front j.task (length front)) ≡ j.slot + delays_through j.task q.slot xs
  unfolding shift_of
  last_shift q last =
      ap (λ n. j.slot + n) (held_are front j.task (done front j.task (length front)) q.slot t xs early
      (λ u lt. ⊎_elim
      (λ (above : q.slot < u).
      let more : done r j.task (q.slot + 1) ≤ done r j.task u = done_rises r j.task (q.slot + 1) u (omega (arith, above)) in
      let after : nat_le u q.slot ≡ false = grind (arith, nat_tests, above) in
      let no : done front j.task (length front) < done front j.task u + 1 =
      omega (arith, done_is, last.3, last.2, done_front r j.task u t lt, more) in
      (let z : nat_le (done front j.task u + 1) (done front j.task (length front)) ≡ false = grind (arith, nat_tests, no) in z) ∙ sym after)
      (λ (upto : u ≤ q.slot).
      let less : done r j.task u ≤ done r j.task q.slot = done_rises r j.task u q.slot upto in
      le-leb (done front j.task u + 1) (done front j.task (length front))
      (omega (arith, done_is, last.3, last.1, done_front r j.task u t lt, less))
      ∙ sym (le-leb u q.slot upto))
      (cases_lt q.slot u)))

  -- the subtask that is next
  next_shift : shift_of front xs j (next_sub front j.task) ≡ j.slot + delays_through j.task t xs
  unfolding shift_of
  next_shift =
      ap (λ n. j.slot + n) (held_are front j.task (next_sub front j.task) t t xs early
      (λ u lt.
      let less : done r j.task u ≤ done r j.task t = done_rises r j.task u t lt in
      le-leb (done front j.task u + 1) (next_sub front j.task) (omega (arith, done_is, done_front r j.task u t lt, less))
      ∙ sym (le-leb u t lt)))

  pub sub_is : (o : Option Quantum) → IsLast r j.task t o → sub_of o ≡ (member_of front xs j).done
  unfolding member_of
  sub_is None last = sym (done_is ∙ last)
  sub_is (Some q) last = sym (done_is ∙ last.3)

  -- Use: the first slot in which the task may leave.
  pub bound_is : (o : Option Quantum) → IsLast r j.task t o → bound_with j xs o ≡ free_from (member_of front xs j)
  unfolding member_of
  bound_is None last =
      let m = member_of front xs j in
      sym (cond-true (done front j.task (length front) == 0) 0 (due_of_last m) (eq-eqb (done front j.task (length front)) 0 (done_is ∙ last)))
  bound_is (Some q) last =
      let m = member_of front xs j in
      let d : done front j.task (length front) ≡ q.sub = done_is ∙ last.3 in
      sym (cond-false (done front j.task (length front) == 0) 0 (due_of_last m)
      (ne_eqb (done front j.task (length front)) 0 (λ e. omega (arith, d, e, last.1)))
      ∙ ap₂ (λ i n. cond (is_heavy j.weight) (group_of j.weight i) (deadline_of j.weight i) + n + bit_of j.weight i) d (last_shift q last))

  -- Use: the release of the next subtask.
  pub release_is : (o : Option Quantum) → IsLast r j.task t o → release_with j xs t o ≡ next_release (member_of front xs j)
  unfolding member_of
  release_is o last =
      ap₂ (λ i n. release_of j.weight (i + 1) + n) (sub_is o last) (sym next_shift)

-- Use: a bound does not rest on events after its quantum.
pub bound_same : (j : Joined) (xs ys zs : List Numbered) (t : ℕ) (o : Option Quantum) (r : List Slot) → zs ≡ xs ++ ys →
    All (λ y. t ≤ slot_of y.event) ys → IsLast r j.task t o → bound_with j zs o ≡ bound_with j xs o
bound_same j xs ys zs t None r split later last = refl
bound_same j xs ys zs t (Some q) r split later last =
    ap (λ n. cond (is_heavy j.weight) (group_of j.weight q.sub) (deadline_of j.weight q.sub) + (j.slot + n) + bit_of j.weight q.sub)
    (delays_apart j.task q.slot xs ys zs split
    (λ k d within. let after : t ≤ slot_of (get_or ys k d).event = later k d within in omega (arith, after, last.0)))
