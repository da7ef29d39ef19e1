-- How a task's delays are collected, event by event.
use Rattle.std.proofs.Common.{◌≡◌, ℕ, zero, suc, ◌+◌, ◌*◌, ◌^◌, ◌<◌, ◌≤◌, Bool, true, false, ◌==◌, nat_lt, cond, List, [], ◌∷◌, ◌++◌, length, take, get_or, count_by, sum_by, refl, sym, ap, ap₂, ◌∙◌, subst, append_assoc, arith}
use Rattle.std.proofs.lemmas.Bool.{cond-true, cond-false}
use Rattle.std.proofs.lemmas.List.{append-nil, take_more, length-take-le}
use Rattle.std.proofs.lemmas.List.Elements.{All-take}
use Rattle.std.proofs.lemmas.List.Sums.{sum_by-cons, sum_by_push, sum_by-le}
use Rattle.pf_scenario.specs.declared.event.Event.{Event}
use Rattle.pf_scenario.specs.declared.event.Event.TheVariants.{Join, Leave, Delay, Limit}
use Rattle.pf_scenario.specs.declared.event.Numbered.{Numbered}
use Rattle.pf_scenario.specs.declared.limits.TheConstants.{LONGEST_DELAY}
use Rattle.pf_run.specs.Record.{Slot}
use Rattle.pf_run.specs.Inside.{Joined}
use Rattle.pf_tally.specs.Clock.{next_at}
use Rattle.pf_tally.specs.Quanta.{slots_of}
use Rattle.pf_tally.specs.Held.{delay_from, next_in, held_by, held_from, AreDelays}
use Rattle.pf_tally.specs.declared.held.Held.{Held}
use Rattle.pf_tally.proofs.Places.{done_is}

-- how many pass, where those that do come first
pub count_from_cut : {X : Type 0} (p : X → Bool) (xs : List X) (i : ℕ) → i ≤ length xs → ((k : ℕ) (d : X) → k < i → p (get_or xs k d) ≡ true) →
    ((k : ℕ) (d : X) → i ≤ k → k < length xs → p (get_or xs k d) ≡ false) → count_by p xs ≡ i
count_from_cut p [] i within first last = omega arith
count_from_cut p (x ∷ xs) zero within first last =
    omega (
      arith,
      sum_by-cons (λ x. cond (p x) 1 0) x xs,
      cond-false {A = ℕ} (p x) 1 0 (last 0 x (omega arith) (omega arith)),
      count_from_cut p xs zero (omega arith) (λ k d below. absurd (omega arith)) (λ k d above below. last (suc k) d (omega arith) (omega arith)),
    )
count_from_cut p (x ∷ xs) (suc i) within first last =
    omega (
      arith,
      sum_by-cons (λ x. cond (p x) 1 0) x xs,
      cond-true {A = ℕ} (p x) 1 0 (first 0 x (omega arith)),
      count_from_cut p xs i (omega arith) (λ k d below. first (suc k) d (omega arith)) (λ k d above below. last (suc k) d (omega arith) (omega arith)),
    )

pub held_push : (next : ℕ → ℕ) (j : Joined) (shift : ℕ) (xs : List Numbered) (x : Numbered) →
    held_from next j shift (xs ++ x ∷ []) ≡ held_from next j shift xs ++ held_by next j (shift + sum_by (λ x. delay_from j x.event) xs) x.event
held_push next j shift [] x = append-nil (held_by next j shift x.event) ∙ ap (λ n. held_by next j n x.event) (let z : shift ≡ shift + 0 = omega arith in z)
held_push next j shift (y ∷ ys) x =
    ap (λ hs. held_by next j shift y.event ++ hs) (held_push next j (shift + delay_from j y.event) ys x)
    ∙ sym (append_assoc (held_by next j shift y.event) (held_from next j (shift + delay_from j y.event) ys) (held_by next j (shift + delay_from j y.event + sum_by (λ x. delay_from j x.event) ys) x.event))
    ∙ ap (λ n. held_from next j shift (y ∷ ys) ++ held_by next j n x.event)
    (let z : shift + delay_from j y.event + sum_by (λ x. delay_from j x.event) ys ≡ shift + sum_by (λ x. delay_from j x.event) (y ∷ ys) = omega (arith, sum_by-cons (λ x. delay_from j x.event) y ys) in z)

-- by how much the event holds the task back
none_delays : (next : ℕ → ℕ) (j : Joined) (shift : ℕ) (x : Event) → [] ≡ held_by next j shift x → delay_from j x ≡ 0
none_delays next j shift (Delay slot task by) is = one_or_none (task == j.task) is
  where
    one_or_none : (b : Bool) → [] ≡ cond b (let held : Held = record { sub = next slot; shift = shift; by = by } in held ∷ []) [] → cond b by 0 ≡ 0
    one_or_none true is = cc
    one_or_none false is = refl
none_delays next j shift (Join slot task cost period early) is = refl
none_delays next j shift (Leave slot task) is = refl
none_delays next j shift (Limit slot count) is = refl

some_delays : (next : ℕ → ℕ) (j : Joined) (shift : ℕ) (x : Event) (h : Held) → h ∷ [] ≡ held_by next j shift x → delay_from j x ≡ h.by
some_delays next j shift (Delay slot task by) h is = one_or_none (task == j.task) is
  where
    one_or_none : (b : Bool) → h ∷ [] ≡ cond b (let held : Held = record { sub = next slot; shift = shift; by = by } in held ∷ []) [] → cond b by 0 ≡ h.by
    one_or_none true is = let held : Held = record { sub = next slot; shift = shift; by = by } in let e : h ≡ held = cc in ap (λ h. h.by) (sym e)
    one_or_none false is = cc
some_delays next j shift (Join slot task cost period early) h is = cc
some_delays next j shift (Leave slot task) h is = cc
some_delays next j shift (Limit slot count) h is = cc

-- what is collected of some events
pub record AreHeld (next : ℕ → ℕ) (j : Joined) (xs : List Numbered) (held : List Held) (shift : ℕ) : Type 0 where
  pub delays : held ≡ held_from next j j.slot xs
  pub shift_is : shift ≡ j.slot + sum_by (λ x. delay_from j x.event) xs

-- after an event that delays the task, and after another
pub held_one : (next : ℕ → ℕ) (j : Joined) (xs : List Numbered) (held after : List Held) (shift shift' k : ℕ) (d : Numbered) (h : Held) → k < length xs →
    h ∷ [] ≡ held_by next j shift (get_or xs k d).event → after ≡ held ++ h ∷ [] → shift' ≡ shift + h.by → AreHeld next j (take k xs) held shift → AreHeld next j (take (k + 1) xs) after shift'
held_one next j xs held after shift shift' k d h within is push more before =
    let x = get_or xs k d in
    let P : List Numbered → Type 0 = λ ys. AreHeld next j ys after shift' in
    subst P (sym (take_more xs k d within)) (record {
      delays = push ∙ ap₂ (λ hs ks. hs ++ ks) before.delays (is ∙ ap (λ n. held_by next j n x.event) before.shift_is) ∙ sym (held_push next j j.slot (take k xs) x);
      shift_is = omega (arith, sum_by_push (λ x. delay_from j x.event) (take k xs) x, before.shift_is, some_delays next j shift x.event h is);
    })

pub held_none : (next : ℕ → ℕ) (j : Joined) (xs : List Numbered) (held : List Held) (shift k : ℕ) (d : Numbered) → k < length xs →
    [] ≡ held_by next j shift (get_or xs k d).event → AreHeld next j (take k xs) held shift → AreHeld next j (take (k + 1) xs) held shift
held_none next j xs held shift k d within is before =
    let x = get_or xs k d in
    let P : List Numbered → Type 0 = λ ys. AreHeld next j ys held shift in
    subst P (sym (take_more xs k d within)) (record {
      delays = sym (append-nil held) ∙ ap₂ (λ hs ks. hs ++ ks) before.delays (is ∙ ap (λ n. held_by next j n x.event) before.shift_is) ∙ sym (held_push next j j.slot (take k xs) x);
      shift_is = omega (arith, sum_by_push (λ x. delay_from j x.event) (take k xs) x, before.shift_is, none_delays next j shift x.event is);
    })

-- the shift stays small
pub held_room : (next : ℕ → ℕ) (j : Joined) (xs : List Numbered) (held : List Held) (shift k : ℕ) (d : Numbered) (h : Held) → AreDelays j xs → AreHeld next j (take k xs) held shift → k < length xs →
    h ∷ [] ≡ held_by next j shift (get_or xs k d).event → shift + h.by < 2 ^ 40
held_room next j xs held shift k d h delays are within is =
    let sum : sum_by (λ x. delay_from j x.event) (take k xs) ≤ length (take k xs) * LONGEST_DELAY =
    sum_by-le (λ x. delay_from j x.event) LONGEST_DELAY (take k xs) (All-take (λ x. delay_from j x.event ≤ LONGEST_DELAY) k xs delays.short) in
    omega (
      arith,
      sum,
      length-take-le k xs (let h : k ≤ length xs = omega arith in h),
      are.shift_is,
      delays.joined,
      delays.few,
      delays.short k d within,
      some_delays next j shift (get_or xs k d).event h is,
    )

-- the subtask that is next, by a record and by the slots in which the task ran
pub next_is : (r : List Slot) (j : Joined) (ran : List ℕ) → slots_of r j.task ≡ ran → next_in ran ≡ next_at r j
next_is r j ran is = λ i u. (ap (λ qs. count_by (λ q. nat_lt q u) qs + 1) (sym is) ∙ ap (λ n. n + 1) (sym (done_is r j.task u))) i
