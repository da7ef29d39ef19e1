-- What a walk over a run's slots knows of a task, row by row and event by event.
use Rattle.std.proofs.Common.{◌≡◌, ℕ, suc, ◌+◌, ◌*◌, ◌^◌, ◌<◌, ◌≤◌, Bool, true, false, ◌||◌, ◌==◌, nat_le, cond, Option, None, Some, List, [], ◌∷◌, ◌++◌, length, take, drop, get_or, sum_by, All, ◌≢◌, ⊎_elim, refl, sym, ap, ap₂, ◌∙◌, subst, append_assoc, drop-cons, length-append, arith}
use Rattle.std.specs.Prelude.{replicate, ◌-◌}
use Rattle.std.proofs.Math.Bool.{or-false}
use Rattle.std.proofs.lemmas.Bool.{cond-true, cond-false, eqb-true, cases_eq, le-leb, lt-leb}
use Rattle.std.proofs.lemmas.List.{length-replicate, append-nil, take_more, take_all, length-take-le, length_push, get_or-set_same, get_or-set_other, get_or-take, get_or_default}
use Rattle.std.proofs.lemmas.List.Elements.{All-nil, All-cons, All-head, All-tail, All-push}
use Rattle.std.proofs.lemmas.List.Sums.{sum_by-cons, sum_by_push, sum_by-append}
use Rattle.pf_weight.specs.Share.{Share}
use Rattle.pf_window.specs.Window.{deadline_of}
use Rattle.pf_order.specs.declared.pick.Pick.{Pick}
use Rattle.pf_place.specs.Occupancy.{sitter, sitters, is_seated, NoTaskTwice}
use Rattle.pf_scenario.specs.Event.{slot_of}
use Rattle.pf_scenario.specs.declared.event.Event.{Event}
use Rattle.pf_scenario.specs.declared.event.Event.TheVariants.{Join, Leave, Delay, Limit}
use Rattle.pf_scenario.specs.declared.event.Numbered.{Numbered}
use Rattle.pf_scenario.specs.declared.limits.TheConstants.{LONGEST_DELAY}
use Rattle.pf_run.specs.Inside.{Joined}
use Rattle.pf_collections.specs.Table.Grown.{Grown, value_of, size_of, with_value, grown_to}
use Rattle.pf_collections.specs.Table.Lists.{noted_of}
use Rattle.pf_scenario.specs.System.{System}
use Rattle.pf_scenario.specs.Edit.{IsEvent}
use Rattle.pf_scenario.specs.declared.settings.TheConstants.{WIDE_HORIZON}
use Rattle.pf_run.proofs.Limits.{delay_by}
use Rattle.pf_tally.specs.Log.{RiseFrom}
use Rattle.pf_tally.specs.Held.{delay_from, next_in, held_by, held_from}
use Rattle.pf_tally.specs.Late.{hold_of, due_at}
use Rattle.pf_tally.specs.Quanta.{slots_in}
use Rattle.pf_tally.specs.Walk.{come, late_quantum, late_quanta, delays_in, IsAt, IsWithin, AreApart, IsNew, AreWithin, with_quantum, late_of, HaveRun, HasWalked, with_delay, held_of, HasEvent}
use Rattle.pf_tally.specs.declared.held.Held.{Held}
use Rattle.pf_tally.specs.declared.progress.Progress.{Progress}
use Rattle.pf_tally.specs.declared.walk.Walk.{Walk}
use Rattle.pf_tally.proofs.Chains.{none_counted}
use Rattle.pf_tally.proofs.Delays.{next_in_rises}
use Rattle.pf_tally.proofs.Holding.{held_push}
use Rattle.pf_tally.proofs.Noting.{not_before, seated_more}
use Rattle.pf_tally.proofs.Places.{places_push, places_below, length_places}

value_once : {A : Type 0} (b e c : Bool) (f : A → A) (x y z : A) → c ≡ (b || e) → (e ≡ true → b ≡ false) → y ≡ cond b (f x) x → z ≡ cond e (f y) y → z ≡ cond c (f x) x
value_once true true c f x y z either once first second = let e : true ≡ false = once refl in cc
value_once true false c f x y z either once first second = second ∙ first ∙ sym (cond-true c (f x) x either)
value_once false true c f x y z either once first second = second ∙ ap f first ∙ sym (cond-true c (f x) x either)
value_once false false c f x y z either once first second = second ∙ first ∙ sym (cond-false c (f x) x either)

notes_once : {A B : Type 0} (b e c : Bool) (f : A → A) (g : A → List B) (x y : A) (old mid new : List B) → c ≡ (b || e) → (e ≡ true → b ≡ false) → y ≡ cond b (f x) x →
    mid ≡ old ++ cond b (g x) [] → new ≡ mid ++ cond e (g y) [] → new ≡ old ++ cond c (g x) []
notes_once true true c f g x y old mid new either once value first second = let e : true ≡ false = once refl in cc
notes_once true false c f g x y old mid new either once value first second =
    second ∙ append-nil mid ∙ first ∙ ap (λ ns. old ++ ns) (sym (cond-true c (g x) [] either))
notes_once false true c f g x y old mid new either once value first second =
    second ∙ ap₂ (λ ms v. ms ++ g v) (first ∙ append-nil old) value ∙ ap (λ ns. old ++ ns) (sym (cond-true c (g x) [] either))
notes_once false false c f g x y old mid new either once value first second =
    second ∙ append-nil mid ∙ first ∙ ap (λ ns. old ++ ns) (sym (cond-false c (g x) [] either))

module _ (old mid new : Walk) (row : List (Option Pick)) (t p : ℕ) (within : p < length row) (before : HaveRun old mid (is_seated (take p row)) t) where
  pub idle_ran : None ≡ sitter row p → HaveRun old mid (is_seated (take (p + 1) row)) t
  idle_ran is =
      let P : (ℕ → Bool) → Type 0 = λ ran. HaveRun old mid ran t in
      let same : is_seated (take p row) ≡ is_seated (take (p + 1) row) =
      λ i task. (sym (seated_more row p None task within (sym is) ∙ or-false (is_seated (take p row) task))) i in
      subst P same before

  module _ (pick : Pick) (once : NoTaskTwice (sitters row)) (is : Some pick ≡ sitter row p) where
    first_time : (task : ℕ) → (pick.task == task) ≡ true → is_seated (take p row) task ≡ false
    first_time task same = ap (is_seated (take p row)) (sym (eqb-true pick.task task same)) ∙ not_before row p pick once within (sym is)

    -- its task had not run before
    pub pick_same : value_of mid.progress pick.task ≡ value_of old.progress pick.task
    pick_same =
        before.progress pick.task
        ∙ cond-false (is_seated (take p row) pick.task) (with_quantum (value_of old.progress pick.task)) (value_of old.progress pick.task) (not_before row p pick once within (sym is))

    pub pick_within : (most : ℕ) → AreWithin t most old → IsWithin t most (value_of mid.progress pick.task)
    pick_within most small = let P : Option Progress → Type 0 = IsWithin t most in subst P (sym pick_same) (small.each pick.task)

    pub pick_ran : HaveRun mid new (λ n. pick.task == n) t → HaveRun old new (is_seated (take (p + 1) row)) t
    pick_ran more = record {
      progress = λ task. value_once (is_seated (take p row) task) (pick.task == task) (is_seated (take (p + 1) row) task) with_quantum _ _ _
          (seated_more row p (Some pick) task within (sym is)) (first_time task) (before.progress task) (more.progress task);
      late = λ task. notes_once (is_seated (take p row) task) (pick.task == task) (is_seated (take (p + 1) row) task) with_quantum (late_of task t) _ _ _ _ _
          (seated_more row p (Some pick) task within (sym is)) (first_time task) (before.progress task) (before.late task) (more.late task);
      delays = more.delays ∙ before.delays;
      none = more.none ∙ before.none;
    }

-- How many quanta there were.
module _ (rows : List (List (Option Pick))) (t task : ℕ) where
  -- those before slot t, counted among all
  pub next_here : next_in (slots_in rows task) t ≡ length (slots_in (take t rows) task) + 1
  next_here =
      ap (λ n. n + 1)
      (places_below (λ row. is_seated row task) 0 t t rows (omega arith)
      ∙ sym (length_places (λ row. is_seated row task) 0 (take t rows)))

  pub slots_more : (row : List (Option Pick)) → t < length rows → get_or rows t row ≡ row →
      slots_in (take (t + 1) rows) task ≡ slots_in (take t rows) task ++ cond (is_seated row task) (t ∷ []) []
  slots_more row within is =
      ap (λ rows. slots_in rows task) (take_more rows t row within ∙ ap (λ row. take t rows ++ row ∷ []) is)
      ∙ places_push (λ row. is_seated row task) 0 t (take t rows) row (omega (arith, length-take-le t rows (let h : t ≤ length rows = omega arith in h)))

-- The delays that an earlier slot had hold back all that is next.
one_before : (next : ℕ → ℕ) (j : Joined) (shift i : ℕ) (x : Event) → next (slot_of x) ≤ i → sum_by (hold_of i) (held_by next j shift x) ≡ delay_from j x
one_before next j shift i (Delay slot task by) before = one_or_none (task == j.task)
  where
    counts : nat_le (next slot) i ≡ true
    counts = le-leb (next slot) i before

    one_or_none : (b : Bool) → sum_by (hold_of i) (cond b (let held : Held = record { sub = next slot; shift = shift; by = by } in held ∷ []) []) ≡ cond b by 0
    one_or_none true = omega (arith, cond-true {A = ℕ} (nat_le (next slot) i) by 0 counts)
    one_or_none false = refl
one_before next j shift i (Join slot task cost period early) before = refl
one_before next j shift i (Leave slot task) before = refl
one_before next j shift i (Limit slot count) before = refl

pub all_before : (next : ℕ → ℕ) (j : Joined) (shift i : ℕ) (xs : List Numbered) → All (λ x. next (slot_of x.event) ≤ i) xs →
    sum_by (hold_of i) (held_from next j shift xs) ≡ sum_by (λ x. delay_from j x.event) xs
all_before next j shift i [] before = refl
all_before next j shift i (x ∷ xs) before =
    sum_by-append (hold_of i) (held_by next j shift x.event) (held_from next j (shift + delay_from j x.event) xs)
    ∙ ap₂ (λ a b. a + b) (one_before next j shift i x.event (All-head (λ x. next (slot_of x.event) ≤ i) x xs before))
    (all_before next j (shift + delay_from j x.event) i xs (All-tail (λ x. next (slot_of x.event) ≤ i) x xs before))
    ∙ sym (sum_by-cons (λ x. delay_from j x.event) x xs)

-- The misses of the quanta: with one more, and with delays that hold back only what is later.
pub late_push : (j : Joined) (held : List Held) (i t : ℕ) (ts : List ℕ) →
    late_quanta j held i (ts ++ t ∷ []) ≡ late_quanta j held i ts ++ late_quantum j.task (i + length ts) (due_at j held (i + length ts)) t
late_push j held i t [] =
    append-nil (late_quantum j.task i (due_at j held i) t) ∙ ap (λ k. late_quantum j.task k (due_at j held k) t) (let z : i ≡ i + 0 = omega arith in z)
late_push j held i t (u ∷ ts) =
    ap (λ ms. late_quantum j.task i (due_at j held i) u ++ ms)
    (late_push j held (i + 1) t ts ∙ ap (λ k. late_quanta j held (i + 1) ts ++ late_quantum j.task k (due_at j held k) t) (let z : i + 1 + length ts ≡ i + suc (length ts) = omega arith in z))
    ∙ sym (append_assoc (late_quantum j.task i (due_at j held i) u) (late_quanta j held (i + 1) ts) (late_quantum j.task (i + suc (length ts)) (due_at j held (i + suc (length ts))) t))

late_kept : (j : Joined) (held more : List Held) (i : ℕ) (ts : List ℕ) → All (λ h. i + length ts ≤ h.sub) more → late_quanta j (held ++ more) i ts ≡ late_quanta j held i ts
late_kept j held more i [] later = refl
late_kept j held more i (t ∷ ts) later =
    let none : sum_by (hold_of i) more ≡ 0 = none_counted i more (λ k d within. lt-leb (get_or more k d).sub i (let h : i + suc (length ts) ≤ (get_or more k d).sub = later k d within in omega arith)) in
    let same : sum_by (hold_of i) (held ++ more) ≡ sum_by (hold_of i) held = omega (arith, sum_by-append (hold_of i) held more, none) in
    ap₂ (λ n ms. late_quantum j.task i (deadline_of j.weight i + (j.slot + n)) t ++ ms) same
    (late_kept j held more (i + 1) ts (λ k d within. let h : i + suc (length ts) ≤ (get_or more k d).sub = later k d within in omega arith))

-- One row more.
progress_more : (b : Bool) (w : Share) (ran : List ℕ) (t shift : ℕ) →
    cond b (with_quantum (Some (come w (length ran) shift))) (Some (come w (length ran) shift))
    ≡ Some (come w (length (ran ++ cond b (t ∷ []) [])) shift)
progress_more true w ran t shift = ap (λ n. Some (come w n shift)) (sym (length_push ran t))
progress_more false w ran t shift = ap (λ xs. Some (come w (length xs) shift)) (sym (append-nil ran))

late_more : (b : Bool) (j : Joined) (held : List Held) (ran : List ℕ) (t shift : ℕ) → shift ≡ j.slot + sum_by (hold_of (length ran + 1)) held →
    late_quanta j held 1 ran ++ cond b (late_quantum j.task (length ran + 1) (deadline_of j.weight (length ran + 1) + shift) t) []
    ≡ late_quanta j held 1 (ran ++ cond b (t ∷ []) [])
late_more true j held ran t shift is =
    ap (λ n. late_quanta j held 1 ran ++ late_quantum j.task (length ran + 1) (deadline_of j.weight (length ran + 1) + n) t) is
    ∙ ap (λ k. late_quanta j held 1 ran ++ late_quantum j.task k (due_at j held k) t) (let z : length ran + 1 ≡ 1 + length ran = omega arith in z)
    ∙ sym (late_push j held 1 t ran)
late_more false j held ran t shift is = append-nil (late_quanta j held 1 ran) ∙ ap (late_quanta j held 1) (sym (append-nil ran))

pub row_walked : (rows : List (List (Option Pick))) (t : ℕ) (row : List (Option Pick)) (xs : List Numbered) (j : Joined) (old new : Walk) →
    t < length rows → get_or rows t row ≡ row → All (λ x. slot_of x.event ≤ t) xs → HaveRun old new (is_seated row) t → IsAt rows t xs old j → IsAt rows (t + 1) xs new j
row_walked rows t row xs j old new within is earlier ran at =
    let R = slots_in (take t rows) j.task in
    let held = delays_in rows j xs in
    let b = is_seated row j.task in
    let shift = j.slot + sum_by (λ x. delay_from j x.event) xs in
    let here = next_here rows t j.task in
    let sums : sum_by (hold_of (length R + 1)) held ≡ sum_by (λ x. delay_from j x.event) xs =
    all_before (next_in (slots_in rows j.task)) j j.slot (length R + 1) xs
    (λ k d inside. omega (arith, here, next_in_rises (slots_in rows j.task) (slot_of (get_or xs k d).event) t (earlier k d inside))) in
    record {
      progress =
          ran.progress j.task
          ∙ ap (λ v. cond b (with_quantum v) v) at.progress
          ∙ progress_more b j.weight R t shift
          ∙ ap (λ qs. Some (come j.weight (length qs) shift)) (sym (slots_more rows t j.task row within is));
      delays = ap (λ ds. noted_of ds j.task) ran.delays ∙ at.delays;
      late =
          ran.late j.task
          ∙ ap₂ (λ ms v. ms ++ cond b (late_of j.task t v) []) at.late at.progress
          ∙ late_more b j held R t shift (ap (λ n. j.slot + n) (sym sums))
          ∙ ap (late_quanta j held 1) (sym (slots_more rows t j.task row within is));
    }

within_once : (b : Bool) (t most : ℕ) (v : Option Progress) → IsWithin t most v → IsWithin (t + 1) most (cond b (with_quantum v) v)
within_once true t most None small = tt
within_once false t most None small = tt
within_once true t most (Some p) small = let h : p.received ≤ t = small.0 in (omega arith, small.1)
within_once false t most (Some p) small = let h : p.received ≤ t = small.0 in (omega arith, small.1)

pub within_ran : (old new : Walk) (ran : ℕ → Bool) (t most : ℕ) → HaveRun old new ran t → AreWithin t most old → AreWithin (t + 1) most new
within_ran old new ran t most have small = record {
  none = have.none ∙ small.none;
  each = λ task. let P : Option Progress → Type 0 = IsWithin (t + 1) most in subst P (sym (have.progress task)) (within_once (ran task) t most (value_of old.progress task) (small.each task));
}

pub none_walked : (rows : List (List (Option Pick))) (from : ℕ) (walk : Walk) → HasWalked rows from from walk walk
none_walked rows from walk = record { at = λ j xs earlier at. at; within = λ most small. small }

pub rows_walked : (rows : List (List (Option Pick))) (from t : ℕ) (row : List (Option Pick)) (old mid new : Walk) → from ≤ t → t < length rows → get_or rows t row ≡ row →
    HasWalked rows from t old mid → HaveRun mid new (is_seated row) t → HasWalked rows from (t + 1) old new
rows_walked rows from t row old mid new order within is before ran = record {
  at = λ j xs earlier at. row_walked rows t row xs j mid new within is (λ k d inside. let h : slot_of (get_or xs k d).event ≤ from = earlier k d inside in omega arith) ran (before.at j xs earlier at);
  within = λ most small. within_ran mid new (is_seated row) t most ran (before.within most small);
}

-- One event more.
record HasEffect (rows : List (List (Option Pick))) (t : ℕ) (xs : List Numbered) (new : Walk) (j : Joined) (x : Event) : Type 0 where
  progress : value_of new.progress j.task ≡ Some (come j.weight (length (slots_in (take t rows) j.task)) (j.slot + sum_by (λ x. delay_from j x.event) xs + delay_from j x))
  delays : noted_of new.delays j.task ≡ delays_in rows j xs ++ held_by (next_in (slots_in rows j.task)) j (j.slot + sum_by (λ x. delay_from j x.event) xs) x
  late : noted_of new.late j.task ≡ late_quanta j (delays_in rows j xs) 1 (slots_in (take t rows) j.task)

no_effect : (rows : List (List (Option Pick))) (t : ℕ) (xs : List Numbered) (old new : Walk) (j : Joined) (x : Event) → new ≡ old →
    delay_from j x ≡ 0 → ((shift : ℕ) → held_by (next_in (slots_in rows j.task)) j shift x ≡ []) → IsAt rows t xs old j → HasEffect rows t xs new j x
no_effect rows t xs old new j x same none nothing at = record {
  progress =
      ap (λ (w : Walk). value_of w.progress j.task) same
      ∙ at.progress
      ∙ ap (λ n. Some (come j.weight (length (slots_in (take t rows) j.task)) n))
      (let z : j.slot + sum_by (λ x. delay_from j x.event) xs ≡ j.slot + sum_by (λ x. delay_from j x.event) xs + delay_from j x = omega (arith, none) in z);
  delays =
      ap (λ (w : Walk). noted_of w.delays j.task) same ∙ at.delays ∙ sym (append-nil (delays_in rows j xs))
      ∙ ap (λ hs. delays_in rows j xs ++ hs) (sym (nothing (j.slot + sum_by (λ x. delay_from j x.event) xs)));
  late = ap (λ (w : Walk). noted_of w.late j.task) same ∙ at.late;
}

effect : (rows : List (List (Option Pick))) (t : ℕ) (xs : List Numbered) (old new : Walk) (j : Joined) (x : Event) → slot_of x ≡ t → HasEvent old new x →
    IsAt rows t xs old j → HasEffect rows t xs new j x
effect rows t xs old new j (Delay slot task by) is has at =
    let sub : length (slots_in (take t rows) j.task) + 1 ≡ next_in (slots_in rows j.task) slot =
    sym (next_here rows t j.task) ∙ ap (next_in (slots_in rows j.task)) (sym is) in
    let shift = j.slot + sum_by (λ x. delay_from j x.event) xs in
    record {
      progress = has.progress j.task ∙ ap (λ v. cond (task == j.task) (with_delay by v) v) at.progress ∙ shifted (task == j.task) (length (slots_in (take t rows) j.task)) shift;
      delays = has.delays j.task ∙ ap₂ (λ hs v. hs ++ cond (task == j.task) (held_of by v) []) at.delays at.progress
          ∙ ap (λ i. delays_in rows j xs ++ cond (task == j.task) (let held : Held = record { sub = i; shift = shift; by = by } in held ∷ []) []) sub;
      late = ap (λ ms. noted_of ms j.task) has.late ∙ at.late;
    }
  where
    shifted : (b : Bool) (received shift : ℕ) →
        cond b (with_delay by (Some (come j.weight received shift))) (Some (come j.weight received shift))
        ≡ Some (come j.weight received (shift + cond b by 0))
    shifted true received shift = refl
    shifted false received shift = ap (λ n. Some (come j.weight received n)) (let z : shift ≡ shift + 0 = omega arith in z)
effect rows t xs old new j (Join slot task cost period early) is has at = no_effect rows t xs old new j (Join slot task cost period early) has refl (λ shift. refl) at
effect rows t xs old new j (Leave slot task) is has at = no_effect rows t xs old new j (Leave slot task) has refl (λ shift. refl) at
effect rows t xs old new j (Limit slot count) is has at = no_effect rows t xs old new j (Limit slot count) has refl (λ shift. refl) at

held_later : (next : ℕ → ℕ) (j : Joined) (shift n : ℕ) (x : Event) → n ≤ next (slot_of x) → All (λ h. n ≤ h.sub) (held_by next j shift x)
held_later next j shift n (Delay slot task by) later = one_or_none (task == j.task)
  where
    one_or_none : (b : Bool) → All (λ h. n ≤ h.sub) (cond b (let held : Held = record { sub = next slot; shift = shift; by = by } in held ∷ []) [])
    one_or_none true = let held : Held = record { sub = next slot; shift = shift; by = by } in All-cons (λ h. n ≤ h.sub) held [] later (All-nil (λ h. n ≤ h.sub))
    one_or_none false = All-nil (λ h. n ≤ h.sub)
held_later next j shift n (Join slot task cost period early) later = All-nil (λ h. n ≤ h.sub)
held_later next j shift n (Leave slot task) later = All-nil (λ h. n ≤ h.sub)
held_later next j shift n (Limit slot count) later = All-nil (λ h. n ≤ h.sub)

pub event_walked : (rows : List (List (Option Pick))) (t : ℕ) (xs : List Numbered) (x : Numbered) (j : Joined) (old new : Walk) → slot_of x.event ≡ t → HasEvent old new x.event →
    IsAt rows t xs old j → IsAt rows t (xs ++ x ∷ []) new j
event_walked rows t xs x j old new is has at =
    let e = effect rows t xs old new j x.event is has at in
    let next = next_in (slots_in rows j.task) in
    let R = slots_in (take t rows) j.task in
    let shift = j.slot + sum_by (λ x. delay_from j x.event) xs in
    let push = held_push next j j.slot xs x in
    let later : 1 + length R ≤ next (slot_of x.event) = omega (arith, next_here rows t j.task, ap next is) in
    record {
      progress = e.progress ∙ ap (λ n. Some (come j.weight (length R) n))
          (let z : shift + delay_from j x.event ≡ j.slot + sum_by (λ x. delay_from j x.event) (xs ++ x ∷ []) = omega (arith, sum_by_push (λ x. delay_from j x.event) xs x) in z);
      delays = e.delays ∙ sym push;
      late = e.late ∙ sym (ap (λ held. late_quanta j held 1 R) push ∙ late_kept j (delays_in rows j xs) (held_by next j shift x.event) 1 R (held_later next j shift (1 + length R) x.event later));
    }

-- The walk at slot 0, task by task.
abbrev pub new_progress : Joined → Progress
new_progress j = come j.weight 0 j.slot

pub record IsEntered (tasks : List Joined) (table : Grown (Option Progress)) : Type 0 where
  pub none : table.1 ≡ None
  pub each : (task : ℕ) → IsWithin 0 WIDE_HORIZON (value_of table task)
  pub own : All (λ j. value_of table j.task ≡ Some (new_progress j)) tasks

pub task_entered : (tasks : List Joined) (k : ℕ) (j : Joined) (old room new : Grown (Option Progress)) → AreApart tasks → k < length tasks → get_or tasks k j ≡ j →
    room.1 ≡ old.1 → ((task : ℕ) → value_of room task ≡ value_of old task) → j.task < size_of room → new ≡ with_value room j.task (Some (new_progress j)) →
    IsEntered (take k tasks) old → IsEntered (take (k + 1) tasks) new
task_entered tasks k j old room new apart within is fill same small set before =
    let P : Grown (Option Progress) → List Joined → Type 0 = λ table js. IsEntered js table in
    let Q : List Joined → Type 0 = λ js. IsEntered js new in
    let own : value_of new j.task ≡ Some (new_progress j) = ap (λ table. value_of table j.task) set ∙ get_or-set_same room.0 j.task (Some (new_progress j)) room.1 small in
    let other : (task : ℕ) → (task ≢ j.task) → value_of new task ≡ value_of old task =
    λ task differ. ap (λ table. value_of table task) set ∙ get_or-set_other room.0 j.task task (Some (new_progress j)) room.1 differ ∙ same task in
    let low : j.slot ≤ WIDE_HORIZON = (let R : Joined → Type 0 = λ j. j.slot ≤ WIDE_HORIZON in subst R is (apart.joined k j within)) in
    let W : Option Progress → Type 0 = IsWithin 0 WIDE_HORIZON in
    subst Q (sym (take_more tasks k j within ∙ ap (λ j. take k tasks ++ j ∷ []) is)) (record {
      none = ap (λ (table : Grown (Option Progress)). table.1) set ∙ fill ∙ before.none;
      each = λ task. ⊎_elim
          (λ here. subst W (sym (ap (value_of new) here ∙ own)) (omega arith, low))
          (λ there. subst W (sym (other task there)) (before.each task))
          (cases_eq task j.task);
      own = All-push (λ j. value_of new j.task ≡ Some (new_progress j)) (take k tasks) j
          (λ i d inside. let a = get_or (take k tasks) i d in other a.task (earlier i d inside) ∙ before.own i d inside)
          own;
    })
  where
    earlier : (i : ℕ) (d : Joined) → i < length (take k tasks) → (get_or (take k tasks) i d).task ≢ j.task
    earlier i d inside e =
        let long = length-take-le k tasks (let h : k ≤ length tasks = omega arith in h) in
        apart.apart i k d (omega arith) within (ap (λ (a : Joined). a.task) (sym (get_or-take k tasks i d (omega arith))) ∙ e ∙ ap (λ (a : Joined). a.task) (sym is ∙ get_or_default tasks k j d within))

-- Event by event, over all rows.
pub record IsBehind (tasks : List Joined) (rows : List (List (Option Pick))) (xs : List Numbered) (k t : ℕ) (walk : Walk) : Type 0 where
  pub at : All (IsAt rows t (take k xs) walk) tasks
  pub within : AreWithin t (WIDE_HORIZON + k * LONGEST_DELAY) walk
  pub rise : RiseFrom t (drop k xs)
  pub earlier : All (λ x. slot_of x.event ≤ t) (take k xs)
  pub inside : t ≤ length rows

pub none_behind : (tasks : List Joined) (rows : List (List (Option Pick))) (xs : List Numbered) (walk : Walk) → IsNew tasks walk → RiseFrom 0 xs → IsBehind tasks rows xs 0 0 walk
none_behind tasks rows xs walk new rise = record {
  at = new.at rows;
  within = new.within;
  rise = rise;
  earlier = All-nil (λ x. slot_of x.event ≤ 0);
  inside = omega arith;
}

within_more : (t most t' most' : ℕ) (walk : Walk) → t ≤ t' → most ≤ most' → AreWithin t most walk → AreWithin t' most' walk
within_more t most t' most' walk later wider small = record { none = small.none; each = λ task. one_more (value_of walk.progress task) (small.each task) }
  where
    one_more : (v : Option Progress) → IsWithin t most v → IsWithin t' most' v
    one_more None small = tt
    one_more (Some p) small = let low : p.received ≤ t = small.0 in let short : p.shift ≤ most = small.1 in (omega arith, omega arith)

within_event : (old new : Walk) (t most : ℕ) (system : System) (x : Event) → IsEvent system x → HasEvent old new x → AreWithin t most old → AreWithin t (most + LONGEST_DELAY) new
within_event old new t most system (Delay slot task by) limits has small = record {
  none = has.none ∙ small.none;
  each = λ n. let P : Option Progress → Type 0 = IsWithin t (most + LONGEST_DELAY) in
      subst P (sym (has.progress n)) (delayed (task == n) (value_of old.progress n) (small.each n));
}
  where
    short : by ≤ LONGEST_DELAY
    short = delay_by system slot task by limits

    delayed : (b : Bool) (v : Option Progress) → IsWithin t most v → IsWithin t (most + LONGEST_DELAY) (cond b (with_delay by v) v)
    delayed true None small = tt
    delayed false None small = tt
    delayed true (Some p) small = let s : p.shift ≤ most = small.1 in let h : by ≤ LONGEST_DELAY = short in (small.0, omega arith)
    delayed false (Some p) small = let s : p.shift ≤ most = small.1 in (small.0, omega arith)
within_event old new t most system (Join slot task cost period early) limits same small =
    let P : Walk → Type 0 = AreWithin t (most + LONGEST_DELAY) in subst P (sym same) (within_more t most t (most + LONGEST_DELAY) old (omega arith) (omega arith) small)
within_event old new t most system (Leave slot task) limits same small =
    let P : Walk → Type 0 = AreWithin t (most + LONGEST_DELAY) in subst P (sym same) (within_more t most t (most + LONGEST_DELAY) old (omega arith) (omega arith) small)
within_event old new t most system (Limit slot count) limits same small =
    let P : Walk → Type 0 = AreWithin t (most + LONGEST_DELAY) in subst P (sym same) (within_more t most t (most + LONGEST_DELAY) old (omega arith) (omega arith) small)

module _ (tasks : List Joined) (rows : List (List (Option Pick))) (xs : List Numbered) (k t : ℕ) (walk : Walk) (behind : IsBehind tasks rows xs k t walk)
    (few : length xs ≤ 65535) (short : length rows ≤ WIDE_HORIZON) where
  pub behind_within : k ≤ length xs → AreWithin t (2 ^ 40) walk
  behind_within inside = within_more t (WIDE_HORIZON + k * LONGEST_DELAY) t (2 ^ 40) walk (omega arith) (omega arith) behind.within

  pub all_behind : (new : Walk) → length xs ≤ k → HasWalked rows t (length rows) walk new → All (IsAt rows (length rows) xs new) tasks
  all_behind new over walked i d inside =
      let P : List Numbered → Type 0 = λ ys. IsAt rows (length rows) ys new (get_or tasks i d) in
      subst P (take_all k xs over) (walked.at (get_or tasks i d) (take k xs) behind.earlier (behind.at i d inside))

  module _ (d : Numbered) (u : ℕ) (within : k < length xs) (is : u ≡ slot_of (get_or xs k d).event) (early : All (λ x. slot_of x.event < length rows) xs) where
    below : u < length rows
    below = omega (arith, early k d within)

    rest : RiseFrom t (get_or xs k d ∷ drop (k + 1) xs)
    rest =
        let P : List Numbered → Type 0 = RiseFrom t in
        subst P (drop-cons xs k d within ∙ ap (λ n. get_or xs k d ∷ drop n xs) (let z : suc k ≡ k + 1 = omega arith in z)) behind.rise

    pub behind_order : t ≤ u
    behind_order = let first : t ≤ slot_of (get_or xs k d).event = rest.0 in omega arith

    pub behind_event : (mid : Walk) → HasWalked rows t u walk mid → AreWithin (2 ^ 40) (2 ^ 40) mid
    behind_event mid walked =
        let inside : u < length rows = below in
        within_more u (WIDE_HORIZON + k * LONGEST_DELAY) (2 ^ 40) (2 ^ 40) mid (omega arith) (omega arith) (walked.within (WIDE_HORIZON + k * LONGEST_DELAY) behind.within)

    pub behind_more : (mid new : Walk) (system : System) → IsEvent system (get_or xs k d).event →
        HasWalked rows t u walk mid → HasEvent mid new (get_or xs k d).event → IsBehind tasks rows xs (k + 1) u new
    behind_more mid new system limits walked has =
        let x = get_or xs k d in
        let order : t ≤ u = behind_order in
        let more : take (k + 1) xs ≡ take k xs ++ x ∷ [] = take_more xs k d within in
        let P : List Numbered → Type 0 = λ ys. All (IsAt rows u ys new) tasks in
        let Q : List Numbered → Type 0 = All (λ x. slot_of x.event ≤ u) in
        let R : ℕ → Type 0 = λ n. RiseFrom n (drop (k + 1) xs) in
        let all : All (λ x. slot_of x.event ≤ u) (take k xs) = λ i d inside. let h : slot_of (get_or (take k xs) i d).event ≤ t = behind.earlier i d inside in omega arith in
        let W : ℕ → Type 0 = λ most. AreWithin u most new in
        record {
          at = subst P (sym more) (λ i d inside. event_walked rows u (take k xs) x (get_or tasks i d) mid new (sym is) has
              (walked.at (get_or tasks i d) (take k xs) behind.earlier (behind.at i d inside)));
          within = subst W (let z : WIDE_HORIZON + k * LONGEST_DELAY + LONGEST_DELAY ≡ WIDE_HORIZON + (k + 1) * LONGEST_DELAY = omega arith in z)
              (within_event mid new u (WIDE_HORIZON + k * LONGEST_DELAY) system x.event limits has (walked.within (WIDE_HORIZON + k * LONGEST_DELAY) behind.within));
          rise = subst R (sym is) rest.1;
          earlier = subst Q (sym more) (All-push (λ x. slot_of x.event ≤ u) (take k xs) x all (omega arith));
          inside = let inside : u < length rows = below in omega arith;
        }

pub room_made : {X : Type 0} (n : ℕ) (old room : Grown X) → room ≡ grown_to n old → n ≤ size_of room
room_made n old room is =
    let P : Grown _ → Type 0 = λ table. n ≤ size_of table in
    subst P (sym is) (omega (arith, length-append old.0 (replicate (n - length old.0) old.1), length-replicate (n - length old.0) old.1))
