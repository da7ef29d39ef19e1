-- What a task's delays, one after another, make of its shifts and of its clock.
use Rattle.std.proofs.Common.{◌≡◌, ℕ, ◌+◌, ◌<◌, ◌≤◌, Bool, true, false, ◌&&◌, ◌==◌, nat_lt, nat_le, cond, List, [], ◌∷◌, ◌++◌, map, sum_by, All, ⊎_elim, refl, sym, ap, ap₂, ◌∙◌, subst, arith}
use Rattle.std.proofs.lemmas.Bool.{cases_Bool, cond-true, cond-false, lt-ltb, le-leb, ltb-true}
use Rattle.std.proofs.lemmas.List.{map-append}
use Rattle.std.proofs.lemmas.List.Elements.{All-head, All-tail, All-push}
use Rattle.std.proofs.lemmas.List.Sums.{sum_by-cons, sum_by_push, sum_by-le-sum_by}
use Rattle.pf_window.specs.Window.{release_of}
use Rattle.pf_scenario.specs.Event.{slot_of}
use Rattle.pf_scenario.specs.declared.event.Event.{Event}
use Rattle.pf_scenario.specs.declared.event.Event.TheVariants.{Join, Leave, Delay, Limit}
use Rattle.pf_scenario.specs.declared.event.Numbered.{Numbered}
use Rattle.pf_run.proofs.Firsts.{one_at_most}
use Rattle.pf_run.specs.Record.{Slot, done}
use Rattle.pf_run.specs.Inside.{Joined, hold_back_of, shift_of}
use Rattle.pf_tally.specs.Clock.{Stop, next_at, stop_by, stops_behind}
use Rattle.pf_tally.specs.Quanta.{slots_of}
use Rattle.pf_tally.specs.Log.{RiseFrom}
use Rattle.pf_tally.specs.Held.{delay_from, next_in, held_by, held_from, stop_of, AreSuccessive}
use Rattle.pf_tally.specs.declared.held.Held.{Held}
use Rattle.pf_tally.proofs.Places.{done_is}

pub done_rises : (r : List Slot) (task t u : ℕ) → t ≤ u → done r task t ≤ done r task u
done_rises r task t u within =
    let more = sum_by-le-sum_by (λ q. cond (nat_lt q t) 1 0) (λ q. cond (nat_lt q u) 1 0) (slots_of r task)
    (λ q. one_at_most (nat_lt q t) (nat_lt q u) (λ below. lt-ltb q u (let h : q < t = ltb-true q t below in omega arith))) in
    omega (arith, done_is r task t, done_is r task u, more)

-- each delay before slot u counts for the subtask that is next at u
back_is : (r : List Slot) (j : Joined) (u : ℕ) (x : Event) → slot_of x ≤ u → hold_back_of r j.task (next_at r j u) x ≡ delay_from j x
back_is r j u (Delay slot task by) before = ⊎_elim
    (λ same.
    let counts : nat_le (done r j.task slot + 1) (next_at r j u) ≡ true = le-leb _ _ (let h : done r j.task slot ≤ done r j.task u = done_rises r j.task slot u before in omega arith) in
    ap₂ (λ b c. cond (b && c) by 0) same counts ∙ sym (cond-true (task == j.task) by 0 same))
    (λ differ. ap (λ b. cond (b && nat_le (done r j.task slot + 1) (next_at r j u)) by 0) differ ∙ sym (cond-false (task == j.task) by 0 differ))
    (cases_Bool (task == j.task))
back_is r j u (Join slot task cost period early) before = refl
back_is r j u (Leave slot task) before = refl
back_is r j u (Limit slot count) before = refl

backs_are : (r : List Slot) (j : Joined) (u : ℕ) (xs : List Numbered) → All (λ x. slot_of x.event ≤ u) xs →
    sum_by (λ x. hold_back_of r j.task (next_at r j u) x.event) xs ≡ sum_by (λ x. delay_from j x.event) xs
backs_are r j u [] before = refl
backs_are r j u (x ∷ xs) before =
    sum_by-cons (λ x. hold_back_of r j.task (next_at r j u) x.event) x xs
    ∙ ap₂ (λ a b. a + b) (back_is r j u x.event (All-head (λ x. slot_of x.event ≤ u) x xs before)) (backs_are r j u xs (All-tail (λ x. slot_of x.event ≤ u) x xs before))
    ∙ sym (sum_by-cons (λ x. delay_from j x.event) x xs)

-- the shift that a delay at slot u found
pub found_shift : (r : List Slot) (j : Joined) (u : ℕ) (before : List Numbered) → All (λ x. slot_of x.event ≤ u) before →
    shift_of r before j (next_at r j u) ≡ j.slot + sum_by (λ x. delay_from j x.event) before
unfolding shift_of
found_shift r j u before earlier = ap (λ n. j.slot + n) (backs_are r j u before earlier)

stop_is : (r : List Slot) (j : Joined) (before : List Numbered) (shift : ℕ) (x : Event) → All (λ y. slot_of y.event ≤ slot_of x) before →
    shift ≡ j.slot + sum_by (λ x. delay_from j x.event) before → stop_by r before j x ≡ map (stop_of j.weight) (held_by (next_at r j) j shift x)
stop_is r j before shift (Delay slot task by) earlier is =
    let same = found_shift r j slot before earlier ∙ sym is in
    one_or_none (task == j.task) (release_of j.weight (next_at r j slot)) (shift_of r before j (next_at r j slot)) shift (next_at r j slot) by same refl
  where
    one_or_none : (b : Bool) (q s shift sub by : ℕ) → s ≡ shift → release_of j.weight sub ≡ q →
        cond b (let stop : Stop = record { start = q + s; end = q + s + by } in stop ∷ []) []
        ≡ map (stop_of j.weight) (cond b (let held : Held = record { sub = sub; shift = shift; by = by } in held ∷ []) [])
    one_or_none true q s shift sub by e f = ap₂ (λ q s. let stop : Stop = record { start = q + s; end = q + s + by } in stop ∷ []) (sym f) e
    one_or_none false q s shift sub by e f = refl
stop_is r j before shift (Join slot task cost period early) earlier is = refl
stop_is r j before shift (Leave slot task) earlier is = refl
stop_is r j before shift (Limit slot count) earlier is = refl

pub stops_are : (r : List Slot) (j : Joined) (before xs : List Numbered) (u shift : ℕ) → RiseFrom u xs → All (λ y. slot_of y.event ≤ u) before →
    shift ≡ j.slot + sum_by (λ x. delay_from j x.event) before → stops_behind r j before xs ≡ map (stop_of j.weight) (held_from (next_at r j) j shift xs)
stops_are r j before [] u shift rise earlier is = refl
stops_are r j before (x ∷ xs) u shift rise earlier is =
    let first : u ≤ slot_of x.event = rise.0 in
    let all : All (λ y. slot_of y.event ≤ slot_of x.event) before = λ k d within. omega (arith, earlier k d within) in
    ap₂ (λ a b. a ++ b) (stop_is r j before shift x.event all is)
    (stops_are r j (before ++ x ∷ []) xs (slot_of x.event) (shift + delay_from j x.event) rise.1
    (All-push (λ y. slot_of y.event ≤ slot_of x.event) before x all (omega arith))
    (omega (arith, is, sum_by_push (λ x. delay_from j x.event) before x)))
    ∙ sym (map-append (stop_of j.weight) (held_by (next_at r j) j shift x.event) (held_from (next_at r j) j (shift + delay_from j x.event) xs))

pub chain_from : (sub sub' shift : ℕ) (hs : List Held) → sub ≤ sub' → AreSuccessive sub' shift hs → AreSuccessive sub shift hs
chain_from sub sub' shift [] lower chain = tt
chain_from sub sub' shift (h ∷ hs) lower chain = let first : sub' ≤ h.sub = chain.0 in (omega arith, chain.1, chain.2)

module _ (next : ℕ → ℕ) (rises : (t u : ℕ) → t ≤ u → next t ≤ next u) (j : Joined) where
  later_chain : (u slot shift : ℕ) (hs : List Held) → u ≤ slot → AreSuccessive (next slot) (shift + 0) hs → AreSuccessive (next u) shift hs
  later_chain u slot shift hs before rest =
      let P : ℕ → Type 0 = λ n. AreSuccessive (next slot) n hs in
      chain_from (next u) (next slot) shift hs (rises u slot before) (subst P (let z : shift + 0 ≡ shift = omega arith in z) rest)

  chain_held : (u shift : ℕ) (x : Event) (hs : List Held) → u ≤ slot_of x →
      AreSuccessive (next (slot_of x)) (shift + delay_from j x) hs → AreSuccessive (next u) shift (held_by next j shift x ++ hs)
  chain_held u shift (Delay slot task by) hs before chain = one_or_none (task == j.task) chain
    where
      one_or_none : (b : Bool) → AreSuccessive (next slot) (shift + cond b by 0) hs →
          AreSuccessive (next u) shift (cond b (let held : Held = record { sub = next slot; shift = shift; by = by } in held ∷ []) [] ++ hs)
      one_or_none true rest = (rises u slot before, refl, rest)
      one_or_none false rest = later_chain u slot shift hs before rest
  chain_held u shift (Join slot task cost period early) hs before chain = later_chain u slot shift hs before chain
  chain_held u shift (Leave slot task) hs before chain = later_chain u slot shift hs before chain
  chain_held u shift (Limit slot count) hs before chain = later_chain u slot shift hs before chain

  pub held_chain : (u shift : ℕ) (xs : List Numbered) → RiseFrom u xs → AreSuccessive (next u) shift (held_from next j shift xs)
  held_chain u shift [] rise = tt
  held_chain u shift (x ∷ xs) rise =
      chain_held u shift x.event (held_from next j (shift + delay_from j x.event) xs) rise.0
      (held_chain (slot_of x.event) (shift + delay_from j x.event) xs rise.1)

pub next_rises : (r : List Slot) (j : Joined) (t u : ℕ) → t ≤ u → next_at r j t ≤ next_at r j u
next_rises r j t u within = let up : done r j.task t ≤ done r j.task u = done_rises r j.task t u within in omega arith

-- the same of the slots in which the task ran
pub next_in_rises : (ran : List ℕ) (t u : ℕ) → t ≤ u → next_in ran t ≤ next_in ran u
next_in_rises ran t u within =
    let more = sum_by-le-sum_by (λ q. cond (nat_lt q t) 1 0) (λ q. cond (nat_lt q u) 1 0) ran
    (λ q. one_at_most (nat_lt q t) (nat_lt q u) (λ below. lt-ltb q u (let h : q < t = ltb-true q t below in omega arith))) in
    omega (arith, more)
