-- A task's subtasks run in turn: the i-th slot in which it runs is that of subtask i.
use Rattle.std.proofs.Common.{◌≡◌, ℕ, suc, ◌+◌, ◌-◌, ◌<◌, ◌≤◌, Bool, true, false, ◌&&◌, ◌==◌, ◌||◌, nat_lt, nat_le, cond, Option, None, Some, List, [], ◌∷◌, ◌++◌, length, get_or, filter_map, count_by, position, All, Contains, ⊎_elim, refl, sym, ap, ap₂, ◌∙◌, subst, append_assoc, arith}
use Rattle.std.specs.Prelude.{not}
use Rattle.std.specs.List.{list_any, cons_option, slice_get, position_or_len}
use Rattle.std.proofs.lemmas.Bool.{cases_Bool, cases_eq, cond-true, cond-false, lt-ltb, ne_eqb, eq-eqb}
use Rattle.std.proofs.lemmas.Bool.Decides.{nat_tests}
use Rattle.std.proofs.lemmas.List.{take_all, length-map, get_or-map}
use Rattle.std.proofs.lemmas.Option.{cond_some}
use Rattle.std.proofs.lemmas.List.Elements.{Contains-get_or, All-head, All-tail}
use Rattle.std.proofs.lemmas.List.Sums.{sum_by_push}
use Rattle.pf_order.specs.Priority.{Priority}
use Rattle.pf_order.specs.declared.pick.Pick.{Pick}
use Rattle.pf_scenario.specs.Scenario.{Plan}
use Rattle.pf_scenario.specs.Edit.{IsScenario}
use Rattle.pf_scenario.specs.declared.event.Numbered.{Numbered}
use Rattle.pf_run.specs.Record.{Slot, runs, done, next_sub}
use Rattle.pf_run.specs.Inside.{Joined, inside, ready, ready_key, next_key, member_of, eligible_from}
use Rattle.pf_run.specs.Run.{events_in_force, pick_of_key, IsNextSlot, IsRun}
use Rattle.pf_run.specs.Computed.{run_of}
use Rattle.pf_run.proofs.Containing.{contains_none, contains_head, contains_tail, contains_cases}
use Rattle.pf_run.proofs.Runs.{run_is_computed}
use Rattle.pf_tally.specs.Quanta.{places_from, slots_of}
use Rattle.pf_tally.specs.Misses.{ran_in}
use Rattle.pf_tally.proofs.Turns.{slot_behind}

-- an element that a function gives, and what it gives it of
module _ {X Y : Type 0} (h : X → Option Y) where
  pub record Giver (xs : List X) (y : Y) : Type 0 where
    pub giver : X
    pub stands : Contains xs giver
    pub gives : h giver ≡ Some y

  giver_later : (x : X) (xs : List X) (y : Y) → Giver xs y → Giver (x ∷ xs) y
  giver_later x xs y g = record { giver = g.giver; stands = contains_tail x xs g.giver g.stands; gives = g.gives }

  giver_given : (x : X) (xs : List X) (y : Y) (o : Option Y) → h x ≡ o → (Contains (filter_map h xs) y → Giver xs y) →
      Contains (cons_option o (filter_map h xs)) y → Giver (x ∷ xs) y
  giver_given x xs y None is rest at = giver_later x xs y (rest at)
  giver_given x xs y (Some z) is rest at = ⊎_elim
      (λ e. record { giver = x; stands = contains_head x xs; gives = is ∙ ap (λ z. Some z) e })
      (λ later. giver_later x xs y (rest later))
      (contains_cases z (filter_map h xs) y at)

  pub from_filter_map : (xs : List X) (y : Y) → Contains (filter_map h xs) y → Giver xs y
  from_filter_map [] y at = absurd (contains_none y at)
  from_filter_map (x ∷ xs) y at = giver_given x xs y (h x) refl (from_filter_map xs y) at

-- an eligible subtask is its task's next one
ready_sub : (base : ℕ) (r : List Slot) (xs : List Numbered) (k : Priority) → Contains (ready base r xs) k → k.sub ≡ next_sub r k.task
unfolding ready member_of
ready_sub base r xs k at =
    let g = from_filter_map (λ j. ready_key (length r) j.task (member_of r xs j)) (inside base xs) k at in
    let m = member_of r xs g.giver in
    let e : next_key g.giver.task m ≡ k = (cond_some (nat_le (eligible_from m) (length r)) (next_key g.giver.task m) k g.gives).1 in
    ap (λ k. k.sub) (sym e) ∙ ap (λ k. next_sub r k.task) e

abbrev Numbers : List Slot → List Pick → Type 0
Numbers r picks = All (λ p. p.sub ≡ next_sub r p.task) picks

next_numbers : (s : Plan) (r : List Slot) (slot : Slot) → IsNextSlot s r slot → Numbers r slot.picks
next_numbers s r slot next =
    let xs = events_in_force s (r ++ slot ∷ []) (suc (length r)) in
    let chosen = next.picks.chosen in
    let e : Priority = record { deadline = 0; bit = 0; group = 0; task = 0; sub = 0 } in
    subst (Numbers r) (sym next.picks.subtasks) (λ k d within.
    let inside : k < length chosen = omega (arith, length-map chosen pick_of_key) in
    let at = ((next.picks.are_first.exactly (get_or chosen k e)).0 (Contains-get_or chosen k e inside)).0 in
    subst (λ (p : Pick). p.sub ≡ next_sub r p.task) (sym (get_or-map pick_of_key chosen k e d inside))
    (ready_sub s.settings.base r xs (get_or chosen k e) at))

-- subtask i of the task is among the picks just where the task is and i is its next one
abbrev picked : ℕ → ℕ → List Pick → Bool
picked task i picks = list_any (λ p. p.task == task && p.sub == i) picks

one_pick : (r : List Slot) (task i : ℕ) (p : Pick) → p.sub ≡ next_sub r p.task →
    (p.task == task && p.sub == i) ≡ (p.task == task && next_sub r task == i)
one_pick r task i p is = ⊎_elim
    (λ same. ap (λ n. p.task == task && n == i) (is ∙ ap (next_sub r) same))
    (λ differ. let no : (p.task == task) ≡ false = ne_eqb p.task task differ in ap (λ b. b && p.sub == i) no ∙ sym (ap (λ b. b && next_sub r task == i) no))
    (cases_eq p.task task)

or_and : (a b d : Bool) → ((a && d) || (b && d)) ≡ ((a || b) && d)
or_and true b true = refl
or_and true true false = refl
or_and true false false = refl
or_and false b d = refl

picked_is : (r : List Slot) (task i : ℕ) (picks : List Pick) → Numbers r picks →
    picked task i picks ≡ (list_any (λ p. p.task == task) picks && next_sub r task == i)
picked_is r task i [] all = refl
picked_is r task i (p ∷ picks) all =
    ap₂ (λ a b. a || b) (one_pick r task i p (All-head (λ p. p.sub ≡ next_sub r p.task) p picks all))
    (picked_is r task i picks (All-tail (λ p. p.sub ≡ next_sub r p.task) p picks all))
    ∙ or_and (p.task == task) (list_any (λ p. p.task == task) picks) (next_sub r task == i)

-- in these slots the task's subtasks run in turn, after c that ran before
abbrev RunInTurn : ℕ → ℕ → List Slot → Type 0
RunInTurn task c [] = Unit {0}
RunInTurn task c (slot ∷ r) = ((i : ℕ) → picked task i slot.picks ≡ (runs task slot && c + 1 == i)) × RunInTurn task (c + cond (runs task slot) 1 0) r

done_more : (r : List Slot) (slot : Slot) (task : ℕ) → done (r ++ slot ∷ []) task (length (r ++ slot ∷ [])) ≡ done r task (length r) + cond (runs task slot) 1 0
unfolding done
done_more r slot task =
    ap (count_by (runs task)) (take_all (length (r ++ slot ∷ [])) (r ++ slot ∷ []) (omega arith))
    ∙ sum_by_push (λ x. cond (runs task x) 1 0) r slot
    ∙ ap (λ n. n + cond (runs task slot) 1 0) (ap (count_by (runs task)) (sym (take_all (length r) r (omega arith))))

runs_in_turn : (s : Plan) (r slots : List Slot) (task c : ℕ) → IsRun s (length (r ++ slots)) (r ++ slots) → done r task (length r) ≡ c → RunInTurn task c slots
runs_in_turn s r [] task c run is = tt
runs_in_turn s r (slot ∷ slots) task c run is =
    let e : (r ++ slot ∷ []) ++ slots ≡ r ++ slot ∷ slots = append_assoc r (slot ∷ []) slots in
    let P : List Slot → Type 0 = λ q. IsRun s (length q) q in (
      λ i. picked_is r task i slot.picks (next_numbers s r slot (slot_behind s r slot slots run)) ∙ ap (λ n. runs task slot && n + 1 == i) is,
      runs_in_turn s (r ++ slot ∷ []) slots task (c + cond (runs task slot) 1 0) (subst P (sym e) run)
          (done_more r slot task ∙ ap (λ n. n + cond (runs task slot) 1 0) is),
    )

-- the first place that passes
module _ {X : Type 0} (test : X → Bool) where
  abbrev first_from : ℕ → List X → Option ℕ
  first_from t [] = None
  first_from t (x ∷ xs) = cond (test x) (Some t) (first_from (t + 1) xs)

  first_step : (b : Bool) (t m n : ℕ) (o : Option ℕ) → cond (nat_lt m n) (Some (t + 1 + m)) None ≡ o →
      cond (nat_lt (cond (not b) (1 + m) 0) (suc n)) (Some (t + cond (not b) (1 + m) 0)) None ≡ cond b (Some t) o
  first_step true t m n o e =
      let yes : nat_lt 0 (suc n) ≡ true = lt-ltb 0 (suc n) (omega arith) in
      let none : Option ℕ = None in
      cond-true (nat_lt 0 (suc n)) (Some (t + 0)) none yes ∙ ap (λ n. Some n) (let z : t + 0 ≡ t = omega arith in z)
  first_step false t m n o e =
      let none : Option ℕ = None in
      ap₂ (λ b k. cond b (Some k) none) (let z : nat_lt (1 + m) (suc n) ≡ nat_lt m n = grind (arith, nat_tests) in z) (let z : t + (1 + m) ≡ t + 1 + m = omega arith in z) ∙ e

  first_is : (t : ℕ) (xs : List X) → cond (nat_lt (position_or_len test xs) (length xs)) (Some (t + position_or_len test xs)) None ≡ first_from t xs
  first_is t [] = refl
  first_is t (x ∷ xs) = first_step (test x) t (position_or_len test xs) (length xs) (first_from (t + 1) xs) (first_is (t + 1) xs)

  position_is : (xs : List X) → position test xs ≡ first_from 0 xs
  position_is xs = ap (λ n. cond (nat_lt (position_or_len test xs) (length xs)) (Some n) None) (omega arith) ∙ first_is 0 xs

ran_from : (task i c t : ℕ) (r : List Slot) → RunInTurn task c r → c < i →
    first_from (λ slot. picked task i slot.picks) t r ≡ slice_get (places_from (runs task) t r) (i - 1 - c)
ran_from task i c t [] turn after = refl
ran_from task i c t (slot ∷ r) turn after = ⊎_elim
    (λ yes. ⊎_elim
    (λ now.
    let here : picked task i slot.picks ≡ true = turn.0 i ∙ ap₂ (λ a b. a && b) yes (eq-eqb (c + 1) i now) in
    cond-true (picked task i slot.picks) (Some t) (first_from (λ slot. picked task i slot.picks) (t + 1) r) here
    ∙ sym (ap (λ qs. slice_get qs (i - 1 - c)) (cond-true (runs task slot) (t ∷ places_from (runs task) (t + 1) r) (places_from (runs task) (t + 1) r) yes)
    ∙ ap (slice_get (t ∷ places_from (runs task) (t + 1) r)) (let z : i - 1 - c ≡ 0 = omega arith in z)))
    (λ later.
    let here : picked task i slot.picks ≡ false = turn.0 i ∙ ap₂ (λ a b. a && b) yes (ne_eqb (c + 1) i later) in
    let more : c + cond (runs task slot) 1 0 ≡ c + 1 = ap (λ b. c + cond b 1 0) yes in
    cond-false (picked task i slot.picks) (Some t) (first_from (λ slot. picked task i slot.picks) (t + 1) r) here
    ∙ ran_from task i (c + 1) (t + 1) r (let P : ℕ → Type 0 = λ n. RunInTurn task n r in subst P more turn.1) (omega arith)
    ∙ sym (ap (λ qs. slice_get qs (i - 1 - c)) (cond-true (runs task slot) (t ∷ places_from (runs task) (t + 1) r) (places_from (runs task) (t + 1) r) yes)
    ∙ ap (slice_get (t ∷ places_from (runs task) (t + 1) r)) (let z : i - 1 - c ≡ suc (i - 1 - (c + 1)) = omega arith in z)))
    (cases_eq (c + 1) i))
    (λ no.
    let here : picked task i slot.picks ≡ false = turn.0 i ∙ ap (λ a. a && c + 1 == i) no in
    let none : cond (runs task slot) 1 0 ≡ 0 = ap {B = ℕ} (λ b. cond b 1 0) no in
    let more : c + cond (runs task slot) 1 0 ≡ c = omega arith in
    cond-false (picked task i slot.picks) (Some t) (first_from (λ slot. picked task i slot.picks) (t + 1) r) here
    ∙ ran_from task i c (t + 1) r (let P : ℕ → Type 0 = λ n. RunInTurn task n r in subst P more turn.1) after
    ∙ sym (ap (λ qs. slice_get qs (i - 1 - c)) (cond-false (runs task slot) (t ∷ places_from (runs task) (t + 1) r) (places_from (runs task) (t + 1) r) no)))
    (cases_Bool (runs task slot))

none_done : (task : ℕ) → done [] task 0 ≡ 0
unfolding done
none_done task = refl

-- Use: the slot in which subtask i ran is the i-th in which its task did.
pub ran_is : (s : Plan) (n : ℕ) (j : Joined) (i : ℕ) → IsScenario s → 1 ≤ i → ran_in (run_of s n) j i ≡ slice_get (slots_of (run_of s n) j.task) (i - 1)
ran_is s n j i scenario some =
    let run = run_is_computed s n scenario in
    let P : ℕ → Type 0 = λ k. IsRun s k (run_of s n) in
    position_is (λ slot. picked j.task i slot.picks) (run_of s n)
    ∙ ran_from j.task i 0 0 (run_of s n) (runs_in_turn s [] (run_of s n) j.task 0 (subst P (sym run.slots) run) (none_done j.task)) (omega arith)
    ∙ ap (slice_get (slots_of (run_of s n) j.task)) (let z : i - 1 - 0 ≡ i - 1 = omega arith in z)
