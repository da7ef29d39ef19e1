-- The load never passes the cap.
use Rattle.std.proofs.Common.{◌≡◌, ℕ, zero, suc, ◌+◌, ◌<◌, ◌≤◌, ◌==◌, Bool, true, false, not, cond, None, List, [], ◌∷◌, ◌++◌, length, take, filter, sum_by, arith, refl, sym, ap, subst, ⊎_elim}
use Rattle.std.proofs.lemmas.Bool.{cases_lt, eq-eqb}
use Rattle.std.proofs.lemmas.Bool.Decides.{nat_tests}
use Rattle.std.proofs.lemmas.List.{take-append-le, take_all, length_push}
use Rattle.std.proofs.lemmas.List.Sums.{sum_by_push, sum_by-cons}
use Rattle.pf_weight.specs.Share.{Share, share_of}
use Rattle.pf_scenario.specs.Scenario.{Plan}
use Rattle.pf_scenario.specs.Edit.{IsScenario}
use Rattle.pf_scenario.specs.Event.{is_join_of}
use Rattle.pf_scenario.specs.declared.event.Event.{Event}
use Rattle.pf_scenario.specs.declared.event.Event.TheVariants.{Join, Leave, Delay, Limit}
use Rattle.pf_scenario.specs.declared.event.Numbered.{Numbered}
use Rattle.pf_run.specs.Record.{Slot}
use Rattle.pf_run.specs.Inside.{Joined, load_of, inside}
use Rattle.pf_run.specs.Denials.{denial_of}
use Rattle.pf_run.specs.Run.{events_in_force, IsRun}
use Rattle.pf_run.specs.Inside.{joins_of}
use Rattle.pf_run.proofs.Counting.{count_by-cons}
use Rattle.pf_run.proofs.Points.{inside_push_other, inside_push_join, inside_push_leave}
use Rattle.pf_tally.proofs.Points.{IsPoint, IsBetween, along_points}

abbrev units_in : List Joined → ℕ
units_in js = sum_by (λ j. j.weight.units) js

units_in-filter : (p : Joined → Bool) (js : List Joined) → units_in (filter p js) ≤ units_in js
units_in-filter p [] = omega arith
units_in-filter p (j ∷ js) =
    omega (arith, sum_by-cons (λ (i : Joined). i.weight.units) j js, kept (p j), units_in-filter p js) where
      kept : (b : Bool) → units_in (cond b (j ∷ filter p js) (filter p js)) ≤ j.weight.units + units_in (filter p js)
      kept true = omega (arith, sum_by-cons (λ (i : Joined). i.weight.units) j (filter p js))
      kept false = omega arith

module _ (s : Plan) (scenario : IsScenario s) where
  abbrev base : ℕ
  base = s.settings.base

  -- one event more that is not denied
  load_next : (q : List Slot) (xs : List Numbered) (id : ℕ) (event : Event) → IsPoint q xs →
      ((task : ℕ) → joins_of task xs + cond (is_join_of task event) 1 0 ≤ 1) →
      denial_of s.settings q xs event ≡ None → load_of base xs ≤ s.settings.cap →
      load_of base (xs ++ record { id = id; event = event } ∷ []) ≤ s.settings.cap
  unfolding load_of
  load_next q xs id (Join slot task cost period early) point once admitted within =
      let x : Numbered = record { id = id; event = Join slot task cost period early } in
      let w : Share = share_of base cost period in
      let j : Joined = record { task = task; slot = slot; weight = w; early = early } in
      let room : load_of base xs + w.units ≤ s.settings.cap = grind (arith, nat_tests) in
      let itself = eq-eqb task task refl in
      let new : joins_of task xs ≡ 0 = omega (arith, once task, ap {B = ℕ} (λ b. cond b 1 0) itself) in
      let more : inside base (xs ++ x ∷ []) ≡ inside base xs ++ j ∷ [] =
      inside_push_join base xs x j refl (λ _. refl) (point.fresh task new).0 in
      omega (arith, ap units_in more, sum_by_push (λ (i : Joined). i.weight.units) (inside base xs) j, room)
  load_next q xs id (Leave slot task) point once admitted within =
      omega (
        arith,
        ap units_in (inside_push_leave base xs id slot task),
        units_in-filter (λ j. not (j.task == task)) (inside base xs),
        within,
      )
  load_next q xs id (Delay slot task by) point once admitted within =
      omega (
        arith,
        within,
        ap units_in (inside_push_other base xs (record { id = id; event = Delay slot task by }) refl (λ _. refl)),
      )
  load_next q xs id (Limit slot count) point once admitted within =
      omega (
        arith,
        within,
        ap units_in (inside_push_other base xs (record { id = id; event = Limit slot count }) refl (λ _. refl)),
      )

  -- no more than the cap is asked for by the first so many of these events
  abbrev AreWithin : List Slot → List Numbered → Type 0
  AreWithin q xs = (k : ℕ) → load_of base (take k xs) ≤ s.settings.cap

  within_none : AreWithin [] []
  unfolding load_of inside
  within_none zero = omega arith
  within_none (suc k) = omega arith

  within_event : (q : List Slot) (xs : List Numbered) (x : Numbered) (ys : List Numbered) → IsRun s (length q) q →
      IsBetween s q xs (x ∷ ys) → denial_of s.settings q xs x.event ≡ None → AreWithin q xs → AreWithin q (xs ++ x ∷ [])
  within_event q xs x ys run between admitted within k = ⊎_elim
      (λ (past : length xs < k).
      let all : take k (xs ++ x ∷ []) ≡ xs ++ x ∷ [] = take_all k (xs ++ x ∷ []) (omega (arith, length_push xs x, past)) in
      let before : load_of base xs ≤ s.settings.cap =
      subst (λ zs. load_of base zs ≤ s.settings.cap) (take_all (length xs) xs (omega arith)) (within (length xs)) in
      subst (λ zs. load_of base zs ≤ s.settings.cap) (sym all)
      (load_next q xs x.id x.event between.point
      (λ task. omega (arith, between.once task, count_by-cons (λ y. is_join_of task y.event) x ys)) admitted before))
      (λ (le : k ≤ length xs).
      subst (λ zs. load_of base zs ≤ s.settings.cap) (sym (take-append-le k xs (x ∷ []) le)) (within k))
      (cases_lt (length xs) k)

  within_run : (n : ℕ) (r : List Slot) → IsRun s n r → AreWithin r (events_in_force s r (length r))
  within_run n r run =
      along_points s scenario AreWithin within_none within_event
      (λ q d xs is next stands between within. within) n r run

pub load_is_within_cap : (s : Plan) (n : ℕ) (r : List Slot) (k : ℕ) → IsScenario s → IsRun s n r →
    load_of s.settings.base (take k (events_in_force s r n)) ≤ s.settings.cap
load_is_within_cap s n r k scenario run =
    subst (λ t. load_of s.settings.base (take k (events_in_force s r t)) ≤ s.settings.cap) run.slots
    (within_run s scenario n r run k)
