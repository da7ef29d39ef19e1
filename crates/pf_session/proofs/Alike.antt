-- A change leaves the rows of the slots below those that it touches.
use Rattle.std.proofs.Common.{◌≡◌, ◌∙◌, ◌<◌, ◌≤◌, ℕ, zero, suc, true, Bool, Option, None, Some, List, [], ◌∷◌, ◌++◌, take, ap, ap₂, refl, subst, sym, arith, eq-eqb}
use Rattle.std.specs.Prelude.{◌==◌, ◌&&◌, if◌then◌else◌, IfSome}
use Rattle.std.specs.List.{slice_get}
use Rattle.pf_order.specs.declared.pick.Pick.{Pick}
use Rattle.pf_place.specs.Occupancy.{idle_row, row_of, sitter}
use Rattle.pf_place.specs.RunRows.{rows_behind, rows_of}
use Rattle.pf_run.proofs.Runs.{computed_begins}
use Rattle.pf_run.specs.Computed.{run_of}
use Rattle.pf_run.specs.Record.{Slot}
use Rattle.pf_run.specs.RunRows.{AreOfRun, count_in_last, denials_in, rows_in, turns_behind, turns_of}
use Rattle.pf_scenario.specs.Edit.{IsScenario, edit_fault}
use Rattle.pf_scenario.specs.Scenario.{Plan, plan_after, slot_touched}
use Rattle.pf_scenario.specs.declared.change.Change.{Change}
use Rattle.pf_desk.proofs.Changes.{past_rest}
use Rattle.pf_desk.specs.Desk.{IsDesk, Seen, Shown}
use Rattle.pf_timeline.proofs.Past.{of_run_alike}
use Rattle.pf_answers.specs.SlotsChanged.{first_changed, same_at, same_places, same_rows, same_sitter, slots_by, slots_changed, this_or}

-- the first rows of a run are those of a shorter one
turns_front : (s : Plan) (t : ℕ) (r slots : List Slot) → take t (turns_behind s r slots) ≡ turns_behind s r (take t slots)
turns_front s zero r slots = refl
turns_front s (suc t) r [] = refl
turns_front s (suc t) r (slot ∷ slots) =
    ap (λ turns. (count_in_last s (r ++ slot ∷ []), slot.picks) ∷ turns) (turns_front s t (r ++ slot ∷ []) slots)

rows_front : (m t : ℕ) (before : List (Option Pick)) (turns : List (ℕ × List Pick)) → take t (rows_behind m before turns) ≡ rows_behind m before (take t turns)
rows_front m zero before turns = refl
rows_front m (suc t) before [] = refl
rows_front m (suc t) before (turn ∷ turns) =
    let row = row_of m turn.0 before turn.1 in ap (λ rows. row ∷ rows) (rows_front m t row turns)

rows_begin : (s : Plan) (n t : ℕ) → IsScenario s → t ≤ n → take t (rows_in s n) ≡ rows_in s t
unfolding rows_in
rows_begin s n t scenario within =
    rows_front s.settings.processors t (idle_row s.settings.processors) (turns_of s (run_of s n))
    ∙ ap (rows_of s.settings.processors) (turns_front s t [] (run_of s n) ∙ ap (turns_of s) (computed_begins s n t scenario within))

-- rows that are the same
same_as_itself : (o : Option Pick) → same_sitter o o ≡ true
same_as_itself None = refl
same_as_itself (Some p) = ap₂ (λ a b. a && b) (eq-eqb p.task p.task refl) (eq-eqb p.sub p.sub refl)

places_alike : (row : List (Option Pick)) (m : ℕ) → same_places row row m ≡ true
places_alike row zero = refl
places_alike row (suc m) = ap₂ (λ a b. a && b) (places_alike row m) (same_as_itself (sitter row m))

row_alike : (m : ℕ) (row : Option (List (Option Pick))) → same_rows m row row ≡ true
row_alike m None = refl
row_alike m (Some row) = places_alike row m

get_front : {X : Type 0} (n i : ℕ) (xs : List X) → i < n → slice_get (take n xs) i ≡ slice_get xs i
get_front zero i xs h = absurd (omega (arith, h))
get_front (suc n) i [] h = refl
get_front (suc n) zero (x ∷ xs) h = refl
get_front (suc n) (suc i) (x ∷ xs) h = get_front n i xs (omega (arith, h))

module _ (m n : ℕ) (before after : List (List (Option Pick))) (same : take n before ≡ take n after) where
  at_alike : (t : ℕ) → t < n → same_at m before after t ≡ true
  at_alike t h =
      ap (λ o. same_rows m o (slice_get after t)) (sym (get_front n t before h) ∙ ap (λ rows. slice_get rows t) same ∙ get_front n t after h)
      ∙ row_alike m (slice_get after t)

  none_below : (t : ℕ) → t ≤ n → first_changed m before after t ≡ None
  none_below zero h = refl
  none_below (suc t) h =
      ap (λ o. this_or o (if same_at m before after t then None else Some t)) (none_below t (omega (arith, h)))
      ∙ ap (λ b. if b then None else Some t) (at_alike t (omega (arith, h)))

module _ (s : Plan) (c : Change) (n from : ℕ) (of_s : IsScenario s) (of_q : IsScenario (plan_after s c)) (few : n ≤ s.settings.horizon) (faultless : edit_fault s c ≡ None) (touched : slot_touched s c ≡ Some from) (within : from < n) where
  rows_alike : rows_in s from ≡ rows_in (plan_after s c) from
  rows_alike =
      let same = past_rest s c from of_s faultless (subst (λ o. IfSome o (λ t. from ≤ t)) (sym touched) (omega arith)) in
      let of_run : AreOfRun s from (rows_in s from) (denials_in s from) = record { scenario = of_s; within = omega (arith, within, few); are_rows = refl; are_denials = refl } in
      (of_run_alike s (plan_after s c) from (ap (λ past. past.settings) same) (ap (λ past. past.events) same) (rows_in s from) (denials_in s from) of_q of_run).are_rows

  -- Use: no row below the least slot touched is another one.
  pub none_untouched : (m : ℕ) → first_changed m (rows_in s n) (rows_in (plan_after s c) n) from ≡ None
  none_untouched m =
      none_below m from (rows_in s n) (rows_in (plan_after s c) n)
      (rows_begin s n from of_s (omega (arith, within)) ∙ rows_alike ∙ sym (rows_begin (plan_after s c) n from of_q (omega (arith, within)))) from (omega arith)

-- a desk, and what is seen of it once this change is made
module _ (d : Shown) (q : Seen) (c : Change) (now : ℕ) (touched : Option ℕ) (desk : IsDesk d) (of_run : AreOfRun q.state.plan q.state.now q.rows q.denials)
    (made : q.state ≡ record d.state { plan = plan_after d.state.plan c }) (faultless : edit_fault d.state.plan c ≡ None)
    (is_touched : touched ≡ slot_touched d.state.plan c) (is_now : now ≡ q.state.now) where
  rows_before : d.rows ≡ rows_in d.state.plan d.state.now
  rows_before = desk.of_run.are_rows

  rows_after : q.rows ≡ rows_in (plan_after d.state.plan c) d.state.now
  rows_after = of_run.are_rows ∙ ap (λ st. rows_in st.plan st.now) made

  same_now : now ≡ d.state.now
  same_now = is_now ∙ ap (λ st. st.now) made

  -- Use: the rows below the least slot touched are as before.
  pub slots_alike : (m : ℕ) → IfSome touched (λ from. from < now → first_changed m d.rows q.rows from ≡ None)
  slots_alike m = by touched is_touched
    where
      by : (o : Option ℕ) → o ≡ slot_touched d.state.plan c → IfSome o (λ from. from < now → first_changed m d.rows q.rows from ≡ None)
      by None e = tt
      by (Some from) e = λ below.
          ap₂ (λ a b. first_changed m a b from) rows_before rows_after
          ∙ none_untouched d.state.plan c d.state.now from desk.of_run.scenario (subst (λ st. IsScenario st.plan) made of_run.scenario) desk.of_run.within
          faultless (sym e) (subst (λ n. from < n) same_now below) m

  -- Use: they are those of the change.
  pub slots_are : slots_by d.state.plan.settings.processors touched d.rows q.rows now ≡ slots_changed d.state c
  slots_are = λ i. slots_by d.state.plan.settings.processors (is_touched i) (rows_before i) (rows_after i) (same_now i)
