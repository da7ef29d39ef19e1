-- What a timeline keeps of a scenario's run, and the slot that its engine takes next.
use Rattle.std.proofs.Common.{◌≡◌, ℕ, suc, ◌+◌, ◌<◌, ◌≤◌, Option, Some, None, List, [], ◌∷◌, ◌++◌, length, All, refl, sym, ap, ap₂, ◌∙◌, subst, arith, append_assoc, length-append}
use Rattle.std.proofs.lemmas.List.{length-replicate}
use Rattle.pf_order.specs.declared.pick.Pick.{Pick}
use Rattle.pf_place.specs.Occupancy.{row_of, idle_row}
use Rattle.pf_place.specs.RunRows.{rows_behind, rows_of}
use Rattle.pf_place.specs.Turns.{IsTurn, IsRow}
use Rattle.pf_place.specs.RunRows.{last_row}
use Rattle.pf_place.proofs.Blocks.{last_behind}
use Rattle.pf_place.proofs.Seated.{row_is_row, idle_is_row}
use Rattle.pf_engine.specs.Denial.{Denial}
use Rattle.pf_scenario.specs.System.{System}
use Rattle.pf_scenario.specs.Scenario.{Plan, events_of, past}
use Rattle.pf_scenario.specs.Edit.{IsScenario}
use Rattle.pf_scenario.specs.declared.event.Numbered.{Numbered}
use Rattle.pf_run.specs.declared.denied.Denied.{Denied}
use Rattle.pf_run.specs.Record.{Slot, denials_of, in_force}
use Rattle.pf_run.specs.Inside.{count_of}
use Rattle.pf_run.specs.Denials.{denial_of, denied_for, denials_behind}
use Rattle.pf_run.specs.Run.{events_in_force, IsNextSlot, IsRun}
use Rattle.pf_run.specs.Computed.{course_of, run_of}
use Rattle.pf_engine.specs.Fits.{Kept, kept_after, Fits, Taken, CanTake, TakesSlot}
use Rattle.pf_run.specs.RunRows.{AreOfRun, count_in_last, turns_behind, turns_of, rows_in, denials_in}
use Rattle.pf_run.proofs.Judged.{length_snoc, denials_of_snoc, along_run}
use Rattle.pf_run.proofs.Seating.{next_is_turn, next_numbered}
use Rattle.pf_run.proofs.Runs.{one_run, run_more, run_is_computed, computed_length}
use Rattle.pf_timeline.specs.Keeping.{KeepsRun}

-- the row of a slot follows the rows of those before it
turns_snoc : (s : Plan) (r slots : List Slot) (slot : Slot) →
    turns_behind s r (slots ++ slot ∷ []) ≡ turns_behind s r slots ++ (count_in_last s (r ++ (slots ++ slot ∷ [])), slot.picks) ∷ []
turns_snoc s r [] slot = refl
turns_snoc s r (first ∷ slots) slot =
    let turn : ℕ × List Pick = (count_in_last s (r ++ first ∷ []), first.picks) in
    ap (λ turns. turn ∷ turns) (turns_snoc s (r ++ first ∷ []) slots slot)
    ∙ ap (λ all. turn ∷ (turns_behind s (r ++ first ∷ []) slots ++ (count_in_last s all, slot.picks) ∷ []))
    (append_assoc r (first ∷ []) (slots ++ slot ∷ []))

rows_snoc : (m : ℕ) (before : List (Option Pick)) (turns : List (ℕ × List Pick)) (turn : ℕ × List Pick) →
    rows_behind m before (turns ++ turn ∷ []) ≡
    rows_behind m before turns ++ row_of m turn.0 (last_row before (rows_behind m before turns)) turn.1 ∷ []
rows_snoc m before [] turn = refl
rows_snoc m before (first ∷ turns) turn =
    ap (λ rows. row_of m first.0 before first.1 ∷ rows) (rows_snoc m (row_of m first.0 before first.1) turns turn)

turns_long : (s : Plan) (r slots : List Slot) → length (turns_behind s r slots) ≡ length slots
turns_long s r [] = refl
turns_long s r (slot ∷ slots) = ap suc (turns_long s (r ++ slot ∷ []) slots)

rows_long : (m : ℕ) (before : List (Option Pick)) (turns : List (ℕ × List Pick)) → length (rows_behind m before turns) ≡ length turns
rows_long m before [] = refl
rows_long m before (turn ∷ turns) = ap suc (rows_long m (row_of m turn.0 before turn.1) turns)

-- the rows of a record, in its settings
abbrev record_rows : Plan → List Slot → List (List (Option Pick))
record_rows s r = rows_of s.settings.processors (turns_of s r)

abbrev row_behind : Plan → List Slot → List (Option Pick)
row_behind s r = last_row (idle_row s.settings.processors) (record_rows s r)

record_rows_snoc : (s : Plan) (r : List Slot) (slot : Slot) →
    record_rows s (r ++ slot ∷ []) ≡
    record_rows s r ++ row_of s.settings.processors (count_in_last s (r ++ slot ∷ [])) (row_behind s r) slot.picks ∷ []
record_rows_snoc s r slot =
    ap (rows_of s.settings.processors) (turns_snoc s [] r slot)
    ∙ rows_snoc s.settings.processors (idle_row s.settings.processors) (turns_of s r) (count_in_last s (r ++ slot ∷ []), slot.picks)

-- each row of a run can stand before the next
last_is_row : (s : Plan) → IsScenario s → (n : ℕ) (r : List Slot) → IsRun s n r → IsRow s.settings.processors (row_behind s r)
last_is_row s scenario = along_run s (λ r. IsRow s.settings.processors (row_behind s r))
    (idle_is_row s.settings.processors)
    (λ r slot run next before.
    let m = s.settings.processors in
    let row = row_of m (count_in_last s (r ++ slot ∷ [])) (row_behind s r) slot.picks in
    subst (IsRow m)
    (sym (ap (last_row (idle_row m)) (record_rows_snoc s r slot) ∙ last_behind (idle_row m) (record_rows s r) row))
    (row_is_row m (count_in_last s (r ++ slot ∷ [])) (row_behind s r) slot.picks (next_is_turn s r slot scenario next) before))

-- Use: an idle row after some rows is as long as it was made.
pub idle_width : (m : ℕ) (rows : List (List (Option Pick))) → length (last_row [] (rows ++ idle_row m ∷ [])) ≡ m
idle_width m rows = ap length (last_behind [] rows (idle_row m)) ∙ length-replicate m None

-- no slots
no_slots : (s : Plan) → run_of s 0 ≡ []
unfolding course_of
no_slots s = refl

no_rows : (s : Plan) → rows_in s 0 ≡ []
unfolding rows_in
no_rows s = ap (record_rows s) (no_slots s)

pub no_denials : (s : Plan) → denials_in s 0 ≡ []
unfolding denials_in
no_denials s = ap denials_of (no_slots s)

-- Use: a new engine with no rows and no denials.
pub keeps_at_start : (s : Plan) (rows : List (List (Option Pick))) (denials : List Denied) (e : Kept) → IsScenario s → Fits s [] e →
    rows ≡ [] → denials ≡ [] → KeepsRun s 0 rows denials e
keeps_at_start s rows denials e scenario fits none still = record {
  of_run = record {
    scenario = scenario;
    within = omega arith;
    are_rows = none ∙ sym (no_rows s);
    are_denials = still ∙ sym (no_denials s);
  };
  engine = subst (λ r. Fits s r e) (sym (no_slots s)) fits;
}

-- Use: there is a row for each slot.
pub row_each : (s : Plan) (n : ℕ) (rows : List (List (Option Pick))) (denials : List Denied) → AreOfRun s n rows denials → length rows ≡ n
unfolding rows_in
row_each s n rows denials of_run =
    ap length of_run.are_rows
    ∙ rows_long s.settings.processors (idle_row s.settings.processors) (turns_of s (run_of s n))
    ∙ turns_long s [] (run_of s n)
    ∙ computed_length s n of_run.scenario

-- of some events no more are denied than there are
few_denied : (x : Numbered) (t : ℕ) (o : Option Denial) → length (denied_for x t o) ≤ 1
few_denied x t None = omega arith
few_denied x t (Some denial) = omega arith

few_fail : (s : System) (r : List Slot) (denials : List Denied) (before xs : List Numbered) →
    length (denials_behind s r denials before xs) ≤ length xs
few_fail s r denials before [] = omega arith
few_fail s r denials before (x ∷ xs) =
    let reason : Option Denial = denial_of s r (in_force denials before) x.event in
    let later : List Denied = denials_behind s r denials (before ++ x ∷ []) xs in
    omega (
      arith,
      length-append (denied_for x (length r) reason) later,
      few_denied x (length r) reason,
      few_fail s r denials (before ++ x ∷ []) xs,
    )

-- Use: an engine that fits has taken the slots of its run.
pub fits_now : (s : Plan) (r : List Slot) (e : Kept) → Fits s r e → e.now ≡ length r
unfolding kept_after
fits_now s r e fits = ap (λ e. e.now) fits.keeps

module _ (s : Plan) (n : ℕ) (rows : List (List (Option Pick))) (denials : List Denied) (e : Kept) (keeps : KeepsRun s n rows denials e) where
  run : IsRun s (length (run_of s n)) (run_of s n)
  run = keeps.engine.is_run

  slots : length (run_of s n) ≡ n
  slots = computed_length s n keeps.of_run.scenario

  -- Use: the engine has taken these slots.
  pub kept_now : e.now ≡ n
  kept_now = fits_now s (run_of s n) e keeps.engine ∙ slots

  -- Use: the invariant.
  pub keeps_now : KeepsRun s e.now rows denials e
  keeps_now = subst (λ k. KeepsRun s k rows denials e) (sym kept_now) keeps

  rows_are : rows ≡ record_rows s (run_of s n)
  unfolding rows_in
  rows_are = keeps.of_run.are_rows

  -- Use: the last row can stand before the next.
  pub last_stands : IsRow s.settings.processors (last_row (idle_row s.settings.processors) rows)
  last_stands =
      subst (λ rows. IsRow s.settings.processors (last_row (idle_row s.settings.processors) rows)) (sym rows_are)
      (last_is_row s keeps.of_run.scenario _ (run_of s n) run)

  module _ (events : List Numbered) (are : events ≡ events_of s e.now) where
    -- the events of the next slot are those after the run
    next_events : events ≡ events_of s (length (run_of s n))
    next_events = are ∙ ap (events_of s) (fits_now s (run_of s n) e keeps.engine)

    -- Use: the engine can take them.
    pub takes_next : n < s.settings.horizon → CanTake e events
    takes_next below = record {
      scenario = s;
      run = run_of s n;
      is_scenario = keeps.of_run.scenario;
      fits = keeps.engine;
      are_events = next_events;
      below = omega (arith, slots);
    }

    -- Use: the slot that it takes of them is the next of the run.
    pub takes_slot : (taken : Taken) (after : Kept) →
        ((s : Plan) (r : List Slot) → IsScenario s → Fits s r e → events ≡ events_of s (length r) → TakesSlot s r taken after) →
        TakesSlot s (run_of s n) taken after
    takes_slot taken after takes = takes s (run_of s n) keeps.of_run.scenario keeps.engine next_events

    -- Use: it has at most as many denials as there are events.
    pub few_denials : (slot : Slot) → IsNextSlot s (run_of s n) slot → length slot.denials ≤ length events
    few_denials slot next =
        omega (
          arith,
          ap length next.denials,
          ap length next_events,
          few_fail s.settings (run_of s n) (denials_of (run_of s n ++ slot ∷ [])) (past s (length (run_of s n)))
              (events_of s (length (run_of s n))),
        )

  module _ (taken : Taken) (after : Kept) (next : TakesSlot s (run_of s n) taken after) where
    -- Use: the processors in use are those in the last slot then.
    pub count_is : taken.count ≡ count_in_last s (run_of s n ++ taken.slot ∷ [])
    count_is =
        let long : length (run_of s n ++ taken.slot ∷ []) ≡ suc (length (run_of s n)) = length_snoc (run_of s n) taken.slot in
        let one_more : length (run_of s n) + 1 ≡ length (run_of s n ++ taken.slot ∷ []) = omega arith in
        next.count ∙ ap (λ t. count_of s.settings.processors (events_in_force s (run_of s n ++ taken.slot ∷ []) t)) one_more

    -- Use: the slot that it takes can be seated.
    pub taken_turn : IsTurn s.settings.processors taken.count taken.slot.picks
    taken_turn =
        subst (λ count. IsTurn s.settings.processors count taken.slot.picks) (sym count_is)
        (next_is_turn s (run_of s n) taken.slot keeps.of_run.scenario next.next)

    -- Use: its picks have tasks numbered from 1.
    pub taken_numbered : All (λ pick. 1 ≤ pick.task) taken.slot.picks
    taken_numbered = next_numbered s (run_of s n) taken.slot keeps.of_run.scenario next.next

    -- Use: the run is one slot longer.
    pub run_grown : run_of s (n + 1) ≡ run_of s n ++ taken.slot ∷ []
    run_grown =
        one_run s (n + 1) _ _ keeps.of_run.scenario (run_is_computed s (n + 1) keeps.of_run.scenario)
        (subst (λ k. IsRun s k (run_of s n ++ taken.slot ∷ [])) (omega (arith, slots))
        (run_more s (run_of s n) taken.slot run next.next))

    rows_grown : rows_in s (n + 1) ≡ rows ++ row_of s.settings.processors taken.count (last_row (idle_row s.settings.processors) rows) taken.slot.picks ∷ []
    unfolding rows_in
    rows_grown =
        ap (record_rows s) run_grown
        ∙ record_rows_snoc s (run_of s n) taken.slot
        ∙ ap₂ (λ count rows. rows ++ row_of s.settings.processors count (last_row (idle_row s.settings.processors) rows) taken.slot.picks ∷ [])
        (sym count_is) (sym rows_are)

    denials_grown : denials_in s (n + 1) ≡ denials ++ taken.slot.denials
    unfolding denials_in
    denials_grown =
        ap denials_of run_grown
        ∙ denials_of_snoc (run_of s n) taken.slot
        ∙ ap (λ denials. denials ++ taken.slot.denials) (sym keeps.of_run.are_denials)

    -- Use: with the row and the denials of that slot one slot more is kept.
    pub keeps_more : (rows' : List (List (Option Pick))) (denials' : List Denied) → n < s.settings.horizon →
        rows' ≡ rows ++ row_of s.settings.processors taken.count (last_row (idle_row s.settings.processors) rows) taken.slot.picks ∷ [] →
        denials' ≡ denials ++ taken.slot.denials → KeepsRun s (n + 1) rows' denials' after
    keeps_more rows' denials' below are_rows are_denials = record {
      of_run = record {
        scenario = keeps.of_run.scenario;
        within = omega arith;
        are_rows = are_rows ∙ sym rows_grown;
        are_denials = are_denials ∙ sym denials_grown;
      };
      engine = subst (λ r. Fits s r after) (sym run_grown) next.fits;
    }
