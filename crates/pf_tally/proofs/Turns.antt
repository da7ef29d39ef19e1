-- A run's rows seat its picks: in each slot exactly those that were picked.
use Rattle.std.proofs.Common.{◌≡◌, ℕ, suc, ◌+◌, ◌<◌, ◌==◌, ◌||◌, cond, Option, None, Some, List, [], ◌∷◌, ◌++◌, length, All, IsPermutation, refl, sym, ap, ap₂, ◌∙◌, subst, subst₂, append_assoc, arith}
use Rattle.std.specs.List.{list_any}
use Rattle.std.proofs.lemmas.List.{length-append, take_at, get_or_at}
use Rattle.std.proofs.lemmas.List.Elements.{All-nil, All-cons}
use Rattle.std.proofs.lemmas.List.Sorted.{list_any-IsPermutation}
use Rattle.pf_order.specs.declared.pick.Pick.{Pick}
use Rattle.pf_place.specs.Occupancy.{sitters, is_seated, row_of, idle_row}
use Rattle.pf_place.specs.RunRows.{rows_behind}
use Rattle.pf_place.specs.Turns.{IsRow}
use Rattle.pf_place.proofs.Seated.{row_seats_picks, row_is_row, idle_is_row}
use Rattle.pf_scenario.specs.Scenario.{Plan}
use Rattle.pf_scenario.specs.Edit.{IsScenario}
use Rattle.pf_run.specs.Record.{Slot, runs}
use Rattle.pf_run.specs.Run.{IsNextSlot, IsRun}
use Rattle.pf_run.specs.RunRows.{turns_behind, rows_in, count_in_last}
use Rattle.pf_run.specs.Computed.{run_of}
use Rattle.pf_run.proofs.Seating.{next_is_turn}
use Rattle.pf_run.proofs.Runs.{run_is_computed}
use Rattle.pf_tally.specs.Quanta.{places_from, slots_of, slots_in}

-- each row seats the picks of its slot
abbrev pub AreSeated : ℕ → List (List (Option Pick)) → List Slot → Type 0
AreSeated m [] [] = Unit {0}
AreSeated m [] (slot ∷ r) = ⊥
AreSeated m (row ∷ rows) [] = ⊥
AreSeated m (row ∷ rows) (slot ∷ r) = IsPermutation slot.picks (sitters row) × IsRow m row × AreSeated m rows r

-- the slot at the end of r, of a run that goes on
pub slot_behind : (s : Plan) (r : List Slot) (slot : Slot) (slots : List Slot) → IsRun s (length (r ++ slot ∷ slots)) (r ++ slot ∷ slots) → IsNextSlot s r slot
slot_behind s r slot slots run =
    let at : length r < length (r ++ slot ∷ slots) = omega (arith, length-append r (slot ∷ slots)) in
    subst₂ (IsNextSlot s) (take_at r (slot ∷ slots) (length r) refl) (get_or_at r slot slots slot (length r) refl) (run.each (length r) slot at)

rows_seat : (s : Plan) (r slots : List Slot) (before : List (Option Pick)) → IsScenario s → IsRun s (length (r ++ slots)) (r ++ slots) →
    IsRow s.settings.processors before → AreSeated s.settings.processors (rows_behind s.settings.processors before (turns_behind s r slots)) slots
rows_seat s r [] before scenario run row = tt
rows_seat s r (slot ∷ slots) before scenario run row =
    let turn = next_is_turn s r slot scenario (slot_behind s r slot slots run) in
    let m = s.settings.processors in
    let count = count_in_last s (r ++ slot ∷ []) in
    let next = row_is_row m count before slot.picks turn row in
    let e : (r ++ slot ∷ []) ++ slots ≡ r ++ slot ∷ slots = append_assoc r (slot ∷ []) slots in
    let P : List Slot → Type 0 = λ q. IsRun s (length q) q in (
      row_seats_picks m count before slot.picks turn.in_use row.places turn.few turn.once row.once,
      next,
      rows_seat s (r ++ slot ∷ []) slots (row_of m count before slot.picks) scenario (subst P (sym e) run) next,
    )

-- Use: the rows of a run seat its picks.
pub run_seated : (s : Plan) (n : ℕ) → IsScenario s → AreSeated s.settings.processors (rows_in s n) (run_of s n)
unfolding rows_in
run_seated s n scenario =
    let run = run_is_computed s n scenario in
    let P : ℕ → Type 0 = λ k. IsRun s k (run_of s n) in
    rows_seat s [] (run_of s n) (idle_row s.settings.processors) scenario (subst P (sym run.slots) run)
    (idle_is_row s.settings.processors)

-- who sits runs
seated_sits : (row : List (Option Pick)) (task : ℕ) → is_seated row task ≡ list_any (λ p. p.task == task) (sitters row)
seated_sits [] task = refl
seated_sits (None ∷ row) task = seated_sits row task
seated_sits (Some p ∷ row) task = ap (λ b. (p.task == task) || b) (seated_sits row task)

pub length_seated : (m : ℕ) (rows : List (List (Option Pick))) (r : List Slot) → AreSeated m rows r → length rows ≡ length r
length_seated m [] [] seated = refl
length_seated m [] (slot ∷ r) seated = absurd seated
length_seated m (row ∷ rows) [] seated = absurd seated
length_seated m (row ∷ rows) (slot ∷ r) seated = ap suc (length_seated m rows r seated.2)

places_seated : (m : ℕ) (rows : List (List (Option Pick))) (r : List Slot) (task t : ℕ) → AreSeated m rows r →
    places_from (λ row. is_seated row task) t rows ≡ places_from (runs task) t r
places_seated m [] [] task t seated = refl
places_seated m [] (slot ∷ r) task t seated = absurd seated
places_seated m (row ∷ rows) [] task t seated = absurd seated
places_seated m (row ∷ rows) (slot ∷ r) task t seated =
    ap₂ (λ b qs. cond b (t ∷ qs) qs)
    (seated_sits row task ∙ sym (list_any-IsPermutation (λ p. p.task == task) slot.picks (sitters row) seated.0))
    (places_seated m rows r task (t + 1) seated.2)

-- Use: the slots in which a task runs, by the rows.
pub slots_seated : (s : Plan) (n : ℕ) (task : ℕ) → IsScenario s → slots_in (rows_in s n) task ≡ slots_of (run_of s n) task
slots_seated s n task scenario = places_seated s.settings.processors (rows_in s n) (run_of s n) task 0 (run_seated s n scenario)

rows_are : (m : ℕ) (rows : List (List (Option Pick))) (r : List Slot) → AreSeated m rows r → All (IsRow m) rows
rows_are m [] r seated = All-nil (IsRow m)
rows_are m (row ∷ rows) [] seated = absurd seated
rows_are m (row ∷ rows) (slot ∷ r) seated = All-cons (IsRow m) row rows seated.1 (rows_are m rows r seated.2)

-- Use: in no row of a run a task sits twice.
pub rows_of_run : (s : Plan) (n : ℕ) → IsScenario s → All (IsRow s.settings.processors) (rows_in s n)
rows_of_run s n scenario = rows_are s.settings.processors (rows_in s n) (run_of s n) (run_seated s n scenario)

-- Use: there are as many rows as slots.
pub rows_length : (s : Plan) (n : ℕ) → IsScenario s → length (rows_in s n) ≡ n
rows_length s n scenario =
    length_seated s.settings.processors (rows_in s n) (run_of s n) (run_seated s n scenario) ∙ (run_is_computed s n scenario).slots
