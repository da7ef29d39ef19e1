-- The quanta of one task, by the rows of a run.
use Rattle.std.proofs.Common.{◌≡◌, ℕ, zero, suc, ◌+◌, ◌<◌, ◌≤◌, true, false, ◌==◌, cond, count_by, Option, None, Some, List, [], ◌∷◌, ◌++◌, length, take, find, get_or, All, IsPermutation, subst, refl, sym, ap, ◌∙◌, ⊎_elim, arith}
use Rattle.std.specs.Prelude.{IfSome}
use Rattle.std.specs.List.{list_any, slice_get}
use Rattle.std.specs.Option.{option_map, option_and_then, option_or}
use Rattle.std.proofs.lemmas.Bool.{cases_lt, eqb-true}
use Rattle.std.proofs.lemmas.Option.{slice_get-get_or}
use Rattle.std.proofs.lemmas.List.{take_more, take-take, length-take-le}
use Rattle.std.proofs.lemmas.List.Sorted.{list_any-IsPermutation, All-permutation}
use Rattle.std.proofs.lemmas.List.Elements.{All-map, All-weaker}
use Rattle.std.proofs.lemmas.List.Sums.{sum_by_push, count_by-le-length}
use Rattle.pf_lemmas.proofs.Finding.{found_all, found_passes, missed_any}
use Rattle.pf_order.specs.Priority.{Priority}
use Rattle.pf_order.specs.declared.pick.Pick.{Pick}
use Rattle.pf_place.specs.Occupancy.{sitters}
use Rattle.pf_scenario.specs.Scenario.{Plan}
use Rattle.pf_scenario.specs.Edit.{IsScenario}
use Rattle.pf_scenario.specs.declared.settings.TheConstants.{WIDE_HORIZON}
use Rattle.pf_run.specs.Record.{Slot, runs, done, next_sub}
use Rattle.pf_run.specs.Run.{IsNextSlot, events_in_force, pick_of_key}
use Rattle.pf_run.specs.RunRows.{rows_in}
use Rattle.pf_run.specs.Computed.{run_of}
use Rattle.pf_run.proofs.Keys.{IsNextKey, ready_next, all_chosen}
use Rattle.pf_run.proofs.Runs.{run_is_computed}
use Rattle.pf_tally.proofs.Turns.{AreSeated, run_seated, rows_length, rows_of_run}
use Rattle.pf_notes.specs.Walk.{IsLast, seated_pick, quantum_in, last_in, AreRunRows}
use Rattle.pf_notes.specs.declared.quantum.Quantum.{Quantum}
use Rattle.pf_notes.proofs.Finding.{found_any}

no_slot : Slot
no_slot = record { picks = []; denials = [] }

-- the row of a slot seats its picks
seated_at : (m : ℕ) (rows : List (List (Option Pick))) (r : List Slot) (t : ℕ) → AreSeated m rows r → t < length r →
    IsPermutation (get_or r t no_slot).picks (sitters (get_or rows t []))
seated_at m [] [] t seated lt = absurd (omega (arith, lt))
seated_at m [] (slot ∷ r) t seated lt = absurd seated
seated_at m (row ∷ rows) [] t seated lt = absurd seated
seated_at m (row ∷ rows) (slot ∷ r) zero seated lt = seated.0
seated_at m (row ∷ rows) (slot ∷ r) (suc t) seated lt = seated_at m rows r t seated.2 (omega (arith, lt))

-- each pick is of its task's next subtask
next_picks : (s : Plan) (r : List Slot) (slot : Slot) → IsNextSlot s r slot → All (λ (p : Pick). p.sub ≡ next_sub r p.task) slot.picks
next_picks s r slot next =
    let xs = events_in_force s (r ++ slot ∷ []) (suc (length r)) in
    let chosen = next.picks.chosen in
    subst (λ ps. All (λ (p : Pick). p.sub ≡ next_sub r p.task) ps) (sym next.picks.subtasks)
    (All-map (λ (p : Pick). p.sub ≡ next_sub r p.task) pick_of_key chosen
    (All-weaker (IsNextKey r xs) (λ (k : Priority). k.sub ≡ next_sub r k.task) (λ k h. h.next) chosen
    (all_chosen (IsNextKey r xs) _ _ chosen next.picks.are_first (ready_next s.settings.base r xs))))

-- one slot further
done_next : (r : List Slot) (task t : ℕ) → t < length r → done r task (t + 1) ≡ done r task t + cond (runs task (get_or r t no_slot)) 1 0
unfolding done
done_next r task t within =
    ap (count_by (runs task)) (take_more r t no_slot within) ∙ sum_by_push (λ d. cond (runs task d) 1 0) (take t r) (get_or r t no_slot)

none_done : (r : List Slot) (task : ℕ) → done r task 0 ≡ 0
unfolding done
none_done r task = refl

-- of the slots below t, by a shorter record
pub done_front : (r : List Slot) (task u t : ℕ) → u ≤ t → done (take t r) task u ≡ done r task u
unfolding done
done_front r task u t within = ap (count_by (runs task)) (take-take u t r within)

few_done : (r : List Slot) (task t : ℕ) → t ≤ length r → done r task t ≤ t
unfolding done
few_done r task t within = omega (arith, count_by-le-length (runs task) (take t r), length-take-le t r within)

get_none : {X : Type 0} (xs : List X) (i : ℕ) → length xs ≤ i → slice_get xs i ≡ None
get_none [] i past = refl
get_none (x ∷ xs) zero past = absurd (omega (arith, past))
get_none (x ∷ xs) (suc i) past = get_none xs i (omega (arith, past))

module _ (s : Plan) (n : ℕ) (scenario : IsScenario s) where
  abbrev r : List Slot
  r = run_of s n

  abbrev rows : List (List (Option Pick))
  rows = rows_in s n

  long : length r ≡ n
  long = (run_is_computed s n scenario).slots

  subs_at : (t : ℕ) → t < n → All (λ (p : Pick). p.sub ≡ next_sub (take t r) p.task) (sitters (get_or rows t []))
  subs_at t below =
      All-permutation (λ (p : Pick). p.sub ≡ next_sub (take t r) p.task) (get_or r t no_slot).picks (sitters (get_or rows t []))
      (seated_at s.settings.processors rows r t (run_seated s n scenario) (omega (arith, below, long)))
      (next_picks s (take t r) (get_or r t no_slot) ((run_is_computed s n scenario).each t no_slot below))

  runs_at : (task t : ℕ) → t < n → runs task (get_or r t no_slot) ≡ list_any (λ (p : Pick). p.task == task) (sitters (get_or rows t []))
  runs_at task t below =
      list_any-IsPermutation (λ (p : Pick). p.task == task) (get_or r t no_slot).picks (sitters (get_or rows t []))
      (seated_at s.settings.processors rows r t (run_seated s n scenario) (omega (arith, below, long)))

  row_at : (t : ℕ) → t < n → slice_get rows t ≡ Some (get_or rows t [])
  row_at t below = slice_get-get_or rows t [] (omega (arith, below, rows_length s n scenario))

  next_at : (task t : ℕ) → t < n → next_sub (take t r) task ≡ done r task t + 1
  next_at task t below =
      ap (λ m. done (take t r) task m + 1) (length-take-le t r (omega (arith, below, long)))
      ∙ ap (λ m. m + 1) (done_front r task t t (omega arith))

  -- the slot of a quantum
  abbrev pub Ran : ℕ → ℕ → Option Quantum → Type 0
  Ran task t None = done r task (t + 1) ≡ done r task t
  Ran task t (Some q) = (q.slot ≡ t) × (done r task t + 1 ≡ q.sub) × (done r task (t + 1) ≡ q.sub)

  ran_with : (task t : ℕ) → t < n → (o : Option Pick) → find (λ (p : Pick). p.task == task) (sitters (get_or rows t [])) ≡ o →
      Ran task t (option_map (λ (p : Pick). record { slot = t; sub = p.sub }) o)
  ran_with task t below None missed =
      let idle : runs task (get_or r t no_slot) ≡ false =
      runs_at task t below ∙ missed_any (λ (p : Pick). p.task == task) (sitters (get_or rows t [])) missed in
      let none : cond (runs task (get_or r t no_slot)) 1 0 ≡ 0 = ap {B = ℕ} (λ b. cond b 1 0) idle in
      omega (arith, done_next r task t (omega (arith, below, long)), none)
  ran_with task t below (Some p) found =
      let busy : runs task (get_or r t no_slot) ≡ true =
      runs_at task t below ∙ found_any (λ (p : Pick). p.task == task) (sitters (get_or rows t [])) p found in
      let one : cond (runs task (get_or r t no_slot)) 1 0 ≡ 1 = ap {B = ℕ} (λ b. cond b 1 0) busy in
      let own : p.task ≡ task = eqb-true p.task task (found_passes (λ (p : Pick). p.task == task) (sitters (get_or rows t [])) p found) in
      let sub : p.sub ≡ done r task t + 1 =
      found_all (λ (p : Pick). p.task == task) (λ (p : Pick). p.sub ≡ next_sub (take t r) p.task) (sitters (get_or rows t [])) p found (subs_at t below)
      ∙ ap (next_sub (take t r)) own ∙ next_at task t below in (
        refl,
        sym sub,
        omega (arith, done_next r task t (omega (arith, below, long)), one, sub),
      )

  ran_at : (task t : ℕ) → t < n → Ran task t (quantum_in rows task t)
  ran_at task t below =
      let f = λ (row : List (Option Pick)). option_map (λ (p : Pick). record { slot = t; sub = p.sub }) (seated_pick row task) in
      subst (Ran task t) (sym (ap (option_and_then f) (row_at t below)))
      (ran_with task t below (seated_pick (get_or rows t []) task) refl)

  last_more : (task t : ℕ) (q o : Option Quantum) → Ran task t q → IsLast r task t o → IsLast r task (suc t) (option_or q o)
  last_more task t None None ran last = more ∙ last
    where
      more : done r task (suc t) ≡ done r task t
      more = ap (done r task) (let z : suc t ≡ t + 1 = omega arith in z) ∙ ran
  last_more task t None (Some q) ran last =
      let more : done r task (suc t) ≡ done r task t = ap (done r task) (let z : suc t ≡ t + 1 = omega arith in z) ∙ ran in
      (omega (arith, last.0), last.1, last.2, more ∙ last.3)
  last_more task t (Some q) o ran last =
      let at : done r task (suc t) ≡ q.sub = ap (done r task) (let z : suc t ≡ t + 1 = omega arith in z) ∙ ran.2 in (
        omega (arith, ran.0),
        ap (λ u. done r task u + 1) ran.0 ∙ ran.1,
        ap (λ u. done r task (u + 1)) ran.0 ∙ ran.2,
        at,
      )

  -- Use: the last quantum, by the rows.
  pub last_is : (task t : ℕ) → t ≤ n → IsLast r task t (last_in rows task t)
  last_is task zero within = none_done r task
  last_is task (suc t) within =
      last_more task t (quantum_in rows task t) (last_in rows task t) (ran_at task t (omega (arith, within))) (last_is task t (omega (arith, within)))

  few_sub : (task t : ℕ) (q : Option Quantum) → t < n → Ran task t q → IfSome q (λ q. (1 ≤ q.sub) × (q.sub ≤ n))
  few_sub task t None below ran = tt
  few_sub task t (Some q) below ran =
      let few : done r task t ≤ t = few_done r task t (omega (arith, below, long)) in (
        omega (arith, ran.1),
        omega (arith, ran.1, few, below),
      )

  wide_sub : (q : Option Quantum) → n ≤ WIDE_HORIZON → IfSome q (λ q. (1 ≤ q.sub) × (q.sub ≤ n)) → IfSome q (λ q. (1 ≤ q.sub) × (q.sub ≤ WIDE_HORIZON))
  wide_sub None short few = tt
  wide_sub (Some q) short few = (few.0, omega (arith, few.1, short))

  subs_few : (task t : ℕ) → IfSome (quantum_in rows task t) (λ q. (1 ≤ q.sub) × (q.sub ≤ n))
  subs_few task t = ⊎_elim
      (λ below. few_sub task t (quantum_in rows task t) below (ran_at task t below))
      (λ past.
      let f = λ (row : List (Option Pick)). option_map (λ (p : Pick). record { slot = t; sub = p.sub }) (seated_pick row task) in
      subst (λ q. IfSome q (λ (q : Quantum). (1 ≤ q.sub) × (q.sub ≤ n)))
      (sym (ap (option_and_then f) (get_none rows t (omega (arith, past, rows_length s n scenario))))) tt)
      (cases_lt t n)

  -- Use: the rows of a run.
  pub are_run_rows : n ≤ WIDE_HORIZON → AreRunRows s.settings.processors rows
  are_run_rows short = record {
    short = omega (arith, short, rows_length s n scenario);
    processors = scenario.settings.limits.processors_within;
    are_rows = rows_of_run s n scenario;
    subs = λ task t. wide_sub (quantum_in rows task t) short (subs_few task t);
  }
