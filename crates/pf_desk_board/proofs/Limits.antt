-- The quanta of a run's rows fit words.
use Rattle.std.proofs.Common.{◌≡◌, ℕ, suc, ◌+◌, ◌<◌, ◌≤◌, nat_le, Option, None, Some, List, [], ◌∷◌, ◌++◌, length, take, get_or, All, sym, subst, arith}
use Rattle.std.proofs.lemmas.List.{length-take-le}
use Rattle.std.proofs.lemmas.List.Elements.{All-nil, All-cons, All-head, All-tail, All-weaker, All-map}
use Rattle.std.proofs.lemmas.List.Sorted.{All-permutation}
use Rattle.std.proofs.lemmas.Option.{cond_some}
use Rattle.pf_weight.specs.declared.task.TheConstants.{LARGEST_TASK}
use Rattle.pf_order.specs.declared.pick.Pick.{Pick}
use Rattle.pf_scenario.specs.System.{System}
use Rattle.pf_scenario.specs.Scenario.{Plan}
use Rattle.pf_scenario.specs.Edit.{IsScenario, IsEvent}
use Rattle.pf_scenario.specs.declared.event.Numbered.{Numbered}
use Rattle.pf_scenario.specs.declared.settings.TheConstants.{WIDE_HORIZON}
use Rattle.pf_place.specs.Occupancy.{sitters}
use Rattle.pf_run.specs.Record.{Slot, denials_of}
use Rattle.pf_run.specs.Inside.{inside, member_of, eligible_from, next_key, ready_key, ready, count_of}
use Rattle.pf_run.specs.Run.{events_in_force, pick_of_key, IsNextSlot}
use Rattle.pf_run.specs.RunRows.{rows_in}
use Rattle.pf_run.specs.Computed.{run_of}
use Rattle.pf_run.proofs.Keys.{all_filter_map, all_chosen}
use Rattle.pf_run.proofs.Runs.{run_is_computed}
use Rattle.pf_run.proofs.Within.{IsJoined, inside_within, done_within, in_force_limits}
use Rattle.pf_tally.proofs.Turns.{AreSeated, run_seated, rows_of_run, rows_length}
use Rattle.pf_desk.specs.Machine.{State, row_at}
use Rattle.pf_board.specs.Words.{FitsWord}
use Rattle.pf_desk_board.specs.Histories.{quantum_of, quanta_from}

-- a pick's numbers are within the limits of a run over n slots
pub record IsWithin (n : ℕ) (p : Pick) : Type 0 where
  pub some_task : 1 ≤ p.task
  pub task : p.task ≤ LARGEST_TASK
  pub some_sub : 1 ≤ p.sub
  pub sub : p.sub ≤ n

wider : (n m : ℕ) → n ≤ m → (p : Pick) → IsWithin n p → IsWithin m p
wider n m le p h = record { some_task = h.some_task; task = h.task; some_sub = h.some_sub; sub = omega (arith, h.sub) }

keys_within : (s : System) (r : List Slot) (xs : List Numbered) → All (λ x. IsEvent s x.event) xs →
    All (λ k. IsWithin (suc (length r)) (pick_of_key k)) (ready s.base r xs)
unfolding ready member_of
keys_within s r xs limits =
    all_filter_map (IsJoined s) (λ k. IsWithin (suc (length r)) (pick_of_key k)) (λ j. ready_key (length r) j.task (member_of r xs j))
    (λ j k e joined.
    let m = member_of r xs j in
    let same = (cond_some (nat_le (eligible_from m) (length r)) (next_key j.task m) k e).1 in
    subst (λ q. IsWithin (suc (length r)) (pick_of_key q)) same (record {
      some_task = joined.task_some;
      task = joined.task_within;
      some_sub = omega arith;
      sub = omega (arith, done_within r j.task);
    }))
    (inside s.base xs) (inside_within s xs limits)

next_within : (s : Plan) (r : List Slot) (slot : Slot) → IsScenario s → IsNextSlot s r slot → All (IsWithin (suc (length r))) slot.picks
next_within s r slot scenario next =
    let xs = events_in_force s (r ++ slot ∷ []) (suc (length r)) in
    let limits = in_force_limits s (suc (length r)) (denials_of (r ++ slot ∷ [])) scenario in
    let all = all_chosen (λ k. IsWithin (suc (length r)) (pick_of_key k)) (count_of s.settings.processors xs) (ready s.settings.base r xs)
    next.picks.chosen next.picks.are_first (keys_within s.settings r xs limits) in
    subst (All (IsWithin (suc (length r)))) (sym next.picks.subtasks) (All-map (IsWithin (suc (length r))) pick_of_key next.picks.chosen all)

-- the picks of a run
run_within : (s : Plan) (n : ℕ) → IsScenario s → All (λ slot. All (IsWithin n) slot.picks) (run_of s n)
run_within s n scenario t d lt =
    let run = run_is_computed s n scenario in
    let r = run_of s n in
    let below : t < n = omega (arith, run.slots) in
    let long : length (take t r) ≡ t = length-take-le t r (omega arith) in
    All-weaker (IsWithin (suc (length (take t r)))) (IsWithin n) (wider (suc (length (take t r))) n (omega arith)) (get_or r t d).picks
    (next_within s (take t r) (get_or r t d) scenario (run.each t d below))

seated_within : (P : Pick → Type 0) (m : ℕ) (rows : List (List (Option Pick))) (r : List Slot) → AreSeated m rows r →
    All (λ slot. All P slot.picks) r → All (λ row. All P (sitters row)) rows
seated_within P m [] r seated all = All-nil (λ row. All P (sitters row))
seated_within P m (row ∷ rows) [] seated all = absurd seated
seated_within P m (row ∷ rows) (slot ∷ r) seated all =
    All-cons (λ row. All P (sitters row)) row rows
    (All-permutation P slot.picks (sitters row) seated.0 (All-head (λ slot. All P slot.picks) slot r all))
    (seated_within P m rows r seated.2 (All-tail (λ slot. All P slot.picks) slot r all))

-- the row of the next slot has a place for each processor, and who sits there is within the limits
pub row_within : (st : State) → IsScenario st.plan →
    (length (row_at st.plan st.now) ≡ st.plan.settings.processors) × All (IsWithin (st.now + 1)) (sitters (row_at st.plan st.now))
row_within st scenario =
    let n = st.now + 1 in
    let rows = rows_in st.plan n in
    let last : st.now < length rows = omega (arith, rows_length st.plan n scenario) in (
      (rows_of_run st.plan n scenario st.now [] last).places,
      seated_within (IsWithin n) st.plan.settings.processors rows (run_of st.plan n) (run_seated st.plan n scenario)
          (run_within st.plan n scenario) st.now [] last,
    )

-- and so its quanta fit words
pub quanta_fit : (slot p : ℕ) (row : List (Option Pick)) → slot < WIDE_HORIZON → All (IsWithin (slot + 1)) (sitters row) →
    All FitsWord (quanta_from slot p row)
quanta_fit slot p [] below all = All-nil FitsWord
quanta_fit slot p (None ∷ row) below all = quanta_fit slot (suc p) row below all
quanta_fit slot p (Some pick ∷ row) below all =
    let h = All-head (IsWithin (slot + 1)) pick (sitters row) all in
    All-cons FitsWord (quantum_of slot p pick) (quanta_from slot (suc p) row)
    (record { slot = omega arith; some_task = h.some_task; task = omega (arith, h.task); some_sub = h.some_sub; sub = omega (arith, h.sub) })
    (quanta_fit slot (suc p) row below (All-tail (IsWithin (slot + 1)) pick (sitters row) all))
