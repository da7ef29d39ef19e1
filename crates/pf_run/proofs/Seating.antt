-- Each slot of a run can be seated: no more picks than processors in use, no task twice, and tasks numbered from 1.
use Rattle.std.proofs.Common.{◌≡◌, ◌≢◌, suc, ◌≤◌, List, [], ◌∷◌, ◌++◌, length, map, All, sym, ap, subst, subst₂, arith}
use Rattle.std.proofs.lemmas.List.{get_or-map, length-map}
use Rattle.std.proofs.lemmas.List.Elements.{All-contains, All-map, Contains-get_or}
use Rattle.pf_place.specs.Priority.{Priority}
use Rattle.pf_place.specs.Occupancy.{NoTaskTwice}
use Rattle.pf_place.specs.Turns.{IsTurn}
use Rattle.pf_scenario.specs.Scenario.{Plan}
use Rattle.pf_scenario.specs.Edit.{IsScenario, IsEvent}
use Rattle.pf_scenario.specs.System.{System}
use Rattle.pf_scenario.specs.declared.event.Numbered.{Numbered}
use Rattle.pf_run.specs.Record.{Slot, denials_of}
use Rattle.pf_run.specs.Inside.{Joined, inside, member_of, ready_key, ready, count_of}
use Rattle.pf_run.specs.Run.{events_in_force, pick_of_key, IsNextSlot}
use Rattle.pf_run.specs.RunRows.{count_in_last}
use Rattle.pf_run.proofs.Firsts.{TasksDiffer, first_few, first_differ}
use Rattle.pf_run.proofs.Joins.{key_task, ready_differ, joins_once_in_force}
use Rattle.pf_run.proofs.Judged.{length_snoc}
use Rattle.pf_run.proofs.Keys.{all_filter_map}
use Rattle.pf_run.proofs.Within.{IsJoined, inside_within, in_force_limits, count_within}

picks_differ : (chosen : List Priority) → TasksDiffer chosen → NoTaskTwice (map pick_of_key chosen)
picks_differ chosen differ i j d before within =
    let long : length (map pick_of_key chosen) ≡ length chosen = length-map chosen pick_of_key in
    let none : Priority = record { deadline = 0; bit = 0; group = 0; task = 0; sub = 0 } in
    subst₂ (λ p q. p.task ≢ q.task)
    (sym (get_or-map pick_of_key chosen i none d (omega arith)))
    (sym (get_or-map pick_of_key chosen j none d (omega arith)))
    (differ i j none before (omega arith))

-- Use: the next slot of a run can be seated.
pub next_is_turn : (s : Plan) (r : List Slot) (slot : Slot) → IsScenario s → IsNextSlot s r slot →
    IsTurn s.settings.processors (count_in_last s (r ++ slot ∷ [])) slot.picks
next_is_turn s r slot scenario next =
    let m = s.settings.processors in
    let denials = denials_of (r ++ slot ∷ []) in
    let xs = events_in_force s (r ++ slot ∷ []) (suc (length r)) in
    let chosen = next.picks.chosen in
    let differ = ready_differ s.settings.base r xs (joins_once_in_force s (suc (length r)) denials scenario) in
    let few : length chosen ≤ count_of m xs = first_few _ _ chosen next.picks.are_first in
    subst (λ t. IsTurn m (count_of m (events_in_force s (r ++ slot ∷ []) t)) slot.picks) (sym (length_snoc r slot)) (record {
      in_use = count_within s.settings xs (in_force_limits s (suc (length r)) denials scenario);
      few = omega (arith, ap length next.picks.subtasks, length-map chosen pick_of_key);
      once = subst NoTaskTwice (sym next.picks.subtasks)
          (picks_differ chosen (first_differ _ _ chosen differ next.picks.are_first));
    })

-- tasks that joined are numbered from 1, and so are the eligible subtasks'
ready_numbered : (s : System) (r : List Slot) (xs : List Numbered) → All (λ x. IsEvent s x.event) xs →
    All (λ k. 1 ≤ k.task) (ready s.base r xs)
unfolding ready
ready_numbered s r xs limits =
    all_filter_map (IsJoined s) (λ k. 1 ≤ k.task) (λ (j : Joined). ready_key (length r) j.task (member_of r xs j))
    (λ j k is joined. subst (λ task. 1 ≤ task) (sym (key_task (length r) r xs j k is)) joined.task_some)
    (inside s.base xs) (inside_within s xs limits)

-- Use: the tasks of its picks are numbered from 1.
pub next_numbered : (s : Plan) (r : List Slot) (slot : Slot) → IsScenario s → IsNextSlot s r slot →
    All (λ pick. 1 ≤ pick.task) slot.picks
next_numbered s r slot scenario next =
    let denials = denials_of (r ++ slot ∷ []) in
    let xs = events_in_force s (r ++ slot ∷ []) (suc (length r)) in
    let chosen = next.picks.chosen in
    let numbered = ready_numbered s.settings r xs (in_force_limits s (suc (length r)) denials scenario) in
    subst (All (λ pick. 1 ≤ pick.task)) (sym next.picks.subtasks)
    (All-map (λ pick. 1 ≤ pick.task) pick_of_key chosen
    (λ k d within. All-contains (λ (key : Priority). 1 ≤ key.task) _ _ numbered
    ((next.picks.are_first.exactly _).0 (Contains-get_or chosen k d within)).0))
