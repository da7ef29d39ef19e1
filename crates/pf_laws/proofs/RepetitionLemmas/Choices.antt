-- What a synchronous scenario's run chooses in a slot: the first of the released next subtasks, by their unshifted keys.
use Rattle.std.proofs.Common.{◌≡◌, ℕ, suc, ◌+◌, ◌-◌, ◌<◌, ◌≤◌, ◌==◌, true, nat_le, if◌then◌else◌, max, Option, Some, None, List, [], ◌∷◌, length, take, map, filter_map, get_or, count_by, All, Contains, arith, refl, ap, ap₂, sym, ◌∙◌, subst}
use Rattle.std.specs.List.{list_any, cons_option}
use Rattle.std.proofs.lemmas.Bool.{eqb-true, leb-true}
use Rattle.std.proofs.lemmas.Option.{cond_some}
use Rattle.std.proofs.lemmas.List.{take_all, length-take-le, get_or_default, length-map}
use Rattle.std.proofs.lemmas.List.Elements.{All-head, All-tail, All-contains_itself, All-weaker}
use Rattle.pf_window.specs.Window.{release_of}
use Rattle.pf_order.specs.Priority.{Priority}
use Rattle.pf_order.specs.KeyOf.{key_of}
use Rattle.pf_order.specs.First.{AreFirst, first_keys}
use Rattle.pf_order.specs.declared.pick.Pick.{Pick}
use Rattle.pf_scenario.specs.Scenario.{Plan}
use Rattle.pf_scenario.specs.Edit.{IsScenario}
use Rattle.pf_scenario.specs.declared.event.Numbered.{Numbered}
use Rattle.pf_run.specs.Record.{Slot, denials_of, runs, done, next_sub}
use Rattle.pf_run.specs.Inside.{Joined, join_of, member_of, shift_of, eligible_from, next_key, ready_key, ready, count_of}
use Rattle.pf_run.specs.Run.{events_in_force, pick_of_key, IsRun}
use Rattle.pf_run.proofs.Joins.{ready_differ, joins_once_in_force}
use Rattle.pf_run.proofs.Firsts.{TasksDiffer, first_is_first, first_few}
use Rattle.pf_run.proofs.Runs.{first_are_computed}
use Rattle.pf_tally.proofs.Subs.{Giver, from_filter_map}
use Rattle.pf_tally.proofs.Contents.{list_any-contains, list_any-map}
use Rattle.pf_laws.proofs.PromiseLemmas.Shifts.{no_slot}
use Rattle.pf_laws.proofs.PromiseLemmas.Joining.{task_at, task_at-joined}
use Rattle.pf_laws.proofs.PromiseLemmas.Choosing.{chosen, chosen_first, chosen_picks}
use Rattle.pf_laws.specs.Repetition.Synchronous.{IsSynchronous, tasks_in}
use Rattle.pf_laws.proofs.RepetitionLemmas.Start.{BeginsAtStart, begins_joined, all_inside, never_shifted, count_is, same_events, all_join}

filter_map-agree : {X Y : Type 0} (f g : X → Option Y) (xs : List X) → All (λ x. f x ≡ g x) xs → filter_map f xs ≡ filter_map g xs
filter_map-agree f g [] same = refl
filter_map-agree f g (x ∷ xs) same =
    ap₂ (λ o ys. cons_option o ys) (All-head (λ y. f y ≡ g y) x xs same)
    (filter_map-agree f g xs (All-tail (λ y. f y ≡ g y) x xs same))

done_front : (r : List Slot) (task v : ℕ) → v ≤ length r → done (take v r) task (length (take v r)) ≡ done r task v
unfolding done
done_front r task v le = ap (count_by (runs task)) (take_all (length (take v r)) (take v r) (omega arith))

member-key : (q : List Slot) (xs : List Numbered) (j : Joined) →
    next_key j.task (member_of q xs j) ≡ key_of j.weight (shift_of q xs j (next_sub q j.task)) (next_sub q j.task) j.task
unfolding member_of
member-key q xs j = refl

member-eligible : (q : List Slot) (xs : List Numbered) (j : Joined) →
    eligible_from (member_of q xs j) ≡ max j.slot (release_of j.weight (next_sub q j.task) + shift_of q xs j (next_sub q j.task) - j.early)
unfolding member_of
member-eligible q xs j = refl

-- the key of a task's next subtask in slot v, where it is released
abbrev pub next_in : List Slot → ℕ → Joined → Option Priority
next_in r v j =
    if nat_le (release_of j.weight (done r j.task v + 1)) v then Some (key_of j.weight 0 (done r j.task v + 1) j.task) else None

abbrev pub keys_in : Plan → List Slot → ℕ → List Priority
keys_in s r v = filter_map (next_in r v) (tasks_in s r)

abbrev pub firsts_in : Plan → List Slot → ℕ → List Priority
firsts_in s r v = first_keys s.settings.processors (keys_in s r v)

module _ (s : Plan) (scenario : IsScenario s) (start : IsSynchronous s) (r : List Slot) (run : IsRun s (length r) r) where
  module _ (v : ℕ) (lt : v < length r) where
    abbrev now : List Numbered
    now = events_in_force s r (suc v)

    abbrev front : List Slot
    front = take v r

    now_is : now ≡ events_in_force s r (length r)
    now_is = same_events s start r (suc v) (length r) (omega arith) (omega (arith, lt))

    joined_is : filter_map (join_of s.settings.base) now ≡ tasks_in s r
    joined_is = ap (filter_map (join_of s.settings.base)) now_is

    ready_one : (j : Joined) → Contains (tasks_in s r) j → ready_key (length front) j.task (member_of front now j) ≡ next_in r v j
    ready_one j at =
        let it : BeginsAtStart j =
        begins_joined s.settings.base (events_in_force s r (length r)) j (all_join s start r (length r)) at in
        let sub : next_sub front j.task ≡ done r j.task v + 1 = ap (λ n. n + 1) (done_front r j.task v (omega (arith, lt))) in
        let shift : shift_of front now j (next_sub front j.task) ≡ 0 =
        never_shifted front now j (next_sub front j.task) (all_join s start r (suc v)) it.slot in
        let long : length front ≡ v = length-take-le v r (omega (arith, lt)) in
        let key : next_key j.task (member_of front now j) ≡ key_of j.weight 0 (done r j.task v + 1) j.task =
        member-key front now j ∙ ap₂ (λ h i. key_of j.weight h i j.task) shift sub in
        let eligible : eligible_from (member_of front now j) ≡ release_of j.weight (done r j.task v + 1) =
        omega (arith, member-eligible front now j, it.slot, it.early, shift, ap (release_of j.weight) sub) in
        ap₂ (λ from t. if nat_le from t then Some (next_key j.task (member_of front now j)) else None) eligible long
        ∙ ap (λ k. if nat_le (release_of j.weight (done r j.task v + 1)) v then Some k else None) key

    ready_are : ready s.settings.base front now ≡ keys_in s r v
    unfolding ready
    ready_are =
        ap (filter_map (λ j. ready_key (length front) j.task (member_of front now j)))
        (all_inside s.settings.base now (all_join s start r (suc v)) ∙ joined_is)
        ∙ filter_map-agree (λ j. ready_key (length front) j.task (member_of front now j)) (next_in r v) (tasks_in s r)
        (All-weaker (Contains (tasks_in s r)) (λ j. ready_key (length front) j.task (member_of front now j) ≡ next_in r v j)
        ready_one (tasks_in s r) (All-contains_itself (tasks_in s r)))

    differ : TasksDiffer (ready s.settings.base front now)
    differ = ready_differ s.settings.base front now (joins_once_in_force s (suc v) (denials_of r) scenario)

    chosen_are : chosen s scenario r run v lt ≡ firsts_in s r v
    chosen_are =
        (first_are_computed (count_of s.settings.processors now) (ready s.settings.base front now) (chosen s scenario r run v lt) differ).0
        (chosen_first s scenario r run v lt)
        ∙ ap₂ (λ n keys. first_keys n keys) (count_is s.settings.processors now (all_join s start r (suc v))) ready_are

    -- Use: the picks of a slot.
    pub picks_are : (d : Slot) → (get_or r v d).picks ≡ map pick_of_key (firsts_in s r v)
    picks_are d =
        ap (λ (e : Slot). e.picks) (get_or_default r v d no_slot lt) ∙ chosen_picks s scenario r run v lt
        ∙ ap (map pick_of_key) chosen_are

    firsts_are : AreFirst s.settings.processors (keys_in s r v) (firsts_in s r v)
    firsts_are = first_is_first s.settings.processors (keys_in s r v) (subst TasksDiffer ready_are differ)

    pub few_picks : (d : Slot) → length (get_or r v d).picks ≤ s.settings.processors
    few_picks d =
        omega (
          arith,
          ap length (picks_are d),
          length-map (firsts_in s r v) pick_of_key,
          first_few s.settings.processors (keys_in s r v) (firsts_in s r v) firsts_are,
        )

    runs_is : (task : ℕ) (d : Slot) → runs task (get_or r v d) ≡ list_any (λ (k : Priority). k.task == task) (firsts_in s r v)
    runs_is task d =
        ap (list_any (λ (p : Pick). p.task == task)) (picks_are d)
        ∙ list_any-map (λ (p : Pick). p.task == task) pick_of_key (firsts_in s r v)

    -- Use: only released subtasks run.
    pub runs_released : (j : Joined) (d : Slot) → Contains (tasks_in s r) j → runs j.task (get_or r v d) ≡ true →
        release_of j.weight (done r j.task v + 1) ≤ v
    runs_released j d at running =
        let found : runs j.task (get_or r v d) ≡ list_any (λ (k : Priority). k.task == j.task) (firsts_in s r v) = runs_is j.task d in
        let it = list_any-contains (λ (k : Priority). k.task == j.task) (firsts_in s r v) (sym found ∙ running) in
        let giver : Giver (next_in r v) (tasks_in s r) it.0 =
        from_filter_map (next_in r v) (tasks_in s r) it.0 ((firsts_are.exactly it.0).0 it.1).0 in
        let both =
        cond_some (nat_le (release_of giver.giver.weight (done r giver.giver.task v + 1)) v)
        (key_of giver.giver.weight 0 (done r giver.giver.task v + 1) giver.giver.task) it.0 giver.gives in
        let number : giver.giver.task ≡ j.task = ap (λ (k : Priority). k.task) both.1 ∙ eqb-true it.0.task j.task it.2 in
        let same : giver.giver ≡ j =
        sym (task_at-joined s scenario r giver.giver giver.stands) ∙ ap (task_at s r) number ∙ task_at-joined s scenario r j at in
        subst (λ (i : Joined). release_of i.weight (done r i.task v + 1) ≤ v) same
        (leb-true (release_of giver.giver.weight (done r giver.giver.task v + 1)) v both.0)
