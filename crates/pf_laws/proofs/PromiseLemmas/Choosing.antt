-- A run serves its tasks in the order of PD2, by the shifts that stay.
use Rattle.std.proofs.Common.{◌≡◌, ◌≢◌, ℕ, suc, ◌+◌, ◌-◌, ◌<◌, ◌≤◌, ◌==◌, ◌&&◌, Bool, true, false, not, cond, if◌then◌else◌, max, List, [], ◌∷◌, ◌++◌, length, take, map, filter, get_or, sum_by, count_by, All, Contains, arith, refl, ap, ap₂, sym, ◌∙◌, subst, inl, inr, ⊎_elim}
use Rattle.std.specs.List.{list_any}
use Rattle.std.proofs.lemmas.Bool.{cases_Bool, cases_lt, eqb-true, eq-eqb, both_ways, and_from, and_parts, not_from_false, false_from_ne_true}
use Rattle.std.proofs.lemmas.List.{take_more, take-take, length-take-le, get_or_past}
use Rattle.std.proofs.lemmas.List.Sums.{sum_by-cons}
use Rattle.pf_window.specs.Window.{release_of, deadline_of}
use Rattle.pf_order.specs.Priority.{Priority, precedes}
use Rattle.pf_order.specs.KeyOf.{key_of}
use Rattle.pf_order.specs.declared.pick.Pick.{Pick}
use Rattle.pf_order.specs.First.{AreFirst, rank}
use Rattle.pf_order.proofs.Order.{preceding_is_transitive}
use Rattle.pf_scenario.specs.Event.{slot_of}
use Rattle.pf_scenario.specs.Scenario.{Plan}
use Rattle.pf_scenario.specs.Edit.{IsScenario}
use Rattle.pf_scenario.specs.declared.event.Numbered.{Numbered}
use Rattle.pf_run.specs.Record.{Slot, denials_of, runs, done, next_sub}
use Rattle.pf_run.specs.Inside.{Joined, inside, ready, member_of, shift_of, count_of, eligible_from}
use Rattle.pf_run.specs.Run.{events_in_force, pick_of_key, IsNextSlot, IsRun}
use Rattle.pf_run.proofs.Joins.{ready_differ, joins_once_in_force}
use Rattle.pf_run.proofs.Firsts.{first_differ, one_at_most}
use Rattle.pf_tally.proofs.Joined.{inside_joined}
use Rattle.pf_tally.specs.Misses.{leaves_after}
use Rattle.pf_laws.specs.Ideal.Schedule.{Schedule, RunsInOrder}
use Rattle.pf_laws.specs.Reach.Demand.{Service, key_in, schedule_of}
use Rattle.pf_tally.proofs.Contents.{list_any-contains, contains-list_any, list_any-map}
use Rattle.pf_laws.proofs.PromiseLemmas.Sets.{is_among, sum_by-among, sum_by-filter, filter_among, differ_from_pairs}
use Rattle.pf_laws.proofs.PromiseLemmas.Firsts.{first_many}
use Rattle.pf_tally.proofs.Fronts.{Splits, splits, standing-take, standing_below}
use Rattle.pf_tally.proofs.Members.{joined_of}
use Rattle.pf_laws.proofs.PromiseLemmas.Shifts.{no_slot, done-runs, done-idle, done-past, shift-slots, shift-grows, joined_grown, sub_at, shift_at, IsDue, settled}
use Rattle.pf_tally.proofs.Slots.{key_now, IsReady, ready_is, is_ready, RunsBy, runs_by, chosen_runs}
use Rattle.pf_laws.proofs.PromiseLemmas.Joining.{all_joined, task_at, demand_of, task_at-is, is_known}

-- the deadline of subtask i, numbered from 0
abbrev pub due_in : Plan → List Slot → ℕ → ℕ → ℕ
due_in s r t i = deadline_of (task_at s r t).weight (suc i) + shift_of r (events_in_force s r (length r)) (task_at s r t) (suc i)

-- the task joined, and did not leave before the slot
abbrev pub stays_to : Plan → List Slot → ℕ → ℕ → Bool
stays_to s r end t =
    is_among (demand_of s r).tasks t && leaves_after (events_in_force s r (length r)) (task_at s r t) end

abbrev pub service_of : Plan → List Slot → ℕ → Service
service_of s r end = record {
  runs = λ t v. runs t (get_or r v no_slot);
  done = λ t v. done r t v;
  inside = λ t v. list_any (λ (j : Joined). j.task == t) (inside s.settings.base (events_in_force s r (suc v)));
  count = λ v. count_of s.settings.processors (events_in_force s r (suc v));
  end = end;
  stays = stays_to s r end;
}

abbrev pub schedule_upto : Plan → List Slot → ℕ → Schedule
schedule_upto s r end = schedule_of (demand_of s r) (service_of s r end)

ones : {A : Type 0} (f : A → ℕ) (xs : List A) → sum_by (λ _. 1) (map f xs) ≡ length xs
ones f [] = refl
ones f (x ∷ xs) = omega (arith, sum_by-cons (λ (n : ℕ). 1) (f x) (map f xs), ones f xs)

rank-mono : (keys : List Priority) (x y : Priority) → precedes x y ≡ true → rank keys x ≤ rank keys y
rank-mono [] x y first = omega arith
rank-mono (z ∷ keys) x y first =
    omega (
      arith,
      sum_by-cons (λ k. cond (precedes k x) 1 0) z keys,
      sum_by-cons (λ k. cond (precedes k y) 1 0) z keys,
      one_at_most (precedes z x) (precedes z y) (λ before. preceding_is_transitive z x y before first),
      rank-mono keys x y first,
    )

key_is : (q : List Slot) (xs : List Numbered) (j : Joined) →
    key_now q xs j ≡ key_of j.weight (shift_of q xs j (next_sub q j.task)) (next_sub q j.task) j.task
unfolding member_of
key_is q xs j = refl

pub eligible_is : (q : List Slot) (xs : List Numbered) (j : Joined) →
    eligible_from (member_of q xs j) ≡ max j.slot (release_of j.weight (next_sub q j.task) + shift_of q xs j (next_sub q j.task) - j.early)
unfolding member_of
eligible_is q xs j = refl

pub shift_slot : (q : List Slot) (xs : List Numbered) (j : Joined) (i : ℕ) → j.slot ≤ shift_of q xs j i
unfolding shift_of
shift_slot q xs j i = omega arith

module _ (s : Plan) (scenario : IsScenario s) (r : List Slot) (run : IsRun s (length r) r) where
  abbrev base : ℕ
  base = s.settings.base

  -- the choice of slot v
  module _ (v : ℕ) (lt : v < length r) where
    abbrev now : List Numbered
    now = events_in_force s r (suc v)

    abbrev count_now : ℕ
    count_now = count_of s.settings.processors now

    abbrev front : List Slot
    front = take v r

    pub front_length : length front ≡ v
    front_length = length-take-le v r (omega (arith, lt))

    next : IsNextSlot s front (get_or r v no_slot)
    next = run.each v no_slot lt

    now_is : events_in_force s (front ++ get_or r v no_slot ∷ []) (suc (length front)) ≡ now
    now_is =
        ap₂ (λ q t. events_in_force s q (suc t)) (sym (take_more r v no_slot lt)) front_length
        ∙ ap (λ k. events_in_force s (take k r) (suc v)) (one_more v)
        ∙ sym (standing-take s (length r) r scenario run (suc v) lt)
      where
        one_more : (k : ℕ) → k + 1 ≡ suc k
        one_more k = omega arith

    pub chosen : List Priority
    chosen = next.picks.chosen

    pub chosen_first : AreFirst count_now (ready base front now) chosen
    unfolding chosen
    chosen_first =
        subst (λ zs. AreFirst (count_of s.settings.processors zs) (ready base front zs) chosen) now_is next.picks.are_first

    pub chosen_picks : (get_or r v no_slot).picks ≡ map pick_of_key chosen
    unfolding chosen
    chosen_picks = next.picks.subtasks

    keys_differ : (i j : ℕ) (d : Priority) → i < j → j < length (ready base front now) →
        (get_or (ready base front now) i d).task ≢ (get_or (ready base front now) j d).task
    keys_differ = ready_differ base front now (joins_once_in_force s (suc v) (denials_of r) scenario)

    pub joined_at_end : (j : Joined) → Contains (joined_of base now) j → Contains (all_joined s r) j
    joined_at_end j at =
        let rest : Splits s r (suc v) (length r) = splits s r (suc v) (length r) lt in
        subst (λ zs. Contains (joined_of base zs) j) (sym rest.is) (joined_grown base now rest.rest j at)

    done_front : (j : Joined) (u : ℕ) → u ≤ v → done front j.task u ≡ done r j.task u
    unfolding done
    done_front j u le = ap (count_by (runs j.task)) (take-take u v r le)

    pub sub_front : (j : Joined) → next_sub front j.task ≡ sub_at r j v
    sub_front j =
        ap (λ n. n + 1) (ap (λ u. done front j.task u) front_length ∙ done_front j v (omega arith))

    pub shift_front : (j : Joined) → shift_of front now j (next_sub front j.task) ≡ shift_at s r j v
    shift_front j =
        ap (λ i. shift_of front now j i) (sub_front j)
        ∙ shift-slots front r now j (sub_at r j v) v early (λ u le. done_front j u le) where
          early : All (λ x. slot_of x.event ≤ v) now
          early = λ k d within. omega (arith, standing_below s r (suc v) k d within)

    -- the key that the choice looks at is the one that stays
    key_stays : (j : Joined) (t : ℕ) → j.task ≡ t → Contains (joined_of base now) j → IsDue s r j v →
        key_now front now j ≡ key_in (demand_of s r) t (done r t v)
    key_stays j t number at due =
        let it : task_at s r t ≡ j = task_at-is s scenario r t j (joined_at_end j at) number in
        let stays : shift_of r (events_in_force s r (length r)) j (sub_at r j v) ≡ shift_at s r j v =
        settled s scenario (length r) r run v lt j at due in
        let sub : next_sub front j.task ≡ suc (done r t v) =
        omega (arith, sub_front j, ap (λ u. done r u v) number) in
        let sub' : sub_at r j v ≡ suc (done r t v) = omega (arith, ap (λ u. done r u v) number) in
        let shift : shift_of front now j (next_sub front j.task)
        ≡ shift_of r (events_in_force s r (length r)) (task_at s r t) (suc (done r t v)) =
        shift_front j ∙ sym stays ∙ ap (λ i. shift_of r (events_in_force s r (length r)) j i) sub'
        ∙ ap (λ k. shift_of r (events_in_force s r (length r)) k (suc (done r t v))) (sym it) in
        key_is front now j
        ∙ ap (λ h. key_of j.weight h (next_sub front j.task) j.task) shift
        ∙ ap₂ (λ i u. key_of j.weight (shift_of r (events_in_force s r (length r)) (task_at s r t) (suc (done r t v))) i u) sub number
        ∙ ap (λ (k : Joined). key_of k.weight (shift_of r (events_in_force s r (length r)) (task_at s r t) (suc (done r t v))) (suc (done r t v)) t) (sym it)

    -- the task of a key that is ready
    ready_joined : (k : Priority) (it : IsReady base front now k) → Contains (joined_of base now) it.task_of
    ready_joined k it = inside_joined base now it.task_of it.inside

    -- what is inside, by number
    pub record IsInside (t : ℕ) : Type 0 where
      pub at : Contains (inside base now) (task_at s r t)
      pub number : (task_at s r t).task ≡ t

    pub inside_is : (t : ℕ) → list_any (λ (j : Joined). j.task == t) (inside base now) ≡ true → IsInside t
    inside_is t h =
        let it = list_any-contains (λ (j : Joined). j.task == t) (inside base now) h in
        let number : it.0.task ≡ t = eqb-true it.0.task t it.2 in
        let is : task_at s r t ≡ it.0 =
        task_at-is s scenario r t it.0 (joined_at_end it.0 (inside_joined base now it.0 it.1)) number in
        record {
          at = subst (λ k. Contains (inside base now) k) (sym is) it.1;
          number = ap (λ (k : Joined). k.task) is ∙ number;
        }

    runs_of : (t : ℕ) → runs t (get_or r v no_slot) ≡ true →
        RunsBy base count_now front now (get_or r v no_slot) chosen chosen_first chosen_picks t
    runs_of t running = runs_by base count_now front now (get_or r v no_slot) chosen chosen_first chosen_picks t running

    pub runs_inside : (t : ℕ) → runs t (get_or r v no_slot) ≡ true →
        list_any (λ (j : Joined). j.task == t) (inside base now) ≡ true
    runs_inside t running =
        let by = runs_of t running in
        let number : by.ready.task_of.task ≡ t = ap (λ k. k.task) by.ready.is ∙ by.number in
        contains-list_any (λ (j : Joined). j.task == t) (inside base now) by.ready.task_of by.ready.inside
        (eq-eqb by.ready.task_of.task t number)

    -- a key that is ready is of its task's next subtask
    ready_sub : (k : Priority) → IsReady base front now k → k.sub ≡ suc (done r k.task v)
    ready_sub k ready =
        sym (ap (λ z. z.sub) (sym (key_is front now ready.task_of) ∙ ready.is))
        ∙ sub_front ready.task_of ∙ ap (λ u. done r u v + 1) (ap (λ z. z.task) ready.is) ∙ one_more (done r k.task v)
      where
        one_more : (n : ℕ) → n + 1 ≡ suc n
        one_more n = omega arith

    -- the pick of a task that runs is of its next subtask
    pub runs_pick : (t : ℕ) → runs t (get_or r v no_slot) ≡ true →
        list_any (λ (p : Pick). p.task == t && p.sub == suc (done r t v)) (get_or r v no_slot).picks ≡ true
    runs_pick t running =
        let by = runs_of t running in
        let sub : by.key.sub ≡ suc (done r t v) = ready_sub by.key by.ready ∙ ap (λ u. suc (done r u v)) by.number in
        ap (list_any (λ (p : Pick). p.task == t && p.sub == suc (done r t v))) chosen_picks
        ∙ list_any-map (λ (p : Pick). p.task == t && p.sub == suc (done r t v)) pick_of_key chosen
        ∙ contains-list_any (λ (k : Priority). k.task == t && k.sub == suc (done r t v)) chosen by.key by.chosen_is
        (and_from (by.key.task == t) (by.key.sub == suc (done r t v)) (eq-eqb by.key.task t by.number)
        (eq-eqb by.key.sub (suc (done r t v)) sub))

    -- a task with a pick of a subtask runs, and the subtask is its next
    pub picked_next : (t i : ℕ) →
        list_any (λ (p : Pick). p.task == t && p.sub == suc i) (get_or r v no_slot).picks ≡ true →
        (runs t (get_or r v no_slot) ≡ true) × (done r t v ≡ i)
    picked_next t i picked =
        let test = λ (p : Pick). p.task == t && p.sub == suc i in
        let it =
        list_any-contains (λ (k : Priority). k.task == t && k.sub == suc i) chosen
        (sym (ap (list_any test) chosen_picks ∙ list_any-map test pick_of_key chosen) ∙ picked) in
        let both = and_parts (it.0.task == t) (it.0.sub == suc i) it.2 in
        let number : it.0.task ≡ t = eqb-true it.0.task t both.0 in
        let sub : it.0.sub ≡ suc (done r t v) =
        ready_sub it.0 (ready_is base front now it.0 ((chosen_first.exactly it.0).0 it.1).0) ∙ ap (λ u. suc (done r u v)) number in (
          subst (λ u. runs u (get_or r v no_slot) ≡ true) number
              (chosen_runs base count_now front now (get_or r v no_slot) chosen chosen_first chosen_picks it.0 it.1),
          omega (arith, sub, eqb-true it.0.sub (suc i) both.1),
        )

    pub inside_known : (t : ℕ) → list_any (λ (j : Joined). j.task == t) (inside base now) ≡ true →
        is_among (demand_of s r).tasks t ≡ true
    inside_known t h =
        let it = inside_is t h in
        subst (λ u. is_among (demand_of s r).tasks u ≡ true) it.number
        (is_known s scenario r (task_at s r t) (joined_at_end (task_at s r t) (inside_joined base now (task_at s r t) it.at)))

    -- a released next subtask that doesn't run waits for as many as there are processors in use
    module _ (t : ℕ) (there : list_any (λ (j : Joined). j.task == t) (inside base now) ≡ true)
        (from : release_of (task_at s r t).weight (suc (done r t v))
        + shift_of r (events_in_force s r (length r)) (task_at s r t) (suc (done r t v)) ≤ v)
        (idle : runs t (get_or r v no_slot) ≡ false) where
      abbrev j : Joined
      j = task_at s r t

      it : IsInside t
      it = inside_is t there

      joined_now : Contains (joined_of base now) j
      joined_now = inside_joined base now j it.at

      sub : sub_at r j v ≡ suc (done r t v)
      sub = omega (arith, ap (λ u. done r u v) it.number)

      released : release_of j.weight (sub_at r j v) + shift_at s r j v ≤ v
      released =
          let rest : Splits s r (suc v) (length r) = splits s r (suc v) (length r) lt in
          let grows : shift_at s r j v ≤ shift_of r (events_in_force s r (length r)) j (sub_at r j v) =
          subst (λ zs. shift_at s r j v ≤ shift_of r zs j (sub_at r j v)) (sym rest.is)
          (shift-grows r now rest.rest j (sub_at r j v)) in
          omega (
            arith,
            from,
            grows,
            ap (λ i. release_of j.weight i) sub,
            ap (λ i. shift_of r (events_in_force s r (length r)) j i) sub,
          )

      key_of_t : key_now front now j ≡ key_in (demand_of s r) t (done r t v)
      key_of_t = key_stays j t it.number joined_now (inl released)

      is_ready_now : Contains (ready base front now) (key_now front now j)
      is_ready_now =
          is_ready base front now j it.at
          (omega (
            arith,
            eligible_is front now j,
            released,
            shift_slot front now j (next_sub front j.task),
            shift_front j,
            ap (λ i. release_of j.weight i) (sub_front j),
            front_length,
          ))

      late : count_now ≤ rank (ready base front now) (key_now front now j)
      late = ⊎_elim
          (λ (early : rank (ready base front now) (key_now front now j) < count_now).
          let picked = (chosen_first.exactly (key_now front now j)).1 (is_ready_now, early) in
          let running = chosen_runs base count_now front now (get_or r v no_slot) chosen chosen_first chosen_picks (key_now front now j) picked in
          absurd (both_ways (runs t (get_or r v no_slot)) idle (subst (λ u. runs u (get_or r v no_slot) ≡ true) it.number running)))
          (λ ge. ge) (cases_lt (rank (ready base front now) (key_now front now j)) count_now)

      pub is_ahead : ℕ → Bool
      is_ahead u =
          runs u (get_or r v no_slot) && not (precedes (key_in (demand_of s r) t (done r t v)) (key_in (demand_of s r) u (done r u v)))

      ahead : (k : Priority) → Contains chosen k → is_ahead k.task ≡ true
      unfolding is_ahead
      ahead k picked =
          let running = chosen_runs base count_now front now (get_or r v no_slot) chosen chosen_first chosen_picks k picked in
          let by = runs_of k.task running in
          let number : by.ready.task_of.task ≡ k.task = ap (λ z. z.task) by.ready.is ∙ by.number in
          let at = ready_joined by.key by.ready in
          let runs_there : runs by.ready.task_of.task (get_or r v no_slot) ≡ true =
          subst (λ u. runs u (get_or r v no_slot) ≡ true) (sym number) running in
          let stays : key_now front now by.ready.task_of ≡ key_in (demand_of s r) k.task (done r k.task v) =
          key_stays by.ready.task_of k.task number at (inr runs_there) in
          let early : rank (ready base front now) by.key < count_now = ((chosen_first.exactly by.key).0 by.chosen_is).1 in
          let behind : precedes (key_now front now j) by.key ≡ false =
          false_from_ne_true (precedes (key_now front now j) by.key)
          (λ first. omega (arith, rank-mono (ready base front now) (key_now front now j) by.key first, early, late)) in
          and_from (runs k.task (get_or r v no_slot)) _ running
          (not_from_false _
          (subst (λ z. precedes z (key_in (demand_of s r) k.task (done r k.task v)) ≡ false) key_of_t
          (subst (λ z. precedes (key_now front now j) z ≡ false) (sym by.ready.is ∙ stays) behind)))

      pub many_ahead : count_now ≤ count_by is_ahead (demand_of s r).tasks
      many_ahead =
          let many : count_now ≤ length chosen = first_many count_now (ready base front now) chosen (key_now front now j) keys_differ chosen_first late in
          let among = sum_by-among (λ _. 1) (map (λ (k : Priority). k.task) chosen) (filter is_ahead (demand_of s r).tasks)
          (differ_from_pairs (λ (k : Priority). k.task) chosen (first_differ count_now (ready base front now) chosen keys_differ chosen_first))
          within in
          omega (arith, many, among, ones (λ (k : Priority). k.task) chosen, sum_by-filter is_ahead (λ _. 1) (demand_of s r).tasks)
        where
          within : (u : ℕ) → is_among (map (λ (k : Priority). k.task) chosen) u ≡ true → is_among (filter is_ahead (demand_of s r).tasks) u ≡ true
          within u h =
              let c = list_any-contains (λ (k : Priority). u == k.task) chosen (sym (list_any-map (λ w. u == w) (λ (k : Priority). k.task) chosen) ∙ h) in
              let same : c.0.task ≡ u = sym (eqb-true u c.0.task c.2) in
              let running = chosen_runs base count_now front now (get_or r v no_slot) chosen chosen_first chosen_picks c.0 c.1 in
              subst (λ w. is_among (filter is_ahead (demand_of s r).tasks) w ≡ true) same
              (filter_among is_ahead c.0.task (demand_of s r).tasks (inside_known c.0.task (runs_inside c.0.task running)) (ahead c.0 c.1))

  pub counted : (t v : ℕ) → done r t (suc v) ≡ done r t v + (if runs t (get_or r v no_slot) then 1 else 0)
  counted t v = ⊎_elim
      (λ (lt : v < length r). ⊎_elim
      (λ (running : runs t (get_or r v no_slot) ≡ true).
      omega (arith, done-runs r t v no_slot lt running, ap {B = ℕ} (λ b. if b then 1 else 0) running))
      (λ (idle : runs t (get_or r v no_slot) ≡ false).
      omega (arith, done-idle r t v no_slot lt idle, ap {B = ℕ} (λ b. if b then 1 else 0) idle))
      (cases_Bool (runs t (get_or r v no_slot))))
      (λ (past : length r ≤ v).
      omega (arith, done-past r t v past, ap {B = ℕ} (λ (d : Slot). if runs t d then 1 else 0) (get_or_past r v no_slot past)))
      (cases_lt v (length r))

  pub choice : (end : ℕ) → end ≤ length r → RunsInOrder (schedule_upto s r end)
  unfolding done is_ahead
  choice end le = record {
    none = λ t. refl;
    counted = counted;
    known = λ t v lt running.
        inside_known v (omega (arith, lt, le)) t (runs_inside v (omega (arith, lt, le)) t running);
    inside = λ t v lt running. runs_inside v (omega (arith, lt, le)) t running;
    first = λ t v lt there from idle. many_ahead v (omega (arith, lt, le)) t there from idle;
  }
