-- A window that stays overdue costs quanta: from its deadline on, each slot has a quantum for one that was overdue at that
-- deadline, and as many as were overdue there were paid for.
use Rattle.std.proofs.Common.{◌≡◌, ℕ, zero, suc, ◌+◌, ◌-◌, ◌*◌, ◌<◌, ◌≤◌, ◌==◌, ◌&&◌, Bool, true, false, nat_le, Option, None, Some, List, [], ◌∷◌, length, filter_map, find, fold, get_or, sum_by, count_by, All, Contains, arith, refl, ap, sym, subst, ⊎_elim}
use Rattle.std.specs.List.{list_any, range_with_len}
use Rattle.std.specs.Option.{option_map_or}
use Rattle.std.proofs.Math.Nat.{mul-le-mul_left}
use Rattle.std.proofs.lemmas.Bool.{cases_Bool, cases_lt, or_cases, and_parts, and_from, eqb-true, leb-true, le-leb, false_from_ne_true, false≢true}
use Rattle.std.proofs.lemmas.List.Elements.{All-head, All-tail}
use Rattle.std.proofs.lemmas.List.Sums.{sum_by-cons}
use Rattle.pf_window.specs.Window.{release_of}
use Rattle.pf_scenario.specs.Event.{slot_of, is_leave_of}
use Rattle.pf_scenario.specs.System.{System}
use Rattle.pf_scenario.specs.Scenario.{Plan}
use Rattle.pf_scenario.specs.Edit.{IsScenario, IsEvent}
use Rattle.pf_scenario.specs.declared.event.Event.{Event}
use Rattle.pf_scenario.specs.declared.event.Event.TheVariants.{Join, Leave, Delay, Limit}
use Rattle.pf_scenario.specs.declared.event.Numbered.{Numbered}
use Rattle.pf_run.specs.Record.{Slot, runs, done, denials_of}
use Rattle.pf_run.specs.Inside.{Joined, join_of, inside, count_of, count_after}
use Rattle.pf_run.specs.Run.{events_in_force, IsRun}
use Rattle.pf_run.proofs.Limits.{passes_tests}
use Rattle.pf_run.proofs.Within.{in_force_limits}
use Rattle.pf_tally.specs.Misses.{due_of, leaves_after}
use Rattle.pf_laws.specs.Ideal.Schedule as ideal
use Rattle.pf_laws.specs.Ideal.Schedule.{IsByReach}
use Rattle.pf_laws.proofs.IdealLemmas.Sums.{one, one-mono, sum_by-mono, count_by-mono, count_by-found}
use Rattle.pf_laws.proofs.IdealLemmas.Windows.{window-some, deadline-climbs, release-rises}
use Rattle.pf_laws.proofs.IdealLemmas.Overdue.{overdue_is, is_overdue_from}
use Rattle.pf_tally.specs.Load.{overload_of}
use Rattle.pf_laws.specs.Promise.Overdue.{is_overdue}
use Rattle.pf_laws.specs.Promise.Laws.{LatenessCostsQuanta}
use Rattle.pf_laws.proofs.PromiseLemmas.Sets.{is_among}
use Rattle.pf_laws.proofs.PromiseLemmas.Shifts.{no_slot, done-runs, done-rises}
use Rattle.pf_laws.proofs.PromiseLemmas.Joining.{all_joined, task_at, demand_of, task_at-joined, is_known, IsKnown, known}
use Rattle.pf_laws.proofs.PromiseLemmas.Choosing.{due_in, stays_to, schedule_upto, IsInside, inside_is, inside_known, runs_inside}
use Rattle.pf_laws.proofs.PromiseLemmas.Presence.{is_by_reach, due_late, inside_leaves_after}
use Rattle.pf_laws.proofs.PromiseLemmas.Ran.{due_in_is}
use Rattle.pf_laws.proofs.PromiseLemmas.Overdue.{overdue_parts, schedule_costs}

-- counts and sums where one more passes

count_by-less : (p q : ℕ → Bool) (k a n : ℕ) → ((i : ℕ) → p i ≡ true → q i ≡ true) → a ≤ k → k < n + a → p k ≡ false →
    q k ≡ true → count_by p (range_with_len a n) + 1 ≤ count_by q (range_with_len a n)
count_by-less p q k a zero imp from upto not passes = absurd (omega (arith, from, upto))
count_by-less p q k a (suc n) imp from upto not passes = ⊎_elim
    (λ (later : a < k).
    omega (
      arith,
      sum_by-cons (λ i. one (p i)) a (range_with_len (a + 1) n),
      sum_by-cons (λ i. one (q i)) a (range_with_len (a + 1) n),
      one-mono (p a) (q a) (imp a),
      count_by-less p q k (a + 1) n imp (omega (arith, later)) (omega (arith, upto)) not passes,
    ))
    (λ (here : k ≤ a).
    let same : k ≡ a = omega (arith, here, from) in
    omega (
      arith,
      sum_by-cons (λ i. one (p i)) a (range_with_len (a + 1) n),
      sum_by-cons (λ i. one (q i)) a (range_with_len (a + 1) n),
      ap (λ b. one b) (subst (λ i. p i ≡ false) same not),
      ap (λ b. one b) (subst (λ i. q i ≡ true) same passes),
      count_by-mono p q (range_with_len (a + 1) n) imp,
    ))
    (cases_lt a k)

sum_by-less : (f g : ℕ → ℕ) (t : ℕ) (xs : List ℕ) → is_among xs t ≡ true → ((x : ℕ) → f x ≤ g x) → f t + 1 ≤ g t →
    sum_by f xs + 1 ≤ sum_by g xs
sum_by-less f g t [] among le less = absurd (false≢true among)
sum_by-less f g t (x ∷ xs) among le less = ⊎_elim
    (λ same.
    omega (
      arith,
      sum_by-cons f x xs,
      sum_by-cons g x xs,
      ap f (eqb-true t x same),
      ap g (eqb-true t x same),
      less,
      sum_by-mono f g xs le,
    ))
    (λ later. omega (arith, sum_by-cons f x xs, sum_by-cons g x xs, le x, sum_by-less f g t xs later le less))
    (or_cases (t == x) (is_among xs t) among)

-- a processor is in use at each point
count_after_some : (s : System) (count : ℕ) (event : Event) → IsEvent s event → 1 ≤ count → 1 ≤ count_after count event
count_after_some s count (Limit slot count') limits some =
    leb-true 1 count'
    (and_parts (nat_le 1 count') (nat_le count' s.processors) (passes_tests s (Limit slot count') limits).count).0
count_after_some s count (Join slot task cost period early) limits some = some
count_after_some s count (Leave slot task) limits some = some
count_after_some s count (Delay slot task by) limits some = some

fold_some : (s : System) (xs : List Numbered) (count : ℕ) → All (λ x. IsEvent s x.event) xs → 1 ≤ count →
    1 ≤ fold (λ c x. count_after c x.event) count xs
fold_some s [] count limits some = some
fold_some s (x ∷ xs) count limits some =
    fold_some s xs (count_after count x.event) (All-tail (λ y. IsEvent s y.event) x xs limits)
    (count_after_some s count x.event (All-head (λ y. IsEvent s y.event) x xs limits) some)

-- a task that leaves at a slot or after it leaves at a sooner one or after it
leaves_sooner : (xs : List Numbered) (j : Joined) (a b : ℕ) → a ≤ b → leaves_after xs j b ≡ true →
    leaves_after xs j a ≡ true
leaves_sooner xs j a b le = by (find (λ x. is_leave_of j.task x.event) xs) where
  by : (o : Option Numbered) → option_map_or (λ x. nat_le b (slot_of x.event)) o true ≡ true →
      option_map_or (λ x. nat_le a (slot_of x.event)) o true ≡ true
  by None h = h
  by (Some x) h = le-leb a (slot_of x.event) (omega (arith, le, leb-true b (slot_of x.event) h))

module _ (s : Plan) (scenario : IsScenario s) (r : List Slot) (run : IsRun s (length r) r) where
  abbrev end_now : List Numbered
  end_now = events_in_force s r (length r)

  count_some : (v : ℕ) → 1 ≤ count_of s.settings.processors (events_in_force s r v)
  unfolding count_of
  count_some v =
      fold_some s.settings (events_in_force s r v) s.settings.processors (in_force_limits s v (denials_of r) scenario)
      scenario.settings.limits.processors_some

  -- of those that are overdue at the slot `due`, subtask i of the task has not run below slot w
  is_waiting : ℕ → ℕ → ℕ → ℕ → Bool
  is_waiting due w t i = ideal.is_overdue (schedule_upto s r due) t i && nat_le (done r t w) i

  waiting_of : ℕ → ℕ → ℕ → ℕ
  waiting_of due w t = count_by (is_waiting due w t) (range_with_len 0 due)

  all_waiting : ℕ → ℕ → ℕ
  all_waiting due w = sum_by (waiting_of due w) (demand_of s r).tasks

  still_waiting : (due w t i : ℕ) → is_waiting due (suc w) t i ≡ true → is_waiting due w t i ≡ true
  unfolding is_waiting
  still_waiting due w t i h =
      let over = ideal.is_overdue (schedule_upto s r due) t i in
      let both = and_parts over (nat_le (done r t (suc w)) i) h in
      and_from over (nat_le (done r t w) i) both.0
      (le-leb (done r t w) i (omega (arith, leb-true (done r t (suc w)) i both.1, done-rises r t w (suc w) (omega arith))))

  waiting_at : (due w t i : ℕ) → ideal.is_overdue (schedule_upto s r due) t i ≡ true → done r t w ≤ i →
      is_waiting due w t i ≡ true
  unfolding is_waiting
  waiting_at due w t i over late =
      and_from (ideal.is_overdue (schedule_upto s r due) t i) (nat_le (done r t w) i) over (le-leb (done r t w) i late)

  -- one of them that runs waits no more
  waiting_less : (due w t : ℕ) → due ≤ length r → w < length r → runs t (get_or r w no_slot) ≡ true →
      ideal.is_overdue (schedule_upto s r due) t (done r t w) ≡ true → all_waiting due (suc w) + 1 ≤ all_waiting due w
  unfolding all_waiting waiting_of is_waiting
  waiting_less due w t le below running over =
      let among = inside_known s scenario r run w below t (runs_inside s scenario r run w below t running) in
      let task : IsKnown s scenario r t = known s scenario r t among in
      let small : done r t w < due =
      omega (
        arith,
        (overdue_is (schedule_upto s r due) t (done r t w) over).1,
        due_late s scenario r run t task (suc (done r t w)),
      ) in
      sum_by-less (waiting_of due (suc w)) (waiting_of due w) t (demand_of s r).tasks among
      (λ u. count_by-mono (is_waiting due (suc w) u) (is_waiting due w u) (range_with_len 0 due) (still_waiting due w u))
      (count_by-less (is_waiting due (suc w) t) (is_waiting due w t) (done r t w) 0 due (still_waiting due w t) (omega arith)
      (omega (arith, small)) over_now (waiting_at due w t (done r t w) over (omega arith)))
    where
      over_now : is_waiting due (suc w) t (done r t w) ≡ false
      over_now =
          false_from_ne_true (is_waiting due (suc w) t (done r t w))
          (λ h.
          omega (
            arith,
            leb-true (done r t (suc w)) (done r t w)
                (and_parts (ideal.is_overdue (schedule_upto s r due) t (done r t w)) (nat_le (done r t (suc w)) (done r t w)) h).1,
            done-runs r t w no_slot below running,
          ))

  -- a subtask, numbered from 0, that was due and has not run before the slot `past`, where its task still is
  module _ (t i past : ℕ) (within : past ≤ length r) (stay : stays_to s r past t ≡ true) (late : done r t past ≤ i)
      (over : due_in s r t i ≤ past) where
    due : ℕ
    due = due_in s r t i

    -- where a task is inside from the deadline on, and its next subtask was due by then, that was overdue
    overdue_there : (u w : ℕ) → due ≤ w → w < past →
        list_any (λ (k : Joined). k.task == u) (inside s.settings.base (events_in_force s r (suc w))) ≡ true →
        due_in s r u (done r u w) ≤ due → ideal.is_overdue (schedule_upto s r due) u (done r u w) ≡ true
    unfolding due
    overdue_there u w from upto there soon =
        let below : w < length r = omega (arith, upto, within) in
        let among = inside_known s scenario r run w below u there in
        let it : IsInside s scenario r run w below u = inside_is s scenario r run w below u there in
        let after =
        inside_leaves_after s scenario r run u (known s scenario r u among) due w below (omega (arith, from)) it.at in
        is_overdue_from (schedule_upto s r due) u (done r u w)
        (and_from (is_among (demand_of s r).tasks u) (leaves_after end_now (task_at s r u) due) among after)
        soon (done-rises r u due w from)

    -- in each slot from the deadline to there, one of those that were overdue at the deadline runs
    one_less : (w : ℕ) → due ≤ w → w < past → all_waiting due (suc w) + 1 ≤ all_waiting due w
    unfolding due
    one_less w from upto = ⊎_elim
        (λ (running : runs t (get_or r w no_slot) ≡ true).
        waiting_less due w t (omega (arith, over, within)) below running (overdue_there t w from upto there soon))
        (λ (idle : runs t (get_or r w no_slot) ≡ false).
        let many = ok.choice.first t w upto there released idle in
        let it =
        count_by-found (λ u. runs u (get_or r w no_slot) && schedule.no_later u (done r u w) t (done r t w)) schedule.tasks
        (omega (arith, many, count_some (suc w))) in
        let both =
        and_parts (runs it.0 (get_or r w no_slot)) (schedule.no_later it.0 (done r it.0 w) t (done r t w)) it.1 in
        waiting_less due w it.0 (omega (arith, over, within)) below both.0
        (overdue_there it.0 w from upto (runs_inside s scenario r run w below it.0 both.0)
        (omega (arith, ok.order.deadline it.0 (done r it.0 w) t (done r t w) both.1, soon))))
        (cases_Bool (runs t (get_or r w no_slot)))
      where
        schedule : ideal.Schedule
        schedule = schedule_upto s r past

        ok : IsByReach (schedule_upto s r past)
        ok = is_by_reach s scenario r run past within

        below : w < length r
        below = omega (arith, upto, within)

        few : done r t w ≤ i
        few = omega (arith, late, done-rises r t w past (omega (arith, upto)))

        soon : due_in s r t (done r t w) ≤ due_in s r t i
        soon = omega (arith, deadline-climbs (schedule_upto s r past) ok t (done r t w) i few, few)

        released : release_of (task_at s r t).weight (suc (done r t w)) + (demand_of s r).shift t (suc (done r t w)) ≤ w
        released =
            omega (
              arith,
              release-rises (schedule_upto s r past) ok t (done r t w) i few,
              window-some (schedule_upto s r past) ok t i,
              from,
            )

        there : list_any (λ (k : Joined). k.task == t) (inside s.settings.base (events_in_force s r (suc w))) ≡ true
        there = ok.presence.stays t (done r t w) w upto released stay

    fewer : (n w : ℕ) → n + w ≡ past → due ≤ w → n + all_waiting due past ≤ all_waiting due w
    unfolding due
    fewer zero w sum from = let same : w ≡ past = omega (arith, sum) in omega (arith, ap (λ x. all_waiting due x) same)
    fewer (suc n) w sum from =
        omega (arith, fewer n (suc w) (omega (arith, sum)) (omega (arith, from)), one_less w from (omega (arith, sum)))

    -- it is one of them itself
    itself : 1 ≤ all_waiting due past
    unfolding due all_waiting waiting_of
    itself =
        let both = and_parts (is_among (demand_of s r).tasks t) (leaves_after end_now (task_at s r t) past) stay in
        let stay_due : stays_to s r due t ≡ true =
        and_from (is_among (demand_of s r).tasks t) (leaves_after end_now (task_at s r t) due) both.0
        (leaves_sooner end_now (task_at s r t) due past over both.1) in
        let waits : is_waiting due past t i ≡ true =
        waiting_at due past t i
        (is_overdue_from (schedule_upto s r due) t i stay_due (omega arith) (omega (arith, late, done-rises r t due past over)))
        late in
        let small : i < due = omega (arith, due_late s scenario r run t (known s scenario r t both.0) (suc i)) in
        let some =
        count_by-less (λ k. false) (is_waiting due past t) i 0 due (λ k no. absurd (false≢true no)) (omega arith)
        (omega (arith, small)) refl waits in
        omega (
          arith,
          sum_by-less (λ u. 0) (waiting_of due past) t (demand_of s r).tasks both.0 (λ u. omega arith) (omega (arith, some)),
        )

    all_few : all_waiting due due ≤ sum_by (ideal.overdue_of (schedule_upto s r due)) (demand_of s r).tasks
    unfolding all_waiting waiting_of is_waiting
    all_few =
        sum_by-mono (waiting_of due due) (ideal.overdue_of (schedule_upto s r due)) (demand_of s r).tasks
        (λ u.
        count_by-mono (is_waiting due due u) (ideal.is_overdue (schedule_upto s r due) u) (range_with_len 0 due)
        (λ k h. (and_parts (ideal.is_overdue (schedule_upto s r due) u k) (nat_le (done r u due) k) h).0))

    pub waiting_costs : s.settings.base * (past + 1 - due_in s r t i) ≤ overload_of s r (due_in s r t i)
    unfolding due
    waiting_costs =
        let many : past + 1 - due ≤ all_waiting due due =
        omega (arith, over, fewer (past - due) due (omega (arith, over)) (omega arith), itself) in
        omega (
          arith,
          mul-le-mul_left s.settings.base many,
          mul-le-mul_left s.settings.base all_few,
          schedule_costs s scenario r run due (omega (arith, over, within)),
        )

  pub lateness_costs : (past : ℕ) (j : Joined) (i : ℕ) → past ≤ length r → Contains (all_joined s r) j →
      is_overdue r end_now j past i ≡ true →
      s.settings.base * (past + 1 - due_of r end_now j i) ≤ overload_of s r (due_of r end_now j i)
  lateness_costs past j zero le at h = absurd (omega (arith, (overdue_parts s scenario r run j past 0 h).2))
  lateness_costs past j (suc i) le at h =
      let it = overdue_parts s scenario r run j past (suc i) h in
      let same : due_in s r j.task i ≡ due_of r end_now j (suc i) = due_in_is s scenario r run j at i in
      let stay : stays_to s r past j.task ≡ true =
      and_from (is_among (demand_of s r).tasks j.task) (leaves_after end_now (task_at s r j.task) past) (is_known s scenario r j at)
      (subst (λ k. leaves_after end_now k past ≡ true) (sym (task_at-joined s scenario r j at)) it.1) in
      subst (λ d. s.settings.base * (past + 1 - d) ≤ overload_of s r d) same
      (waiting_costs j.task i past le stay (omega (arith, it.2)) (omega (arith, it.0, same)))

pub lateness_costs_quanta : LatenessCostsQuanta
lateness_costs_quanta s n r t j i scenario run le at h =
    let full : IsRun s (length r) r = subst (λ k. IsRun s k r) (sym run.slots) run in
    let now = λ (k : ℕ). events_in_force s r k in
    subst (λ k. s.settings.base * (t + 1 - due_of r (now k) j i) ≤ overload_of s r (due_of r (now k) j i)) run.slots
    (lateness_costs s scenario r full t j i (omega (arith, le, run.slots))
    (subst (λ k. Contains (filter_map (join_of s.settings.base) (now k)) j) (sym run.slots) at)
    (subst (λ k. is_overdue r (now k) j t i ≡ true) (sym run.slots) h))
