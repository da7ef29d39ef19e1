-- A task of a run is inside through its windows and as far as its subtasks reach: by the rule of leaving, and because
-- later delays hold back no subtask that ran.
use Rattle.std.proofs.Common.{◌≡◌, ℕ, zero, suc, ◌+◌, ◌<◌, ◌≤◌, ◌==◌, ◌⊎◌, ◌||◌, Bool, true, false, not, nat_le, cond, if◌then◌else◌, Option, None, Some, List, [], ◌∷◌, ◌++◌, length, find, get_or, Contains, arith, refl, ap, sym, ◌∙◌, subst, inl, inr, ⊎_elim}
use Rattle.std.specs.List.{list_any}
use Rattle.std.specs.Option.{option_map_or}
use Rattle.std.proofs.lemmas.Bool.{cases_Bool, cases_lt, and_parts, eq-eqb, leb-true, le-leb, both_ways, or_cases, not_from_false, false≢true}
use Rattle.std.proofs.lemmas.List.Elements.{All-contains, Contains-append_cases, filter_map-append}
use Rattle.pf_weight.specs.Share.{Share, IsShare, is_heavy}
use Rattle.pf_window.specs.Window.{release_of, deadline_of, bit_of}
use Rattle.pf_window.specs.Group.{group_of}
use Rattle.pf_window.proofs.Groups.{group_of-is}
use Rattle.pf_scenario.specs.Event.{slot_of, is_leave_of}
use Rattle.pf_scenario.specs.Scenario.{Plan}
use Rattle.pf_scenario.specs.Edit.{IsScenario}
use Rattle.pf_scenario.specs.declared.event.Event.{Event}
use Rattle.pf_scenario.specs.declared.event.Event.TheVariants.{Join, Leave, Delay, Limit}
use Rattle.pf_scenario.specs.declared.event.Numbered.{Numbered}
use Rattle.pf_run.specs.Record.{Slot, runs, done}
use Rattle.pf_run.specs.Inside.{Joined, joined_by, join_of, has_left, inside, shift_of}
use Rattle.pf_run.specs.Run.{events_in_force, IsRun}
use Rattle.pf_run.proofs.Containing.{contains_head, contains_tail}
use Rattle.pf_tally.specs.Misses.{due_of, leaves_after}
use Rattle.pf_tally.proofs.Windows.{deadlines_rise, deadline_late}
use Rattle.pf_tally.proofs.Subs.{Giver, from_filter_map}
use Rattle.pf_laws.specs.Ideal.Schedule as ideal
use Rattle.pf_laws.specs.Ideal.Schedule.{StaysInside, IsByReach}
use Rattle.pf_laws.proofs.IdealLemmas.Rising.{rises}
use Rattle.pf_laws.specs.Reach.Reach.{WindowsReach}
use Rattle.pf_laws.proofs.ReachLemmas.Reaching.{group_deadlines_end_reach, reach_bit}
use Rattle.pf_laws.proofs.ReachLemmas.Demands.{reach-cost, pd2_is_by_reach}
use Rattle.pf_tally.proofs.Contents.{list_any-contains, contains-list_any}
use Rattle.pf_laws.proofs.PromiseLemmas.Sets.{is_among}
use Rattle.pf_tally.proofs.Fronts.{Splits, splits, standing_below}
use Rattle.pf_tally.proofs.Members.{joined_of, found_is}
use Rattle.pf_laws.proofs.PromiseLemmas.Shifts.{no_slot, done-rises, contains_grown}
use Rattle.pf_tally.proofs.Slots.{to_filter, none_found, inside_stays}
use Rattle.pf_laws.proofs.PromiseLemmas.Leaves.{last_due, free}
use Rattle.pf_laws.proofs.PromiseLemmas.Joining.{task_at, demand_of, IsKnown, known, is_task, is_demand, shift-rises}
use Rattle.pf_laws.proofs.PromiseLemmas.Choosing.{due_in, stays_to, service_of, schedule_upto, shift_slot, counted, IsInside, inside_is, inside_known, runs_inside, choice}

pub join_slot : (base : ℕ) (event : Event) (j : Joined) → joined_by base event ≡ Some j → j.slot ≡ slot_of event
join_slot base (Join slot task cost period early) j is = ap slot_or (sym is) where
  slot_or : Option Joined → ℕ
  slot_or None = 0
  slot_or (Some j) = j.slot
join_slot base (Leave slot task) j is = cc
join_slot base (Delay slot task by) j is = cc
join_slot base (Limit slot count) j is = cc

find-front : {X : Type 0} (p : X → Bool) (xs ys : List X) (y : X) → list_any p xs ≡ true → find p (xs ++ ys) ≡ Some y →
    Contains xs y
find-front p [] ys y some found = absurd (false≢true some)
find-front p (x ∷ xs) ys y some found = by (p x) refl found some (λ more found'. find-front p xs ys y more found') where
  by : (b : Bool) → p x ≡ b → cond b (Some x) (find p (xs ++ ys)) ≡ Some y → (p x || list_any p xs) ≡ true →
      (list_any p xs ≡ true → find p (xs ++ ys) ≡ Some y → Contains xs y) → Contains (x ∷ xs) y
  by true is found some rest = let same : x ≡ y = cc in subst (λ z. Contains (x ∷ xs) z) same (contains_head x xs)
  by false is found some rest =
      contains_tail x xs y
      (rest (⊎_elim (λ here. absurd (both_ways (p x) is here)) (λ k. k) (or_cases (p x) (list_any p xs) some)) found)

-- windows of later subtasks, and group deadlines
deadlines_up : (w : Share) (i k : ℕ) → IsShare w → i ≤ k → deadline_of w i ≤ deadline_of w k
deadlines_up w i k share le = ⊎_elim (λ same. omega (arith, ap (deadline_of w) same))
    (λ less. omega (arith, deadlines_rise w i k share less)) (same_or_less i k le) where
      same_or_less : (a b : ℕ) → a ≤ b → (a ≡ b) ⊎ (a < b)
      same_or_less a b le = ⊎_elim (λ lt. inr lt) (λ ge. inl (omega (arith, ge, le))) (cases_lt a b)

group_due : (w : Share) (i : ℕ) → IsShare w → 1 ≤ i → is_heavy w ≡ true → deadline_of w i ≤ group_of w i
group_due w i share some heavy = ((group_of-is w i share some).heavy heavy).after

groups_up : (w : Share) (i k : ℕ) → IsShare w → 1 ≤ i → i ≤ k → is_heavy w ≡ true → group_of w i ≤ group_of w k
groups_up w i k share some le heavy =
    let of_k = (group_of-is w k share (omega (arith, some, le))).heavy heavy in
    ((group_of-is w i share some).heavy heavy).least (group_of w k) of_k.group
    (omega (arith, of_k.after, deadlines_up w i k share le))

module _ (s : Plan) (scenario : IsScenario s) (r : List Slot) (run : IsRun s (length r) r) where
  abbrev base : ℕ
  base = s.settings.base

  abbrev end_now : List Numbered
  end_now = events_in_force s r (length r)

  ran_known : (t i v : ℕ) → v ≤ length r → i < done r t v → is_among (demand_of s r).tasks t ≡ true
  unfolding done
  ran_known t i zero le ran = absurd (omega (arith, ran))
  ran_known t i (suc v) le ran = ⊎_elim
      (λ (running : runs t (get_or r v no_slot) ≡ true).
      inside_known s scenario r run v le t (runs_inside s scenario r run v le t running))
      (λ (idle : runs t (get_or r v no_slot) ≡ false).
      ran_known t i v (omega (arith, le))
      (omega (arith, ran, counted s scenario r run t v, ap {B = ℕ} (λ b. if b then 1 else 0) idle)))
      (cases_Bool (runs t (get_or r v no_slot)))

  -- what is in force by a slot is so by a later one
  grown : (v u : ℕ) → v ≤ u → (x : Numbered) → Contains (events_in_force s r (suc v)) x →
      Contains (events_in_force s r (suc u)) x
  grown v u le x at =
      let rest : Splits s r (suc v) (suc u) = splits s r (suc v) (suc u) (omega (arith, le)) in
      subst (λ zs. Contains zs x) (sym rest.is) (contains_grown (events_in_force s r (suc v)) rest.rest x at)

  module _ (t : ℕ) (is : IsKnown s scenario r t) where
    abbrev j : Joined
    j = task_at s r t

    abbrev w : Share
    w = j.weight

    abbrev share : IsShare w
    share = (is_task s scenario r j is.joined).share

    abbrev shift : ℕ → ℕ
    shift i = shift_of r end_now j i

    shifts_up : (i k : ℕ) → i ≤ k → shift i ≤ shift k
    shifts_up i k le = rises shift (λ n. shift-rises s scenario r end_now j n) i k le

    -- a later subtask is due later
    pub due_rises : (i k : ℕ) → i < k → due_of r end_now j i < due_of r end_now j k
    due_rises i k less = omega (arith, deadlines_rise w i k share less, shifts_up i k (omega (arith, less)))

    -- none is due before its number
    pub due_late : (i : ℕ) → i ≤ due_of r end_now j i
    due_late i = omega (arith, deadline_late w i share)

    -- it joined where its shift lies after
    joined_now : (v : ℕ) → v < length r → j.slot ≤ v → Contains (joined_of base (events_in_force s r (suc v))) j
    joined_now v lt slot =
        let rest : Splits s r (suc v) (length r) = splits s r (suc v) (length r) lt in
        ⊎_elim (λ at. at)
        (λ later.
        let giver : Giver (join_of base) rest.rest j = from_filter_map (join_of base) rest.rest j later in
        let from : suc v ≤ slot_of giver.giver.event =
        All-contains (λ x. suc v ≤ slot_of x.event) rest.rest giver.giver rest.later giver.stands in
        absurd (omega (arith, from, slot, join_slot base giver.giver.event j giver.gives)))
        (Contains-append_cases (joined_of base (events_in_force s r (suc v))) (joined_of base rest.rest) j
        (subst (λ js. Contains js j) (filter_map-append (join_of base) (events_in_force s r (suc v)) rest.rest)
        (subst (λ zs. Contains (joined_of base zs) j) rest.is is.joined)))

    -- it is inside, unless it left by then
    inside_unless : (v : ℕ) → v < length r → j.slot ≤ v →
        ((x : Numbered) → Contains (events_in_force s r (suc v)) x → is_leave_of j.task x.event ≡ true → ⊥) →
        list_any (λ (k : Joined). k.task == t) (inside base (events_in_force s r (suc v))) ≡ true
    unfolding inside
    inside_unless v lt slot stays =
        let now = events_in_force s r (suc v) in
        let left : has_left now j.task ≡ false =
        ⊎_elim
        (λ gone.
        let it = list_any-contains (λ x. is_leave_of j.task x.event) now gone in
        absurd (stays it.0 it.1 it.2))
        (λ h. h) (cases_Bool (has_left now j.task)) in
        contains-list_any (λ (k : Joined). k.task == t) (inside base now) j
        (to_filter (λ (k : Joined). not (has_left now k.task)) (joined_of base now) j (joined_now v lt slot)
        (not_from_false (has_left now j.task) left))
        (eq-eqb j.task t is.number)

    -- a leave by slot v is one of the run, and is not below what the last subtask allows
    left_free : (v i : ℕ) → v < length r → i < done r t (length r) → (x : Numbered) →
        Contains (events_in_force s r (suc v)) x → is_leave_of j.task x.event ≡ true → last_due r end_now j ≤ v
    left_free v i lt ran x at leaves =
        let rest : Splits s r (suc v) (length r) = splits s r (suc v) (length r) lt in
        let at_end : Contains end_now x =
        subst (λ zs. Contains zs x) (sym rest.is) (contains_grown (events_in_force s r (suc v)) rest.rest x at) in
        let below : slot_of x.event < suc v =
        All-contains (λ y. slot_of y.event < suc v) (events_in_force s r (suc v)) x (standing_below s r (suc v)) at in
        omega (
          arith,
          below,
          free s scenario (length r) r run j is.joined x at_end leaves
              (omega (arith, ran, ap (λ u. done r u (length r)) is.number)),
        )

    done_number : done r j.task (length r) ≡ done r t (length r)
    done_number = ap (λ u. done r u (length r)) is.number

    -- a subtask that ran is due by where the last one allows ..
    due_last : (i : ℕ) → i < done r t (length r) → due_in s r t i ≤ last_due r end_now j
    due_last i ran = by (is_heavy w) refl where
      n : ℕ
      n = done r j.task (length r)

      le : suc i ≤ n
      le = omega (arith, ran, done_number)

      by : (b : Bool) → is_heavy w ≡ b →
          due_in s r t i ≤ (if b then group_of w n else deadline_of w n) + shift n + bit_of w n
      by true heavy =
          omega (arith, deadlines_up w (suc i) n share le, group_due w n share (omega (arith, le)) heavy, shifts_up (suc i) n le)
      by false light = omega (arith, deadlines_up w (suc i) n share le, shifts_up (suc i) n le)

    -- .. and reaches no further
    reach_last : (i k : ℕ) → i < done r t (length r) → WindowsReach w (suc i) k → due_in s r t i + k < last_due r end_now j
    reach_last i k ran far = by (is_heavy w) refl where
      n : ℕ
      n = done r j.task (length r)

      le : suc i ≤ n
      le = omega (arith, ran, done_number)

      one : bit_of w (suc i) ≡ 1
      one = reach_bit w share (suc i) k far

      by : (b : Bool) → is_heavy w ≡ b →
          due_in s r t i + k < (if b then group_of w n else deadline_of w n) + shift n + bit_of w n
      by true heavy =
          let before = ((group_deadlines_end_reach w (suc i) share (omega arith)).heavy heavy one k).0 far in
          omega (arith, before, groups_up w (suc i) n share (omega arith) le heavy, shifts_up (suc i) n le)
      by false light =
          let none : k ≡ 0 = (group_deadlines_end_reach w (suc i) share (omega arith)).light light k far in
          ⊎_elim (λ (less : suc i < n). omega (arith, none, deadlines_rise w (suc i) n share less, shifts_up (suc i) n le))
          (λ (ge : n ≤ suc i).
          let same : suc i ≡ n = omega (arith, ge, le) in
          omega (arith, none, one, ap (λ m. deadline_of w m + shift m + bit_of w m) same))
          (cases_lt (suc i) n)

    -- where a leave is at or after a slot, one that is in force by v is so too
    leave_later : (due v : ℕ) → v < length r → leaves_after end_now j due ≡ true → (x : Numbered) →
        Contains (events_in_force s r (suc v)) x → is_leave_of j.task x.event ≡ true → due ≤ v
    leave_later due v lt after x at leaves = by (find (λ y. is_leave_of j.task y.event) end_now) refl after where
      rest : Splits s r (suc v) (length r)
      rest = splits s r (suc v) (length r) lt

      some : list_any (λ y. is_leave_of j.task y.event) (events_in_force s r (suc v)) ≡ true
      some = contains-list_any (λ y. is_leave_of j.task y.event) (events_in_force s r (suc v)) x at leaves

      by : (o : Option Numbered) → find (λ y. is_leave_of j.task y.event) end_now ≡ o →
          option_map_or (λ y. nat_le due (slot_of y.event)) o true ≡ true → due ≤ v
      by None none h =
          let at_end = subst (λ zs. Contains zs x) (sym rest.is) (contains_grown (events_in_force s r (suc v)) rest.rest x at) in
          absurd (none_found (λ y. is_leave_of j.task y.event) end_now x none at_end leaves)
      by (Some y) found h =
          let front : Contains (events_in_force s r (suc v)) y =
          find-front (λ y. is_leave_of j.task y.event) (events_in_force s r (suc v)) rest.rest y some
          (ap (find (λ y. is_leave_of j.task y.event)) (sym rest.is) ∙ found) in
          let below : slot_of y.event < suc v =
          All-contains (λ y. slot_of y.event < suc v) (events_in_force s r (suc v)) y (standing_below s r (suc v)) front in
          omega (arith, below, leb-true due (slot_of y.event) h)

    -- a task that is inside leaves no sooner
    pub inside_leaves_after : (due v : ℕ) → v < length r → due ≤ suc v → Contains (inside base (events_in_force s r (suc v))) j →
        leaves_after end_now j due ≡ true
    inside_leaves_after due v lt le at = by (find (λ y. is_leave_of j.task y.event) end_now) refl where
      rest : Splits s r (suc v) (length r)
      rest = splits s r (suc v) (length r) lt

      by : (o : Option Numbered) → find (λ y. is_leave_of j.task y.event) end_now ≡ o →
          option_map_or (λ y. nat_le due (slot_of y.event)) o true ≡ true
      by None none = refl
      by (Some y) found =
          let both = found_is (λ y. is_leave_of j.task y.event) end_now y found in
          le-leb due (slot_of y.event)
          (⊎_elim
          (λ here. absurd (inside_stays base (events_in_force s r (suc v)) j y at here both.1))
          (λ later. omega (arith, le, All-contains (λ x. suc v ≤ slot_of x.event) rest.rest y rest.later later))
          (Contains-append_cases (events_in_force s r (suc v)) rest.rest y (subst (λ zs. Contains zs y) rest.is both.0)))

  module _ (end : ℕ) (within : end ≤ length r) where
    presence : StaysInside (schedule_upto s r end)
    presence = record { through = through; until = until; past = past; stays = stays } where
      joined_by_slot : (t i : ℕ) → (task_at s r t).slot ≤ shift_of r end_now (task_at s r t) (suc i)
      joined_by_slot t i = shift_slot r end_now (task_at s r t) (suc i)

      through : (t i v : ℕ) → v < end →
          release_of (task_at s r t).weight (suc i) + shift_of r end_now (task_at s r t) (suc i) ≤ v → v < due_in s r t i →
          i < done r t end →
          list_any (λ (k : Joined). k.task == t) (inside base (events_in_force s r (suc v))) ≡ true
      through t i v lt from upto ran =
          let below : v < length r = omega (arith, lt, within) in
          let at_end : i < done r t (length r) = omega (arith, ran, done-rises r t end (length r) within) in
          let task : IsKnown s scenario r t = known s scenario r t (ran_known t i end within ran) in
          inside_unless t task v below (omega (arith, from, joined_by_slot t i))
          (λ x at leaves.
          omega (arith, upto, due_last t task i at_end, left_free t task v i below at_end x at leaves))

      until : (t i v u : ℕ) →
          release_of (task_at s r t).weight (suc i) + shift_of r end_now (task_at s r t) (suc i) ≤ v → v ≤ u → u < end →
          runs t (get_or r u no_slot) ≡ true →
          list_any (λ (k : Joined). k.task == t) (inside base (events_in_force s r (suc v))) ≡ true
      until t i v u from upto lt running =
          let later : u < length r = omega (arith, lt, within) in
          let there = runs_inside s scenario r run u later t running in
          let it : IsInside s scenario r run u later t = inside_is s scenario r run u later t there in
          let task : IsKnown s scenario r t = known s scenario r t (inside_known s scenario r run u later t there) in
          inside_unless t task v (omega (arith, later, upto)) (omega (arith, from, joined_by_slot t i))
          (λ x at leaves.
          inside_stays base (events_in_force s r (suc u)) (task_at s r t) x it.at (grown v u upto x at) leaves)

      past : (t i v n : ℕ) → v < end → i < done r t v → v ≡ due_in s r t i + n →
          ideal.Reaches (schedule_upto s r end) t i n →
          list_any (λ (k : Joined). k.task == t) (inside base (events_in_force s r (suc v))) ≡ true
      past t i v n lt ran here far =
          let below : v < length r = omega (arith, lt, within) in
          let at_end : i < done r t (length r) = omega (arith, ran, done-rises r t v (length r) (omega (arith, below))) in
          let task : IsKnown s scenario r t = known s scenario r t (ran_known t i v (omega (arith, below)) ran) in
          let reach : WindowsReach (task_at s r t).weight (suc i) n =
          reach-cost (demand_of s r) (is_demand s scenario r) t (suc i) n (omega (arith, far)) in
          inside_unless t task v below (omega (arith, here, joined_by_slot t i))
          (λ x at leaves.
          omega (arith, here, reach_last t task i n at_end reach, left_free t task v i below at_end x at leaves))

      stays : (t i v : ℕ) → v < end →
          release_of (task_at s r t).weight (suc i) + shift_of r end_now (task_at s r t) (suc i) ≤ v →
          stays_to s r end t ≡ true →
          list_any (λ (k : Joined). k.task == t) (inside base (events_in_force s r (suc v))) ≡ true
      stays t i v lt from stay =
          let below : v < length r = omega (arith, lt, within) in
          let both = and_parts (is_among (demand_of s r).tasks t) (leaves_after end_now (task_at s r t) end) stay in
          let task : IsKnown s scenario r t = known s scenario r t both.0 in
          inside_unless t task v below (omega (arith, from, joined_by_slot t i))
          (λ x at leaves. omega (arith, lt, leave_later t task end v below both.1 x at leaves))

    pub is_by_reach : IsByReach (schedule_upto s r end)
    is_by_reach =
        let both = pd2_is_by_reach (demand_of s r) (service_of s r end) (is_demand s scenario r) in
        record {
          windows = both.windows;
          order = both.order;
          choice = choice s scenario r run end within;
          presence = presence;
        }
