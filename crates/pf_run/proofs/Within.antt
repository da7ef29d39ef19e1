-- The values at a point of a run are within the limits of its scenario.
use Rattle.std.proofs.Common.{◌≡◌, ℕ, suc, ◌+◌, ◌*◌, ◌^◌, ◌<◌, ◌≤◌, Bool, true, false, not, cond, Option, Some, None, List, [], ◌∷◌, length, filter_map, fold, All, ⊎_elim, subst, arith}
use Rattle.std.specs.List.{cons_option}
use Rattle.std.proofs.lemmas.List.Sums.{sum_by-le, length-filter, count_by-le-length}
use Rattle.std.proofs.lemmas.List.Elements.{All-head, All-tail, All-weaker, All-filter}
use Rattle.pf_scenario.specs.Share.{share_of}
use Rattle.pf_scenario.specs.TheConstants.{LARGEST_TASK}
use Rattle.pf_scenario.specs.declared.settings.TheConstants.{WIDE_HORIZON}
use Rattle.pf_scenario.specs.System.{System, IsSystem}
use Rattle.pf_scenario.specs.Scenario.{Plan, past}
use Rattle.pf_scenario.specs.Edit.{IsScenario, IsEvent}
use Rattle.pf_scenario.specs.declared.event.Event.{Event}
use Rattle.pf_scenario.specs.declared.event.Event.TheVariants.{Join, Leave, Delay, Limit}
use Rattle.pf_scenario.specs.declared.event.Numbered.{Numbered}
use Rattle.pf_scenario.specs.declared.limits.TheConstants.{LONGEST_DELAY}
use Rattle.pf_run.specs.declared.denied.Denied.{Denied}
use Rattle.pf_run.specs.Record.{Slot, runs, done, is_denied, in_force}
use Rattle.pf_run.specs.Inside.{Joined, joined_by, join_of, has_left, inside, load_of, count_after, count_of, hold_back_of, shift_of}
use Rattle.pf_run.proofs.Later.{done_most}
use Rattle.pf_run.proofs.Keys.{all_filter_map}
use Rattle.pf_run.proofs.Plans.{limits_of_past}
use Rattle.pf_run.proofs.Limits.{passes_tests, join_weight, join_task, delay_by, limit_count, units_within}

-- a horizon is at most that of wide settings
pub horizon_within : (s : System) → IsSystem s → s.horizon ≤ WIDE_HORIZON
horizon_within s is = ⊎_elim (λ near. omega (arith, near)) (λ wide. omega (arith, wide)) is.horizon

-- a task that joined has its numbers within the limits
pub record IsJoined (s : System) (j : Joined) : Type 0 where
  pub slot : j.slot < s.horizon
  pub task_some : 1 ≤ j.task
  pub task_within : j.task ≤ LARGEST_TASK
  pub units : j.weight.units ≤ s.base

pub joined_within : (s : System) (event : Event) (j : Joined) → joined_by s.base event ≡ Some j → IsEvent s event → IsJoined s j
joined_within s (Join slot task cost period early) j e limits =
    let same : ◌≡◌ {A = Joined} (record { task = task; slot = slot; weight = share_of s.base cost period; early = early }) j = cc in
    let number = join_task s slot task cost period early limits in
    subst (IsJoined s) same (record {
      slot = (passes_tests s (Join slot task cost period early) limits).slot;
      task_some = number.0;
      task_within = number.1;
      units = units_within s.base cost period (join_weight s slot task cost period early limits);
    })
joined_within s (Leave slot task) j e limits = cc
joined_within s (Delay slot task by) j e limits = cc
joined_within s (Limit slot count) j e limits = cc

pub inside_within : (s : System) (xs : List Numbered) → All (λ x. IsEvent s x.event) xs → All (IsJoined s) (inside s.base xs)
unfolding inside
inside_within s xs limits =
    All-filter (λ j. not (has_left xs j.task)) (IsJoined s) (filter_map (join_of s.base) xs)
    (all_filter_map (λ x. IsEvent s x.event) (IsJoined s) (join_of s.base) (λ x j. joined_within s x.event j) xs limits)

-- as many tasks at most as events
few_option : (o : Option Joined) (js : List Joined) (n : ℕ) → length js ≤ n → length (cons_option o js) ≤ suc n
few_option None js n few = omega arith
few_option (Some j) js n few = omega arith

joined_few : (base : ℕ) (xs : List Numbered) → length (filter_map (join_of base) xs) ≤ length xs
joined_few base [] = omega arith
joined_few base (x ∷ xs) = few_option (join_of base x) (filter_map (join_of base) xs) (length xs) (joined_few base xs)

pub inside_few : (base : ℕ) (xs : List Numbered) → length (inside base xs) ≤ length xs
unfolding inside
inside_few base xs =
    omega (
      arith,
      joined_few base xs,
      length-filter (λ (j : Joined). not (has_left xs j.task)) (filter_map (join_of base) xs),
      count_by-le-length (λ (j : Joined). not (has_left xs j.task)) (filter_map (join_of base) xs),
    )

-- the load
pub load_within : (s : System) (xs : List Numbered) → IsSystem s → All (λ x. IsEvent s x.event) xs → load_of s.base xs ≤ 2 ^ 30 * length xs
unfolding load_of
load_within s xs is limits =
    omega (
      arith,
      inside_few s.base xs,
      sum_by-le (λ (j : Joined). j.weight.units) (2 ^ 30) (inside s.base xs)
          (All-weaker (IsJoined s) (λ j. j.weight.units ≤ 2 ^ 30) (λ j h. omega (arith, h.units, is.limits.base.within))
          (inside s.base xs) (inside_within s xs limits)),
    )

-- the shifts
pub held_cond : (b : Bool) (by : ℕ) → by ≤ LONGEST_DELAY → cond b by 0 ≤ LONGEST_DELAY
held_cond true by most = most
held_cond false by most = omega arith

held_within : (s : System) (r : List Slot) (task i : ℕ) (event : Event) → IsEvent s event → hold_back_of r task i event ≤ LONGEST_DELAY
held_within s r task i (Delay slot task' by) limits = held_cond _ by (delay_by s slot task' by limits)
held_within s r task i (Join slot task' cost period early) limits = omega arith
held_within s r task i (Leave slot task') limits = omega arith
held_within s r task i (Limit slot count) limits = omega arith

pub shift_within : (s : System) (r : List Slot) (xs : List Numbered) (j : Joined) (i : ℕ) → IsSystem s →
    All (λ x. IsEvent s x.event) xs → IsJoined s j → shift_of r xs j i ≤ WIDE_HORIZON + LONGEST_DELAY * length xs
unfolding shift_of
shift_within s r xs j i is limits joined =
    omega (
      arith,
      joined.slot,
      horizon_within s is,
      sum_by-le (λ (x : Numbered). hold_back_of r j.task i x.event) LONGEST_DELAY xs
          (All-weaker (λ x. IsEvent s x.event) (λ x. hold_back_of r j.task i x.event ≤ LONGEST_DELAY)
          (λ x h. held_within s r j.task i x.event h) xs limits),
    )

pub done_within : (r : List Slot) (task : ℕ) → done r task (length r) ≤ length r
done_within r task = omega (arith, done_most r task (length r), count_by-le-length (runs task) r)

-- the count
limited_within : (s : System) (event : Event) (count : ℕ) → IsEvent s event → count ≤ s.processors → count_after count event ≤ s.processors
limited_within s (Limit slot count') count limits most = limit_count s slot count' limits
limited_within s (Join slot task cost period early) count limits most = most
limited_within s (Leave slot task) count limits most = most
limited_within s (Delay slot task by) count limits most = most

fold_within : (s : System) (xs : List Numbered) (count : ℕ) → All (λ x. IsEvent s x.event) xs → count ≤ s.processors →
    fold (λ c x. count_after c x.event) count xs ≤ s.processors
fold_within s [] count limits most = most
fold_within s (x ∷ xs) count limits most =
    fold_within s xs (count_after count x.event) (All-tail (λ y. IsEvent s y.event) x xs limits)
    (limited_within s x.event count (All-head (λ y. IsEvent s y.event) x xs limits) most)

pub count_within : (s : System) (xs : List Numbered) → All (λ x. IsEvent s x.event) xs → count_of s.processors xs ≤ s.processors
unfolding count_of
count_within s xs limits = fold_within s xs s.processors limits (omega arith)

-- the events in force are within their limits
pub in_force_limits : (s : Plan) (t : ℕ) (denials : List Denied) → IsScenario s →
    All (λ x. IsEvent s.settings x.event) (in_force denials (past s t))
unfolding in_force
in_force_limits s t denials scenario =
    All-filter (λ x. not (is_denied denials x)) (λ x. IsEvent s.settings x.event) (past s t) (limits_of_past s t scenario)
