-- The tasks of a run by their numbers, and what they ask for.
use Rattle.std.proofs.Common.{◌≡◌, ◌≢◌, ℕ, suc, ◌+◌, ◌*◌, ◌≤◌, ◌==◌, ◌&&◌, Bool, true, false, nat_le, cond, Option, None, Some, List, [], ◌∷◌, length, map, find, sum_by, AllPairs, Contains, arith, refl, ap, sym, ◌∙◌, subst}
use Rattle.std.proofs.lemmas.Bool.{eqb-true, eq-eqb, leb-true, le-leb}
use Rattle.std.proofs.lemmas.List.Elements.{All-contains}
use Rattle.std.proofs.lemmas.List.Sums.{sum_by-cons}
use Rattle.pf_weight.specs.Share.{IsShare, IsBase, share_of}
use Rattle.pf_scenario.specs.Scenario.{Plan, past}
use Rattle.pf_scenario.specs.Edit.{IsScenario, IsEvent}
use Rattle.pf_scenario.specs.System.{System}
use Rattle.pf_scenario.specs.declared.event.Event.{Event}
use Rattle.pf_scenario.specs.declared.event.Event.TheVariants.{Join, Leave, Delay, Limit}
use Rattle.pf_scenario.specs.declared.event.Numbered.{Numbered}
use Rattle.pf_run.specs.Record.{Slot, denials_of, done}
use Rattle.pf_run.specs.Inside.{Joined, joined_by, join_of, hold_back_of, shift_of}
use Rattle.pf_run.specs.Run.{events_in_force}
use Rattle.pf_run.specs.Inside.{joins_of}
use Rattle.pf_run.proofs.Limits.{join_weight}
use Rattle.pf_run.proofs.Joins.{joins_once_in_force, joined_differ}
use Rattle.pf_run.proofs.Plans.{joins_few, limits_of_past}
use Rattle.pf_tally.proofs.Subs.{Giver, from_filter_map}
use Rattle.pf_laws.specs.Reach.Demand.{Demand, IsDemand}
use Rattle.pf_laws.proofs.ReachLemmas.Weights.{weight-share, weight-exact}
use Rattle.pf_laws.proofs.StaticSetsLemmas.Weights.{whole_of, whole-share}
use Rattle.pf_tally.proofs.Contents.{list_any-contains, contains-list_any, list_any-map}
use Rattle.pf_laws.proofs.PromiseLemmas.Sets.{DifferAll, is_among, differ_from_pairs}
use Rattle.pf_tally.proofs.Fronts.{in_force_all}
use Rattle.pf_tally.proofs.Members.{joined_of, find_joined, found_is}

-- a number that is no task stands for a task of weight 1
abbrev pub absent : ℕ → ℕ → Joined
absent base t = record { task = t; slot = 0; weight = whole_of base; early = 0 }

abbrev pub or_absent : ℕ → ℕ → Option Joined → Joined
or_absent base t None = absent base t
or_absent base t (Some j) = j

-- those that joined in the run r of the scenario, and the task of a number
abbrev pub all_joined : Plan → List Slot → List Joined
all_joined s r = joined_of s.settings.base (events_in_force s r (length r))

abbrev pub task_at : Plan → List Slot → ℕ → Joined
task_at s r t = or_absent s.settings.base t (find (λ j. j.task == t) (all_joined s r))

-- what they ask for, by the shifts that stay
abbrev pub demand_of : Plan → List Slot → Demand
demand_of s r = record {
  tasks = map (λ (j : Joined). j.task) (all_joined s r);
  weight = λ t. (task_at s r t).weight;
  shift = λ t i. shift_of r (events_in_force s r (length r)) (task_at s r t) i;
  base = s.settings.base;
}

-- what is known of one of them
pub record IsTask (base : ℕ) (j : Joined) : Type 0 where
  pub share : IsShare j.weight
  pub exact : j.weight.units * j.weight.period ≡ j.weight.cost * base

joined_is : (system : System) (event : Event) (j : Joined) → IsBase system.base → IsEvent system event →
    joined_by system.base event ≡ Some j → IsTask system.base j
joined_is system (Join slot task cost period early) j base within is =
    let of_join : Joined = record { task = task; slot = slot; weight = share_of system.base cost period; early = early } in
    let same : of_join ≡ j = cc in
    let accepted = join_weight system slot task cost period early within in
    subst (IsTask system.base) same (record {
      share = weight-share system.base cost period base accepted;
      exact = weight-exact system.base cost period base accepted;
    })
joined_is system (Leave slot task) j base within is = cc
joined_is system (Delay slot task by) j base within is = cc
joined_is system (Limit slot count) j base within is = cc

module _ (s : Plan) (scenario : IsScenario s) (r : List Slot) where
  pub joins_once : AllPairs (λ a b. a.task ≢ b.task) (all_joined s r)
  joins_once = joined_differ s.settings.base (events_in_force s r (length r)) (joins_once_in_force s (length r) (denials_of r) scenario)

  pub joins_at_most : (task : ℕ) → joins_of task (events_in_force s r (length r)) ≤ 1
  joins_at_most task =
      joins_few task (events_in_force s r (length r)) (joins_once_in_force s (length r) (denials_of r) scenario)

  pub is_task : (j : Joined) → Contains (all_joined s r) j → IsTask s.settings.base j
  is_task j at =
      let giver : Giver (join_of s.settings.base) (events_in_force s r (length r)) j =
      from_filter_map (join_of s.settings.base) (events_in_force s r (length r)) j at in
      joined_is s.settings giver.giver.event j scenario.settings.limits.base
      (All-contains (λ x. IsEvent s.settings x.event) (events_in_force s r (length r)) giver.giver
      (in_force_all (λ x. IsEvent s.settings x.event) (denials_of r) (past s (length r)) (limits_of_past s (length r) scenario)) giver.stands)
      giver.gives

  pub task_at-joined : (j : Joined) → Contains (all_joined s r) j → task_at s r j.task ≡ j
  task_at-joined j at =
      ap (or_absent s.settings.base j.task)
      (find_joined s.settings.base (events_in_force s r (length r)) j (joins_at_most j.task) at)

  pub task_at-is : (t : ℕ) (j : Joined) → Contains (all_joined s r) j → j.task ≡ t → task_at s r t ≡ j
  task_at-is t j at same = subst (λ u. task_at s r u ≡ j) same (task_at-joined j at)

  pub is_known : (j : Joined) → Contains (all_joined s r) j → is_among (demand_of s r).tasks j.task ≡ true
  is_known j at =
      list_any-map (λ u. j.task == u) (λ (k : Joined). k.task) (all_joined s r)
      ∙ contains-list_any (λ (k : Joined). j.task == k.task) (all_joined s r) j at (eq-eqb j.task j.task refl)

  -- the task of a known number
  pub record IsKnown (t : ℕ) : Type 0 where
    pub joined : Contains (all_joined s r) (task_at s r t)
    pub number : (task_at s r t).task ≡ t

  pub known : (t : ℕ) → is_among (demand_of s r).tasks t ≡ true → IsKnown t
  known t h =
      let it =
      list_any-contains (λ (k : Joined). t == k.task) (all_joined s r)
      (sym (list_any-map (λ u. t == u) (λ (k : Joined). k.task) (all_joined s r)) ∙ h) in
      let number : it.0.task ≡ t = sym (eqb-true t it.0.task it.2) in
      let is : task_at s r t ≡ it.0 = task_at-is t it.0 it.1 number in
      record {
        joined = subst (λ k. Contains (all_joined s r) k) (sym is) it.1;
        number = ap (λ (k : Joined). k.task) is ∙ number;
      }

  pub tasks_differ : DifferAll (demand_of s r).tasks
  tasks_differ = differ_from_pairs (λ (j : Joined). j.task) (all_joined s r) joins_once

  or_absent-is : (t : ℕ) (o : Option Joined) → find (λ j. j.task == t) (all_joined s r) ≡ o →
      IsTask s.settings.base (or_absent s.settings.base t o)
  or_absent-is t None none = record { share = whole-share s.settings.base scenario.settings.limits.base; exact = omega arith }
  or_absent-is t (Some j) some = is_task j (found_is (λ k. k.task == t) (all_joined s r) j some).0

  held_rises : (task i : ℕ) (event : Event) → hold_back_of r task i event ≤ hold_back_of r task (suc i) event
  held_rises task i (Delay slot task' by) = by_both (task' == task) (nat_le (done r task slot + 1) i) refl where
    by_both : (b c : Bool) → nat_le (done r task slot + 1) i ≡ c →
        cond (b && c) by 0 ≤ cond (b && nat_le (done r task slot + 1) (suc i)) by 0
    by_both true true counts =
        omega (
          arith,
          ap {B = ℕ} (λ c. cond (true && c) by 0)
              (le-leb (done r task slot + 1) (suc i) (omega (arith, leb-true (done r task slot + 1) i counts))),
        )
    by_both true false counts = omega arith
    by_both false c counts = omega arith
  held_rises task i (Join slot task' cost period early) = omega arith
  held_rises task i (Leave slot task') = omega arith
  held_rises task i (Limit slot count) = omega arith

  sum_rises : {A : Type 0} (f g : A → ℕ) (xs : List A) → ((x : A) → f x ≤ g x) → sum_by f xs ≤ sum_by g xs
  sum_rises f g [] le = omega arith
  sum_rises f g (x ∷ xs) le = omega (arith, sum_by-cons f x xs, sum_by-cons g x xs, le x, sum_rises f g xs le)

  pub shift-rises : (xs : List Numbered) (j : Joined) (i : ℕ) → shift_of r xs j i ≤ shift_of r xs j (suc i)
  unfolding shift_of
  shift-rises xs j i =
      omega (
        arith,
        sum_rises (λ x. hold_back_of r j.task i x.event) (λ x. hold_back_of r j.task (suc i) x.event) xs
            (λ x. held_rises j.task i x.event),
      )

  pub is_demand : IsDemand (demand_of s r)
  is_demand = record {
    some = scenario.settings.limits.base.some;
    shares = λ t. (or_absent-is t (find (λ j. j.task == t) (all_joined s r)) refl).share;
    exact = λ t. (or_absent-is t (find (λ j. j.task == t) (all_joined s r)) refl).exact;
    rise = λ t i. shift-rises (events_in_force s r (length r)) (task_at s r t) i;
  }
