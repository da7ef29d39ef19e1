-- What the limits of an event say of its numbers.
use Rattle.std.proofs.Common.{◌≡◌, ℕ, ◌*◌, ◌/◌, ◌%◌, ◌<◌, ◌≤◌, true, nat_le, nat_lt, not, [], Option, Some, None, refl, arith, option_map}
use Rattle.std.specs.List.{list_any}
use Rattle.std.proofs.Math.Nat.{mul-le-mul_right}
use Rattle.std.proofs.lemmas.Bool.{and_parts, leb-true, ltb-true}
use Rattle.std.proofs.lemmas.Bool.Decides.{nat_tests}
use Rattle.pf_scenario.specs.Share.{share_of}
use Rattle.pf_scenario.specs.Weighed.{weight_fault}
use Rattle.pf_scenario.specs.WeightFault.{WeightFault}
use Rattle.pf_scenario.specs.TheConstants.{LARGEST_TASK}
use Rattle.pf_scenario.specs.System.{System}
use Rattle.pf_scenario.specs.Event.{slot_of}
use Rattle.pf_scenario.specs.Edit.{IsEvent, or_else, unless, is_within, bad_weight, has_task, has_early, has_delay, has_count, join_alike, leave_alike}
use Rattle.pf_scenario.specs.declared.event.Event.{Event}
use Rattle.pf_scenario.specs.declared.event.Event.TheVariants.{Join, Leave, Delay, Limit}
use Rattle.pf_scenario.specs.declared.event.Numbered.{Numbered}
use Rattle.pf_scenario.specs.declared.fault.EditFault.{EditFault}
use Rattle.pf_scenario.proofs.Scenarios.{unless_none}
use Rattle.pf_scenario.specs.declared.fault.EditFault.TheVariants.{SlotOutOfRange, TaskOutOfRange, EarlyOutOfRange, DelayOutOfRange, CountOutOfRange, BadWeight, JoinTwice, LeaveTwice}
use Rattle.pf_scenario.specs.declared.limits.TheConstants.{LONGEST_DELAY}

within_from : (most n : ℕ) → is_within most n ≡ true → (1 ≤ n) × (n ≤ most)
within_from most n e =
    let parts = and_parts (nat_le 1 n) (nat_le n most) e in
    (leb-true 1 n parts.0, leb-true n most parts.1)

no_fault : (o : Option WeightFault) → option_map (λ f. BadWeight f) o ≡ None → o ≡ None
no_fault None e = refl
no_fault (Some f) e = cc

-- the tests that an event within its limits passes
pub record PassesTests (s : System) (event : Event) : Type 0 where
  pub slot : slot_of event < s.horizon
  pub task : has_task event ≡ true
  pub early : has_early event ≡ true
  pub delay : has_delay event ≡ true
  pub count : has_count s.processors event ≡ true
  pub weight : bad_weight s.base event ≡ None

six_none : (a b c d e f g : Option EditFault) → or_else a (or_else b (or_else c (or_else d (or_else e (or_else f g))))) ≡ None →
    (a ≡ None) × (b ≡ None) × (c ≡ None) × (d ≡ None) × (e ≡ None) × (f ≡ None)
six_none None None None None None None g none = (refl, refl, refl, refl, refl, refl)
six_none (Some x) b c d e f g none = cc
six_none None (Some x) c d e f g none = cc
six_none None None (Some x) d e f g none = cc
six_none None None None (Some x) e f g none = cc
six_none None None None None (Some x) f g none = cc
six_none None None None None None (Some x) g none = cc

pub passes_tests : (s : System) (event : Event) → IsEvent s event → PassesTests s event
passes_tests s event limits =
    let all = six_none (unless (nat_lt (slot_of event) s.horizon) SlotOutOfRange) (unless (has_task event) TaskOutOfRange)
    (unless (has_early event) EarlyOutOfRange) (unless (has_delay event) DelayOutOfRange)
    (unless (has_count s.processors event) CountOutOfRange) (bad_weight s.base event)
    (or_else (unless (not (list_any (λ (x : Numbered). join_alike x.event event) [])) JoinTwice)
    (unless (not (list_any (λ (x : Numbered). leave_alike x.event event) [])) LeaveTwice)) limits in
    record {
      slot = ltb-true (slot_of event) s.horizon (unless_none (nat_lt (slot_of event) s.horizon) SlotOutOfRange all.0);
      task = unless_none (has_task event) TaskOutOfRange all.1;
      early = unless_none (has_early event) EarlyOutOfRange all.2;
      delay = unless_none (has_delay event) DelayOutOfRange all.3;
      count = unless_none (has_count s.processors event) CountOutOfRange all.4;
      weight = all.5;
    }

pub join_weight : (s : System) (slot task cost period early : ℕ) → IsEvent s (Join slot task cost period early) →
    weight_fault s.base cost period ≡ None
join_weight s slot task cost period early limits =
    no_fault (weight_fault s.base cost period) (passes_tests s (Join slot task cost period early) limits).weight

pub join_task : (s : System) (slot task cost period early : ℕ) → IsEvent s (Join slot task cost period early) →
    (1 ≤ task) × (task ≤ LARGEST_TASK)
join_task s slot task cost period early limits = within_from LARGEST_TASK task (passes_tests s (Join slot task cost period early) limits).task

pub leave_task : (s : System) (slot task : ℕ) → IsEvent s (Leave slot task) → (1 ≤ task) × (task ≤ LARGEST_TASK)
leave_task s slot task limits = within_from LARGEST_TASK task (passes_tests s (Leave slot task) limits).task

pub delay_task : (s : System) (slot task by : ℕ) → IsEvent s (Delay slot task by) → (1 ≤ task) × (task ≤ LARGEST_TASK)
delay_task s slot task by limits = within_from LARGEST_TASK task (passes_tests s (Delay slot task by) limits).task

pub delay_by : (s : System) (slot task by : ℕ) → IsEvent s (Delay slot task by) → by ≤ LONGEST_DELAY
delay_by s slot task by limits = (within_from LONGEST_DELAY by (passes_tests s (Delay slot task by) limits).delay).1

pub limit_count : (s : System) (slot count : ℕ) → IsEvent s (Limit slot count) → count ≤ s.processors
limit_count s slot count limits = (within_from s.processors count (passes_tests s (Limit slot count) limits).count).1

-- a weight's parts, and its units are no more than the base
pub weight_parts : (base cost period : ℕ) → weight_fault base cost period ≡ None →
    (1 ≤ cost) × (cost ≤ period) × (base % period ≡ 0)
weight_parts base cost period none = (grind (arith, nat_tests), grind (arith, nat_tests), grind (arith, nat_tests))

pub units_within : (base cost period : ℕ) → weight_fault base cost period ≡ None → (share_of base cost period).units ≤ base
units_within base cost period none =
    let parts = weight_parts base cost period none in
    let whole : period * (base / period) ≤ base = omega arith in
    omega (arith, mul-le-mul_right (base / period) parts.1)
