-- What a scenario's representation is asked for at each change.
use Rattle.std.proofs.Common.{◌≡◌, ℕ, ◌<◌, ◌≤◌, ◌%◌, ◌^◌, Option, Some, None, true, not, List, [], ◌∷◌, ◌++◌, refl, sym, ap, ◌∙◌, subst, arith, IfSome, inl, inr}
use Rattle.std.specs.Prelude.{◌==◌, nat_le}
use Rattle.std.specs.List.{All, AllPairs}
use Rattle.std.specs.Option.{option_map, option_map_or}
use Rattle.std.proofs.lemmas.Bool.{cases_Bool, ne_eqb, leb-true, ltb-true, lt-ltb, and_from, and_parts}
use Rattle.std.proofs.lemmas.List.{append-nil}
use Rattle.std.proofs.lemmas.List.Elements.{All-weaker}
use Rattle.std.proofs.lemmas.Bool.Decides.{nat_tests}
use Rattle.std.proofs.lemmas.Nat.Gcd.{le_of_dvd, dvd_of_mod-eq-zero}
use Rattle.pf_lemmas.proofs.Filters.{filter_all}
use Rattle.pf_weight.specs.Share.{IsBase}
use Rattle.pf_weight.specs.Weighed.{weight_fault}
use Rattle.pf_weight.specs.declared.fault.WeightFault.{WeightFault}
use Rattle.pf_weight.specs.declared.base.TheConstants.{LARGEST_BASE}
use Rattle.pf_weight.specs.declared.task.TheConstants.{LARGEST_TASK}
use Rattle.pf_scenario.proofs.Lists.{Pairs, Pairs-from_all, All_at, find_none}
use Rattle.std.proofs.lemmas.Bool.{not_from_false}
use Rattle.pf_scenario.proofs.Scenarios.{or_else_none, unless_none, without_held, replaced_held, held, changes_keep_scenarios}
use Rattle.pf_scenario.proofs.Indexing.{around_apart}
use Rattle.pf_scenario.specs.System.{System, IsSystem, wide_horizon}
use Rattle.pf_scenario.specs.Event.{slot_of, task_of}
use Rattle.pf_scenario.specs.Scenario.{Plan, with_number, is_held, events_without, plan_after}
use Rattle.pf_scenario.specs.Edit.{IsScenario, IsEvent, is_within, edit_fault, has_early, has_delay, has_count, bad_weight}
use Rattle.pf_scenario.specs.Packed.{has_packed}
use Rattle.pf_scenario.specs.declared.limits.TheConstants.{MOST_EARLY, LONGEST_DELAY}
use Rattle.pf_scenario.specs.declared.fault.EditFault.TheVariants.{BadWeight}
use Rattle.pf_scenario.specs.Index.{AreDistinctEvents, IsNewEvent, event_at}
use Rattle.pf_scenario.specs.declared.event.Event.{Event}
use Rattle.pf_scenario.specs.declared.event.Event.TheVariants.{Join, Leave, Delay, Limit}
use Rattle.pf_scenario.specs.declared.event.Numbered.{Numbered}
use Rattle.pf_scenario.specs.declared.change.Change.{Change}
use Rattle.pf_scenario.specs.declared.change.Change.TheVariants.{Insert, Alter, Strike}

-- the task of an event within its limits is not above the greatest, and its slot is below each horizon
task_within : (settings : System) (event : Event) → IsEvent settings event → IfSome (task_of event) (λ task. task ≤ LARGEST_TASK)
task_within settings event h = within (task_of event) (unless_none _ _ ((or_else_none _ _ ((or_else_none _ _ h).1)).0))
  where
    within : (o : Option ℕ) → option_map_or (λ task. is_within LARGEST_TASK task) o true ≡ true → IfSome o (λ task. task ≤ LARGEST_TASK)
    within (Some task) h = leb-true _ _ ((and_parts _ _ h).1)
    within None h = tt

slot_within : (settings : System) (event : Event) → IsSystem settings → IsEvent settings event → slot_of event < wide_horizon
slot_within settings event system h =
    let below : slot_of event < settings.horizon = ltb-true _ _ (unless_none _ _ ((or_else_none _ _ h).0)) in
    elim (system.horizon) [
      | inl near ↦ omega arith
      | inr wide ↦ omega arith
    ]

-- the other tests that an event within its limits passes
record PassesTests (settings : System) (event : Event) : Type 0 where
  pub early : has_early event ≡ true
  pub delay : has_delay event ≡ true
  pub count : has_count settings.processors event ≡ true
  pub weight : bad_weight settings.base event ≡ None

passes_tests : (settings : System) (event : Event) → IsEvent settings event → PassesTests settings event
passes_tests settings event h =
    let after_task = (or_else_none _ _ ((or_else_none _ _ h).1)).1 in
    let at_early = or_else_none _ _ after_task in
    let at_delay = or_else_none _ _ at_early.1 in
    let at_count = or_else_none _ _ at_delay.1 in
    let at_weight = or_else_none _ _ at_count.1 in
    record {
      early = unless_none _ _ at_early.0;
      delay = unless_none _ _ at_delay.0;
      count = unless_none _ _ at_count.0;
      weight = at_weight.0;
    }

-- its cost and its period are no greater than the base
no_fault : (o : Option WeightFault) → option_map (λ f. BadWeight f) o ≡ None → o ≡ None
no_fault None h = refl
no_fault (Some f) h = absurd (cc)

weight_low : (base cost period : ℕ) → IsBase base → weight_fault base cost period ≡ None → (cost ≤ base) × (period ≤ base)
weight_low base cost period of_base none =
    let some : 1 ≤ cost = grind (arith, nat_tests) in
    let within : cost ≤ period = grind (arith, nat_tests) in
    let whole : base % period ≡ 0 = grind (arith, nat_tests) in
    let short : period ≤ base = le_of_dvd of_base.some (dvd_of_mod-eq-zero period whole) in
    (omega arith, short)

-- each event within its limits has a packed form
packed_within : (settings : System) (event : Event) → IsSystem settings → IsEvent settings event → has_packed event ≡ true
packed_within settings (Join slot task cost period early) system h =
    let at = slot_within settings (Join slot task cost period early) system h in
    let number = task_within settings (Join slot task cost period early) h in
    let tests = passes_tests settings (Join slot task cost period early) h in
    let ahead = leb-true early MOST_EARLY tests.early in
    let low = weight_low settings.base cost period system.limits.base (no_fault _ tests.weight) in
    let base : settings.base ≤ LARGEST_BASE = system.limits.base.within in
    let cost_low = low.0 in
    let period_low = low.1 in
    let for_task : task < 2 ^ 16 = omega arith in
    let for_slot : slot < 2 ^ 32 = omega arith in
    let for_cost : cost < 2 ^ 32 = omega arith in
    let for_period : period < 2 ^ 32 = omega arith in
    let for_early : early < 2 ^ 32 = omega arith in
    and_from _ _
    (and_from _ _ (and_from _ _ (and_from _ _ (lt-ltb _ _ for_task) (lt-ltb _ _ for_slot)) (lt-ltb _ _ for_cost)) (lt-ltb _ _ for_period))
    (lt-ltb _ _ for_early)
packed_within settings (Leave slot task) system h =
    let at = slot_within settings (Leave slot task) system h in
    let number = task_within settings (Leave slot task) h in
    let for_task : task < 2 ^ 16 = omega arith in
    let for_slot : slot < 2 ^ 32 = omega arith in
    and_from _ _ (lt-ltb _ _ for_task) (lt-ltb _ _ for_slot)
packed_within settings (Delay slot task by) system h =
    let at = slot_within settings (Delay slot task by) system h in
    let number = task_within settings (Delay slot task by) h in
    let tests = passes_tests settings (Delay slot task by) h in
    let most = leb-true by LONGEST_DELAY ((and_parts (nat_le 1 by) (nat_le by LONGEST_DELAY) tests.delay).1) in
    let for_task : task < 2 ^ 16 = omega arith in
    let for_slot : slot < 2 ^ 32 = omega arith in
    let for_by : by < 2 ^ 32 = omega arith in
    and_from _ _ (and_from _ _ (lt-ltb _ _ for_task) (lt-ltb _ _ for_slot)) (lt-ltb _ _ for_by)
packed_within settings (Limit slot count) system h =
    let at = slot_within settings (Limit slot count) system h in
    let tests = passes_tests settings (Limit slot count) h in
    let most = leb-true count settings.processors ((and_parts (nat_le 1 count) (nat_le count settings.processors) tests.count).1) in
    let processors = system.limits.processors_within in
    let for_slot : slot < 2 ^ 32 = omega arith in
    let for_count : count < 2 ^ 32 = omega arith in
    and_from _ _ (lt-ltb _ _ for_slot) (lt-ltb _ _ for_count)

-- the events of a scenario are apart
events_apart : (s : Plan) → IsScenario s → AllPairs AreDistinctEvents s.events
events_apart s h i j d below low = record {
  numbers = ne_eqb _ _ (λ e. let rises = h.rising i j d below low in omega arith);
  joins = h.joins_once i j d below low;
  leaves = h.leaves_once i j d below low;
}

-- one event of a scenario beside the others
pub amid_new : (s : Plan) (front : List Numbered) (x : Numbered) (back : List Numbered) → s.events ≡ front ++ x ∷ back → IsScenario s → IsNewEvent x (front ++ back)
amid_new s front x back e h =
    let all = subst (Pairs AreDistinctEvents) e (Pairs-from_all AreDistinctEvents s.events (events_apart s h)) in
    let given = All_at (λ y. (1 ≤ y.id) × (y.id < s.next)) front x back (subst (All (λ y. (1 ≤ y.id) × (y.id < s.next))) e h.given) in
    let limits = All_at (λ y. IsEvent s.settings y.event) front x back (subst (All (λ y. IsEvent s.settings y.event)) e h.limits) in
    let last = h.next_within in
    record {
      given = given.0;
      placeable = record {
        slot = slot_within s.settings x.event h.settings limits;
        task = task_within s.settings x.event limits;
        number = omega arith;
      };
      small = record {
        number = omega arith;
        event = packed_within s.settings x.event h.settings limits;
      };
      apart = around_apart front x back all;
    }

-- what a change that is not refused leaves is a scenario
pub changed_scenario : (s v : Plan) (c : Change) → s ≡ v → IsScenario s → edit_fault v c ≡ None → IsScenario (plan_after s c)
changed_scenario s v c e h none = changes_keep_scenarios s c h (rw e none)

-- an insert: its event is new, and the last
pub insert_new : (s v : Plan) (event : Event) → s ≡ v → IsScenario s → edit_fault v (Insert event) ≡ None → IsNewEvent (with_number s.next event) s.events
insert_new s v event e h none =
    subst (IsNewEvent (with_number s.next event)) (append-nil s.events) (amid_new (plan_after s (Insert event)) s.events (with_number s.next event) [] refl (changed_scenario s v (Insert event) e h none))

pub insert_last : (s : Plan) → IsScenario s → All (λ x. x.id < s.next) s.events
insert_last s h = All-weaker (λ x. (1 ≤ x.id) × (x.id < s.next)) (λ x. x.id < s.next) (λ x g. g.1) s.events h.given

-- an alter: its number is held, and the event is new beside the others
pub alter_held : (s v : Plan) (id : ℕ) (event : Event) → s ≡ v → edit_fault v (Alter id event) ≡ None → is_held s.events id ≡ true
alter_held s v id event e none = unless_none _ _ ((or_else_none _ _ (rw (← e) at none)).0)

pub alter_new : (s v : Plan) (id : ℕ) (event : Event) → s ≡ v → IsScenario s → edit_fault v (Alter id event) ≡ None → IsNewEvent (with_number id event) (events_without id s.events)
alter_new s v id event e h none =
    let at = held s id (alter_held s v id event e none) in
    let split = replaced_held s.events at.front at.at at.back id event h.rising at.is at.number in
    let new = amid_new (plan_after s (Alter id event)) at.front (with_number id event) at.back split (changed_scenario s v (Alter id event) e h none) in
    subst (IsNewEvent (with_number id event)) (sym (without_held s.events at.front at.at at.back id h.rising at.is at.number)) new

-- a strike: its number is held
pub strike_held : (s v : Plan) (id : ℕ) → s ≡ v → edit_fault v (Strike id) ≡ None → is_held s.events id ≡ true
strike_held s v id e none = unless_none _ _ (rw (← e) at none)

-- what a search by number tells
pub held_some : (events : List Numbered) (id : ℕ) (event : Event) → event_at events id ≡ Some event → is_held events id ≡ true
held_some events id event h =
    elim (cases_Bool (is_held events id)) [
      | inl held ↦ held
      | inr none ↦ let nothing = sym (ap (λ o. option_map (λ x. x.event) o) (find_none (λ x. x.id == id) events none)) ∙ h in absurd (cc)
    ]

-- without the number that no event has
pub without_nothing : (events : List Numbered) (next : ℕ) → All (λ x. (1 ≤ x.id) × (x.id < next)) events → events_without 0 events ≡ events
without_nothing events next given =
    filter_all (λ x. not (x.id == 0)) events (All-weaker (λ x. (1 ≤ x.id) × (x.id < next)) (λ x. not (x.id == 0) ≡ true) (λ x g. not_from_false _ (ne_eqb _ _ (λ e. omega arith))) events given)
