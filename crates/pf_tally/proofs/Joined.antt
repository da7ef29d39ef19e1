-- What is known of the tasks that the events of a log bring.
use Rattle.std.proofs.Common.{◌≡◌, ℕ, ◌*◌, ◌/◌, ◌%◌, ◌^◌, ◌<◌, ◌≤◌, ◌==◌, None, Some, List, length, get_or, filter_map, All, Contains, refl, ap, subst, arith}
use Rattle.std.proofs.Math.Nat.{mul-le-mul_right, mul-le-mul_left}
use Rattle.std.proofs.lemmas.List.Elements.{All-contains, Contains-get_or}
use Rattle.pf_weight.specs.Share.{IsShare, IsBase, share_of}
use Rattle.pf_weight.specs.Weighed.{weight_fault}
use Rattle.pf_weight.specs.declared.task.TheConstants.{LARGEST_TASK}
use Rattle.pf_scenario.specs.System.{System, IsSystem}
use Rattle.pf_scenario.specs.Event.{slot_of}
use Rattle.pf_scenario.specs.Edit.{IsEvent}
use Rattle.pf_scenario.specs.declared.event.Event.{Event}
use Rattle.pf_scenario.specs.declared.event.Event.TheVariants.{Join, Leave, Delay, Limit}
use Rattle.pf_scenario.specs.declared.event.Numbered.{Numbered}
use Rattle.std.specs.Prelude.{not}
use Rattle.std.specs.List.Sorted.{IsNonDecreasing}
use Rattle.std.proofs.lemmas.List.Sums.{count_by-le-length}
use Rattle.pf_scenario.specs.declared.limits.TheConstants.{LONGEST_DELAY}
use Rattle.pf_run.specs.Record.{Slot, runs}
use Rattle.pf_run.specs.Inside.{Joined, joined_by, join_of, has_left, inside}
use Rattle.pf_run.proofs.Containing.{from_filter}
use Rattle.pf_run.proofs.Limits.{join_task, join_weight, delay_by, weight_parts}
use Rattle.pf_run.proofs.Joins.{joined_differ}
use Rattle.pf_run.proofs.Within.{held_cond, horizon_within}
use Rattle.pf_scenario.specs.declared.settings.TheConstants.{WIDE_HORIZON}
use Rattle.pf_tally.specs.Walk.{AreApart}
use Rattle.pf_tally.specs.Log.{IsLog}
use Rattle.pf_tally.specs.Held.{delay_from, CanTally}
use Rattle.pf_tally.specs.Quanta.{slots_of}
use Rattle.pf_tally.proofs.Places.{places_rise, length_places}
use Rattle.pf_tally.proofs.Subs.{from_filter_map}

share_is : (base cost period : ℕ) → IsBase base → weight_fault base cost period ≡ None → IsShare (share_of base cost period)
share_is base cost period of_base is =
    let parts = weight_parts base cost period is in
    let some : 1 ≤ cost = parts.0 in
    let within : cost ≤ period = parts.1 in
    let whole : base % period ≡ 0 = parts.2 in
    let all : period * (base / period) ≡ base = omega arith in
    let low : 1 ≤ base = of_base.some in
    let high : base ≤ 2 ^ 30 = of_base.within in
    let q = base / period in
    let most : cost * q ≤ period * q = mul-le-mul_right q within in
    let least : 1 * q ≤ cost * q = mul-le-mul_right q some in
    let q_some : 1 ≤ q = grind (arith, all, low) in
    let short : period * 1 ≤ period * q = mul-le-mul_left period q_some in
    record { some = some; within = within; short = omega arith; units_some = omega arith; units_within = omega arith }

-- the parts of a join within its limits
record IsJoin (base : ℕ) (event : Event) (j : Joined) : Type 0 where
  pub number : j.task ≤ LARGEST_TASK
  pub share : IsShare j.weight
  pub slot : j.slot ≡ slot_of event

joined_is : (system : System) (event : Event) (j : Joined) → IsSystem system → IsEvent system event → joined_by system.base event ≡ Some j → IsJoin system.base event j
joined_is system (Join slot task cost period early) j of_system within is =
    let joined : Joined = record { task = task; slot = slot; weight = share_of system.base cost period; early = early } in
    let same : joined ≡ j = cc in
    let P : Joined → Type 0 = IsJoin system.base (Join slot task cost period early) in
    subst P same (record {
      number = (join_task system slot task cost period early within).1;
      share = share_is system.base cost period of_system.limits.base (join_weight system slot task cost period early within);
      slot = refl;
    })
joined_is system (Leave slot task) j of_system within is = cc
joined_is system (Delay slot task by) j of_system within is = cc
joined_is system (Limit slot count) j of_system within is = cc

pub delay_short : (system : System) (j : Joined) (event : Event) → IsEvent system event → delay_from j event ≤ LONGEST_DELAY
delay_short system j (Delay slot task by) within = held_cond (task == j.task) by (delay_by system slot task by within)
delay_short system j (Join slot task cost period early) within = omega arith
delay_short system j (Leave slot task) within = omega arith
delay_short system j (Limit slot count) within = omega arith

-- Use: what is known of a task that joined.
pub can_tally : (system : System) (n : ℕ) (xs : List Numbered) (j : Joined) (r : List Slot) (ran : List ℕ) → IsLog system n xs →
    Contains (filter_map (join_of system.base) xs) j → length r ≡ n → slots_of r j.task ≡ ran → CanTally j ran xs n
can_tally system n xs j r ran log at long of_ran =
    let g = from_filter_map (join_of system.base) xs j at in
    let join = joined_is system g.giver.event j log.settings (All-contains (λ x. IsEvent system x.event) xs g.giver log.limits g.stands) g.gives in
    let before : slot_of g.giver.event < n = All-contains (λ x. slot_of x.event < n) xs g.giver log.below g.stands in
    let most = horizon_within system log.settings in
    let short : All (λ x. delay_from j x.event ≤ LONGEST_DELAY) xs = λ k d within. delay_short system j (get_or xs k d).event (log.limits k d within) in
    record {
      number = join.number;
      share = join.share;
      joined = omega (arith, join.slot);
      ran_rise = let P : List ℕ → Type 0 = IsNonDecreasing in subst P of_ran (places_rise (runs j.task) 0 r);
      ran_within = omega (arith, ap length of_ran, length_places (runs j.task) 0 r, count_by-le-length (runs j.task) r);
      within = omega (arith, log.within);
      rise = log.rise;
      delays = record { joined = omega (arith, join.slot, log.within); short = short; few = log.few };
    }

-- Use: the tasks of a log have numbers of their own.
pub log_apart : (system : System) (n : ℕ) (xs : List Numbered) → IsLog system n xs → AreApart (filter_map (join_of system.base) xs)
log_apart system n xs log =
    record {
      numbers = λ k d within. (one_within (get_or (filter_map (join_of system.base) xs) k d) (Contains-get_or (filter_map (join_of system.base) xs) k d within)).0;
      joined = λ k d within. (one_within (get_or (filter_map (join_of system.base) xs) k d) (Contains-get_or (filter_map (join_of system.base) xs) k d within)).1;
      apart = joined_differ system.base xs log.joins_once;
    }
  where
    one_within : (j : Joined) → Contains (filter_map (join_of system.base) xs) j → (j.task ≤ LARGEST_TASK) × (j.slot ≤ WIDE_HORIZON)
    one_within j at =
        let g = from_filter_map (join_of system.base) xs j at in
        let join = joined_is system g.giver.event j log.settings (All-contains (λ x. IsEvent system x.event) xs g.giver log.limits g.stands) g.gives in
        let before : slot_of g.giver.event < n = All-contains (λ x. slot_of x.event < n) xs g.giver log.below g.stands in
        let most = horizon_within system log.settings in
        (join.number, omega (arith, join.slot, log.within, most, before))

-- Use: they ask for a share of a processor.
pub log_shares : (system : System) (n : ℕ) (xs : List Numbered) → IsLog system n xs → All (λ j. IsShare j.weight) (filter_map (join_of system.base) xs)
log_shares system n xs log = λ k d within. share_at (get_or (filter_map (join_of system.base) xs) k d) (Contains-get_or (filter_map (join_of system.base) xs) k d within)
  where
    share_at : (j : Joined) → Contains (filter_map (join_of system.base) xs) j → IsShare j.weight
    share_at j at =
        let g = from_filter_map (join_of system.base) xs j at in
        let join = joined_is system g.giver.event j log.settings (All-contains (λ x. IsEvent system x.event) xs g.giver log.limits g.stands) g.gives in
        join.share

-- those inside have joined
pub inside_joined : (base : ℕ) (xs : List Numbered) (j : Joined) → Contains (inside base xs) j → Contains (filter_map (join_of base) xs) j
unfolding inside
inside_joined base xs j at = (from_filter (λ j. not (has_left xs j.task)) (filter_map (join_of base) xs) j at).0
