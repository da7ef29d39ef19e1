-- The bounds of what an engine keeps, at each point of a slot.
use Rattle.std.proofs.Common.{◌≡◌, ◌+◌, ◌≤◌, ◌==◌, cond, get_or, Ok, Some, All, List, [], ◌∷◌, ◌++◌, length, filter_map, not, sym, ap, subst, arith}
use Rattle.std.proofs.lemmas.Bool.{leb-true}
use Rattle.std.proofs.lemmas.List.{length_push, length-map}
use Rattle.std.proofs.lemmas.List.Elements.{All-weaker, All-map, All-filter}
use Rattle.pf_weight.specs.Share.{share_of}
use Rattle.pf_weight.specs.Weighed.{ok_unless, share_or_fault}
use Rattle.pf_scenario.specs.System.{System, IsSystem}
use Rattle.pf_scenario.specs.Scenario.{Plan, events_of}
use Rattle.pf_scenario.specs.Edit.{IsScenario, IsEvent}
use Rattle.pf_scenario.specs.declared.event.Event.{Event}
use Rattle.pf_scenario.specs.declared.event.Event.TheVariants.{Join, Leave, Delay, Limit}
use Rattle.pf_scenario.specs.declared.limits.TheConstants.{MOST_EARLY}
use Rattle.pf_scenario.specs.declared.scenario.TheConstants.{MOST_EVENTS}
use Rattle.pf_scenario.specs.declared.event.Numbered.{Numbered}
use Rattle.pf_run.specs.Record.{Slot, done, next_sub}
use Rattle.pf_run.specs.Inside.{Joined, joined_by, join_of, has_left, inside, load_of, member_of}
use Rattle.pf_run.specs.Run.{events_in_force}
use Rattle.pf_engine.specs.Fits.{KeptTask, Kept, kept_task, kept_after, Fits, Taken, CanTake}
use Rattle.pf_engine.specs.Engines.{IsWeighedOver, IsInside, IsEngine}
use Rattle.pf_engine.specs.Points.{CanFollow, IsAt}
use Rattle.pf_engine.specs.Taking.{Advances}
use Rattle.pf_engine.proofs.Fitting.{point_of_run, can_follow, fits_slot}
use Rattle.pf_run.proofs.Counting.{sum_by-map}
use Rattle.pf_run.proofs.Keys.{all_filter_map}
use Rattle.pf_run.proofs.Limits.{passes_tests, join_weight}
use Rattle.pf_run.proofs.Points.{inside_count}
use Rattle.pf_run.proofs.Within.{horizon_within, inside_few, inside_within, load_within, done_within, shift_within, count_within, IsJoined}

-- what the limits of its join say of a task besides
record IsAdmitted (s : System) (j : Joined) : Type 0 where
  early : j.early ≤ MOST_EARLY
  weight : share_or_fault s.base j.weight.cost j.weight.period ≡ Ok j.weight

admitted : (s : System) (event : Event) (j : Joined) → joined_by s.base event ≡ Some j → IsEvent s event → IsAdmitted s j
admitted s (Join slot task cost period early) j e limits =
    let same : ◌≡◌ {A = Joined} (record { task = task; slot = slot; weight = share_of s.base cost period; early = early }) j = cc in
    subst (IsAdmitted s) same (record {
      early = leb-true early MOST_EARLY (passes_tests s (Join slot task cost period early) limits).early;
      weight = ap (λ fault. ok_unless fault (share_of s.base cost period)) (join_weight s slot task cost period early limits);
    })
admitted s (Leave slot task) j e limits = cc
admitted s (Delay slot task by) j e limits = cc
admitted s (Limit slot count) j e limits = cc

all_admitted : (s : System) (xs : List Numbered) → All (λ x. IsEvent s x.event) xs → All (IsAdmitted s) (inside s.base xs)
unfolding inside
all_admitted s xs limits =
    All-filter (λ j. not (has_left xs j.task)) (IsAdmitted s) (filter_map (join_of s.base) xs)
    (all_filter_map (λ x. IsEvent s x.event) (IsAdmitted s) (join_of s.base) (λ x j. admitted s x.event j) xs limits)

task_within : (s : System) (r : List Slot) (xs events : List Numbered) (j : Joined) → IsSystem s → length r ≤ s.horizon →
    CanFollow s r xs events → IsJoined s j → IsAdmitted s j → IsInside (kept_task r xs j)
unfolding member_of
task_within s r xs events j is reached can joined admission = record {
  task_some = joined.task_some;
  task_within = joined.task_within;
  joined = omega (arith, joined.slot, horizon_within s is);
  early = admission.early;
  member = record {
    done = omega (arith, done_within r j.task, horizon_within s is);
    shift = omega (arith, can.few, shift_within s r xs j (next_sub r j.task) is can.limits joined);
    last = omega (arith, can.few, shift_within s r xs j (done r j.task (length r)) is can.limits joined);
  };
}

engine_after : (s : System) (r : List Slot) (xs events : List Numbered) → IsSystem s → length r ≤ s.horizon → CanFollow s r xs events →
    IsEngine (kept_after s r xs)
unfolding kept_after load_of member_of
engine_after s r xs events is reached can =
    let js = inside s.base xs in
    record {
      settings = is;
      now = reached;
      tasks = All-map IsInside (kept_task r xs) js
          (λ k d within. task_within s r xs events (get_or js k d) is reached can (inside_within s xs can.limits k d within) (all_admitted s xs can.limits k d within));
      weights = All-map (IsWeighedOver s.base) (kept_task r xs) js
          (All-weaker (IsAdmitted s) (λ j. IsWeighedOver s.base (kept_task r xs j)) (λ j admission. admission.weight) js (all_admitted s xs can.limits));
      few = omega (arith, can.few, inside_few s.base xs, length-map js (kept_task r xs));
      apart = λ task.
          omega (arith, can.once task, inside_count s.base task xs, sum_by-map (λ (k : KeptTask). cond (k.task == task) 1 0) (kept_task r xs) js);
      load = sym (sum_by-map (λ (k : KeptTask). k.member.weight.units) (kept_task r xs) js);
      load_within = omega (arith, can.few, load_within s xs is can.limits);
      count = count_within s xs can.limits;
    }

pub engine_at : (e : Kept) (events : List Numbered) → IsAt e events → IsEngine e
engine_at e events at = subst IsEngine (sym at.keeps) (engine_after at.settings at.run at.standing events at.is_system at.reached at.follow)

-- no more tasks are inside than events came
few_after : (s : System) (r : List Slot) (xs events : List Numbered) → CanFollow s r xs events →
    length (kept_after s r xs).tasks + length events ≤ MOST_EVENTS
unfolding kept_after
few_after s r xs events can = omega (arith, can.few, inside_few s.base xs, length-map (inside s.base xs) (kept_task r xs))

pub few_at : (e : Kept) (events : List Numbered) → IsAt e events → length e.tasks + length events ≤ MOST_EVENTS
few_at e events at =
    subst (λ k. length k.tasks + length events ≤ MOST_EVENTS) (sym at.keeps) (few_after at.settings at.run at.standing events at.follow)

-- an engine that fits a run stands before the events of the next slot
pub at_slot : (s : Plan) (r : List Slot) (e : Kept) → IsScenario s → Fits s r e → length r ≤ s.settings.horizon → IsAt e (events_of s (length r))
at_slot s r e scenario fits reached = record {
  settings = s.settings;
  run = r;
  standing = events_in_force s r (length r);
  is_system = scenario.settings;
  reached = reached;
  follow = can_follow s r scenario (point_of_run s scenario (length r) r fits.is_run);
  keeps = fits.keeps;
}

pub at_taking : (e : Kept) (events : List Numbered) → CanTake e events → IsAt e events
at_taking e events can =
    subst (IsAt e) (sym can.are_events) (at_slot can.scenario can.run e can.is_scenario can.fits (omega (arith, can.below)))

-- what holds of every engine holds again after the slot
pub engine_taken : (e : Kept) (events : List Numbered) (taken : Taken) (e' : Kept) → CanTake e events → Advances e events taken e' → IsEngine e'
engine_taken e events taken e' can advances =
    let r = can.run ++ taken.slot ∷ [] in
    let takes = fits_slot can.scenario can.run e events taken e' can.is_scenario can.fits can.are_events advances in
    engine_at e' (events_of can.scenario (length r))
    (at_slot can.scenario r e' can.is_scenario takes.fits (omega (arith, can.below, length_push can.run taken.slot)))
