-- The points of a task's stay.
use Rattle.std.proofs.Common.{◌≡◌, ℕ, ◌<◌, ◌≤◌, min, max, true, nat_le, Option, None, Some, List, length, find, Contains, arith, refl, ap, ◌∙◌}
use Rattle.std.specs.Option.{option_map_or}
use Rattle.std.proofs.lemmas.Bool.{le-leb, leb-true}
use Rattle.std.proofs.lemmas.List.Elements.{All-contains}
use Rattle.pf_weight.specs.Share.{IsShare}
use Rattle.pf_scenario.specs.Event.{slot_of, is_leave_of}
use Rattle.pf_scenario.specs.Scenario.{Plan}
use Rattle.pf_scenario.specs.Edit.{IsScenario}
use Rattle.pf_scenario.specs.declared.event.Numbered.{Numbered}
use Rattle.pf_run.specs.Record.{Slot, denials_of}
use Rattle.pf_run.specs.Inside.{Joined, join_of}
use Rattle.pf_run.specs.Run.{events_in_force}
use Rattle.pf_tally.specs.Figures.{last_slot}
use Rattle.pf_tally.specs.Log.{RiseFrom}
use Rattle.pf_tally.specs.Misses.{leaves_after}
use Rattle.pf_tally.proofs.InForce.{in_force_rises}
use Rattle.pf_tally.proofs.Subs.{Giver, from_filter_map}
use Rattle.pf_tally.proofs.Fronts.{standing_below}
use Rattle.pf_laws.proofs.PromiseLemmas.Presence.{join_slot}
use Rattle.pf_laws.proofs.PromiseLemmas.Joining.{all_joined, is_task}

module _ (xs : List Numbered) (j : Joined) (n : ℕ) where
  -- a point after the join is within the run, and no leave stands before it
  pub record IsInside (t : ℕ) : Type 0 where
    pub within : t ≤ n
    pub after : leaves_after xs j t ≡ true

  pub inside_is : (t : ℕ) → j.slot < t → t ≤ last_slot xs j n → IsInside t
  inside_is t from upto = by (find (λ x. is_leave_of j.task x.event) xs) refl upto where
    by : (o : Option Numbered) → find (λ x. is_leave_of j.task x.event) xs ≡ o →
        t ≤ max j.slot (option_map_or (λ x. min (slot_of x.event) n) o n) → IsInside t
    by None is le = record { within = omega (arith, from, le); after = ap (λ o. option_map_or (λ (x : Numbered). nat_le t (slot_of x.event)) o true) is }
    by (Some x) is le = record {
      within = omega (arith, from, le);
      after =
          ap (λ o. option_map_or (λ (x : Numbered). nat_le t (slot_of x.event)) o true) is
          ∙ le-leb t (slot_of x.event) (omega (arith, from, le));
    }

  -- what is within the run, and has no leave before it, is a point
  pub is_inside : (t : ℕ) → t ≤ n → leaves_after xs j t ≡ true → t ≤ last_slot xs j n
  is_inside t within after = by (find (λ x. is_leave_of j.task x.event) xs) after where
    by : (o : Option Numbered) → option_map_or (λ x. nat_le t (slot_of x.event)) o true ≡ true →
        t ≤ max j.slot (option_map_or (λ x. min (slot_of x.event) n) o n)
    by None stays = omega (arith, within)
    by (Some x) stays = omega (arith, within, leb-true t (slot_of x.event) stays)

  pub last_within : j.slot ≤ n → last_slot xs j n ≤ n
  last_within joined = by (find (λ x. is_leave_of j.task x.event) xs) where
    by : (o : Option Numbered) → max j.slot (option_map_or (λ x. min (slot_of x.event) n) o n) ≤ n
    by None = omega (arith, joined)
    by (Some x) = omega (arith, joined)

module _ (s : Plan) (scenario : IsScenario s) (r : List Slot) where
  abbrev end_now : List Numbered
  end_now = events_in_force s r (length r)

  pub events_rise : RiseFrom 0 end_now
  events_rise = in_force_rises s (length r) (denials_of r)

  module _ (j : Joined) (at : Contains (all_joined s r) j) where
    pub share_of_joined : IsShare j.weight
    share_of_joined = (is_task s scenario r j at).share

    pub joined_below : j.slot < length r
    joined_below =
        let giver : Giver (join_of s.settings.base) end_now j = from_filter_map (join_of s.settings.base) end_now j at in
        let below : slot_of giver.giver.event < length r =
        All-contains (λ x. slot_of x.event < length r) end_now giver.giver (standing_below s r (length r)) giver.stands in
        omega (arith, below, join_slot s.settings.base giver.giver.event j giver.gives)
