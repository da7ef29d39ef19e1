-- Between two events in force a run's load and its room stay as they are.
use Rattle.std.proofs.Common.{◌≡◌, ℕ, zero, suc, ◌+◌, ◌-◌, ◌*◌, ◌<◌, ◌≤◌, List, ◌++◌, length, take, get_or, arith, sym, ap, ◌∙◌, ⊎_elim}
use Rattle.std.proofs.lemmas.Bool.{cases_order}
use Rattle.std.proofs.lemmas.List.{length-append, get_or_append_left, get_or-append-add, take-append-le, take_all}
use Rattle.pf_scenario.specs.Event.{slot_of}
use Rattle.pf_scenario.specs.Scenario.{Plan}
use Rattle.pf_scenario.specs.Edit.{IsScenario}
use Rattle.pf_scenario.specs.declared.event.Event.TheVariants.{Limit}
use Rattle.pf_scenario.specs.declared.event.Numbered.{Numbered}
use Rattle.pf_scenario.specs.declared.settings.TheConstants.{LARGEST_CAP}
use Rattle.pf_run.specs.Record.{Slot}
use Rattle.pf_run.specs.Inside.{load_of}
use Rattle.pf_run.specs.Run.{events_in_force, IsRun}
use Rattle.pf_tally.specs.Load.{load_in, room_in, overload_of}
use Rattle.pf_tally.proofs.Fronts.{Splits, splits, standing_below}
use Rattle.pf_tally.proofs.Loads.{load_is_within_cap}

no_event : Numbered
no_event = record { id = 0; event = Limit 0 0 }

module _ (s : Plan) (scenario : IsScenario s) (r : List Slot) (run : IsRun s (length r) r) where
  abbrev end_now : List Numbered
  end_now = events_in_force s r (length r)

  -- where the first k events are of slots up to v, and the others of later ones, those in force in slot v are the first k
  pub steady : (k v : ℕ) → v < length r → k ≤ length end_now →
      ((i : ℕ) (d : Numbered) → i < k → slot_of (get_or end_now i d).event ≤ v) →
      ((i : ℕ) (d : Numbered) → k ≤ i → i < length end_now → v < slot_of (get_or end_now i d).event) →
      events_in_force s r (suc v) ≡ take k end_now
  steady k v lt few before after = by (splits s r (suc v) (length r) lt) where
    now : List Numbered
    now = events_in_force s r (suc v)

    by : Splits s r (suc v) (length r) → events_in_force s r (suc v) ≡ take k end_now
    by rest = ⊎_elim same (⊎_elim (λ more. absurd (beyond more)) (λ fewer. absurd (short fewer))) (cases_order (length now) k) where
      long : length end_now ≡ length now + length rest.rest
      long = ap (λ zs. length zs) rest.is ∙ length-append now rest.rest

      same : length now ≡ k → events_in_force s r (suc v) ≡ take k end_now
      same is =
          sym
          (ap (take k) rest.is ∙ take-append-le k now rest.rest (omega (arith, is)) ∙ take_all k now (omega (arith, is)))

      -- an event beyond those of slots up to v is among the first k
      beyond : length now < k → ⊥
      beyond more =
          let first = get_or rest.rest 0 no_event in
          let is : get_or end_now (length now) no_event ≡ first =
          ap (λ zs. get_or zs (length now) no_event) rest.is
          ∙ ap (λ i. get_or (now ++ rest.rest) i no_event) (plus (length now))
          ∙ get_or-append-add now rest.rest 0 no_event in
          let late : suc v ≤ slot_of first.event = rest.later 0 no_event (omega (arith, long, more, few)) in
          omega (arith, late, before (length now) no_event more, ap (λ (x : Numbered). slot_of x.event) is)
        where
          plus : (i : ℕ) → i ≡ i + 0
          plus i = omega arith

      -- an event of a slot up to v is not
      short : k < length now → ⊥
      short fewer =
          let is : get_or end_now k no_event ≡ get_or now k no_event =
          ap (λ zs. get_or zs k no_event) rest.is ∙ get_or_append_left now rest.rest no_event k fewer in
          omega (
            arith,
            after k no_event (omega arith) (omega (arith, long, fewer)),
            standing_below s r (suc v) k no_event fewer,
            ap (λ (x : Numbered). slot_of x.event) is,
          )

  -- over slots with one load and one room the overload grows evenly
  pub overload-steady : (n v load room : ℕ) →
      ((u : ℕ) → v ≤ u → u < n + v → (load_in s r u ≡ load) × (room_in s r u ≡ room)) →
      overload_of s r (n + v) ≡ overload_of s r v + n * (load - room)
  unfolding overload_of
  overload-steady zero v load room each = omega (arith, ap (λ u. overload_of s r u) (plus v)) where
    plus : (k : ℕ) → 0 + k ≡ k
    plus k = omega arith
  overload-steady (suc n) v load room each =
      let here = each (n + v) (omega arith) (omega arith) in
      omega (
        arith,
        ap (λ u. overload_of s r u) (move n v),
        overload-steady n v load room (λ u from upto. each u from (omega (arith, upto))),
        here.0,
        here.1,
      ) where
        move : (a b : ℕ) → suc a + b ≡ suc (a + b)
        move a b = omega arith

  -- the load of the first k events in force
  pub load-front : (k : ℕ) → load_of s.settings.base (take k end_now) ≤ LARGEST_CAP
  load-front k = omega (arith, load_is_within_cap s (length r) r k scenario run, scenario.settings.limits.cap_within)

  -- that of a slot, and the overload up to one
  load-few : (t : ℕ) → t < length r → load_in s r t ≤ LARGEST_CAP
  load-few t lt =
      let rest : Splits s r (suc t) (length r) = splits s r (suc t) (length r) lt in
      let now = events_in_force s r (suc t) in
      let front : take (length now) end_now ≡ now =
      ap (take (length now)) rest.is ∙ take-append-le (length now) now rest.rest (omega arith)
      ∙ take_all (length now) now (omega arith) in
      omega (arith, load-front (length now), ap (λ zs. load_of s.settings.base zs) front)

  pub overload-few : (t : ℕ) → t ≤ length r → overload_of s r t ≤ t * LARGEST_CAP
  unfolding overload_of
  overload-few zero le = omega arith
  overload-few (suc t) le = omega (arith, overload-few t (omega (arith, le)), load-few t le)
