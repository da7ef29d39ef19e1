-- The walk over a ledger's events gives the fit of the run.
use Rattle.std.proofs.Common.{◌≡◌, ℕ, zero, suc, ◌+◌, ◌*◌, ◌<◌, ◌≤◌, ◌^◌, None, List, [], ◌∷◌, length, take, get_or, All, arith, sym, ap, ◌∙◌, subst}
use Rattle.std.proofs.Math.Nat.{mul-le-mul_left}
use Rattle.std.proofs.lemmas.List.{get_or_default}
use Rattle.std.proofs.lemmas.List.Elements.{All-take}
use Rattle.pf_scenario.specs.Event.{slot_of}
use Rattle.pf_scenario.specs.System.{System}
use Rattle.pf_scenario.specs.Scenario.{Plan}
use Rattle.pf_scenario.specs.Edit.{IsEvent}
use Rattle.pf_scenario.specs.declared.event.Numbered.{Numbered}
use Rattle.pf_scenario.specs.declared.settings.TheConstants.{LARGEST_CAP, WIDE_HORIZON}
use Rattle.pf_run.specs.Record.{Slot}
use Rattle.pf_run.specs.Inside.{count_after}
use Rattle.pf_run.specs.Run.{events_in_force, IsRun}
use Rattle.pf_run.specs.Computed.{run_of}
use Rattle.pf_run.proofs.Runs.{run_is_computed}
use Rattle.pf_run.proofs.Within.{count_within, horizon_within}
use Rattle.pf_tally.specs.declared.ledger.Ledger.{Ledger}
use Rattle.pf_tally.specs.Ledger.{IsLedger}
use Rattle.pf_tally.specs.Log.{RiseFrom}
use Rattle.pf_tally.specs.Load.{load_in, room_in}
use Rattle.pf_tally.specs.declared.asking.Asking.{Asking}
use Rattle.pf_tally.specs.declared.fit.Fit.{Fit}
use Rattle.pf_tally.specs.Asking.{asking_after}
use Rattle.pf_tally.specs.Fit.{fit_with}
use Rattle.pf_tally.proofs.FitSteps.{IsFitAt, units_of, at_start, units_few, overload_few, level_is, at_slot, at_event}

rise_from : (u : ℕ) (xs : List Numbered) → RiseFrom u xs → (i : ℕ) (d : Numbered) → i < length xs →
    u ≤ slot_of (get_or xs i d).event
rise_from u [] rise i d lt = absurd (omega (arith, lt))
rise_from u (x ∷ xs) rise zero d lt = rise.0
rise_from u (x ∷ xs) rise (suc i) d lt =
    omega (arith, rise.0, rise_from (slot_of x.event) xs rise.1 i d (omega (arith, lt)))

rise_between : (u : ℕ) (xs : List Numbered) → RiseFrom u xs → (k i : ℕ) (d e : Numbered) → k ≤ i → i < length xs →
    slot_of (get_or xs k d).event ≤ slot_of (get_or xs i e).event
rise_between u [] rise k i d e le lt = absurd (omega (arith, lt))
rise_between u (x ∷ xs) rise zero zero d e le lt = omega arith
rise_between u (x ∷ xs) rise zero (suc i) d e le lt = rise_from (slot_of x.event) xs rise.1 i e (omega (arith, lt))
rise_between u (x ∷ xs) rise (suc k) zero d e le lt = absurd (omega (arith, le))
rise_between u (x ∷ xs) rise (suc k) (suc i) d e le lt =
    rise_between (slot_of x.event) xs rise.1 k i d e (omega (arith, le)) (omega (arith, lt))

module _ (s : Plan) (n : ℕ) (ledger : Ledger) (known : IsLedger s n ledger) where
  abbrev r : List Slot
  r = run_of s n

  run : IsRun s (length r) r
  run = subst (λ k. IsRun s k r) (sym known.slots) (run_is_computed s n known.scenario)

  events_are : ledger.events.items ≡ events_in_force s r (length r)
  events_are = known.events ∙ ap (λ t. events_in_force s r t) (sym known.slots)

  pub fit_start : (count : ℕ) → count ≡ s.settings.processors → IsFitAt s r 0 0 count [] (record { first = None; overload = 0 })
  fit_start count is =
      subst (λ c. IsFitAt s r 0 0 c [] (record { first = None; overload = 0 })) (sym is) (at_start s known.scenario r run)

  module _ (k from count : ℕ) (asking : List Asking) (fit : Fit) (at : IsFitAt s r k from count asking fit) where
    pub few_units : units_of asking ≤ LARGEST_CAP
    few_units = units_few s known.scenario r run k from count asking fit at

    pub few_overload : fit.overload ≤ from * LARGEST_CAP
    few_overload = overload_few s known.scenario r run k from count asking fit at

    pub few_room : s.settings.base * count < 2 ^ 64
    few_room =
        let front = take k (events_in_force s r (length r)) in
        let limits : All (λ x. IsEvent s.settings x.event) front =
        subst (λ zs. All (λ (x : Numbered). IsEvent s.settings x.event) (take k zs)) events_are
        (All-take (λ (x : Numbered). IsEvent s.settings x.event) k ledger.events.items known.log.limits) in
        let few : count ≤ s.settings.processors = omega (arith, at.counted, count_within s.settings front limits) in
        let most = known.scenario.settings.limits in
        omega (
          arith,
          mul-le-mul_left s.settings.base few,
          mul-le-mul_left s.settings.base most.processors_within,
          most.base.within,
        )

    -- the next event, at its slot
    module _ (x : Numbered) (lt : k < length ledger.events.items) (is : get_or ledger.events.items k x ≡ x) where
      slot : ℕ
      slot = slot_of x.event

      below : k < length (events_in_force s r (length r))
      below = omega (arith, lt, ap (λ zs. length zs) events_are)

      is_next : get_or (events_in_force s r (length r)) k x ≡ x
      is_next = ap (λ zs. get_or zs k x) (sym events_are) ∙ is

      pub order : from ≤ slot_of x.event
      order = omega (arith, at.after k x (omega arith) below, ap (λ (y : Numbered). slot_of y.event) is_next)

      within : slot_of x.event < n
      within = omega (arith, known.log.below k x lt, ap (λ (y : Numbered). slot_of y.event) is)

      pub short : slot_of x.event ≤ WIDE_HORIZON
      short = omega (arith, within, known.log.within, horizon_within s.settings known.log.settings)

      pub limits : IsEvent s.settings x.event
      limits = subst (λ (y : Numbered). IsEvent s.settings y.event) is (known.log.limits k x lt)

      after : (i : ℕ) (d : Numbered) → k ≤ i → i < length (events_in_force s r (length r)) →
          slot_of x.event ≤ slot_of (get_or (events_in_force s r (length r)) i d).event
      after i d le less =
          let later =
          rise_between 0 (events_in_force s r (length r)) (subst (λ zs. RiseFrom 0 zs) events_are known.log.rise) k i x d le less in
          omega (arith, later, ap (λ (y : Numbered). slot_of y.event) is_next)

      -- load and room of the slots before it
      pub before_next : (u : ℕ) → from ≤ u → u < slot_of x.event →
          (load_in s r u ≡ units_of asking) × (room_in s r u ≡ s.settings.base * count)
      before_next =
          level_is s known.scenario r run k from count asking fit at (slot_of x.event) order (omega (arith, within, known.slots)) after

      pub at_next : IsFitAt s r (k + 1) (slot_of x.event) (count_after count x.event) (asking_after s.settings.base x.event asking)
          (fit_with fit from (slot_of x.event) (units_of asking) (s.settings.base * count))
      at_next =
          subst (λ i. IsFitAt s r i (slot_of x.event) (count_after count x.event) (asking_after s.settings.base x.event asking)
          (fit_with fit from (slot_of x.event) (units_of asking) (s.settings.base * count))) (one_more k)
          (at_event s known.scenario r run k (slot_of x.event) count asking
          (fit_with fit from (slot_of x.event) (units_of asking) (s.settings.base * count))
          (at_slot s known.scenario r run k from count asking fit at (slot_of x.event) order (omega (arith, within, known.slots)) after)
          x below is_next (omega arith))
        where
          one_more : (i : ℕ) → suc i ≡ i + 1
          one_more i = omega arith

    -- the same, as a loop over a slice of the events has it
    module _ (xs : List Numbered) (same : xs ≡ ledger.events.items) (d : Numbered) (lt : k < length xs) where
      inside_events : k < length ledger.events.items
      inside_events = omega (arith, lt, ap (λ zs. length zs) same)

      here : get_or ledger.events.items k (get_or xs k d) ≡ get_or xs k d
      here = ap (λ zs. get_or zs k (get_or xs k d)) (sym same) ∙ get_or_default xs k (get_or xs k d) d lt

      pub next_order : (slot : ℕ) → slot ≡ slot_of (get_or xs k d).event → from ≤ slot
      next_order slot now = omega (arith, now, order (get_or xs k d) inside_events here)

      pub next_short : (slot : ℕ) → slot ≡ slot_of (get_or xs k d).event → slot ≤ WIDE_HORIZON
      next_short slot now = omega (arith, now, short (get_or xs k d) inside_events here)

      pub next_limits : (settings : System) → settings ≡ s.settings → IsEvent settings (get_or xs k d).event
      next_limits settings of_plan =
          subst (λ z. IsEvent z (get_or xs k d).event) (sym of_plan) (limits (get_or xs k d) inside_events here)

      -- load and room of the slots before it
      pub next_same : (base : ℕ) → base ≡ ledger.settings.base → (slot : ℕ) → slot ≡ slot_of (get_or xs k d).event →
          (lent : List Asking) → lent ≡ asking → (u : ℕ) → from ≤ u → u < slot →
          (load_in s r u ≡ units_of lent) × (room_in s r u ≡ base * count)
      next_same base base_is slot now lent lent_is u lower upper =
          let is = before_next (get_or xs k d) inside_events here u lower (omega (arith, upper, now)) in (
            is.0 ∙ ap (λ zs. units_of zs) (sym lent_is),
            is.1 ∙ ap (λ b. b * count) (sym (base_is ∙ ap (λ z. z.base) known.settings)),
          )

      pub kept : (settings : System) → settings ≡ s.settings → (base : ℕ) → base ≡ settings.base → (slot : ℕ) →
          slot ≡ slot_of (get_or xs k d).event → (lent : List Asking) → lent ≡ asking → (fit' : Fit) →
          fit' ≡ fit_with fit from slot (units_of lent) (base * count) → (asking' : List Asking) →
          asking' ≡ asking_after settings.base (get_or xs k d).event asking → (count' : ℕ) →
          count' ≡ count_after count (get_or xs k d).event → IsFitAt s r (k + 1) slot count' asking' fit'
      kept settings of_plan base base_is slot now lent lent_is fit' fit_is asking' asking_is count' count_is =
          let event = (get_or xs k d).event in
          let fit_now : fit' ≡ fit_with fit from (slot_of event) (units_of asking) (s.settings.base * count) =
          fit_is ∙ ap (λ t. fit_with fit from t (units_of lent) (base * count)) now
          ∙ ap (λ zs. fit_with fit from (slot_of event) (units_of zs) (base * count)) lent_is
          ∙ ap (λ b. fit_with fit from (slot_of event) (units_of asking) (b * count)) (base_is ∙ ap (λ z. z.base) of_plan) in
          let asking_now : asking' ≡ asking_after s.settings.base event asking =
          asking_is ∙ ap (λ z. asking_after z.base event asking) of_plan in
          subst (λ f. IsFitAt s r (k + 1) slot count' asking' f) (sym fit_now)
          (subst (λ zs. IsFitAt s r (k + 1) slot count' zs (fit_with fit from (slot_of event) (units_of asking) (s.settings.base * count))) (sym asking_now)
          (subst (λ n'. IsFitAt s r (k + 1) slot n' (asking_after s.settings.base event asking) (fit_with fit from (slot_of event) (units_of asking) (s.settings.base * count))) (sym count_is)
          (subst (λ t. IsFitAt s r (k + 1) t (count_after count event) (asking_after s.settings.base event asking) (fit_with fit from (slot_of event) (units_of asking) (s.settings.base * count))) (sym now)
          (at_next (get_or xs k d) inside_events here))))

    -- the end
    at_end : length ledger.events.items ≤ k →
        IsFitAt s r k n count asking (fit_with fit from n (units_of asking) (s.settings.base * count))
    at_end all =
        at_slot s known.scenario r run k from count asking fit at n (omega (arith, at.short, known.slots))
        (omega (arith, known.slots))
        (λ i d le less. absurd (omega (arith, le, less, all, ap (λ zs. length zs) events_are)))

    -- load and room of the slots after all events
    pub last_same : (xs : List Numbered) → xs ≡ ledger.events.items → length xs ≤ k → (base : ℕ) → base ≡ ledger.settings.base →
        (lent : List Asking) → lent ≡ asking → (u : ℕ) → from ≤ u → u < n →
        (load_in s r u ≡ units_of lent) × (room_in s r u ≡ base * count)
    last_same xs is all base base_is lent lent_is u lower upper =
        let here =
        level_is s known.scenario r run k from count asking fit at (length r) at.short (omega arith)
        (λ i d le less. absurd (omega (arith, le, less, all, ap (λ zs. length zs) is, ap (λ zs. length zs) events_are)))
        u lower (omega (arith, upper, known.slots)) in (
          here.0 ∙ ap (λ zs. units_of zs) (sym lent_is),
          here.1 ∙ ap (λ b. b * count) (sym (base_is ∙ ap (λ z. z.base) known.settings)),
        )

    pub last_order : from ≤ n
    last_order = omega (arith, at.short, known.slots)

    pub ended : (xs : List Numbered) → xs ≡ ledger.events.items → length xs ≤ k → (base : ℕ) → base ≡ ledger.settings.base →
        (lent : List Asking) → lent ≡ asking → (fit' : Fit) →
        fit' ≡ fit_with fit from ledger.now (units_of lent) (base * count) → IsFitAt s r k n count asking fit'
    ended xs same all base base_is lent lent_is fit' fit_is =
        let fit_now : fit' ≡ fit_with fit from n (units_of asking) (s.settings.base * count) =
        fit_is ∙ ap (λ t. fit_with fit from t (units_of lent) (base * count)) known.now
        ∙ ap (λ zs. fit_with fit from n (units_of zs) (base * count)) lent_is
        ∙ ap (λ b. fit_with fit from n (units_of asking) (b * count)) (base_is ∙ ap (λ z. z.base) known.settings) in
        subst (λ f. IsFitAt s r k n count asking f) (sym fit_now) (at_end (omega (arith, all, ap (λ zs. length zs) same)))

    pub end_order : from ≤ ledger.now
    end_order = omega (arith, at.short, known.slots, known.now)

    pub end_short : ledger.now ≤ WIDE_HORIZON
    end_short = omega (arith, known.now, known.log.within, horizon_within s.settings known.log.settings)

    pub lent_few : (lent : List Asking) → lent ≡ asking → units_of lent ≤ LARGEST_CAP
    lent_few lent is = omega (arith, few_units, ap (λ zs. units_of zs) is)

    pub room_few : (base : ℕ) → base ≡ ledger.settings.base → base * count < 2 ^ 64
    room_few base is = omega (arith, few_room, ap (λ b. b * count) (is ∙ ap (λ z. z.base) known.settings))
