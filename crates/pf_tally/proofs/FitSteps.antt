-- How far a walk over the events of a run has come.
use Rattle.std.proofs.Common.{◌≡◌, ℕ, suc, ◌+◌, ◌-◌, ◌*◌, ◌<◌, ◌≤◌, ◌==◌, ◌&&◌, Bool, true, false, not, nat_lt, cond, if◌then◌else◌, Option, None, Some, List, [], ◌∷◌, ◌++◌, length, take, map, filter, get_or, sum_by, arith, refl, sym, ap, ◌∙◌, subst, ⊎_elim}
use Rattle.std.proofs.lemmas.Bool.{cases_lt, lt-ltb, ltb-true, eq-eqb, both_ways}
use Rattle.std.proofs.lemmas.List.{take_more, get_or_default}
use Rattle.std.proofs.lemmas.List.Sums.{sum_by-cons}
use Rattle.pf_weight.specs.Share.{share_of}
use Rattle.pf_scenario.specs.Event.{slot_of, is_join_of}
use Rattle.pf_scenario.specs.Scenario.{Plan}
use Rattle.pf_scenario.specs.Edit.{IsScenario}
use Rattle.pf_scenario.specs.declared.event.Event.{Event}
use Rattle.pf_scenario.specs.declared.event.Event.TheVariants.{Join, Leave, Delay, Limit}
use Rattle.pf_scenario.specs.declared.event.Numbered.{Numbered}
use Rattle.pf_scenario.specs.declared.settings.TheConstants.{LARGEST_CAP}
use Rattle.pf_run.specs.Record.{Slot}
use Rattle.pf_run.specs.Inside.{Joined, has_left, inside, load_of, count_after, count_of}
use Rattle.pf_run.specs.Run.{events_in_force, IsRun}
use Rattle.pf_run.proofs.Points.{inside_push_other, inside_push_join, inside_push_leave, count_push}
use Rattle.pf_tally.specs.Load.{load_in, room_in, overload_of}
use Rattle.pf_tally.specs.declared.asking.Asking.{Asking}
use Rattle.pf_tally.specs.declared.fit.Fit.{Fit}
use Rattle.pf_tally.specs.Asking.{asking_after}
use Rattle.pf_tally.specs.Fit.{IsFirstAbove, or_slot, fit_with}
use Rattle.pf_tally.proofs.Entrants.{are_fresh}
use Rattle.pf_tally.proofs.Steady.{steady, overload-steady, load-front, overload-few}

-- a task inside, by what it asks for
abbrev pub asking_of : Joined → Asking
asking_of j = record { task = j.task; units = j.weight.units }

abbrev pub units_of : List Asking → ℕ
units_of asking = sum_by (λ (a : Asking). a.units) asking

units-asked : (js : List Joined) → units_of (map asking_of js) ≡ sum_by (λ (j : Joined). j.weight.units) js
units-asked [] = refl
units-asked (j ∷ js) =
    omega (
      arith,
      sum_by-cons (λ (a : Asking). a.units) (asking_of j) (map asking_of js),
      sum_by-cons (λ (i : Joined). i.weight.units) j js,
      units-asked js,
    )

asked-append : (js : List Joined) (j : Joined) → map asking_of (js ++ j ∷ []) ≡ map asking_of js ++ asking_of j ∷ []
asked-append [] j = refl
asked-append (i ∷ js) j = ap (λ zs. asking_of i ∷ zs) (asked-append js j)

asked-filter : (task : ℕ) (js : List Joined) →
    map asking_of (filter (λ (j : Joined). not (j.task == task)) js) ≡ filter (λ (a : Asking). not (a.task == task)) (map asking_of js)
asked-filter task [] = refl
asked-filter task (j ∷ js) = by (not (j.task == task)) (asked-filter task js) where
  stay : Joined → Bool
  stay i = not (i.task == task)

  stays : Asking → Bool
  stays a = not (a.task == task)

  by : (b : Bool) → map asking_of (filter stay js) ≡ filter stays (map asking_of js) →
      map asking_of (cond b (j ∷ filter stay js) (filter stay js))
      ≡ cond b (asking_of j ∷ filter stays (map asking_of js)) (filter stays (map asking_of js))
  by true rest = ap (λ zs. asking_of j ∷ zs) rest
  by false rest = rest

-- of the run r of the scenario, k events have taken effect, and the slots below `from` were passed; the others come no
-- sooner
pub record IsFitAt (s : Plan) (r : List Slot) (k from count : ℕ) (asking : List Asking) (fit : Fit) : Type 0 where
  pub few : k ≤ length (events_in_force s r (length r))
  pub short : from ≤ length r
  pub before : (i : ℕ) (d : Numbered) → i < k → slot_of (get_or (events_in_force s r (length r)) i d).event ≤ from
  pub after : (i : ℕ) (d : Numbered) → k ≤ i → i < length (events_in_force s r (length r)) →
      from ≤ slot_of (get_or (events_in_force s r (length r)) i d).event
  pub asked : asking ≡ map asking_of (inside s.settings.base (take k (events_in_force s r (length r))))
  pub counted : count ≡ count_of s.settings.processors (take k (events_in_force s r (length r)))
  pub first : IsFirstAbove s r from fit.first
  pub overload : fit.overload ≡ overload_of s r from

-- one event more
asked_after : (base : ℕ) (xs : List Numbered) (id : ℕ) (event : Event) →
    ((task : ℕ) → is_join_of task event ≡ true → has_left xs task ≡ false) →
    asking_after base event (map asking_of (inside base xs))
    ≡ map asking_of (inside base (xs ++ record { id = id; event = event } ∷ []))
asked_after base xs id (Join slot task cost period early) fresh =
    let x : Numbered = record { id = id; event = Join slot task cost period early } in
    let j : Joined = record { task = task; slot = slot; weight = share_of base cost period; early = early } in
    let more : inside base (xs ++ x ∷ []) ≡ inside base xs ++ j ∷ [] =
    inside_push_join base xs x j refl (λ _. refl) (fresh task (eq-eqb task task refl)) in
    sym (ap (map asking_of) more ∙ asked-append (inside base xs) j)
asked_after base xs id (Leave slot task) fresh =
    sym (ap (map asking_of) (inside_push_leave base xs id slot task) ∙ asked-filter task (inside base xs))
asked_after base xs id (Delay slot task by) fresh =
    ap (map asking_of) (sym (inside_push_other base xs (record { id = id; event = Delay slot task by }) refl (λ _. refl)))
asked_after base xs id (Limit slot count) fresh =
    ap (map asking_of) (sym (inside_push_other base xs (record { id = id; event = Limit slot count }) refl (λ _. refl)))

module _ (s : Plan) (scenario : IsScenario s) (r : List Slot) (run : IsRun s (length r) r) where
  abbrev base : ℕ
  base = s.settings.base

  abbrev end_now : List Numbered
  end_now = events_in_force s r (length r)

  pub at_start : IsFitAt s r 0 0 s.settings.processors [] (record { first = None; overload = 0 })
  unfolding inside count_of overload_of
  at_start = record {
    few = omega arith;
    short = omega arith;
    before = λ i d lt. absurd (omega (arith, lt));
    after = λ i d le lt. omega arith;
    asked = refl;
    counted = refl;
    first = λ v lt. absurd (omega (arith, lt));
    overload = refl;
  }

  module _ (k from count : ℕ) (asking : List Asking) (fit : Fit) (at : IsFitAt s r k from count asking fit) where
    units-is : units_of asking ≡ load_of base (take k end_now)
    unfolding load_of
    units-is = ap (λ zs. units_of zs) at.asked ∙ units-asked (inside base (take k end_now))

    pub units_few : units_of asking ≤ LARGEST_CAP
    units_few = omega (arith, units-is, load-front s scenario r run k)

    pub overload_few : fit.overload ≤ from * LARGEST_CAP
    overload_few = omega (arith, at.overload, overload-few s scenario r run from at.short)

    -- the slots up to the next event
    module _ (to : ℕ) (order : from ≤ to) (within : to ≤ length r)
        (after : (i : ℕ) (d : Numbered) → k ≤ i → i < length end_now → to ≤ slot_of (get_or end_now i d).event) where
      pub level_is : (u : ℕ) → from ≤ u → u < to → (load_in s r u ≡ units_of asking) × (room_in s r u ≡ base * count)
      level_is u lower upper =
          let now : events_in_force s r (suc u) ≡ take k end_now =
          steady s scenario r run k u (omega (arith, upper, within)) at.few
          (λ i d lt. omega (arith, at.before i d lt, lower))
          (λ i d le lt. omega (arith, after i d le lt, upper)) in (
            ap (λ zs. load_of base zs) now ∙ sym units-is,
            ap (λ zs. base * count_of s.settings.processors zs) now ∙ ap (λ c. base * c) (sym at.counted),
          )

      overload_is : fit.overload + (to - from) * (units_of asking - base * count) ≡ overload_of s r to
      overload_is =
          let all : (to - from) + from ≡ to = omega (arith, order) in
          omega (
            arith,
            at.overload,
            ap (λ u. overload_of s r u) all,
            overload-steady s scenario r run (to - from) from (units_of asking) (base * count)
                (λ u lower upper. level_is u lower (omega (arith, upper, all))),
          )

      first_is : IsFirstAbove s r to
          (if nat_lt from to && nat_lt (base * count) (units_of asking) then or_slot fit.first from else fit.first)
      first_is = by (nat_lt from to) (nat_lt (base * count) (units_of asking)) refl refl fit.first at.first where
        by : (a b : Bool) → nat_lt from to ≡ a → nat_lt (base * count) (units_of asking) ≡ b → (o : Option ℕ) → IsFirstAbove s r from o →
            IsFirstAbove s r to (if a && b then or_slot o from else o)
        by true true some above (Some u) is = (omega (arith, is.0, order), is.1, is.2)
        by true true some above None is =
            let less : from < to = ltb-true from to some in
            let here = level_is from (omega arith) less in (
              less,
              omega (arith, here.0, here.1, ltb-true (base * count) (units_of asking) above),
              is,
            )
        by true false some above (Some u) is = (omega (arith, is.0, order), is.1, is.2)
        by true false some above None is = λ v lt. ⊎_elim (λ (old : v < from). is v old)
            (λ (ge : from ≤ v).
            let here = level_is v ge lt in
            omega (arith, here.0, here.1, none above))
            (cases_lt v from) where
              none : nat_lt (base * count) (units_of asking) ≡ false → units_of asking ≤ base * count
              none fewer = ⊎_elim
                  (λ (more : base * count < units_of asking).
                  absurd (both_ways (nat_lt (base * count) (units_of asking)) fewer (lt-ltb (base * count) (units_of asking) more)))
                  (λ le. le) (cases_lt (base * count) (units_of asking))
        by false b some above (Some u) is = (omega (arith, is.0, order), is.1, is.2)
        by false b some above None is = λ v lt. ⊎_elim (λ (old : v < from). is v old)
            (λ (ge : from ≤ v). absurd (both_ways (nat_lt from to) some (lt-ltb from to (omega (arith, ge, lt)))))
            (cases_lt v from)

      pub at_slot : IsFitAt s r k to count asking (fit_with fit from to (units_of asking) (base * count))
      at_slot = record {
        few = at.few;
        short = within;
        before = λ i d lt. omega (arith, at.before i d lt, order);
        after = after;
        asked = at.asked;
        counted = at.counted;
        first = first_is;
        overload = overload_is;
      }

    -- the next event
    module _ (x : Numbered) (lt : k < length end_now) (is : get_or end_now k x ≡ x) (now : slot_of x.event ≤ from) where
      front : take (suc k) end_now ≡ take k end_now ++ x ∷ []
      front =
          ap (λ i. take i end_now) (one_more k) ∙ take_more end_now k x lt ∙ ap (λ y. take k end_now ++ y ∷ []) is
        where
          one_more : (i : ℕ) → suc i ≡ i + 1
          one_more i = omega arith

      pub at_event : IsFitAt s r (suc k) from (count_after count x.event) (asking_after base x.event asking) fit
      at_event = record {
        few = lt;
        short = at.short;
        before = λ i d less.
            ⊎_elim (λ (old : i < k). at.before i d old)
            (λ (ge : k ≤ i).
            let here : i ≡ k = omega (arith, ge, less) in
            let same : get_or end_now i d ≡ x = ap (λ n. get_or end_now n d) here ∙ get_or_default end_now k d x lt ∙ is in
            omega (arith, now, ap (λ (y : Numbered). slot_of y.event) same))
            (cases_lt i k);
        after = λ i d le less. at.after i d (omega (arith, le)) less;
        asked = ap (asking_after base x.event) at.asked
            ∙ asked_after base (take k end_now) x.id x.event
            (λ task joins.
            are_fresh s scenario (length r) r run k task x lt
            (subst (λ (y : Numbered). is_join_of task y.event ≡ true) (sym is) joins))
            ∙ ap (λ zs. map asking_of (inside base zs)) (sym front);
        counted = ap (λ c. count_after c x.event) at.counted
            ∙ sym (count_push s.settings.processors (take k end_now) x)
            ∙ ap (count_of s.settings.processors) (sym front);
        first = at.first;
        overload = at.overload;
      }
