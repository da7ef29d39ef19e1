-- All joins held ask for few units.
use Rattle.std.proofs.Common.{◌≡◌, ℕ, zero, suc, ◌+◌, ◌*◌, ◌<◌, ◌≤◌, ◌^◌, List, [], ◌∷◌, length, All, arith, ap, subst, ◌∙◌}
use Rattle.std.specs.Prelude.{sum_by}
use Rattle.std.proofs.lemmas.List.Sums.{sum_by-cons, sum_by-le}
use Rattle.std.proofs.lemmas.List.Elements.{All-weaker}
use Rattle.pf_weight.specs.Share.{IsBase}
use Rattle.pf_weight.specs.declared.base.TheConstants.{LARGEST_BASE}
use Rattle.pf_scenario.specs.System.{System, IsSystem}
use Rattle.pf_scenario.specs.Scenario.{Plan}
use Rattle.pf_scenario.specs.Edit.{IsEvent, IsScenario}
use Rattle.pf_scenario.specs.declared.event.Event.{Event}
use Rattle.pf_scenario.specs.declared.event.Event.TheVariants.{Join, Leave, Delay, Limit}
use Rattle.pf_scenario.specs.declared.event.Numbered.{Numbered}
use Rattle.pf_run.proofs.Limits.{join_weight, units_within, weight_parts}
use Rattle.pf_fit_command.specs.Joins.{join_units, joins_units}

-- Use: a join has a period.
pub period_some : (s : System) (slot task cost period early : ℕ) → IsEvent s (Join slot task cost period early) → 1 ≤ period
period_some s slot task cost period early is =
    let parts = weight_parts s.base cost period (join_weight s slot task cost period early is) in
    omega (arith, parts.0, parts.1)

units_low : (s : System) (event : Event) → IsSystem s → IsEvent s event → join_units s.base event ≤ LARGEST_BASE
units_low s (Join slot task cost period early) system is =
    omega (arith, units_within s.base cost period (join_weight s slot task cost period early is), system.limits.base.within)
units_low s (Leave slot task) system is = omega arith
units_low s (Delay slot task by) system is = omega arith
units_low s (Limit slot count) system is = omega arith

-- Use: the sum of all.
pub joins_few : (s : Plan) → IsScenario s → joins_units s < 2 ^ 100
joins_few s scenario =
    omega (
      arith,
      sum_by-le (λ (x : Numbered). join_units s.settings.base x.event) LARGEST_BASE s.events
          (All-weaker (λ (x : Numbered). IsEvent s.settings x.event) (λ (x : Numbered). join_units s.settings.base x.event ≤ LARGEST_BASE)
          (λ (x : Numbered) is. units_low s.settings x.event scenario.settings is) s.events scenario.limits),
      scenario.few,
    )

module _ (s : Plan) (before rest : List Numbered) (x : Numbered) (split : before ≡ x ∷ rest) where
  abbrev asked : List Numbered → ℕ
  asked xs = sum_by (λ (y : Numbered). join_units s.settings.base y.event) xs

  abbrev AreLimited : List Numbered → Type 0
  AreLimited xs = All (λ (y : Numbered). IsEvent s.settings y.event) xs

  asked_first : asked before ≡ join_units s.settings.base x.event + asked rest
  asked_first = ap asked split ∙ sum_by-cons (λ (y : Numbered). join_units s.settings.base y.event) x rest

  -- Use: the units with those of one event more.
  pub asked_next : (units more new : ℕ) → more ≡ join_units s.settings.base x.event → new ≡ units + more → units + asked before ≡ joins_units s →
      new + asked rest ≡ joins_units s
  asked_next units more new is adds sum = omega (arith, is, adds, sum, asked_first)

  -- Use: they are few.
  pub asked_few : (units more : ℕ) → more ≡ join_units s.settings.base x.event → units + asked before ≡ joins_units s → IsScenario s →
      units + more < 2 ^ 100
  asked_few units more is sum scenario = omega (arith, is, sum, asked_first, joins_few s scenario)

  -- Use: the event is within its limits, and those behind it are.
  pub limited_first : AreLimited before → IsEvent s.settings x.event
  limited_first all = subst AreLimited split all 0 x (omega arith)

  pub limited_rest : AreLimited before → AreLimited rest
  limited_rest all = λ k d lt. subst AreLimited split all (suc k) d (omega (arith, lt))

-- Use: those of all, where none is left.
pub asked_all : (s : Plan) (left : List Numbered) (units : ℕ) → left ≡ [] →
    units + sum_by (λ (y : Numbered). join_units s.settings.base y.event) left ≡ joins_units s → units ≡ joins_units s
asked_all s left units none sum =
    let zero : sum_by (λ (y : Numbered). join_units s.settings.base y.event) left ≡ 0 =
    ap (λ (xs : List Numbered). sum_by (λ (y : Numbered). join_units s.settings.base y.event) xs) none in
    omega (arith, sum, zero)
