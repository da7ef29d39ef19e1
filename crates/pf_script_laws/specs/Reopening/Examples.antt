-- A worked example of events that are numbered anew.
use Rattle.std.specs.Prelude.{◌≡◌, Option, Some, None, List, [], ◌∷◌, map}
use Rattle.pf_order.specs.declared.pick.Pick.{Pick}
use Rattle.pf_scenario.specs.Scenario.{Plan, plan_after}
use Rattle.pf_scenario.specs.declared.event.Event.TheVariants.{Join, Limit}
use Rattle.pf_scenario.specs.declared.change.Change.TheVariants.{Strike}
use Rattle.pf_admit.specs.declared.denial.Denial.TheVariants.{OverCapacity}
use Rattle.pf_run.specs.Examples.{plan_with, pick_with, denied_in}
use Rattle.pf_run.specs.RunRows.{rows_in, denials_in}
use Rattle.pf_script_laws.specs.Reopening.Taken.{renumbered}
use Rattle.pf_script_laws.specs.Reopening.Renumbered.{HasSameRun, new_number}

-- event 1 was struck; event 4 asks for more than the cap; of the two limits of slot 1 the later number holds
abbrev pub struck_first : Plan
struck_first =
    plan_after
    (plan_with 2 1 2 (Join 0 3 1 1 0 ∷ Join 0 1 1 1 0 ∷ Join 0 2 1 1 0 ∷ Join 0 4 1 1 0 ∷ Limit 1 2 ∷ Limit 1 1 ∷ []))
    (Strike 1)

-- the rows of its first two slots
abbrev pub two_rows : List (List (Option Pick))
two_rows = (Some (pick_with 1 1) ∷ Some (pick_with 2 1) ∷ []) ∷ (Some (pick_with 1 2) ∷ None ∷ []) ∷ []

pub record WorkedRenumbering : Type 0 where
  pub held : map (λ x. x.id) struck_first.events ≡ 2 ∷ 3 ∷ 4 ∷ 5 ∷ 6 ∷ []
  pub rows : rows_in struck_first 2 ≡ two_rows
  pub denials : denials_in struck_first 2 ≡ denied_in 0 4 OverCapacity ∷ []
  pub held_anew : map (λ x. x.id) (renumbered struck_first).events ≡ 1 ∷ 2 ∷ 3 ∷ 4 ∷ 5 ∷ []
  pub rows_anew : rows_in (renumbered struck_first) 2 ≡ two_rows
  pub denials_anew : denials_in (renumbered struck_first) 2 ≡ denied_in 0 3 OverCapacity ∷ []
  pub same : HasSameRun (new_number struck_first.events) 2 struck_first (renumbered struck_first)
