-- What a desk shows that carried out a script.
use Rattle.std.proofs.Common.{◌≡◌, ℕ, List, Option, Some, refl, ap, ◌∙◌}
use Rattle.pf_script_run.specs.Carried.{IsOf}
use Rattle.pf_desk.specs.Desk.{Seen, Shown, StandsForHistory}
use Rattle.pf_fit_command.specs.Fit.{IsSeenBehind}
use Rattle.pf_script.specs.Told.{Told}

-- Use: it is seen after the script.
pub seen_behind : (t : Told) (desk : Shown) (seen : Seen) → IsOf t desk → StandsForHistory desk.history seen → seen.state ≡ desk.state → IsSeenBehind t seen
seen_behind t desk seen of stands state = record {
  opening = of.opening;
  opens = of.told;
  settings = ap (λ s. s.plan.settings) state ∙ of.settings;
  history = desk.history;
  asked = of.asked;
  stands = stands;
}
