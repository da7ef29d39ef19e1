-- The script of a desk as a plan, read again.
use Rattle.std.specs.Prelude.{ℕ, ◌≡◌, ◌≤◌, None, Some}
use Rattle.pf_scenario.specs.System.{wide_horizon}
use Rattle.pf_scenario.specs.Edit.{IsScenario}
use Rattle.pf_scenario.specs.Limits.{largest_distance}
use Rattle.pf_desk.specs.Desk.{Seen}
use Rattle.pf_vocabulary.specs.Names.Titled.{untitled}
use Rattle.pf_vocabulary.specs.declared.names.titles.Titles.{Titles}
use Rattle.pf_report.specs.Script.{script_text_of}
use Rattle.pf_text.specs.Page.{table_text}
use Rattle.pf_plain_script.specs.Plain.{Plain, plain}
use Rattle.pf_version_laws.specs.Titles.{AreTold}

-- what a plan can say of a snapshot: a scenario in wide settings, steps up to the horizon, a distance of checkpoints
pub record CanBeTitled (every : ℕ) (seen : Seen) : Type 0 where
  pub scenario : IsScenario seen.state.plan
  pub wide : seen.state.plan.settings.horizon ≡ wide_horizon
  pub stepped : seen.state.now ≤ wide_horizon
  pub some : 1 ≤ every
  pub within : every ≤ largest_distance

-- the script of version 2 that belongs to it is that of the snapshot, and beside it the titles are told; no record is bad
pub record TellsTitled (every : ℕ) (seen : Seen) (titles : Titles) (p : Plain) : Type 0 where
  pub text : table_text p.records ≡ script_text_of every seen untitled
  pub told : p.titles ≡ titles
  pub good : p.bad ≡ None

-- the script of a snapshot with titles is read so
abbrev pub TitledScriptsAreRead : Type 0
TitledScriptsAreRead =
    (every : ℕ) (seen : Seen) (titles : Titles) → CanBeTitled every seen → AreTold titles
    → (p : Plain) × (plain (script_text_of every seen titles) ≡ Some p) × TellsTitled every seen titles p
