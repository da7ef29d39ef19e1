-- The script of a desk as a plan, run by the program.
use Rattle.std.specs.Prelude.{ℕ, ◌≡◌, Some}
use Rattle.pf_scenario.specs.System.{wide_horizon}
use Rattle.pf_desk.specs.Desk.{Seen}
use Rattle.pf_vocabulary.specs.declared.names.titles.Titles.{Titles}
use Rattle.pf_vocabulary.specs.declared.options.format.Format.TheVariants.{Script}
use Rattle.pf_report.specs.Script.{script_text_of}
use Rattle.pf_text.specs.Page.{table_text}
use Rattle.pf_commands.specs.Meaning.{Done, script_meaning}
use Rattle.pf_plain_script.specs.Plain.{Plain, plain}
use Rattle.pf_version_laws.specs.Titles.{AreTold}
use Rattle.pf_script_laws.specs.Reopening.Rerun.{CanBeRerun}

-- The script of a snapshot with titles runs again: in the format `script` the script of version 2 that belongs to it, with the titles
-- and the records that it tells, means the very text that it was.
abbrev pub TitledScriptsRunAgain : Type 0
TitledScriptsRunAgain =
    (every : ℕ) (seen : Seen) (titles : Titles) (p : Plain) → CanBeRerun every seen → seen.state.plan.settings.horizon ≡ wide_horizon → AreTold titles
    → plain (script_text_of every seen titles) ≡ Some p
    → script_meaning Script p.titles (Some p.origins) (table_text p.records) ≡ record { text = script_text_of every seen titles; end = Done }
