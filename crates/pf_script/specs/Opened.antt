-- Scripts that were read up to their settings.
use Rattle.std.specs.Prelude.{⊤, ℕ, ◌≡◌, ◌≤◌, None, Some, Result, Ok, Err, List}
use Rattle.pf_scenario.specs.Limits.{largest_distance}
use Rattle.pf_script.specs.declared.fault.ScriptFault.{ScriptFault}
use Rattle.pf_script.specs.declared.fault.ScriptFault.TheVariants as fault
use Rattle.pf_script.specs.declared.opened.OpenedScript.{OpenedScript}
use Rattle.pf_script.specs.declared.record.ScriptSettings.{ScriptSettings}
use Rattle.pf_script.specs.Answers.{IsFault}
use Rattle.pf_script.specs.Told.{Told}

-- settings by which a desk can be opened
pub record IsOpening (s : ScriptSettings) : Type 0 where
  pub some : 1 ≤ s.every
  pub within : s.every ≤ largest_distance

-- a script that tells this was read up to its settings, or to a fault before them, in a record with these fields
abbrev pub Opens : Result OpenedScript ScriptFault → List (List ℕ) → Told → Type 0
Opens (Ok opened) fields t = IsOpening opened.opening × (t ≡ record { opening = Some opened.opening; rest = opened.lines })
Opens (Err (fault.Bad bad)) fields t = (t.opening ≡ None) × IsFault bad fields t.rest
Opens (Err (fault.Missing bad)) fields t = (t.opening ≡ None) × IsFault bad fields t.rest
Opens (Err fault.Memory) fields t = ⊤
