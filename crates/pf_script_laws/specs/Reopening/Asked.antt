-- What the script of a desk asks for, and a desk that has answered it.
use Rattle.std.specs.Prelude.{◌≡◌, ℕ, ◌≤◌, length, map}
use Rattle.pf_desk.specs.Desk.{Seen, Shown, IsDesk, seen_of}
use Rattle.pf_vocabulary.specs.Names.Titled.{untitled}
use Rattle.pf_report.specs.Script.{script_text_of}
use Rattle.pf_stream.specs.Reading.{longest_script}
use Rattle.pf_script_desk.specs.Asked.{Whole, script_asked}
use Rattle.pf_script_laws.specs.Reopening.Reopen.{CanBeWritten}
use Rattle.pf_script_laws.specs.Reopening.Whole.{script_commands, IsReopened}

-- the script of a snapshot is one: it is not too long, no record of it is bad, and it asks for a desk of the same
-- settings and for the commands of what was seen
pub record IsScriptOf (every : ℕ) (seen : Seen) : Type 0 where
  pub short : length (script_text_of every seen untitled) ≤ longest_script
  pub asked : script_asked (script_text_of every seen untitled) ≡ Whole seen.state.plan.settings (script_commands seen.state)

abbrev pub DesksHaveScripts : Type 0
DesksHaveScripts = (every : ℕ) (seen : Seen) → CanBeWritten every seen → IsScriptOf every seen

-- The script of a desk opens it again: a desk q that has answered what the script of a desk d asks for, and no more,
-- shows what d does, with its events numbered from 1 on.
abbrev pub ScriptsReopenDesks : Type 0
ScriptsReopenDesks =
    (every : ℕ) (d q : Shown) → IsDesk d → IsDesk q → CanBeWritten every (seen_of d)
    → script_asked (script_text_of every (seen_of d) untitled) ≡ Whole q.state.plan.settings (map (λ e. e.command) q.history)
    → IsReopened d q
