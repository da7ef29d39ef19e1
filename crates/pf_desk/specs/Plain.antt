-- Lists of plain edits.
use Rattle.std.specs.Prelude.{⊤, ◌≡◌, ◌⊎◌, ◌≤◌, ℕ, false, IsSome, IfSome, List, [], ◌∷◌}
use Rattle.pf_scenario.specs.Scenario.{Plan, slot_touched}
use Rattle.pf_scenario.specs.Edit.{edit_fault}
use Rattle.pf_desk.specs.declared.command.Command.{Command}
use Rattle.pf_desk.specs.declared.command.Command.TheVariants.{Edit, Step}
use Rattle.pf_desk.specs.Machine.{State, reply_to, state_after}

-- the command is a plain edit
abbrev pub IsPlain : Command → Type 0
IsPlain Step = ⊥
IsPlain (Edit change strict) = strict ≡ false

-- the command is a plain edit, and on this scenario it has a fault or touches no slot below s
abbrev pub IsPlainFrom : ℕ → Plan → Command → Type 0
IsPlainFrom s plan Step = ⊥
IsPlainFrom s plan (Edit change strict) =
    (strict ≡ false) × (IsSome (edit_fault plan change) ⊎ IfSome (slot_touched plan change) (λ t. s ≤ t))

-- the commands are plain edits, each of which, where the machine then is, has a fault or touches no slot below s
abbrev pub ArePlainFrom : ℕ → State → List Command → Type 0
ArePlainFrom s st [] = ⊤
ArePlainFrom s st (c ∷ cs) = IsPlainFrom s st.plan c × ArePlainFrom s (state_after st c (reply_to st c)) cs
