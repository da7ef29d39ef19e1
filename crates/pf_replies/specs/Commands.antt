-- What a script asks for after its settings, command by command.
use Rattle.std.specs.Prelude.{ℕ, ◌≡◌, Bool, true, List, [], ◌∷◌, Option, None, Some}
use Rattle.pf_desk.specs.declared.command.Command.{Command}

-- the commands that are left, the number of the bad record that ends them, if one does, and whether their end was read
pub record CommandsLeft : Type 0 where
  pub commands : List Command
  pub fault : Option ℕ
  pub ended : Bool

-- one was taken, or there was none
abbrev pub TakesCommand : Option Command → CommandsLeft → CommandsLeft → Type 0
TakesCommand (Some command) old new = (old.commands ≡ command ∷ new.commands) × (new.fault ≡ old.fault)
TakesCommand None old new = (old.commands ≡ []) × (new ≡ record old { ended = true })
