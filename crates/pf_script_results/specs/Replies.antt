-- What the desk machine answers to the commands of a record, and how the entries of a history tell it.
use Rattle.std.specs.Prelude.{⊤, ℕ, ◌+◌, ◌≡◌, List, [], ◌∷◌, Option, None, Some, Result, Ok, Err}
use Rattle.pf_desk.specs.declared.command.Command.{Command}
use Rattle.pf_desk.specs.declared.entry.Entry.{Entry}
use Rattle.pf_desk.specs.declared.reply.Reply.{Reply}
use Rattle.pf_desk.specs.declared.reply.Reply.TheVariants.{Edited, Stepped, Refused}
use Rattle.pf_desk.specs.Machine.{State, reply_to, state_after}
use Rattle.pf_script_results.specs.declared.outcome.Outcome.{Outcome}
use Rattle.pf_script_results.specs.declared.outcome.Outcome.TheVariants as outcome
use Rattle.pf_script_results.specs.declared.stop.Stop.{Stop}
use Rattle.pf_script_results.specs.declared.stop.Stop.TheVariants as stop

-- what a command came to that was answered so
abbrev pub outcome_of : Reply → Outcome
outcome_of (Edited id) = outcome.Done
outcome_of (Stepped slot row) = outcome.Done
outcome_of (Refused fault) = outcome.Refused fault

-- one for a refusal
abbrev pub one_if_refused : Outcome → ℕ
one_if_refused outcome.Done = 0
one_if_refused (outcome.Refused fault) = 1

-- how many of these commands the machine refuses from a state on
abbrev pub refused_in : State → List Command → ℕ
refused_in st [] = 0
refused_in st (command ∷ commands) =
    one_if_refused (outcome_of (reply_to st command)) + refused_in (state_after st command (reply_to st command)) commands

-- the first entry was taken, if there was one
abbrev pub TakesEntry : Option Entry → List Entry → List Entry → Type 0
TakesEntry (Some entry) old new = old ≡ entry ∷ new
TakesEntry None old new = (old ≡ []) × (new ≡ old)

-- the first entry was taken: it is of this command, which came to this
pub record TakesAnswer (command : Command) (came : Outcome) (old new : List Entry) : Type 0 where
  pub entry : Entry
  pub taken : old ≡ entry ∷ new
  pub asked : entry.command ≡ command
  pub answered : came ≡ outcome_of entry.reply

-- the history is that of the script, as far as it was looked at
abbrev pub IsOwn : {A : Type 0} → Result A Stop → Type 0
IsOwn (Ok x) = ⊤
IsOwn (Err stop.Foreign) = ⊥
IsOwn (Err stop.NoMemory) = ⊤
