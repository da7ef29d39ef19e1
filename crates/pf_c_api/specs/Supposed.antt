-- What a change would do.
use Rattle.std.specs.Prelude.{ℕ, ◌≡◌, ◌⊎◌, Option, None, Some, List, [], ◌∷◌, ◌++◌}
use Rattle.pf_desk.specs.declared.command.Command.{Command}
use Rattle.pf_desk.specs.declared.reply.Reply.{Reply}
use Rattle.pf_desk.specs.Machine.{reply_to, state_after}
use Rattle.pf_desk.specs.Desk.{Shown, Seen, IsAsBefore, StandsForHistory, entry_of}
use Rattle.pf_vocabulary.specs.declared.options.format.Format.{Format}
use Rattle.pf_c_api.specs.declared.held.Held.{Held}
use Rattle.pf_c_forms.specs.declared.raw_reply.RawReply.{RawReply}
use Rattle.pf_c_forms.specs.declared.status.TheConstants.{OK, NO_MEMORY}
use Rattle.pf_c_forms.specs.Replied.{status_of, told_of}
use Rattle.pf_c_api.specs.Told.{FillsRoom}
use Rattle.pf_c_api.specs.Texts.{WhereShown, text_seen}

-- the caller has the reply of a command that was made ready for this desk; where it is a refusal the status tells it, and else the
-- room has the text of what would be seen, where that can be shown; or memory was refused, and all is as before
abbrev pub TellsReady : Reply → Seen → Format → Held → ℕ → RawReply → RawReply → ℕ → List ℕ → List ℕ → Type 0
TellsReady reply seen format held status told telling count room filled =
    ((status ≡ NO_MEMORY) × (telling ≡ told))
    ⊎ ((telling ≡ told_of reply)
    × (((status ≡ status_of reply) × (status ≡ OK → ⊥))
    ⊎ ((status_of reply ≡ OK)
    × WhereShown format seen.state.now (FillsRoom (text_seen format seen held) status count room filled) status)))

-- what is seen of the desk after a caller's command
pub record IsSeenAfter (caller : ℕ) (command : Command) (d : Shown) (seen : Seen) : Type 0 where
  pub stands : StandsForHistory (d.history ++ entry_of caller command (reply_to d.state command) ∷ []) seen
  pub state : seen.state ≡ state_after d.state command (reply_to d.state command)

-- the same of a caller's command, which was not made
abbrev pub Supposes : ℕ → Command → Format → Held → ℕ → RawReply → RawReply → ℕ → List ℕ → List ℕ → Type 0
Supposes caller command format held status told telling count room filled =
    ((status ≡ NO_MEMORY) × (telling ≡ told))
    ⊎ ((seen : Seen) × IsSeenAfter caller command held.desk seen
    × TellsReady (reply_to held.desk.state command) seen format held status told telling count room filled)

-- a desk that is as before with its titles, or none
abbrev pub StaysAsBefore : Option Held → Option Held → Type 0
StaysAsBefore None after = after ≡ None
StaysAsBefore (Some before) None = ⊥
StaysAsBefore (Some before) (Some after) = IsAsBefore before.desk after.desk × (after.titles ≡ before.titles)
