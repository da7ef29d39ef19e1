-- A desk's history with its room: its entries, and what can be entered next.
use Rattle.std.specs.Prelude.{⊤, ◌≡◌, ℕ, ◌+◌, ◌-◌, ◌≤◌, List, [], ◌∷◌, ◌++◌, length}
use Rattle.pf_desk.specs.declared.command.Command.{Command}
use Rattle.pf_desk.specs.declared.command.Command.TheVariants.{Step}
use Rattle.pf_desk.specs.declared.reply.Reply.{Reply}
use Rattle.pf_desk.specs.declared.reply.Reply.TheVariants.{Edited, Stepped, Refused}
use Rattle.pf_desk.specs.declared.entry.Entry.{Entry}

-- a history: its entries, the processors of each slot that they took, and how many entries more it has room for
pub record Recorded : Type 0 where
  pub entries : List Entry
  pub processors : ℕ
  pub spare : ℕ

-- how many slots a command took that was answered so
abbrev pub slots_of : Reply → ℕ
slots_of (Edited id) = 0
slots_of (Stepped slot row) = 1
slots_of (Refused fault) = 0

-- how many slots these entries took
abbrev pub slots_taken : List Entry → ℕ
slots_taken [] = 0
slots_taken (e ∷ es) = slots_of e.reply + slots_taken es

-- the command with its reply can be the next entry: if it took a slot, it was a step, it took the one after all that
-- were taken before, and its row has all processors
abbrev pub CanFollow : Recorded → Command → Reply → Type 0
CanFollow h command (Edited id) = ⊤
CanFollow h command (Stepped slot row) = (command ≡ Step) × (slot ≡ slots_taken h.entries) × (length row ≡ h.processors)
CanFollow h command (Refused fault) = ⊤

-- the history with one entry more, which took its room
abbrev pub entered_in : Recorded → Entry → Recorded
entered_in h e = record { entries = h.entries ++ e ∷ []; processors = h.processors; spare = h.spare - 1 }

-- the history has these entries after its own, with whatever room
abbrev pub Gains : Recorded → List Entry → Recorded → Type 0
Gains before es after = after ≡ record { entries = before.entries ++ es; processors = before.processors; spare = after.spare }

-- the history is as before, with no less room
pub record HasNoLessRoom (before after : Recorded) : Type 0 where
  pub rest : after ≡ record before { spare = after.spare }
  pub room : before.spare ≤ after.spare
