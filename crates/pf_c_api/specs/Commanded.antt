-- What a call does to the desk at a handle.
use Rattle.std.specs.Prelude.{ℕ, ◌≡◌, ◌⊎◌, ◌<◌, ◌≤◌, ◌+◌, ◌==◌, if◌then◌else◌, Option, None, Some, [], replicate}
use Rattle.pf_scenario.specs.System.{System, IsInLimits}
use Rattle.pf_scenario.specs.Limits.{largest_distance}
use Rattle.pf_desk.specs.declared.command.Command.{Command}
use Rattle.pf_desk.specs.declared.command.Command.TheVariants.{Step}
use Rattle.pf_desk.specs.declared.reply.Reply.{Reply}
use Rattle.pf_desk.specs.Machine.{opening_state}
use Rattle.pf_desk.specs.Desk.{Shown, IsAsBefore, IsDesk, AnswersCaller, AnswersAll}
use Rattle.pf_vocabulary.specs.Names.Titled.{untitled}
use Rattle.pf_c_api.specs.declared.held.Held.{Held}
use Rattle.pf_c_forms.specs.declared.raw_reply.RawReply.{RawReply}
use Rattle.pf_c_forms.specs.declared.status.TheConstants.{OK, AT_HORIZON, BAD_SETTINGS, NOT_OPEN, ALREADY_OPEN, NO_MEMORY}
use Rattle.pf_c_forms.specs.Replied.{status_of, told_of}

-- a distance that checkpoints cannot have
abbrev pub IsBadDistance : ℕ → Type 0
IsBadDistance every = (every ≡ 0) ⊎ (largest_distance < every)

-- numbers of which no desk can be opened
abbrev pub AreBadSettings : ℕ → ℕ → ℕ → ℕ → Type 0
AreBadSettings m h cap every = (IsInLimits m h cap → ⊥) ⊎ IsBadDistance every

-- numbers of which one can
abbrev pub AreGoodSettings : ℕ → ℕ → ℕ → ℕ → Type 0
AreGoodSettings m h cap every = IsInLimits m h cap × (IsBadDistance every → ⊥)

-- a desk of these settings on which nothing was asked yet
pub record IsNewDesk (settings : System) (apart : ℕ) (d : Shown) : Type 0 where
  pub state : d.state ≡ opening_state settings
  pub history : d.history ≡ []
  pub every : d.every ≡ apart
  pub desk : IsDesk d

-- a desk of these numbers, which are within their limits, and this horizon; no titles are told of it
abbrev pub IsOpened : ℕ → ℕ → ℕ → ℕ → ℕ → Held → Type 0
IsOpened m h cap horizon every held =
    AreGoodSettings m h cap every × IsNewDesk (record { processors = m; base = h; cap = cap; horizon = horizon }) every held.desk
    × (held.titles ≡ untitled)

-- no desk was opened, and the status tells why
abbrev pub OpensNone : ℕ → ℕ → ℕ → ℕ → ℕ → Type 0
OpensNone m h cap every status =
    ((status ≡ NO_MEMORY) × AreGoodSettings m h cap every) ⊎ ((status ≡ BAD_SETTINGS) × AreBadSettings m h cap every)

-- a handle that is closed gets such a desk, or none, and the status tells why; an open one is as before
abbrev pub Opens : ℕ → ℕ → ℕ → ℕ → ℕ → Option Held → ℕ → Option Held → Type 0
Opens m h cap horizon every (Some held) status after = (status ≡ ALREADY_OPEN) × (after ≡ Some held)
Opens m h cap horizon every None status None = OpensNone m h cap every status
Opens m h cap horizon every None status (Some held) = (status ≡ OK) × IsOpened m h cap horizon every held

-- what a call does at a handle: nothing where there is no desk, else this of the desk before and after, whose titles are as before
abbrev pub Changes : Option Held → ℕ → Option Held → (Shown → Shown → Type 0) → Type 0
Changes None status after of_desks = (status ≡ NOT_OPEN) × (after ≡ None)
Changes (Some before) status None of_desks = ⊥
Changes (Some before) status (Some after) of_desks =
    of_desks before.desk after.desk × IsDesk after.desk × (after.titles ≡ before.titles)

-- the desk answered the caller's change, and C has the reply; or memory was refused, and all is as before
abbrev pub AnswersEdit : ℕ → Command → ℕ → RawReply → RawReply → Shown → Shown → Type 0
AnswersEdit caller command status told telling before after =
    ((status ≡ NO_MEMORY) × IsAsBefore before after × (telling ≡ told))
    ⊎ ((reply : Reply) × AnswersCaller caller command before reply after × (status ≡ status_of reply) × (telling ≡ told_of reply))

-- the desk answered the caller's step, and the status is that of the reply; or memory was refused, and all is as before
abbrev pub AnswersStep : ℕ → ℕ → Shown → Shown → Type 0
AnswersStep caller status before after =
    ((status ≡ NO_MEMORY) × IsAsBefore before after)
    ⊎ ((reply : Reply) × AnswersCaller caller Step before reply after × (status ≡ status_of reply))

-- how many steps were answered: those that took a slot, and the one that found no slot left
abbrev pub answered : ℕ → ℕ → ℕ
answered status taken = if status == AT_HORIZON then taken + 1 else taken

-- the desk answered the caller's steps, one after another; as many took a slot as were asked for, or the status tells why
-- the next did not
pub record AnswersSteps (caller count status taken : ℕ) (before after : Shown) : Type 0 where
  pub within : taken ≤ count
  pub ends : ((status ≡ OK) × (taken ≡ count)) ⊎ (((status ≡ AT_HORIZON) ⊎ (status ≡ NO_MEMORY)) × (taken < count))
  pub now : after.state.now ≡ before.state.now + taken
  pub answers : AnswersAll caller (replicate (answered status taken) Step) before after
