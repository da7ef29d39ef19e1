-- What a change or a step does, and what C is told of it.
use Rattle.std.specs.Prelude.{ℕ, ◌≡◌, ◌⊎◌, List, length, min}
use Rattle.pf_desk.specs.declared.command.Command.{Command}
use Rattle.pf_desk.specs.declared.command.Command.TheVariants.{Step}
use Rattle.pf_desk.specs.declared.reply.Reply.{Reply}
use Rattle.pf_desk.specs.declared.reply.Reply.TheVariants.{Edited, Stepped, Refused}
use Rattle.pf_desk_board.specs.declared.done.Done.{Done}
use Rattle.pf_desk_board.specs.Entered.{Enters, found_empty}
use Rattle.pf_shared_desk.specs.Calling.{Calling, Refuses}
use Rattle.pf_shared_desk.specs.declared.unanswered.Unanswered.{Unanswered}
use Rattle.pf_shared_desk.specs.declared.unanswered.Unanswered.TheVariants.{Busy, Pending, NoMemory}
use Rattle.pf_c_forms.specs.Picks.{HasPicks}
use Rattle.pf_c_forms.specs.Replied.{status_of, told_of}
use Rattle.pf_c_forms.specs.declared.raw_pick.RawPick.{RawPick}
use Rattle.pf_c_forms.specs.declared.raw_reply.RawReply.{RawReply}
use Rattle.pf_c_forms.specs.declared.status.TheConstants.{NO_MEMORY, BUSY, PENDING}
use Rattle.pf_scenario.specs.declared.settings.TheConstants.{MOST_PROCESSORS}

-- the status of a command that is no entry
abbrev pub status_of_unanswered : Unanswered → ℕ
status_of_unanswered Busy = BUSY
status_of_unanswered (Pending processor) = PENDING
status_of_unanswered NoMemory = NO_MEMORY

-- the caller's command is an entry of the one history, answered as the desk machine does after all that the caller had seen
-- and what was entered since, and C is told the answer; or there is no entry, and the caller is as before
abbrev pub EditsAt : Command → ℕ → RawReply → RawReply → Calling → Calling → Type 0
EditsAt command status answer now before after =
    (after.board ≡ before.board)
    × (((done : Done) × Enters before.board.terms command before.pass done after.pass
    × (status ≡ status_of done.reply) × (now ≡ told_of done.reply))
    ⊎ (((status ≡ BUSY) ⊎ (status ≡ NO_MEMORY)) × (after.pass ≡ before.pass) × (now ≡ answer)))

-- C is told the slot that was taken, and who runs in it on the processors that the room has places for, of which there are at
-- most 64
abbrev pub TellsReply : Reply → ℕ → ℕ → List RawPick → List RawPick → Type 0
TellsReply (Stepped slot row) before now room filled =
    (now ≡ slot) × HasPicks (min (min (length room) (length row)) MOST_PROCESSORS) row room filled
TellsReply (Edited id) before now room filled = (now ≡ before) × (filled ≡ room)
TellsReply (Refused fault) before now room filled = (now ≡ before) × (filled ≡ room)

-- the processor that C is told where a step is no entry: the one on which a quantum lies
abbrev pub processor_after_refusal : ℕ → Unanswered → ℕ
processor_after_refusal before (Pending processor) = processor
processor_after_refusal before Busy = before
processor_after_refusal before NoMemory = before

-- the caller's step is an entry of the one history, for which each processor's word was found empty, and C is told the answer; or
-- there is none, and C is told why
abbrev pub StepsAt : ℕ → ℕ → ℕ → ℕ → ℕ → List RawPick → List RawPick → Calling → Calling → Type 0
StepsAt status slot slot_now processor processor_now room filled before after =
    (after.board ≡ before.board)
    × (((done : Done) × Enters before.board.terms Step (found_empty before.board.processors before.pass) done after.pass
    × (status ≡ status_of done.reply) × TellsReply done.reply slot slot_now room filled
    × (processor_now ≡ processor))
    ⊎ ((refusal : Unanswered) × Refuses before.board.processors before.pass refusal after.pass
    × (status ≡ status_of_unanswered refusal) × (processor_now ≡ processor_after_refusal processor refusal)
    × (slot_now ≡ slot) × (filled ≡ room)))
