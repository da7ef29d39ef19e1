-- How a history lies in memory: a brief for each entry, kept by runs (Runs), the commands that took no slot apart, and the
-- rows of the slots that were taken one after another.
use Rattle.std.specs.Prelude.{◌≡◌, ◌⊎◌, ℕ, ◌<◌, ◌≤◌, ◌+◌, Bool, true, if◌then◌else◌, Option, List, [], ◌∷◌, length, map, All}
use Rattle.std.specs.List.{slice_index_or}
use Rattle.pf_order.specs.declared.pick.Pick.{Pick}
use Rattle.pf_place.specs.RunRows.{last_row}
use Rattle.pf_desk.specs.declared.command.Command.TheVariants.{Step}
use Rattle.pf_desk.specs.declared.reply.Reply.{Reply}
use Rattle.pf_desk.specs.declared.reply.Reply.TheVariants.{Edited, Stepped, Refused}
use Rattle.pf_desk.specs.declared.reply.Fault.TheVariants.{AtHorizon}
use Rattle.pf_desk.specs.declared.entry.Entry.{Entry}
use Rattle.pf_desk.specs.declared.brief.Brief.{Brief}
use Rattle.pf_desk.specs.declared.brief.Brief.TheVariants.{OfSlot, OfCommand}
use Rattle.pf_desk.specs.declared.settled.Settled.{Settled}
use Rattle.pf_desk.specs.declared.settled.Answer.{Answer}
use Rattle.pf_desk.specs.declared.settled.Answer.TheVariants.{Edited as EditedAnswer, Refused as RefusedAnswer}
use Rattle.pf_desk.specs.Desk.{entry_of}
use Rattle.pf_desk.specs.Settled.{nothing_settled}
use Rattle.pf_desk.specs.Recorded.{Recorded, slots_taken}

-- the reply that an answer stands for
abbrev pub reply_of_answer : Answer → Reply
reply_of_answer (EditedAnswer id) = Edited id
reply_of_answer (RefusedAnswer fault) = Refused fault

-- the answer that stands for a reply that took no slot, and any for another
abbrev pub answer_of : Reply → Answer
answer_of (Edited id) = EditedAnswer id
answer_of (Stepped slot row) = RefusedAnswer AtHorizon
answer_of (Refused fault) = RefusedAnswer fault

-- what is kept of an entry that took no slot
abbrev pub settled_of : Entry → Settled
settled_of e = record { command = e.command; answer = answer_of e.reply }

-- the briefs of such entries, whose commands stand from `index` on
abbrev pub briefs_from : ℕ → List Entry → List Brief
briefs_from index [] = []
briefs_from index (e ∷ es) = OfCommand e.caller index ∷ briefs_from (index + 1) es

-- the entry of a command that took no slot
abbrev pub entry_of_settled : ℕ → Settled → Entry
entry_of_settled caller settled = entry_of caller settled.command (reply_of_answer settled.answer)

-- the entry of a brief among these commands and rows
abbrev pub entry_of_brief : List Settled → List (List (Option Pick)) → Brief → Entry
entry_of_brief settled rows (OfSlot caller slot) = entry_of caller Step (Stepped slot (slice_index_or rows slot []))
entry_of_brief settled rows (OfCommand caller index) = entry_of_settled caller (slice_index_or settled index nothing_settled)

-- the entries of these briefs
abbrev pub entries_laid : List Settled → List (List (Option Pick)) → List Brief → List Entry
entries_laid settled rows briefs = map (entry_of_brief settled rows) briefs

-- what the brief tells lies there
abbrev pub IsLaid : List Settled → ℕ → Brief → Type 0
IsLaid settled slots (OfSlot caller slot) = slot < slots
IsLaid settled slots (OfCommand caller index) = index < length settled

-- there is a row for each slot that was taken, and after them at most the one that is laid for the next step, of all
-- processors
abbrev pub AreKept : ℕ → ℕ → List (List (Option Pick)) → Type 0
AreKept processors slots rows =
    (length rows ≡ slots) ⊎ ((length rows ≡ slots + 1) × (length (last_row [] rows) ≡ processors))

-- a row is laid for the next step, and those of the slots that were taken are as before
pub record IsRowLaid (processors slots : ℕ) (before after : List (List (Option Pick))) : Type 0 where
  pub same : (k : ℕ) → k < slots → slice_index_or after k [] ≡ slice_index_or before k []
  pub long : length after ≡ slots + 1
  pub last : length (last_row [] after) ≡ processors

-- Each brief tells what lies there. Where there is room for an entry, a row is laid, and briefs and commands have room.
pub record AreLaid (processors slots : ℕ) (has_room : Bool) (briefs : List Brief) (settled : List Settled) (rows : List (List (Option Pick))) (briefs_room settled_room : ℕ) : Type 0 where
  pub laid : All (IsLaid settled slots) briefs
  pub taken : slots ≡ slots_taken (entries_laid settled rows briefs)
  pub kept : AreKept processors slots rows
  pub next : has_room ≡ true → length rows ≡ slots + 1
  pub for_brief : has_room ≡ true → 1 ≤ briefs_room
  pub for_command : has_room ≡ true → 1 ≤ settled_room

-- the history of these parts
abbrev pub recorded_by : ℕ → Bool → List Brief → List Settled → List (List (Option Pick)) → Recorded
recorded_by processors has_room briefs settled rows = record {
  entries = entries_laid settled rows briefs;
  processors = processors;
  spare = if has_room then 1 else 0;
}
