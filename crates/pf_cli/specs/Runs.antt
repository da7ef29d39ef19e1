-- What a run of bytes answers, and what it writes.
use Rattle.std.specs.Prelude.{ℕ, ⊤, ◌≡◌, ◌+◌, nat_lt, if◌then◌else◌, List, [], length, Option, None, Some, Result, Ok, Err}
use Rattle.std.specs.Io.KnownBytes.{Appends, Keeps}
use Rattle.pf_commands.specs.Meaning.{End, Meaning, Done, BadRecord, TooLong, Outside, script_meaning}
use Rattle.pf_vocabulary.specs.Names.Titled.{untitled}
use Rattle.pf_vocabulary.specs.declared.options.format.Format.{Format}
use Rattle.pf_plain_script.specs.declared.origin.Origin.{Origin}
use Rattle.pf_plain_script.specs.Plain.{Plain, plain}
use Rattle.pf_stream.specs.Reading.{longest_script}
use Rattle.pf_stream.specs.Written.{TookFront}
use Rattle.pf_text.specs.Page.{table_text}
use Rattle.pf_cli.specs.Versions.{number_from}
use Rattle.pf_cli.specs.declared.run_fault.RunFault.{RunFault}
use Rattle.pf_cli.specs.declared.run_fault.RunFault.TheVariants as why

-- the same end, with the number of the record that a bad one comes from
abbrev pub numbered_end : List Origin → End → End
numbered_end origins (BadRecord number) = BadRecord (number_from origins number)
numbered_end origins end = end

-- what a plan means in a format: what the script of version 2 means that belongs to it, with the numbers of its own records
abbrev pub plan_meaning : Format → Plain → Meaning
plan_meaning format p =
    let m = script_meaning format p.titles (Some p.origins) (table_text p.records) in
    record { text = m.text; end = numbered_end p.origins m.end }

abbrev pub meaning_of : Format → List ℕ → Option Plain → Meaning
meaning_of format bytes None = script_meaning format untitled None bytes
meaning_of format bytes (Some p) = plan_meaning format p

-- what the bytes of a script of any version mean in a format
abbrev pub run_meaning : Format → List ℕ → Meaning
run_meaning format bytes =
    if nat_lt longest_script (length bytes) then record { text = []; end = TooLong } else meaning_of format bytes (plain bytes)

-- the answer is the end of what was meant, and the writer took its text; where the reader fails the writer is as it was, and
-- after a writer that fails, or where memory is refused, it took a front of the text
abbrev pub RunsAs : {A : Type 0} → Meaning → Result A RunFault → Option (List ℕ) → Option (List ℕ) → Type 0
RunsAs m (Ok done) old new = (m.end ≡ Done) × Appends old new m.text
RunsAs m (Err (why.BadLine number)) old new = (m.end ≡ BadRecord number) × Appends old new m.text
RunsAs m (Err why.ScriptTooLong) old new = (m.end ≡ TooLong) × Appends old new m.text
RunsAs m (Err (why.BadRange range)) old new = (m.end ≡ Outside range) × Appends old new m.text
RunsAs m (Err why.ReadFault) old new = Keeps old new
RunsAs m (Err why.WriteFault) old new = TookFront old new m.text
RunsAs m (Err why.NoMemory) old new = TookFront old new m.text
RunsAs m (Err why.NoViewer) old new = ⊥
RunsAs m (Err why.Unread) old new = ⊥
RunsAs m (Err why.GateShut) old new = ⊥

-- where the reader failed the writer is as it was, whatever is known of its bytes
abbrev pub IsUnwrittenUnread : {A : Type 0} → Result A RunFault → Option (List ℕ) → Option (List ℕ) → Type 0
IsUnwrittenUnread (Err why.ReadFault) old new = Keeps old new
IsUnwrittenUnread answer old new = ⊤

-- the reader failed once where the answer is `ReadFault`, and else not at all; the writer alike
abbrev pub CountsReadFault : {A : Type 0} → Result A RunFault → ℕ → ℕ → Type 0
CountsReadFault (Err why.ReadFault) old new = new ≡ old + 1
CountsReadFault answer old new = new ≡ old

abbrev pub CountsWriteFault : {A : Type 0} → Result A RunFault → ℕ → ℕ → Type 0
CountsWriteFault (Err why.WriteFault) old new = new ≡ old + 1
CountsWriteFault answer old new = new ≡ old
