-- What a fault of a task says of the program's status and of its streams.
use Rattle.std.specs.Prelude.{⊤, ◌≡◌, ℕ, ◌+◌, Result, Err}
use Rattle.pf_vocabulary.specs.declared.fault.fault.Fault.{Fault}
use Rattle.pf_vocabulary.specs.declared.fault.fault.Fault.TheVariants as fault
use Rattle.pf_vocabulary.specs.declared.fault.status.Status.{Status}
use Rattle.pf_vocabulary.specs.declared.fault.status.Status.TheVariants.{Done, BadScript, BadWords, StreamFailed, NoMemory, GateShut, FailedOn}

abbrev pub number_of : Status → ℕ
number_of Done = 0
number_of BadScript = 1
number_of BadWords = 2
number_of StreamFailed = 3
number_of NoMemory = 4
number_of GateShut = 5
number_of FailedOn = 6

-- the status after a fault
abbrev pub status_behind : Fault → Status
status_behind (fault.BadRecord number) = BadScript
status_behind fault.TooLong = BadScript
status_behind (fault.BadRange range) = BadWords
status_behind fault.Read = StreamFailed
status_behind fault.Write = StreamFailed
status_behind fault.NoMemory = NoMemory
status_behind fault.NoViewer = NoMemory
status_behind fault.Unread = NoMemory
status_behind fault.GateShut = GateShut

-- the reader failed once where the answer is `Read`, and else not at all; the writer alike
abbrev pub CountsReads : {A : Type 0} → Result A Fault → ℕ → ℕ → Type 0
CountsReads (Err fault.Read) old new = new ≡ old + 1
CountsReads answer old new = new ≡ old

abbrev pub CountsWrites : {A : Type 0} → Result A Fault → ℕ → ℕ → Type 0
CountsWrites (Err fault.Write) old new = new ≡ old + 1
CountsWrites answer old new = new ≡ old

-- the reader didn't fail
abbrev pub IsPastReading : {A : Type 0} → Result A Fault → Type 0
IsPastReading (Err fault.Read) = ⊥
IsPastReading answer = ⊤

-- the range of the format can't be shown
abbrev pub IsOutside : {A : Type 0} → Result A Fault → Type 0
IsOutside (Err (fault.BadRange range)) = ⊤
IsOutside answer = ⊥

-- a fault that comes before anything is written
abbrev pub IsUnwritten : Fault → Type 0
IsUnwritten fault.Write = ⊥
IsUnwritten why = ⊤
