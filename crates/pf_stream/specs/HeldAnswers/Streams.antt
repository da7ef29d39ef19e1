-- What a dialogue does with its streams.
use Rattle.std.specs.Prelude.{ℕ, ◌≡◌, ◌+◌, ◌≤◌, Bool, true, false, List, [], Option}
use Rattle.std.specs.Io.KnownBytes.{Appends, Consumes, IsAtEnd, Keeps}
use Rattle.pf_stream.specs.Written.{TookFront}
use Rattle.pf_stream.specs.declared.held_answers.held.TheConstants.{PROMPT}

-- what is seen of the stream that is read, of the one that is written and of the one that is prompted: the bytes that are left or
-- that are held, where they are known, and how often each failed; and whether prompts are told
pub record Streams : Type 0 where
  pub input : Option (List ℕ)
  pub failed_reads : ℕ
  pub output : Option (List ℕ)
  pub failed_writes : ℕ
  pub prompted : Option (List ℕ)
  pub failed_prompts : ℕ
  pub prompts : Bool

abbrev pub streams_of : Option (List ℕ) → ℕ → Option (List ℕ) → ℕ → Option (List ℕ) → ℕ → Bool → Streams
streams_of input failed_reads output failed_writes prompted failed_prompts prompts = record {
  input = input;
  failed_reads = failed_reads;
  output = output;
  failed_writes = failed_writes;
  prompted = prompted;
  failed_prompts = failed_prompts;
  prompts = prompts;
}

-- a prompt is told where one is wanted: all of it, and more are wanted; or a front, where that failed, and no more are
abbrev pub Prompts : Bool → Bool → Option (List ℕ) → Option (List ℕ) → ℕ → ℕ → Type 0
Prompts false more old new old_failed new_failed = (more ≡ false) × Keeps old new × (new_failed ≡ old_failed)
Prompts true true old new old_failed new_failed = Appends old new PROMPT.now × (new_failed ≡ old_failed)
Prompts true false old new old_failed new_failed = TookFront old new PROMPT.now × (new_failed ≡ old_failed + 1)

-- more is asked for: a prompt is told, and nothing is written
pub record Asks (old new : Streams) : Type 0 where
  pub prompt : Prompts old.prompts new.prompts old.prompted new.prompted old.failed_prompts new.failed_prompts
  pub output : Keeps old.output new.output
  pub writes : new.failed_writes ≡ old.failed_writes

-- these bytes are read, none at the end alone
pub record Hears (old : Streams) (bytes : List ℕ) (new : Streams) : Type 0 where
  pub asks : Asks old new
  pub input : Consumes old.input new.input bytes
  pub end : bytes ≡ [] → IsAtEnd new.input
  pub reads : new.failed_reads ≡ old.failed_reads

-- the read fails
pub record IsDeaf (old new : Streams) : Type 0 where
  pub asks : Asks old new
  pub input : Keeps old.input new.input
  pub reads : new.failed_reads ≡ old.failed_reads + 1

-- an answer is on its way: nothing is read, and no prompt is told
pub record Answers (old new : Streams) : Type 0 where
  pub input : Keeps old.input new.input
  pub reads : new.failed_reads ≡ old.failed_reads
  pub prompted : Keeps old.prompted new.prompted
  pub failed : new.failed_prompts ≡ old.failed_prompts
  pub prompts : new.prompts ≡ old.prompts

-- all of it is written
pub record Tells (old : Streams) (text : List ℕ) (new : Streams) : Type 0 where
  pub answers : Answers old new
  pub output : Appends old.output new.output text
  pub writes : new.failed_writes ≡ old.failed_writes

-- a front of it is, all maybe: a write fails, or what is held back isn't handed on
pub record IsMute (old : Streams) (text : List ℕ) (new : Streams) : Type 0 where
  pub answers : Answers old new
  pub output : TookFront old.output new.output text
  pub writes : new.failed_writes ≤ old.failed_writes + 1
