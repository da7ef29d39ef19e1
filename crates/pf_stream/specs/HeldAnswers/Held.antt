-- What is seen of a dialogue, and of whom it is held with.
use Rattle.std.specs.Prelude.{ℕ, ◌≡◌, List, Option}
use Rattle.pf_stream.specs.declared.held_answers.held.Held.{Held}
use Rattle.pf_stream.specs.HeldAnswers.Streams.{Streams, streams_of}

-- it is held over the same streams
pub record AreSame {R W F : Type 0} (d e : Held R W F) : Type 0 where
  pub reader : e.reader.ghost_name ≡ d.reader.ghost_name
  pub writer : e.writer.ghost_name ≡ d.writer.ghost_name
  pub prompted : e.prompted.ghost_name ≡ d.prompted.ghost_name

-- where this is what is left to be read of a reader, and how often one failed, and so for what is written and what is prompted
abbrev pub seen : {R W F : Type 0} → (R → Option (List ℕ)) → (R → ℕ) → (W → Option (List ℕ)) → (W → ℕ) → (F → Option (List ℕ)) → (F → ℕ)
    → Held R W F → Streams
seen left failed_reads written failed_writes prompted failed_prompts d =
    streams_of (left d.reader.now) (failed_reads d.reader.now) (written d.writer.now) (failed_writes d.writer.now) (prompted d.prompted.now)
    (failed_prompts d.prompted.now) d.prompts
