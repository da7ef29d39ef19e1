-- A session that did not begin.
use Rattle.std.proofs.Common.{◌≡◌, ℕ, Bool, inr, subst, Result, Err}
use Rattle.std.specs.Prelude.{Vec}
use Rattle.std.specs.declared.alloc.Global.{Global}
use Rattle.pf_vocabulary.specs.declared.fault.fault.Fault.{Fault}
use Rattle.pf_vocabulary.specs.declared.fault.status.Status.TheVariants.{StreamFailed}
use Rattle.pf_stream.specs.HeldAnswers.Streams.{Streams}
use Rattle.pf_arguments.specs.Desks.{DeskNames}
use Rattle.pf_cli.specs.Desks.{DoesNotBegin, HoldsDesk, manner_of}
use Rattle.pf_cli.specs.Noted.{IsTold, notes_in, status_ended}
use Rattle.pf_cli.specs.Status.{Tells}

-- Use: why was told, where it is known who reads the output.
pub desk_not_held : (desk : DeskNames) (prompts closed ended : Bool) (status : ℕ) (old new : Streams) (fault : Fault) (notes : Result (Vec ℕ Global) Fault)
    → DoesNotBegin (manner_of desk) desk.script fault notes → ended ≡ closed → status ≡ status_ended ended StreamFailed (Err fault)
    → IsTold ended (Err fault) (notes_in notes) (Tells old.prompted new.prompted old.failed_prompts new.failed_prompts) → new.input ≡ old.input
    → new.failed_reads ≡ old.failed_reads → new.output ≡ old.output → new.failed_writes ≡ old.failed_writes → HoldsDesk desk prompts closed status old new
desk_not_held desk prompts closed ended status old new fault notes why_not same is told input reads output writes = inr (record {
  fault = fault;
  notes = notes;
  why_not = why_not;
  status_is = subst (λ (b : Bool). status ≡ status_ended b StreamFailed (Err fault)) same is;
  told = subst (λ (b : Bool). IsTold b (Err fault) (notes_in notes) (Tells old.prompted new.prompted old.failed_prompts new.failed_prompts)) same told;
  input = (input, reads);
  output = (output, writes);
})
