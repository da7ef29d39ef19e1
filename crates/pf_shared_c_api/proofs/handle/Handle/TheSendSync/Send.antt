-- A handle may go to another thread, as its desk may.
use Rattle.std.proofs.Common.{Option, None, Some}
use mir.Raw.{raw}
use base.Fraction.{full_share}
use base.Shift.{Keyless}
use denote.RattleType.{RattleType}
use denote.Memory.{lone}
use denote.RawPtr.{Ptr, block_ptr, null_ptr}
use denote.Exit.{Exit, unchanged, leaves, hidden, under}
use denote.Struct.Struct.{exits_of}
use denote.Struct.Owning.{shape, fields, to}
use denote.Param.Send.{IsSend, AllSend, Quiet, part_keyless, owning_send, struct_send, sendable}
use Rattle.std.proofs.Crossing.{frees}
use Rattle.pf_c_forms.specs.Kept.{kept_at}
use Rattle.pf_shared_c_api.specs.contracts.content.Content as content
use Rattle.pf_shared_c_api.proofs.Crossing.{content_send}
use Rattle.pf_shared_c_api.specs.contracts.handle.Handle.{the_row, the_type}

quiet : {D X : Type 0} (to : D → X) (e : Exit X) → Quiet e → Quiet (hidden (under to e))
quiet to unchanged q = λ x w. tt
quiet to (leaves L l S s r₀) q = λ d. q (to d)

kept_keyless : (R : RattleType) → IsSend R → (p : Ptr) (x : Option R.Denot) → Keyless (kept_at R p x)
kept_keyless R s p None = tt
kept_keyless R s (block_ptr b o) (Some x) = (part_keyless R s full_share x b o, frees.frees (record { memory = record { seal = tt } }) (raw (lone R.mir)) (block_ptr b o))
kept_keyless R s null_ptr (Some x) = (tt, frees.frees (record { memory = record { seal = tt } }) (raw (lone R.mir)) null_ptr)

pub send : IsSend the_row
send =
    let all : AllSend (fields the_type) = (search sendable, tt) in
    owning_send the_type all (λ d. kept_keyless content.the_row content_send d.at d.value)
    (λ k. quiet (to the_type) (exits_of k (fields the_type)) ((struct_send (shape the_type) all).leaving k))
