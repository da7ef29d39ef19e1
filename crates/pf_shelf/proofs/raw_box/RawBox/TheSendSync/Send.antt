-- A box that was taken apart may go where the box may.
use mir.Raw.{raw}
use base.Fraction.{full_share}
use base.Shift.{Keyless}
use denote.RattleType.{RattleType}
use denote.Memory.{lone}
use denote.RawPtr.{Ptr, block_ptr, null_ptr}
use denote.Exit.{Exit, unchanged, leaves, hidden, under}
use denote.Struct.Struct.{exits_of}
use denote.Struct.Owning.{shape, fields, to}
use denote.Param.Send.{IsSend, AllSend, Quiet, Frees, part_keyless, owning_send, struct_send, sendable}
use Rattle.std.specs.declared.alloc.Allocator.{Ghosts}
use Rattle.std.specs.Box.Ownership.{box_owns}
use Rattle.pf_shelf.specs.contracts.raw_box.RawBox.{the_row, the_type}

quiet : {D X : Type 0} (to : D → X) (e : Exit X) → Quiet e → Quiet (hidden (under to e))
quiet to unchanged q = λ x w. tt
quiet to (leaves L l S s r₀) q = λ d. q (to d)

owned : (T A : RattleType) (g : Ghosts A.Denot) → IsSend T → Frees g g.dealloc_token → (a : A.Denot) (p : Ptr) (x : T.Denot) → Keyless (box_owns (g.dealloc_token a) T p x)
owned T A g s f a (block_ptr b o) x = (part_keyless T s full_share x b o, f.frees a (raw (lone T.mir)) (block_ptr b o))
owned T A g s f a null_ptr x = (tt, f.frees a (raw (lone T.mir)) null_ptr)

pub send : (T A : RattleType) (g : Ghosts A.Denot) → IsSend T → IsSend A → Frees g g.dealloc_token → IsSend (the_row T A g)
send T A g s sa f =
    let ty = the_type T A g in
    let all : AllSend (fields ty) = (search sendable, (sa, tt)) in
    owning_send ty all (λ d. owned T A g s f d.alloc d.at d.value)
    (λ k. quiet (to ty) (exits_of k (fields ty)) ((struct_send (shape ty) all).leaving k))
