-- A `&` to it holds a part of what it owns, which any thread may have.
use denote.RattleType.{RattleType}
use denote.Param.Send.{IsSend, IsSync, Frees, part_keyless}
use Rattle.std.specs.declared.alloc.Allocator.{Ghosts}
use Rattle.pf_shelf.specs.contracts.raw_box.RawBox.{the_row}
use Rattle.pf_shelf.proofs.raw_box.RawBox.TheSendSync.Send.{send}

pub sync : (T A : RattleType) (g : Ghosts A.Denot) → IsSend T → IsSend A → Frees g g.dealloc_token → IsSync (the_row T A g)
sync T A g s sa f = record { shared = λ d b o ν q. part_keyless (the_row T A g) (send T A g s sa f) q d b o }
