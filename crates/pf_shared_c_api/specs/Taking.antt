-- What takes do, and how C gets a quantum.
use Rattle.std.specs.Prelude.{ℕ, ◌≡◌, [], ◌∷◌, ◌++◌, length}
use mathlib.Core.List.{IsPrefix}
use Rattle.pf_board.specs.declared.quantum.Quantum.{Quantum}
use Rattle.pf_board.specs.declared.take.Take.{Take}
use Rattle.pf_board.specs.declared.take.Take.TheVariants.{Got, Empty, Gone, NoProcessor}
use Rattle.pf_board.specs.Passes.{IsFront}
use Rattle.pf_board.specs.Takes.{Takes}
use Rattle.pf_desk_board.specs.Histories.{IsHistory, quanta_of}
use Rattle.pf_shared_desk.specs.Calling.{Calling, TakesIn}
use Rattle.pf_shared_desk.specs.declared.slot_take.SlotTake.{SlotTake}
use Rattle.pf_shared_desk.specs.declared.slot_take.SlotTake.TheVariants.{NotYet, Past, Found}
use Rattle.pf_c_forms.specs.declared.status.TheConstants.{OK, OUT_OF_RANGE, NOTHING, NOT_YET}
use Rattle.pf_shared_c_api.specs.declared.raw_quantum.RawQuantum.{RawQuantum}

abbrev pub raw_quantum : Quantum → RawQuantum
raw_quantum q = record { slot = q.slot; processor = q.processor; task = q.task; sub = q.sub }

abbrev pub status_of_take : Take → ℕ
status_of_take (Got quantum) = OK
status_of_take Empty = NOTHING
status_of_take Gone = NOTHING
status_of_take NoProcessor = OUT_OF_RANGE

-- what C's quantum is after a take: that which was got, or as before
abbrev pub quantum_after_take : RawQuantum → Take → RawQuantum
quantum_after_take before (Got quantum) = raw_quantum quantum
quantum_after_take before Empty = before
quantum_after_take before Gone = before
quantum_after_take before NoProcessor = before

-- the status of a take in a slot: where a later one is stepped already, there is nothing to take in it
abbrev pub status_of_slot_take : SlotTake → ℕ
status_of_slot_take NotYet = NOT_YET
status_of_slot_take Past = NOTHING
status_of_slot_take (Found take) = status_of_take take

abbrev pub quantum_after_slot_take : RawQuantum → SlotTake → RawQuantum
quantum_after_slot_take before NotYet = before
quantum_after_slot_take before Past = before
quantum_after_slot_take before (Found take) = quantum_after_take before take

-- the caller of the same board has seen at least what it had
pub record GoesOn (before after : Calling) : Type 0 where
  pub board : after.board ≡ before.board
  pub seen : IsPrefix before.pass.seen after.pass.seen

-- the caller took the processor's quantum, or found none, and C is told which
abbrev pub TakesAt : ℕ → ℕ → RawQuantum → RawQuantum → Calling → Calling → Type 0
TakesAt processor status quantum now before after =
    GoesOn before after
    × ((take : Take) × Takes IsHistory quanta_of before.board.processors processor before.pass take after.pass
    × (status ≡ status_of_take take) × (now ≡ quantum_after_take quantum take))

-- the same in a slot
abbrev pub TakesInAt : ℕ → ℕ → RawQuantum → RawQuantum → Calling → Calling → Type 0
TakesInAt processor status quantum now before after =
    GoesOn before after
    × ((take : SlotTake) × TakesIn before.board.processors processor before.pass take after.pass
    × (status ≡ status_of_slot_take take) × (now ≡ quantum_after_slot_take quantum take))

-- the caller has seen the whole history, and C is told how many entries it has
abbrev pub LooksAt : ℕ → ℕ → Calling → Calling → Type 0
LooksAt status entries before after =
    (status ≡ OK) × GoesOn before after × (entries ≡ length after.pass.seen) × IsFront IsHistory after.pass
    × (after.pass ≡ record before.pass { seen = after.pass.seen; loads = before.pass.loads ++ (0, entries) ∷ [] })
