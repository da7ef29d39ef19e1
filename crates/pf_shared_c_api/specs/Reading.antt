-- What readers read, and what C is told of a snapshot.
use Rattle.std.specs.Prelude.{ℕ, ◌≡◌, ◌⊎◌, ◌≤◌, Option, Some}
use Rattle.std.specs.Arc.{arc_value}
use Rattle.pf_desk.specs.Desk.{Seen}
use Rattle.pf_shared_desk.specs.Reading.{IsShown, Reading}
use Rattle.pf_c_forms.specs.declared.status.TheConstants.{OK, NOT_OPEN, NO_MEMORY, BUSY}
use Rattle.pf_shared_c_api.specs.declared.content.Content.{Content}
use Rattle.pf_shared_c_api.specs.declared.content.Content.TheVariants.{Reader, Snapshot}

-- this of the reader before and after, where the handle has one; else nothing, and the status tells it
abbrev pub ChangesReader : Option Content → ℕ → Option Content → (Reading → Reading → Type 0) → Type 0
ChangesReader (Some (Reader before)) status (Some (Reader after)) of_readers = of_readers before after
ChangesReader before status after of_readers = (status ≡ NOT_OPEN) × (after ≡ before)

-- what a call answers of the snapshot at a handle: that there is none, or what it says of it
abbrev pub TellsSnapshot : Option Content → ℕ → (Seen → Type 0) → Type 0
TellsSnapshot (Some (Snapshot s)) status of_seen = of_seen (arc_value s)
TellsSnapshot content status of_seen = status ≡ NOT_OPEN

-- the handle has a snapshot, of which this holds
abbrev pub HasSnapshot : Option Content → (Seen → Type 0) → Type 0
HasSnapshot (Some (Snapshot s)) of_seen = of_seen (arc_value s)
HasSnapshot content of_seen = ⊥

-- the snapshot stands for a legal history of the reader's desk, no shorter than the one that it read last
abbrev pub IsReadBy : Reading → Reading → Seen → Type 0
IsReadBy before after s = IsShown before.settings s × (before.version ≤ after.version) × (after.version ≡ s.version)

-- such a snapshot is at its handle; or there was nothing to read, or memory was refused
abbrev pub ReadsAt : ℕ → Option Content → Option Content → Reading → Reading → Type 0
ReadsAt status there showing before after =
    (after.settings ≡ before.settings)
    × (((status ≡ OK) × HasSnapshot showing (IsReadBy before after))
    ⊎ (((status ≡ BUSY) × (after ≡ before) × (showing ≡ there)) ⊎ ((status ≡ NO_MEMORY) × (showing ≡ there))))

-- this snapshot is at a handle; or memory was refused, and the handle is as before
abbrev pub IsPut : Seen → ℕ → Option Content → Option Content → Type 0
IsPut seen status there showing =
    ((status ≡ OK) × HasSnapshot showing (λ s. s ≡ seen)) ⊎ ((status ≡ NO_MEMORY) × (showing ≡ there))
