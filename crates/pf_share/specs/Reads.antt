-- What viewers have read: the readers' rule, and what its steps tell.
use Rattle.std.specs.Prelude.{ℕ, ◌≡◌, Option, Some, None, List, [], ◌∷◌}
use mathlib.Core.List.{IsPrefix}
use mathlib.Core.Option.{some}
use lib.ListN.{get_elem?}
use Rattle.pf_desk.specs.declared.entry.Entry.{Entry}
use Rattle.pf_desk.specs.Desk.{Seen, StandsForHistory}
use Rattle.pf_share.specs.declared.reads.Reads.{Reads}
use Rattle.pf_share.specs.Stories.{Origin, Stamped}

-- the snapshot stands for the numbered history, under its settings
pub record StandsForStamped (x : Stamped) (s : Seen) : Type 0 where
  pub stands : StandsForHistory x.history s
  pub settings : s.state.plan.settings ≡ x.origin.settings

abbrev pub nothing_read : Reads
nothing_read = record { seen = []; reads = []; known = [] }

-- what a seat knows fits what is shown: a history that goes on from what it saw, from where it knows of
pub record Fits (x : Stamped) (v : Reads) : Type 0 where
  pub seen : IsPrefix v.seen x.history
  pub origin : (s : Stamped) → v.known ≡ s ∷ [] → s.origin ≡ x.origin

-- the readers' rule
abbrev pub FitAll : Stamped → List Reads → Type 0
FitAll x views = (seat : ℕ) (v : Reads) → get_elem? views seat ≡ some v → Fits x v

-- a viewer sees this history, which begins with all that it had seen
pub record Sees (v : Reads) (x : Stamped) (reads : List ℕ) (w : Reads) : Type 0 where
  pub grew : IsPrefix v.seen x.history
  pub seen : w.seen ≡ x.history
  pub reads_are : w.reads ≡ reads
  pub known : w.known ≡ v.known
  pub origin : (s : Stamped) → v.known ≡ s ∷ [] → s.origin ≡ x.origin

-- the writer shows this history, and knows it
abbrev pub Publishes : Reads → Stamped → Reads → Type 0
Publishes v y w = w.known ≡ y ∷ []

-- v, told what w knows
abbrev pub knowing : Reads → Reads → Reads
knowing v w = record v { known = w.known }

-- a viewer: where its histories are from, the one that it read last, the one that it was told, and the versions that its reads found
pub record Viewing : Type 0 where
  pub origin : Origin
  pub read : List Entry
  pub told : List Entry
  pub reads : List ℕ

-- a viewer that read nothing yet
abbrev pub new_viewer : Origin → Viewing
new_viewer origin = record { origin = origin; read = []; told = []; reads = [] }

abbrev pub of_some : {A B : Type 0} → B → (A → B) → Option A → B
of_some b f None = b
of_some b f (Some x) = f x

-- a viewer's reader has seen all that the viewer read and was told, and knows where it is from
pub record IsViewer (read told : Stamped) (v : Reads) : Type 0 where
  pub origin_told : told.origin ≡ read.origin
  pub seen_read : IsPrefix read.history v.seen
  pub seen_told : IsPrefix told.history v.seen
  pub shown : Stamped
  pub known : v.known ≡ shown ∷ []
  pub origin_known : shown.origin ≡ read.origin

-- a seat knows where the history that is shown is from
pub record IsAcquainted (x : Stamped) (v : Reads) : Type 0 where
  pub shown : Stamped
  pub known : v.known ≡ shown ∷ []
  pub origin : shown.origin ≡ x.origin
