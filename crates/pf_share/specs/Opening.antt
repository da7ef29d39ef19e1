-- A desk that was just opened.
use Rattle.std.specs.Prelude.{ℕ, zero, suc, ◌≡◌, ◌⊎◌, ◌<◌, List, [], ◌∷◌, ◌++◌}
use Rattle.logbook.specs.Pages.{Book}
use Rattle.pf_scenario.specs.System.{System}
use Rattle.pf_scenario.specs.Limits.{largest_distance}
use Rattle.pf_desk.specs.declared.entry.Entry.{Entry}
use Rattle.pf_desk.specs.Desk.{Shown}
use Rattle.pf_desk.specs.declared.fault.OpenFault.{OpenFault as DeskFault}
use Rattle.pf_desk.specs.declared.fault.OpenFault.TheVariants as desk
use Rattle.pf_board.specs.Passes.{Boarding, Passing}
use Rattle.pf_share.specs.declared.blank.TheConstants.{MOST_PASSES, MOST_READERS}
use Rattle.pf_share.specs.declared.fault.OpenFault.{OpenFault}
use Rattle.pf_share.specs.declared.fault.OpenFault.TheVariants.{BadSettings, NoMemory}
use Rattle.pf_share.specs.Stories.{Origin}
use Rattle.pf_share.specs.Reads.{Viewing, new_viewer}

-- so many viewers that read nothing yet
abbrev pub new_viewers : Origin → ℕ → List Viewing
new_viewers origin zero = []
new_viewers origin (suc n) = new_viewers origin n ++ new_viewer origin ∷ []

-- the number is not from 1 to most
abbrev pub IsBeyond : ℕ → ℕ → Type 0
IsBeyond most n = (n ≡ 0) ⊎ (most < n)

-- the distance of checkpoints, or the number of passes or readers, is out of its limits
abbrev pub IsBadOpening : (every passes readers : ℕ) → Type 0
IsBadOpening every passes readers = IsBeyond MOST_PASSES passes ⊎ (IsBeyond MOST_READERS readers ⊎ IsBeyond largest_distance every)

-- a desk that has no name yet: its board and book, what the desk shows, its passes and viewers
pub record Opening : Type 0 where
  pub board : Boarding System
  pub book : Book
  pub desk : Shown
  pub passes : List (Passing Entry System)
  pub viewers : List Viewing

-- what a desk's fault is to who opens a shared one
abbrev pub fault_of_desk : DeskFault → OpenFault
fault_of_desk desk.BadSettings = BadSettings
fault_of_desk desk.NoMemory = NoMemory
