-- How wide a slot of a picture is, and how many slots stand side by side.
use Rattle.std.specs.Prelude.{ℕ, ◌≤◌, Bool, ◌&&◌, nat_le, if◌then◌else◌, Option, Some, None}
use Rattle.pf_vocabulary.specs.declared.look.cell.TheConstants.{NARROWEST, WIDEST, USUAL}
use Rattle.pf_vocabulary.specs.declared.look.wrap.TheConstants.{MOST_SLOTS}

-- what holds of every width: it is between the narrowest and the widest
pub record IsCell (width : ℕ) : Type 0 where
  pub least : NARROWEST ≤ width
  pub most : width ≤ WIDEST

abbrev pub is_cell : ℕ → Bool
is_cell width = nat_le NARROWEST width && nat_le width WIDEST

-- the width, where it is one that a slot may have
abbrev pub cell_of : ℕ → Option ℕ
cell_of width = if is_cell width then Some width else None

-- the width where nothing is said of it
abbrev pub usual_cell : ℕ
usual_cell = USUAL

-- what holds of every length of a block: it has a slot, and no more than a picture may show
pub record IsWrap (slots : ℕ) : Type 0 where
  pub some : 1 ≤ slots
  pub most : slots ≤ MOST_SLOTS

abbrev pub is_wrap : ℕ → Bool
is_wrap slots = nat_le 1 slots && nat_le slots MOST_SLOTS

-- the length, where it is one that a block may have
abbrev pub wrap_of : ℕ → Option ℕ
wrap_of slots = if is_wrap slots then Some slots else None

-- the length where nothing is said of it: all slots of a picture stand in one block
abbrev pub usual_wrap : ℕ
usual_wrap = MOST_SLOTS
