-- What is left of the blocks of a picture while they are handed out.
use Rattle.std.specs.Prelude.{◌≡◌, ℕ, ◌≤◌, ◌<◌, ◌+◌, ◌-◌, ◌*◌, ◌^◌, Option, Some, None, List, ◌++◌, codes, length}
use Rattle.std.specs.List.{range_with_len}
use Rattle.pf_desk.specs.Desk.{Seen}
use Rattle.pf_picture.specs.Picture.{blocks_from, rows_text}
use Rattle.pf_picture.specs.Rows.{block_height}
use Rattle.pf_picture.specs.Scale.{Measures, block_of, blocks_of}
use Rattle.pf_picture.specs.Shown.{TaskDrawings}
use Rattle.pf_picture.specs.declared.rows_left.Row.{Row}
use Rattle.pf_picture.specs.declared.rows_left.RowsLeft.{RowsLeft}

-- what a block has left
abbrev pub rows_after : Seen → Measures → TaskDrawings → RowsLeft → List ℕ
rows_after seen s drawings rows = rows_text seen s drawings rows.processor rows.place rows.top

-- no part begins above the first one, and none lower than those before it can make it
pub record IsLeft (rows : RowsLeft) : Type 0 where
  pub below : 56 ≤ rows.top
  pub above : rows.top ≤ 2 ^ 12 + 2 ^ 70 * rows.place

-- the first row of those, and what it leaves; or nothing but the block's end
abbrev pub IsNextRow : Seen → Measures → TaskDrawings → RowsLeft → Option Row → Type 0
IsNextRow seen s drawings rows None = rows_after seen s drawings rows ≡ codes "</g>\n"
IsNextRow seen s drawings rows (Some row) =
    (rows_after seen s drawings rows ≡ row.text.items ++ rows_after seen s drawings row.left) × (1 ≤ length row.text.items) × IsLeft row.left

-- the blocks from this place on, the first of which lies so far below the picture's top
abbrev pub blocks_behind : Seen → Measures → ℕ → TaskDrawings → ℕ → ℕ → List ℕ
blocks_behind seen s wrap drawings block offset = blocks_from seen s wrap drawings offset (range_with_len block (blocks_of s wrap - block))

-- where a block was begun, the rest of it, and those after it
abbrev pub blocks_left : Seen → Measures → ℕ → TaskDrawings → ℕ → ℕ → Option RowsLeft → List ℕ
blocks_left seen s wrap drawings block offset None = blocks_behind seen s wrap drawings block offset
blocks_left seen s wrap drawings block offset (Some rows) =
    rows_after seen (block_of s wrap block) drawings rows
    ++ blocks_behind seen s wrap drawings (block + 1) (offset + block_height (block_of s wrap block) drawings.shown)

-- a block that was begun is one of them
abbrev pub IsBegun : Measures → ℕ → ℕ → Option RowsLeft → Type 0
IsBegun s wrap block None = Unit {0}
IsBegun s wrap block (Some rows) = (block < blocks_of s wrap) × IsLeft rows

pub record AreBlocks (s : Measures) (wrap : ℕ) (drawings : TaskDrawings) (block offset : ℕ) (begun : Option RowsLeft) : Type 0 where
  pub some : 1 ≤ wrap
  pub most : wrap ≤ 4096
  pub few : length drawings.shown ≤ 4095
  pub within : block ≤ blocks_of s wrap
  pub below : offset ≤ 24 + 2 ^ 83 * block
  pub inside : IsBegun s wrap block begun
