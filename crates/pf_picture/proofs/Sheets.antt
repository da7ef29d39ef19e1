-- The blocks of a picture, one below the other.
use Rattle.std.proofs.Common.{◌≡◌, ◌∙◌, ℕ, suc, ◌+◌, ◌-◌, ◌<◌, ◌≤◌, List, ◌++◌, length, ap, append_assoc, arith}
use Rattle.std.specs.List.{range_with_len}
use Rattle.pf_desk.specs.Desk.{Seen}
use Rattle.pf_picture.specs.Grid.{block_front, shift_text}
use Rattle.pf_picture.specs.Left.{blocks_behind}
use Rattle.pf_picture.specs.Picture.{blocks_from, rows_text}
use Rattle.pf_picture.specs.Rows.{block_height}
use Rattle.pf_picture.specs.Scale.{Measures, block_of, blocks_of, first_top}
use Rattle.pf_picture.specs.Shown.{TaskDrawings}

-- Use: one block, and those below it.
pub blocks_next : (seen : Seen) (s : Measures) (wrap : ℕ) (drawings : TaskDrawings) (k offset : ℕ) → k < blocks_of s wrap →
    blocks_behind seen s wrap drawings k offset
    ≡ block_front (block_of s wrap k) offset (block_height (block_of s wrap k) drawings.shown)
    ++ (rows_text seen (block_of s wrap k) drawings 0 0 (first_top s)
    ++ blocks_behind seen s wrap drawings (k + 1) (offset + block_height (block_of s wrap k) drawings.shown))
blocks_next seen s wrap drawings k offset some =
    let block = block_of s wrap k in
    ap (λ n. blocks_from seen s wrap drawings offset (range_with_len k n)) (let z : blocks_of s wrap - k ≡ suc (blocks_of s wrap - (k + 1)) = omega arith in z)
    ∙ append_assoc (block_front block offset (block_height block drawings.shown)) (rows_text seen block drawings 0 0 (first_top s))
    (blocks_behind seen s wrap drawings (k + 1) (offset + block_height block drawings.shown))

-- Use: a block begins with a line.
pub front_some : (s : Measures) (offset height : ℕ) (text : List ℕ) → text ≡ block_front s offset height → 1 ≤ length text
unfolding block_front shift_text
front_some s offset height text is = omega (arith, ap length is)
