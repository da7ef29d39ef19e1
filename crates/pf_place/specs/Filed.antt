-- How rows are filed: full blocks, which other rows may share, and a last one after them.
use Rattle.std.specs.Prelude.{◌≡◌, ◌^◌, ◌≤◌, ◌<◌, Option, List, length}
use Rattle.std.specs.List.{All}
use Rattle.pf_order.specs.declared.pick.Pick.{Pick}
use Rattle.pf_place.specs.Blocks.{Held, HasRoomFor}

-- each full block has 64 rows, and the last one at most as many. The last row is in the last block, which has room to
-- take over any full one: so a row can be taken off without memory.
pub record AreFiled (full : List (List (List (Option Pick)))) (last : Held) : Type 0 where
  pub whole : All (λ rows. length rows ≡ 64) full
  pub part : length last.rows ≤ 64
  pub some : 0 < length full → 0 < length last.rows
  pub room : All (HasRoomFor last) full
  pub few : length full ≤ 2 ^ 54
