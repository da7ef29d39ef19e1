-- What a block of a picture is measured by, and where things stand in it.
use Rattle.std.specs.Prelude.{ℕ, ◌+◌, ◌-◌, ◌*◌, ◌/◌, ◌^◌, ◌≤◌, max, min, nat_le, Option, [], ◌∷◌, find}
use Rattle.std.specs.Int.{div_ceil}
use Rattle.std.specs.Option.{option_map_or, unwrap_or}
use Rattle.pf_vocabulary.specs.declared.names.slot_length.SlotLength.{SlotLength}
use Rattle.pf_vocabulary.specs.declared.look.style.Style.{Style}

-- the slots from `from` to `to`, each `cell` wide, and what stands to their left; the picture's width; every so many slots
-- one is numbered; so many processors; the greatest lag in whole quanta; how the tasks are drawn; and how long a slot is,
-- where that is told
pub record Measures : Type 0 where
  pub from : ℕ
  pub to : ℕ
  pub cell : ℕ
  pub gutter : ℕ
  pub width : ℕ
  pub step : ℕ
  pub processors : ℕ
  pub strips : ℕ
  pub style : Style
  pub slot : Option SlotLength

-- what holds of every picture's
pub record IsMeasures (s : Measures) : Type 0 where
  pub range : s.from ≤ s.to
  pub short : s.to ≤ s.from + 4096
  pub early : s.to ≤ 2 ^ 22
  pub wide : 6 ≤ s.cell
  pub narrow : s.cell ≤ 40
  pub gutter : 96 ≤ s.gutter
  pub left : s.gutter ≤ 2 ^ 80
  pub width : 400 ≤ s.width
  pub right : s.width ≤ 2 ^ 81
  pub step : 1 ≤ s.step
  pub processors : s.processors ≤ 64
  pub strips : 1 ≤ s.strips

-- the left edge of slot t
abbrev pub x_of : Measures → ℕ → ℕ
x_of s t = s.gutter + s.cell * (t - s.from)

-- the width of a picture with so many slots side by side
abbrev pub width_with : ℕ → ℕ → ℕ → ℕ
width_with gutter cell slots = max (gutter + 16 + cell * slots) 400

-- every so many slots one is numbered, so that the numbers are 40 apart and there is room for one of so many digits
abbrev pub step_with : ℕ → ℕ → ℕ
step_with cell digits =
    unwrap_or (find (λ step. nat_le (max 40 (6 * digits + 6)) (step * cell)) (5 ∷ 10 ∷ 20 ∷ 50 ∷ 100 ∷ [])) 100

-- the time of slot t, in the unit of the slot's length, or its number
abbrev pub time_in : Option SlotLength → ℕ → ℕ
time_in slot t = option_map_or (λ l. t * l.length) slot t

-- how far the box of a quantum stands inside its slot
abbrev pub inset_of : Measures → ℕ
inset_of s = s.cell / 5

-- the top of a processor's row, and that of the first task
abbrev pub processor_top : ℕ → ℕ
processor_top p = 44 + 20 * p

abbrev pub first_top : Measures → ℕ
first_top s = 56 + 20 * s.processors

-- a block of so many slots at most: the one of this place; there is one where no slot is shown
abbrev pub block_of : Measures → ℕ → ℕ → Measures
block_of s wrap k = record {
  from = s.from + wrap * k;
  to = min (s.from + wrap * k + wrap) s.to;
  cell = s.cell;
  gutter = s.gutter;
  width = s.width;
  step = s.step;
  processors = s.processors;
  strips = s.strips;
  style = s.style;
  slot = s.slot;
}

abbrev pub blocks_of : Measures → ℕ → ℕ
blocks_of s wrap = max 1 (div_ceil (s.to - s.from) wrap)

-- so many items of the legend stand side by side
abbrev pub columns_of : Measures → ℕ
columns_of s = (s.width - 16) / 172

-- the picture's height, where its blocks end
abbrev pub page_height : Measures → ℕ → ℕ
page_height s end = end + 44 + 16 * div_ceil 12 (columns_of s)
