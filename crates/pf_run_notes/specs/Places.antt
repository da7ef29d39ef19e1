-- The place of a record in a file.
use Rattle.std.specs.Prelude.{ℕ, List}
use Rattle.pf_message.specs.Form.{position_front}
use Rattle.pf_run_notes.specs.declared.place.Place.{Place}

-- `FILE:LINE:COLUMN: `
abbrev pub place_text : List ℕ → Place → List ℕ
place_text file place = position_front file (record { line = place.line; column = place.column })
