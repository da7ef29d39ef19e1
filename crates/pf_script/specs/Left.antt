-- The lines that are left of a text.
use Rattle.std.specs.Prelude.{ℕ, if◌then◌else◌, List, [], drop}
use Rattle.pf_script.specs.declared.record_lines.RecordLines.{RecordLines}
use Rattle.pf_script.specs.Places.{lines_from, state_of}

-- from the byte on where it stands
abbrev pub lines_ahead : RecordLines → List ℕ
lines_ahead r = if r.ended then [] else lines_from (state_of r.place) r.line r.before (drop r.at r.bytes.now)

-- but for those passed
abbrev pub lines_left : RecordLines → List ℕ
lines_left r = drop r.passed (lines_ahead r)
