-- The row of a step.
use Rattle.std.proofs.Common.{◌≡◌, [], ◌∷◌, refl, codes, Some}
use Rattle.csv.specs.Machine.{next_record}
use Rattle.csv.specs.Reading.{records_from, strip_bom}
use Rattle.csv.specs.Records.{trim_end, trim_start}
use Rattle.pf_session_lines.specs.Lines.{fields_in, parted}

-- Use: its line has one field.
pub step_fields : fields_in (codes "step") ≡ Some (codes "step" ∷ [])
unfolding parted next_record records_from strip_bom trim_end trim_start
step_fields = refl
