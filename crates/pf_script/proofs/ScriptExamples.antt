-- Corners of scripts, computed from the definition.
use Rattle.std.proofs.Common.{◌≡◌, [], ◌∷◌, refl, codes}
use Rattle.csv.specs.Machine.{next_record}
use Rattle.csv.specs.Reading.{records_from, strip_bom}
use Rattle.pf_script.specs.Script.{script_records}

-- an open quote at the end of the input still gives a record
pub open-quote : script_records (codes "step,\"1") ≡ (codes "step" ∷ codes "1" ∷ []) ∷ []
unfolding next_record records_from strip_bom
open-quote = refl

-- what follows the closing quote belongs to the field
pub after-quote : script_records (codes "\"1\"0") ≡ (codes "10" ∷ []) ∷ []
unfolding next_record records_from strip_bom
after-quote = refl

-- a quote inside a plain field is a byte of it
pub inner-quote : script_records (codes "s\"tep") ≡ (codes "s\"tep" ∷ []) ∷ []
unfolding next_record records_from strip_bom
inner-quote = refl

-- two quotes alone are a record of one empty field
pub empty-field : script_records (codes "\"\"\n") ≡ ([] ∷ []) ∷ []
unfolding next_record records_from strip_bom
empty-field = refl

-- a line of one space is a record
pub space : script_records (codes " \n") ≡ (codes " " ∷ []) ∷ []
unfolding next_record records_from strip_bom
space = refl

-- empty lines are no records, and a record ends at LF, CR or CR LF
pub lines-end : script_records (codes "\n\r\na,b\rc\r\n\n\nd\n") ≡ (codes "a" ∷ codes "b" ∷ []) ∷ (codes "c" ∷ []) ∷ (codes "d" ∷ []) ∷ []
unfolding next_record records_from strip_bom
lines-end = refl

-- one byte order mark is dropped, and a second one stays in the first field
pub one-mark : script_records (0xEF ∷ 0xBB ∷ 0xBF ∷ codes "step") ≡ (codes "step" ∷ []) ∷ []
unfolding next_record records_from strip_bom
one-mark = refl

pub two-marks : script_records (0xEF ∷ 0xBB ∷ 0xBF ∷ 0xEF ∷ 0xBB ∷ 0xBF ∷ codes "step") ≡ ((0xEF ∷ 0xBB ∷ 0xBF ∷ codes "step") ∷ []) ∷ []
unfolding next_record records_from strip_bom
two-marks = refl

-- a mark alone is a script of no record, and so is no byte at all
pub mark-alone : script_records (0xEF ∷ 0xBB ∷ 0xBF ∷ []) ≡ []
unfolding next_record records_from strip_bom
mark-alone = refl

pub no-byte : script_records [] ≡ []
unfolding next_record records_from strip_bom
no-byte = refl
