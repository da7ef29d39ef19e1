-- What a file is that is no script.
use Rattle.std.specs.Prelude.{ℕ, ◌==◌, ◌&&◌, ◌||◌, Bool, false, nat_lt, nat_le, if◌then◌else◌, Option, None, Some, List, [], ◌∷◌, ◌++◌, take, length, codes, nat_eq}
use Rattle.std.specs.List.{list_any, starts_with}
use Rattle.csv.specs.Reading.{strip_bom}
use Rattle.pf_message.specs.Form.{position_front}
use Rattle.pf_script.specs.declared.check.file_kind.FileKind.{FileKind}
use Rattle.pf_script.specs.declared.check.file_kind.FileKind.TheVariants.{Wide, Binary, Empty, Blank}
use Rattle.pf_script.specs.declared.check.file_kind.TheConstants.{LOOKED_AT}
use Rattle.pf_script.specs.Messages.Lines.{FaultMessage, Telling, first_of, hint_if, plain_messages, plan_messages}
use Rattle.pf_script.specs.Check.Faults.{message_text}
use Rattle.pf_script.specs.PlanCheck.Checked.{faults as plan_faults, is_plan}
use Rattle.pf_script.specs.Script.{script_records}
use Rattle.pf_script.specs.Told.{faults}
use Rattle.pf_script.specs.declared.messages.telling.TheConstants.{NEAR_FAULTS}
use Rattle.pf_text.specs.Rows.Rows.{rows}

-- the mark of UTF-16
abbrev pub is_wide : List ℕ → Bool
is_wide script = starts_with nat_eq script (255 ∷ 254 ∷ []) || starts_with nat_eq script (254 ∷ 255 ∷ [])

-- a byte that no text has
abbrev pub is_binary : ℕ → Bool
is_binary byte = nat_lt byte 9 || (nat_le 14 byte && nat_le byte 31)

-- what a file is whose record 1 is bad, or that has none
abbrev pub kind_of : List ℕ → Bool → Option FileKind
kind_of script has_record =
    if is_wide script then Some Wide
    else if list_any is_binary (take LOOKED_AT script) then Some Binary
    else if length (strip_bom script) == 0 then Some Empty
    else if has_record then None else Some Blank

abbrev pub kind_text : FileKind → List ℕ
kind_text Wide = codes "it is UTF-16 text"
kind_text Binary = codes "it is no text"
kind_text Empty = codes "it is empty"
kind_text Blank = codes "it has no record"

abbrev pub kind_hint : FileKind → List ℕ
kind_hint Wide = codes "save it as UTF-8"
kind_hint Binary = []
kind_hint Empty = []
kind_hint Blank = []

-- that is told at the first byte
unfoldable pub kind_message : List ℕ → Bool → FileKind → FaultMessage
kind_message file hints kind = record {
  number = 1;
  lacks = false;
  what = position_front file (record { line = 1; column = 1 }) ++ kind_text kind;
  hint = hint_if hints (kind_hint kind);
}

-- how the faults of a file are told
abbrev pub telling_of : List ℕ → Bool → List ℕ → Telling
telling_of file hints script = record { file = file; script = script; hints = hints; near_left = NEAR_FAULTS }

-- the messages of all its records
abbrev pub record_messages : Telling → List FaultMessage
record_messages t =
    if is_plan (rows t.script) then plan_messages t (plan_faults (rows t.script)) else plain_messages t (faults t.script)

-- how many records it has
abbrev pub record_count : List ℕ → ℕ
record_count script = if is_plan (rows script) then length (rows script).rows else length (script_records script)

-- what the file is, where record 1 is bad or there is none
abbrev pub kind_by : List ℕ → Bool → Option FaultMessage → Option FileKind
kind_by script has_record None = None
kind_by script has_record (Some m) = if m.number == 1 then kind_of script has_record else None

-- whether it has a record
abbrev pub has_record : List ℕ → Bool
has_record script = nat_lt 0 (record_count script)

abbrev pub file_kind : List ℕ → Bool → List ℕ → Option FileKind
file_kind file hints script = kind_by script (has_record script) (first_of (record_messages (telling_of file hints script)))

-- that is told, or else the messages
abbrev pub kind_or : List ℕ → Bool → Option FileKind → List FaultMessage → List FaultMessage
kind_or file hints None messages = messages
kind_or file hints (Some kind) messages = kind_message file hints kind ∷ []

-- the messages of a script of any version
abbrev pub script_messages : List ℕ → Bool → List ℕ → List FaultMessage
script_messages file hints script = kind_or file hints (file_kind file hints script) (record_messages (telling_of file hints script))

-- the lines of the first
abbrev pub first_shown : Option FaultMessage → List ℕ
first_shown None = []
first_shown (Some m) = message_text m

abbrev pub first_text : List ℕ → Bool → List ℕ → List ℕ
first_text file hints script = first_shown (first_of (script_messages file hints script))
