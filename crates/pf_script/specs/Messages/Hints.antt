-- What would be right in place of a bad record of version 1 or 2.
use Rattle.std.specs.Prelude.{ℕ, ◌-◌, ◌&&◌, ◌||◌, Bool, true, false, not, nat_le, is_some, if◌then◌else◌, List, [], length, codes, nat_eq}
use Rattle.std.specs.List.{starts_with}
use Rattle.std.specs.Str.{bytes_eq}
use Rattle.csv.specs.Records.{trimmed}
use Rattle.pf_text.specs.Numbers.{number_of}
use Rattle.pf_vocabulary.specs.Names.Text.{is_text}
use Rattle.pf_script.specs.declared.fault.Reason.{Reason}
use Rattle.pf_script.specs.declared.fault.Reason.TheVariants.{NoRecord, NoChange, NoEvent, NoSettings, LateSettings, NoVersion, NoNumber, Fields, StepFields}
use Rattle.pf_script.specs.declared.fault.RecordFault.{RecordFault}
use Rattle.pf_script.specs.declared.messages.hint.HintScope.{HintScope}
use Rattle.pf_script.specs.declared.messages.kind.ScriptKind.{ScriptKind}
use Rattle.pf_script.specs.declared.messages.kind.ScriptKind.TheVariants as kind
use Rattle.pf_script.specs.declared.version.Version.{Version}
use Rattle.pf_script.specs.declared.version.Version.TheVariants.{First, Second}
use Rattle.pf_script.specs.Fields.{field}
use Rattle.pf_script.specs.Messages.Forms.{field_name, settings_form}
use Rattle.pf_script.specs.Messages.Texts.{is_missing}
use Rattle.pf_script.specs.Messages.WordHints.{has_byte, is_plan_word, word_hint}
use Rattle.pf_script.specs.Messages.Words.{change_words, event_words, record_words}

abbrev pub kind_of : Version → ScriptKind
kind_of First = kind.First
kind_of Second = kind.Second

-- that the record has another number of fields
abbrev pub is_count : Reason → Bool
is_count (Fields count) = true
is_count StepFields = true
is_count other = false

-- that a word is none
abbrev pub is_of_word : Reason → Bool
is_of_word (NoRecord version) = true
is_of_word (NoChange version) = true
is_of_word (NoEvent version) = true
is_of_word NoSettings = true
is_of_word LateSettings = true
is_of_word other = false

-- whether the fault lies in the record's last field, or in how many there are
abbrev pub is_at_end : Bool → List (List ℕ) → ℕ → Bool
is_at_end count fields number = count || nat_le (length fields) number

abbrev pub begins_comment : List ℕ → Bool
begins_comment at = starts_with nat_eq at (codes "#")

-- whether a comment stands in the field at fault, which is no word, or is the first one too much
abbrev pub has_comment : List ℕ → Reason → Bool
has_comment at reason = if is_of_word reason then false else if is_count reason then begins_comment at else has_byte 35 at

-- a word that a plan has, and not version 1 or 2 as it stands
abbrev pub is_plans_own : List ℕ → Bool
is_plans_own word =
    bytes_eq word (codes "slot") || bytes_eq word (codes "name") || bytes_eq word (codes "label") || bytes_eq word (codes "plan")
    || bytes_eq word (codes "limit")

abbrev pub is_word_of_plan : List ℕ → Bool
is_word_of_plan at =
    begins_comment at || (is_plan_word (trimmed at) && (not (bytes_eq (trimmed at) at) || is_plans_own (trimmed at)))

-- a field that has a meaning in a plan: a number between blanks, a name or a label, `full`
abbrev pub is_task_or_event : List ℕ → Bool
is_task_or_event name = bytes_eq name (codes "TASK") || bytes_eq name (codes "ID")

abbrev pub is_value_of_plan : List ℕ → List ℕ → Bool
is_value_of_plan name at =
    is_some (number_of (trimmed at)) || (is_task_or_event name && is_text at)
    || (bytes_eq name (codes "CAP") && bytes_eq at (codes "full"))

-- a field that may be left out in a plan
abbrev pub may_be_missing : List ℕ → Bool
may_be_missing name = bytes_eq name (codes "CAP") || bytes_eq name (codes "EVERY") || bytes_eq name (codes "EARLY")

abbrev pub is_reason_of_plan : List ℕ → List ℕ → Reason → Bool
is_reason_of_plan name at (NoRecord version) = is_word_of_plan at
is_reason_of_plan name at (NoChange version) = is_word_of_plan at
is_reason_of_plan name at (NoEvent version) = is_word_of_plan at
is_reason_of_plan name at NoNumber = is_value_of_plan name at
is_reason_of_plan name at other = false

-- whether the record would be right in a plan
abbrev pub is_of_plan : List (List ℕ) → List ℕ → List ℕ → RecordFault → Bool
is_of_plan fields name at fault =
    if is_missing fields fault then may_be_missing name else is_reason_of_plan name at fault.reason

-- by the reason
unfoldable pub reason_hint : Bool → List ℕ → Reason → List ℕ
reason_hint seeks at (NoRecord version) = word_hint seeks at (record_words (kind_of version))
reason_hint seeks at (NoChange version) = word_hint seeks at (change_words (kind_of version))
reason_hint seeks at (NoEvent version) = word_hint seeks at (event_words (kind_of version))
reason_hint seeks at NoVersion = codes "a plan begins with plan,1"
reason_hint seeks at NoSettings = settings_form false
reason_hint seeks at other = []

abbrev pub quote_hint : List ℕ
quote_hint = codes "the quote that begins here is not closed"

abbrev pub comment_hint : List ℕ
comment_hint = codes "a comment has a line of its own"

-- nothing where nothing can be said
unfoldable pub hint_text : HintScope → List (List ℕ) → RecordFault → List ℕ
hint_text scope fields fault =
    if scope.is_quote_open && is_at_end (is_count fault.reason) fields fault.field then quote_hint
    else if has_comment (field fields (fault.field - 1)) fault.reason then comment_hint
    else if is_of_plan fields (field_name false fields fault.field) (field fields (fault.field - 1)) fault
    then codes "in a plan this is right: let the first line be plan,1"
    else reason_hint scope.seeks_near (field fields (fault.field - 1)) fault.reason
