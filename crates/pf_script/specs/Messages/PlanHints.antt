-- What would be right in place of a bad record of a plan.
use Rattle.std.specs.Prelude.{ℕ, ◌-◌, ◌&&◌, Bool, true, false, not, nat_lt, unwrap_or, None, if◌then◌else◌, List, [], ◌∷◌, ◌++◌, length, map, codes, nat_eq}
use Rattle.std.specs.Fmt.{decimal}
use Rattle.std.specs.List.{ends_with, list_all, list_any}
use Rattle.pf_message.specs.Nearness.{near_name}
use Rattle.pf_vocabulary.specs.Names.Text.{is_letter_first, is_text_byte}
use Rattle.pf_vocabulary.specs.declared.names.named.Named.{Named}
use Rattle.pf_script.specs.declared.messages.hint.HintScope.{HintScope}
use Rattle.pf_script.specs.declared.messages.kind.ScriptKind.TheVariants.{Plan}
use Rattle.pf_script.specs.declared.plan.fault.Reason.{Reason}
use Rattle.pf_script.specs.declared.plan.fault.Reason.TheVariants.{NoRecord, NoVersion, NoChange, NoEvent, NoSettings, LateSettings, LateSlot, Fields, JoinFields, StepFields, SettingsFields, NoUnit, NoName, NoTask, NoLabel, LabelUnknown}
use Rattle.pf_script.specs.declared.plan.fault.RecordFault.{RecordFault}
use Rattle.pf_script.specs.declared.plan.labels.Labelled.{Labelled}
use Rattle.pf_script.specs.Fields.{field}
use Rattle.pf_script.specs.Messages.Forms.{settings_form}
use Rattle.pf_script.specs.Messages.Hints.{begins_comment, comment_hint, is_at_end, quote_hint}
use Rattle.pf_script.specs.Messages.WordHints.{has_byte, word_hint}
use Rattle.pf_script.specs.Messages.Words.{change_words, event_words, record_words}

-- that the record has another number of fields
abbrev pub is_count : Reason → Bool
is_count (Fields count) = true
is_count (JoinFields least) = true
is_count StepFields = true
is_count SettingsFields = true
is_count other = false

-- that a word is none, or stands in the wrong place
abbrev pub is_of_word : Reason → Bool
is_of_word NoRecord = true
is_of_word NoChange = true
is_of_word NoEvent = true
is_of_word NoSettings = true
is_of_word LateSettings = true
is_of_word LateSlot = true
is_of_word other = false

-- whether a comment stands in the field at fault, which is no word, or is the first one too much
abbrev pub has_comment : List ℕ → Reason → Bool
has_comment at reason = if is_of_word reason then false else if is_count reason then begins_comment at else has_byte 35 at

-- the near one of some names, where that is sought, or else this
abbrev pub near_or : Bool → List ℕ → List (List ℕ) → List ℕ → List ℕ
near_or seeks at names other = unwrap_or (if seeks then near_name at names else None) other

abbrev pub unit_words : List (List ℕ)
unit_words = codes "ns" ∷ codes "us" ∷ codes "ms" ∷ codes "s" ∷ []

-- a name or a label but for its length
abbrev pub is_long_text : List ℕ → Bool
is_long_text at = nat_lt 24 (length at) && is_letter_first at && list_all is_text_byte at && not (ends_with nat_eq at (codes " "))

abbrev pub is_above_ascii : ℕ → Bool
is_above_ascii byte = nat_lt 126 byte

unfoldable pub length_hint : ℕ → List ℕ
length_hint count = codes "it has " ++ decimal count ++ codes " bytes, and 24 are the most"

-- in place of what is no name and no label
abbrev pub text_hint : List ℕ → List ℕ
text_hint at =
    if is_long_text at then length_hint (length at)
    else if list_any is_above_ascii at then codes "letters are A to Z and a to z" else []

-- the names and labels that were given before
abbrev pub name_texts : List Named → List (List ℕ)
name_texts names = map (λ n. n.name) names

abbrev pub label_texts : List Labelled → List (List ℕ)
label_texts labels = map (λ l. l.name) labels

-- by the reason
unfoldable pub reason_hint : Bool → List Named → List Labelled → List ℕ → Reason → List ℕ
reason_hint seeks names labels at NoRecord = word_hint seeks at (record_words Plan)
reason_hint seeks names labels at NoChange = word_hint seeks at (change_words Plan)
reason_hint seeks names labels at NoEvent = word_hint seeks at (event_words Plan)
reason_hint seeks names labels at NoVersion = codes "a plan begins with plan,1"
reason_hint seeks names labels at NoSettings = settings_form true
reason_hint seeks names labels at NoUnit = near_or seeks at unit_words []
reason_hint seeks names labels at NoTask =
    near_or seeks at (name_texts names) (codes "a name is given by name,TASK,TEXT, in a line before")
reason_hint seeks names labels at LabelUnknown =
    near_or seeks at (label_texts labels) (codes "a label is given by label,TEXT,EVENT, in a line before")
reason_hint seeks names labels at NoName = text_hint at
reason_hint seeks names labels at NoLabel = text_hint at
reason_hint seeks names labels at other = []

-- nothing where nothing can be said
unfoldable pub hint_text : HintScope → List Named → List Labelled → List (List ℕ) → RecordFault → List ℕ
hint_text scope names labels fields fault =
    if scope.is_quote_open && is_at_end (is_count fault.reason) fields fault.field then quote_hint
    else if has_comment (field fields (fault.field - 1)) fault.reason then comment_hint
    else reason_hint scope.seeks_near names labels (field fields (fault.field - 1)) fault.reason
