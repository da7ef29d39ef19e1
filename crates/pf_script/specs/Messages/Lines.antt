-- The messages of a script's faults, one after another.
use Rattle.std.specs.Prelude.{ℕ, ◌-◌, Bool, true, false, nat_lt, if◌then◌else◌, Option, None, Some, List, [], ◌∷◌, ◌++◌}
use Rattle.pf_message.specs.Form.{hint_line, position_front}
use Rattle.pf_message.specs.Positions.{end_position, field_position, is_quote_open}
use Rattle.pf_message.specs.declared.position.Position.{Position}
use Rattle.pf_script.specs.declared.fault.Reason.{Reason}
use Rattle.pf_script.specs.declared.fault.Reason.TheVariants.{NoSettings}
use Rattle.pf_script.specs.declared.plan.fault.Reason.{Reason as PlanReason}
use Rattle.pf_script.specs.declared.plan.fault.Reason.TheVariants as why
use Rattle.pf_script.specs.Messages.Hints.{hint_text}
use Rattle.pf_script.specs.Messages.PlanHints.{hint_text as plan_hint_text}
use Rattle.pf_script.specs.Messages.PlanTexts.{what_text as plan_what_text}
use Rattle.pf_script.specs.Messages.Texts.{what_text}
use Rattle.pf_script.specs.PlanCheck.Reports.{FaultShown}
use Rattle.pf_script.specs.Told.{FaultTold}

-- the message of a fault: the number of its record, whether settings are lacking there, where it is and what is wrong, and the line
-- that says what would be right, or nothing
pub record FaultMessage : Type 0 where
  pub number : ℕ
  pub lacks : Bool
  pub what : List ℕ
  pub hint : List ℕ

-- of which file the messages are and what it has; whether hints are asked for; and for how many more faults a near word is looked for
pub record Telling : Type 0 where
  pub file : List ℕ
  pub script : List ℕ
  pub hints : Bool
  pub near_left : ℕ

abbrev pub lacks_settings : Reason → Bool
lacks_settings NoSettings = true
lacks_settings reason = false

abbrev pub plan_lacks_settings : PlanReason → Bool
plan_lacks_settings why.NoSettings = true
plan_lacks_settings reason = false

-- a field of the record that begins on a line; the end of the script where there is no record
abbrev pub position_of : List ℕ → Bool → ℕ → ℕ → List (List ℕ) → Position
position_of script trims line number [] = end_position script line
position_of script trims line number (first ∷ fields) = field_position script (record { line = line; number = number; trims = trims })

-- the line of a hint, nothing where there is none or none is asked for
abbrev pub hint_shown : List ℕ → List ℕ
hint_shown [] = []
hint_shown (byte ∷ bytes) = hint_line (byte ∷ bytes)

abbrev pub hint_if : Bool → List ℕ → List ℕ
hint_if asked hint = if asked then hint_shown hint else []

-- the message of a fault in version 1 or 2
unfoldable pub plain_message : Telling → FaultTold → FaultMessage
plain_message t f = record {
  number = f.bad.number;
  lacks = lacks_settings f.bad.fault.reason;
  what = position_front t.file (position_of t.script false f.bad.line f.bad.fault.field f.fields) ++ what_text f.fields f.bad.fault;
  hint = hint_if t.hints (hint_text (record { is_quote_open = is_quote_open t.script f.bad.line; seeks_near = nat_lt 0 t.near_left }) f.fields f.bad.fault);
}

-- in a plan
unfoldable pub plan_message : Telling → FaultShown → FaultMessage
plan_message t f = record {
  number = f.bad.number;
  lacks = plan_lacks_settings f.bad.fault.reason;
  what = position_front t.file (position_of t.script true f.bad.line f.bad.fault.field f.fields) ++ plan_what_text f.progress.names f.fields f.bad.fault;
  hint = hint_if t.hints
      (plan_hint_text (record { is_quote_open = is_quote_open t.script f.bad.line; seeks_near = nat_lt 0 t.near_left })
      f.progress.names f.progress.labels f.fields f.bad.fault);
}

-- the telling after a fault
abbrev pub told_one : Telling → Telling
told_one t = record t { near_left = t.near_left - 1 }

abbrev pub plain_messages : Telling → List FaultTold → List FaultMessage
plain_messages t [] = []
plain_messages t (f ∷ faults) = plain_message t f ∷ plain_messages (told_one t) faults

abbrev pub plan_messages : Telling → List FaultShown → List FaultMessage
plan_messages t [] = []
plan_messages t (f ∷ faults) = plan_message t f ∷ plan_messages (told_one t) faults

-- the first of some messages
abbrev pub first_of : List FaultMessage → Option FaultMessage
first_of [] = None
first_of (m ∷ messages) = Some m
