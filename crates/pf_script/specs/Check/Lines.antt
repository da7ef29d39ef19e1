-- The lines of messages that were told so far.
use Rattle.std.specs.Prelude.{ℕ, ◌+◌, ◌-◌, ◌==◌, min, nat_le, if◌then◌else◌, List, [], ◌++◌, codes}
use Rattle.pf_script.specs.Messages.Lines.{FaultMessage}
use Rattle.pf_script.specs.Check.Faults.{message_text, others_text}

-- the lines up to the first message that settings are lacking, and that one without its end; its hint, and the lines after it; how
-- many records lack settings, and how many messages there are beside
pub record Lines : Type 0 where
  pub head : List ℕ
  pub tail : List ℕ
  pub lacking : ℕ
  pub others : ℕ

abbrev pub no_lines : Lines
no_lines = record { head = []; tail = []; lacking = 0; others = 0 }

-- after a record that lacks settings, and after one with another fault
abbrev pub after_lacking : FaultMessage → Lines → Lines
after_lacking m s = record s {
  head = if s.lacking == 0 then s.head ++ m.what else s.head;
  tail = if s.lacking == 0 then s.tail ++ m.hint else s.tail;
  lacking = s.lacking + 1;
}

abbrev pub after_own : FaultMessage → Lines → Lines
after_own m s = record s {
  head = if s.lacking == 0 then s.head ++ message_text m else s.head;
  tail = if s.lacking == 0 then s.tail else s.tail ++ message_text m;
  others = s.others + 1;
}

abbrev pub after_message : Lines → FaultMessage → Lines
after_message s m = if m.lacks then after_lacking m s else after_own m s

-- how many they are
abbrev pub count_of : Lines → ℕ
count_of s = s.others + min s.lacking 1

-- after the end of a script, which lacks settings there
abbrev pub after_end : FaultMessage → Lines → Lines
after_end m s = if count_of s == 0 then after_lacking m s else s

-- after a fault of a script with so many records, or of its end
abbrev pub after_fault : ℕ → Lines → FaultMessage → Lines
after_fault records s m = if nat_le m.number records then after_message s m else after_end m s

-- all lines
abbrev pub text_of : Lines → List ℕ
text_of s = if s.lacking == 0 then s.head else s.head ++ others_text (s.lacking - 1) ++ codes "\n" ++ s.tail
