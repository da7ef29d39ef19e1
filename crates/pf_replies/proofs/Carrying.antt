-- The turns of a script that is carried out.
use Rattle.std.proofs.Common.{◌≡◌, ◌≤◌, ◌+◌, Bool, true, false, [], ◌++◌, length, None, Some, Result, Ok, Err, refl, sym, ap, ap₂, ◌∙◌, arith, append_assoc}
use Rattle.std.specs.Prelude.{if◌then◌else◌, IfOk, OnOk}
use Rattle.pf_desk.specs.declared.command.Command.{Command}
use Rattle.pf_script.specs.declared.record.ScriptSettings.{ScriptSettings}
use Rattle.pf_script_desk.specs.Asked.{commands_in}
use Rattle.pf_script.specs.Told.{LinesTold, Told}
use Rattle.pf_vocabulary.specs.declared.options.format.Format.{Format}
use Rattle.pf_replies.specs.Batched.{Batched, HasAnswered, HasTaken, course_to_be, lines_to_be}
use Rattle.pf_replies.specs.Carried.{CarriesOn, GoesOn, OpensReplies, RepliesLeft, first_turn, lines_left}
use Rattle.pf_replies.specs.Commands.{CommandsLeft, TakesCommand}
use Rattle.pf_replies.specs.Course.{course_after, course_behind, fault_number, opening_course, outcome_at, ready_line, reply_lines, text_if_replies}
use Rattle.pf_replies.proofs.Batches.{settled_course, settled_lines}

-- Use: a command was taken.
module _ (a b : RepliesLeft) (command : Command) (taken : TakesCommand (Some command) a.commands b.commands) (h : HasTaken command a.desk b.desk)
    (format : b.format ≡ a.format) (begun : b.begun ≡ a.begun) where
  lines_on : lines_left b ≡ lines_left a
  lines_on =
      ap₂ (λ x t. (if x then [] else ready_line) ++ t) begun
      (ap₂ (λ t c. t ++ reply_lines c b.commands.commands) h.lines h.course
      ∙ append_assoc (lines_to_be a.desk) _ (reply_lines (course_after (course_to_be a.desk) command) b.commands.commands)
      ∙ ap (λ cs. lines_to_be a.desk ++ reply_lines (course_to_be a.desk) cs) (sym taken.0))

  pub command_carried : GoesOn a b
  command_carried = record {
    text = ap₂ text_if_replies format lines_on;
    outcome =
        ap₂ (λ c f. outcome_at (course_behind c b.commands.commands) f) h.course taken.1
        ∙ ap (λ cs. outcome_at (course_behind (course_to_be a.desk) cs) a.commands.fault) (sym taken.0);
    turns =
        let same : first_turn b.begun ≡ first_turn a.begun = ap first_turn begun in
        omega (arith, ap length taken.0, same, h.turns);
  }

-- Use: those that waited were answered.
pub waiting_carried : (a b : RepliesLeft) → HasAnswered a.desk b.desk → 1 ≤ length a.desk.waiting → b.commands.commands ≡ a.commands.commands
    → b.commands.fault ≡ a.commands.fault → b.format ≡ a.format → b.begun ≡ a.begun → GoesOn a b
waiting_carried a b h some commands fault format begun =
    let course : course_to_be b.desk ≡ course_to_be a.desk = settled_course b.desk h.none ∙ h.course in
    let lines : lines_to_be b.desk ≡ lines_to_be a.desk = settled_lines b.desk h.none ∙ h.lines in
    record {
      text =
          ap₂ text_if_replies format
          (ap₂ (λ x t. (if x then [] else ready_line) ++ t) begun
          (ap₂ (λ t u. t ++ u) lines (ap₂ reply_lines course commands)));
      outcome = ap₂ outcome_at (ap₂ course_behind course commands) fault;
      turns =
          let same : first_turn b.begun ≡ first_turn a.begun = ap first_turn begun in
          omega (arith, ap length commands, same, h.entries, ap length h.none, some);
    }

-- Use: no command is left, and those that waited are answered.
pub end_carried : {E : Type 0} (r : Result Bool E) (a : RepliesLeft) (commands : CommandsLeft) (desk : Batched) → TakesCommand None a.commands commands
    → OnOk r (HasAnswered a.desk desk) → IfOk r (λ some. some ≡ true → 1 ≤ length a.desk.waiting) → IfOk r (λ some. some ≡ false → desk ≡ a.desk)
    → IfOk r (λ some. CarriesOn some a (record a { commands = commands; desk = desk }))
end_carried (Ok true) a commands desk taken answered some none =
    waiting_carried a (record a { commands = commands; desk = desk }) answered (some refl) (ap (λ c. c.commands) taken.1) (ap (λ c. c.fault) taken.1) refl refl
end_carried (Ok false) a commands desk taken answered some none = record {
  same = λ i. record a { commands = taken.1 i; desk = none refl i };
  commands = taken.0;
  waiting = sym (ap (λ d. d.waiting) (none refl)) ∙ answered.none;
}
end_carried (Err e) a commands desk taken answered some none = tt

-- Use: replies to a script whose settings were read.
pub opened_replies : (format : Format) (t : Told) (s : ScriptSettings) (lines : LinesTold) (commands : CommandsLeft) (desk : Batched)
    → t ≡ record { opening = Some s; rest = lines } → commands ≡ record { commands = commands_in lines.lines; fault = fault_number lines.fault; ended = false }
    → desk ≡ record { answered = opening_course s.every s.settings; waiting = []; unshown = [] }
    → OpensReplies format t (Ok (record { commands = commands; desk = desk; format = format; begun = false }))
opened_replies format t s lines commands desk told are opened = rw (told, are, opened) (refl, refl)
