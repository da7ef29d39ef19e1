-- The course of a desk on which lines are carried out.
use Rattle.std.proofs.Common.{◌≡◌, ◌<◌, ◌≤◌, ℕ, ◌+◌, List, [], ◌∷◌, ◌++◌, length, take, drop, get_or, Option, Result, Ok, Err, refl, sym, ap, ap₂, append_assoc, ◌∙◌}
use Rattle.std.specs.Prelude.{IfOk, OnOk}
use Rattle.std.proofs.lemmas.List.{at_drop_all, at_drop_more, take-append-drop}
use Rattle.pf_desk.specs.declared.command.Command.{Command}
use Rattle.pf_desk.specs.Desk.{Shown, AnswersAll, Seen, StandsForHistory}
use Rattle.pf_script.specs.declared.record.LineTold.{LineTold}
use Rattle.pf_script_desk.specs.Asked.{commands_in, commands_of}
use Rattle.pf_script_desk.specs.Carrying.{Carrying, HasTaken, script_caller}
use Rattle.pf_replies.specs.Course.{ScriptCourse, course_at, course_behind, seen_at}
use Rattle.pf_replies.proofs.Courses.{answered_course, course_behind-append, seen_there}
use Rattle.pf_vocabulary.specs.declared.options.diff_options.DiffOptions.{DiffOptions}
use Rattle.pf_change.specs.Change.{change_behind, course_to_be, lines_before, seen_behind}
use Rattle.pf_change.specs.Difference.{DiffTold, difference}

-- Use: of the lines left the first was taken.
pub next_line : (a b : Carrying) (lines : List LineTold) (i : ℕ) (z : LineTold) → i < length lines → HasTaken (commands_of (get_or lines i z).asks) a b
    → course_behind (course_to_be b) (commands_in (drop (i + 1) lines)) ≡ course_behind (course_to_be a) (commands_in (drop i lines))
next_line a b lines i z within h =
    let line = commands_of (get_or lines i z).asks in
    let rest = commands_in (drop (i + 1) lines) in
    let taken : course_to_be b ≡ course_behind (course_to_be a) line =
    ap (λ c. course_behind c b.waiting) (answered_course script_caller h.answered a.desk b.desk h.answers)
    ∙ sym (course_behind-append (course_at a.desk) h.answered b.waiting)
    ∙ ap (course_behind (course_at a.desk)) h.in_order
    ∙ course_behind-append (course_at a.desk) a.waiting line in
    ap (λ c. course_behind c rest) taken
    ∙ sym (course_behind-append (course_to_be a) line rest)
    ∙ sym (at_drop_more (λ xs. course_behind (course_to_be a) (commands_in xs)) lines i z within)

-- Use: no line is left, and the commands that wait were answered.
module _ (a b : Carrying) (lines : List LineTold) (i : ℕ) (whole : ScriptCourse) (none : length lines ≤ i)
    (left : course_behind (course_to_be a) (commands_in (drop i lines)) ≡ whole) (h : AnswersAll script_caller a.waiting a.desk b.desk) where
  all_taken : course_at b.desk ≡ whole
  all_taken =
      answered_course script_caller a.waiting a.desk b.desk h
      ∙ sym (at_drop_all (λ xs. course_behind (course_to_be a) (commands_in xs)) lines i none) ∙ left

  pub none_waits : {A E : Type 0} (r : Result A E) → b.waiting ≡ [] → OnOk r (course_to_be b ≡ whole)
  none_waits (Ok x) is = ap (course_behind (course_at b.desk)) is ∙ all_taken
  none_waits (Err e) is = tt

  pub all_seen : {E : Type 0} (r : Result Seen E) (d : Shown) → d ≡ b.desk → IfOk r (λ s. StandsForHistory d.history s)
      → IfOk r (λ s. s ≡ record { version = length d.history; state = d.state; rows = d.rows; denials = d.denials }) → IfOk r (λ s. s ≡ seen_at whole)
  all_seen (Ok s) d is stands shows = seen_there d s stands shows ∙ ap (λ d. seen_at (course_at d)) is ∙ ap seen_at all_taken
  all_seen (Err e) d is stands shows = tt

-- Use: what is equal in its place.
pub made_at : {V F : Type 0} (told : V → DiffTold) (r : Result V F) (x y : DiffTold) → x ≡ y → IfOk r (λ v. told v ≡ x) → IfOk r (λ v. told v ≡ y)
made_at told (Ok v) x y same h = h ∙ same
made_at told (Err e) x y same h = tt

-- the commands of two lists of lines
commands_in-append : (xs ys : List LineTold) → commands_in (xs ++ ys) ≡ commands_in xs ++ commands_in ys
commands_in-append [] ys = refl
commands_in-append (x ∷ xs) ys =
    ap (λ (cs : List Command). commands_of x.asks ++ cs) (commands_in-append xs ys) ∙ sym (append_assoc (commands_of x.asks) (commands_in xs) (commands_in ys))

-- Use: the desk before a record and at the end.
module _ (options : DiffOptions) (since : Option ℕ) (k : ℕ) (start : ScriptCourse) (lines first rest : List LineTold) (c d : ScriptCourse) (before after : Seen)
    (opened : c ≡ start) (is_first : first ≡ take k lines) (is_rest : rest ≡ drop k lines)
    (is_before : take k lines ≡ lines_before since lines) where
  pub both_shown : before ≡ seen_at (course_behind c (commands_in first)) → d ≡ course_behind c (commands_in first)
      → after ≡ seen_at (course_behind d (commands_in rest)) → difference options before after ≡ change_behind options since start lines
  both_shown shown_before on shown_after =
      let front : before ≡ seen_behind start (lines_before since lines) =
      shown_before ∙ ap₂ (λ x xs. seen_at (course_behind x (commands_in xs))) opened (is_first ∙ is_before) in
      let whole : first ++ rest ≡ lines = ap₂ (λ x y. x ++ y) is_first is_rest ∙ take-append-drop k lines in
      let behind : course_behind d (commands_in rest) ≡ course_behind start (commands_in lines) =
      ap (λ x. course_behind x (commands_in rest)) on
      ∙ sym (course_behind-append c (commands_in first) (commands_in rest))
      ∙ ap (course_behind c) (sym (commands_in-append first rest))
      ∙ ap₂ (λ x xs. course_behind x (commands_in xs)) opened whole in
      ap₂ (difference options) front (shown_after ∙ ap seen_at behind)
