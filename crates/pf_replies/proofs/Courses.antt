-- How far a desk is after commands, and the lines of its replies to them.
use Rattle.std.proofs.Common.{◌≡◌, ◌≤◌, ℕ, ◌+◌, Bool, List, [], ◌∷◌, ◌++◌, All, length, map, drop, refl, sym, ap, ap₂, subst, ◌∙◌, arith, append_assoc}
use Rattle.std.specs.Prelude.{◌||◌, false}
use Rattle.std.specs.List.{list_any}
use Rattle.std.proofs.Math.Bool.{or-false, or_assoc}
use Rattle.std.proofs.lemmas.Grind.{flat_map-append}
use Rattle.std.proofs.lemmas.List.{append-nil, drop-append-le, length-append, length-map, map-append}
use Rattle.std.proofs.lemmas.List.Elements.{All-nil, All-cons, All-append}
use Rattle.std.proofs.lemmas.List.Folds.{list_any-append}
use Rattle.pf_run.specs.RunRows.{rows_in, denials_in}
use Rattle.pf_script_run.specs.Carried.{asked_in}
use Rattle.pf_desk.specs.declared.command.Command.{Command}
use Rattle.pf_desk.specs.declared.entry.Entry.{Entry}
use Rattle.pf_desk.specs.declared.reply.Reply.{Reply}
use Rattle.pf_desk.specs.Machine.{State, reply_to, state_after}
use Rattle.pf_desk.specs.History.{IsLegalFrom, state_behind}
use Rattle.pf_desk.specs.Desk.{Shown, AnswersAll, AnswersCaller, Seen, StandsForHistory, entry_of}
use Rattle.pf_replies.specs.Batched.{entry_lines}
use Rattle.pf_replies.specs.Course.{ScriptCourse, course_after, course_at, course_behind, reply_lines, seen_at}
use Rattle.pf_report.specs.Replies.{HasFewPlaces, is_refusal, reply_line}

-- some commands, and then others
pub course_behind-append : (c : ScriptCourse) (xs ys : List Command) → course_behind c (xs ++ ys) ≡ course_behind (course_behind c xs) ys
course_behind-append c [] ys = refl
course_behind-append c (x ∷ xs) ys = course_behind-append (course_after c x) xs ys

pub reply_lines-append : (c : ScriptCourse) (xs ys : List Command) → reply_lines c (xs ++ ys) ≡ reply_lines c xs ++ reply_lines (course_behind c xs) ys
reply_lines-append c [] ys = refl
reply_lines-append c (x ∷ xs) ys =
    ap (λ t. reply_line (reply_to c.state x) ++ t) (reply_lines-append (course_after c x) xs ys)
    ∙ sym (append_assoc (reply_line (reply_to c.state x)) (reply_lines (course_after c x) xs) (reply_lines (course_behind c (x ∷ xs)) ys))

-- whether a command of these entries was refused
abbrev pub has_refusal : List Entry → Bool
has_refusal entries = list_any (λ e. is_refusal e.reply) entries

-- a course after these commands, one of them refused or not, where the checkpoints lie so far apart
abbrev course_of : ℕ → List Command → Bool → State → ScriptCourse
course_of every asked refused st = record { state = st; asked = asked; refused = refused; every = every }

-- the course after the entries of a legal history
entered_course : (every : ℕ) (st : State) (asked : List Command) (refused : Bool) (es : List Entry) → IsLegalFrom st es
    → course_of every (asked ++ asked_in es) (refused || has_refusal es) (state_behind st es) ≡ course_behind (course_of every asked refused st) (asked_in es)
entered_course every st asked refused [] h = ap₂ (λ cs b. course_of every cs b st) (append-nil asked) (or-false refused)
entered_course every st asked refused (e ∷ es) h =
    ap₂ (λ cs b. course_of every cs b (state_behind (state_after st e.command e.reply) es)) (sym (append_assoc asked (e.command ∷ []) (asked_in es)))
    (sym (or_assoc refused (is_refusal e.reply) (has_refusal es)))
    ∙ entered_course every (state_after st e.command e.reply) (asked ++ e.command ∷ []) (refused || is_refusal e.reply) es h.1
    ∙ ap (λ r. course_behind (course_of every (asked ++ e.command ∷ []) (refused || is_refusal r) (state_after st e.command r)) (asked_in es)) h.0

-- the lines of their replies
entered_lines : (every : ℕ) (st : State) (asked : List Command) (refused : Bool) (es : List Entry) → IsLegalFrom st es
    → entry_lines es ≡ reply_lines (course_of every asked refused st) (asked_in es)
entered_lines every st asked refused [] h = refl
entered_lines every st asked refused (e ∷ es) h =
    ap₂ (λ a b. a ++ b) (ap reply_line h.0)
    (entered_lines every (state_after st e.command e.reply) (asked ++ e.command ∷ []) (refused || is_refusal e.reply) es h.1
    ∙ ap (λ r. reply_lines (course_of every (asked ++ e.command ∷ []) (refused || is_refusal r) (state_after st e.command r)) (asked_in es)) h.0)

-- Use: one command that was answered is a list of one.
abbrev pub one_answered : (caller : ℕ) (command : Command) (a b : Shown) (reply : Reply) → AnswersCaller caller command a reply b
    → AnswersAll caller (command ∷ []) a b
one_answered caller command a b reply h = record {
  entries = entry_of caller command reply ∷ [];
  commands_in_order = refl;
  callers = All-cons (λ e. e.caller ≡ caller) (entry_of caller command reply) [] refl (All-nil (λ e. e.caller ≡ caller));
  answers = (h.answer, tt);
  entered = h.entered;
  state = h.state;
  every = h.every;
}

-- Use: the course after commands that a desk answered, their lines, and how many they are, where some of the lines before
-- them were taken.
module _ (caller : ℕ) (commands : List Command) (a b : Shown) (h : AnswersAll caller commands a b) where
  pub answered_course : course_at b ≡ course_behind (course_at a) commands
  answered_course =
      let asked : asked_in b.history ≡ asked_in a.history ++ asked_in h.entries =
      ap asked_in h.entered ∙ map-append (λ e. e.command) a.history h.entries in
      let refused : has_refusal b.history ≡ (has_refusal a.history || has_refusal h.entries) =
      ap has_refusal h.entered ∙ list_any-append (λ e. is_refusal e.reply) a.history h.entries in
      (λ i. course_of (h.every i) (asked i) (refused i) (h.state i)) ∙ entered_course a.every a.state (asked_in a.history) (has_refusal a.history) h.entries h.answers
      ∙ ap (course_behind (course_at a)) h.commands_in_order

  module _ (shown : ℕ) (within : shown ≤ length a.history) where
    unshown_then : drop shown b.history ≡ drop shown a.history ++ h.entries
    unshown_then = ap (drop shown) h.entered ∙ drop-append-le shown a.history h.entries within

    pub lines_then : entry_lines (drop shown b.history) ≡ entry_lines (drop shown a.history) ++ reply_lines (course_at a) commands
    lines_then =
        ap entry_lines unshown_then ∙ flat_map-append (λ e. reply_line e.reply) (drop shown a.history) h.entries
        ∙ ap (λ t. entry_lines (drop shown a.history) ++ t)
        (entered_lines a.every a.state (asked_in a.history) (has_refusal a.history) h.entries h.answers ∙ ap (reply_lines (course_at a)) h.commands_in_order)

    pub entries_then : length (drop shown b.history) ≡ length (drop shown a.history) + length commands
    entries_then =
        ap length unshown_then ∙ length-append (drop shown a.history) h.entries
        ∙ ap (λ n. length (drop shown a.history) + n) (sym (length-map h.entries (λ e. e.command)) ∙ ap length h.commands_in_order)

    pub within_then : shown ≤ length b.history
    within_then = omega (arith, within, ap length h.entered, length-append a.history h.entries)

    pub places_then : All (λ e. HasFewPlaces e.reply) (drop shown a.history) → All (λ e. HasFewPlaces e.reply) h.entries
        → All (λ e. HasFewPlaces e.reply) (drop shown b.history)
    places_then before more =
        subst (All (λ e. HasFewPlaces e.reply)) (sym unshown_then)
        (All-append (λ e. HasFewPlaces e.reply) (drop shown a.history) h.entries before more)

-- the snapshot of a desk is what is seen at its course
pub seen_there : (d : Shown) (s : Seen) → StandsForHistory d.history s
    → s ≡ record { version = length d.history; state = d.state; rows = d.rows; denials = d.denials } → s ≡ seen_at (course_at d)
seen_there d s stands shows =
    let rows : d.rows ≡ rows_in d.state.plan d.state.now =
    ap (λ x. x.rows) (sym shows) ∙ stands.of_run.are_rows ∙ ap (λ x. rows_in x.state.plan x.state.now) shows in
    let denials : d.denials ≡ denials_in d.state.plan d.state.now =
    ap (λ x. x.denials) (sym shows) ∙ stands.of_run.are_denials ∙ ap (λ x. denials_in x.state.plan x.state.now) shows in
    let long : length d.history ≡ length (asked_in d.history) = sym (length-map d.history (λ e. e.command)) in
    shows ∙ (λ i. record { version = long i; state = d.state; rows = rows i; denials = denials i })
