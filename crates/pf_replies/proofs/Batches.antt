-- A desk with edits that wait, and what it comes to when they are answered together.
use Rattle.std.proofs.Common.{◌≡◌, ◌≤◌, ℕ, ◌+◌, List, [], ◌∷◌, ◌++◌, All, length, map, drop, Some, refl, sym, ap, ap₂, subst, ◌∙◌, arith, append_assoc}
use Rattle.std.specs.List.{AllByRecursion, slice_get}
use Rattle.std.proofs.lemmas.List.{append-nil, drop_more, length-append}
use Rattle.std.proofs.lemmas.Option.{get_or_from_slice_get, slice_get_within}
use Rattle.std.proofs.lemmas.List.Elements.{All-nil, All-cons, All-tail, All-from_recursion, recursion_from_All}
use Rattle.pf_scenario.specs.Edit.{edit_fault}
use Rattle.pf_desk.specs.declared.command.Command.{Command}
use Rattle.pf_desk.specs.declared.command.Command.TheVariants.{Edit, Step}
use Rattle.pf_desk.specs.declared.entry.Entry.{Entry}
use Rattle.pf_desk.specs.declared.reply.Reply.{Reply}
use Rattle.pf_desk.specs.declared.reply.Reply.TheVariants.{Edited, Stepped, Refused}
use Rattle.pf_desk.specs.Machine.{State, reply_to, state_after}
use Rattle.pf_desk.specs.History.{IsLegalFrom}
use Rattle.pf_desk.specs.Desk.{Shown, AnswersAll, AnswersCaller, IsDesk, entry_of}
use Rattle.pf_desk.specs.Plain.{IsPlain}
use Rattle.pf_replies.specs.Batched.{Batched, HasAnswered, HasShown, HasTaken, course_to_be, entry_lines, lines_to_be}
use Rattle.pf_replies.specs.Course.{course_at, course_after, course_behind, reply_lines}
use Rattle.pf_report.specs.Replies.{HasFewPlaces, reply_line}
use Rattle.pf_replies.proofs.Courses.{answered_course, course_behind-append, entries_then, lines_then, one_answered, places_then, reply_lines-append}
use Rattle.pf_replies.proofs.Replying.{edit_takes_none, few_places}

-- a desk, the commands that wait, and how many lines were taken
abbrev pub batched : Shown → List Command → ℕ → Batched
batched d waiting shown = record { answered = course_at d; waiting = waiting; unshown = drop shown d.history }

-- a plain edit takes no slot
plain_takes_none : (st : State) (command : Command) (reply : Reply) → reply ≡ reply_to st command → IsPlain command → HasFewPlaces reply
plain_takes_none st command (Edited id) h plain = tt
plain_takes_none st command (Refused fault) h plain = tt
plain_takes_none st Step (Stepped slot row) h plain = absurd plain
plain_takes_none st (Edit change strict) (Stepped slot row) h plain =
    absurd (edit_takes_none st change strict slot row (edit_fault st.plan change) h)

few_each : (st : State) (es : List Entry) → IsLegalFrom st es → AllByRecursion IsPlain (map (λ e. e.command) es)
    → AllByRecursion (λ e. HasFewPlaces e.reply) es
few_each st [] h plain = tt
few_each st (e ∷ es) h plain = (plain_takes_none st e.command e.reply h.0 plain.0, few_each (state_after st e.command e.reply) es h.1 plain.1)

-- where none waits
pub settled_course : (b : Batched) → b.waiting ≡ [] → course_to_be b ≡ b.answered
settled_course b none = ap (course_behind b.answered) none

pub settled_lines : (b : Batched) → b.waiting ≡ [] → lines_to_be b ≡ entry_lines b.unshown
settled_lines b none = ap (λ w. entry_lines b.unshown ++ reply_lines b.answered w) none ∙ append-nil (entry_lines b.unshown)

-- Use: those that waited were answered.
module _ (caller : ℕ) (waiting : List Command) (a b : Shown) (h : AnswersAll caller waiting a b) (shown : ℕ) (within : shown ≤ length a.history) where
  pub all_answered : (left : List Command) → left ≡ [] → HasAnswered (batched a waiting shown) (batched b left shown)
  all_answered left none = record {
    course = answered_course caller waiting a b h;
    none = none;
    lines = lines_then caller waiting a b h shown within;
    entries = entries_then caller waiting a b h shown within;
  }

  pub all_places : All IsPlain waiting → All (λ e. HasFewPlaces e.reply) (drop shown a.history) → All (λ e. HasFewPlaces e.reply) (drop shown b.history)
  all_places plain before =
      places_then caller waiting a b h shown within before
      (All-from_recursion (λ e. HasFewPlaces e.reply) h.entries
      (few_each a.state h.entries h.answers
      (recursion_from_All IsPlain (map (λ e. e.command) h.entries) (subst (All IsPlain) (sym h.commands_in_order) plain))))

-- Use: a command was answered where none waited.
module _ (caller : ℕ) (command : Command) (a b : Shown) (reply : Reply) (h : AnswersCaller caller command a reply b) (shown : ℕ) (within : shown ≤ length a.history) where
  pub one_taken : (waiting : List Command) → waiting ≡ [] → HasTaken command (batched a waiting shown) (batched b waiting shown)
  one_taken waiting none =
      let all = one_answered caller command a b reply h in
      let course = settled_course (batched a waiting shown) none in
      record {
        course = settled_course (batched b waiting shown) none ∙ answered_course caller (command ∷ []) a b all ∙ ap (λ c. course_after c command) (sym course);
        lines =
            settled_lines (batched b waiting shown) none ∙ lines_then caller (command ∷ []) a b all shown within
            ∙ ap₂ (λ t u. t ++ u) (sym (settled_lines (batched a waiting shown) none))
            (append-nil (reply_line (reply_to a.state command)) ∙ ap (λ c. reply_line (reply_to c.state command)) (sym course));
        turns = omega (arith, entries_then caller (command ∷ []) a b all shown within);
      }

  pub one_place : IsDesk b → All (λ e. HasFewPlaces e.reply) (drop shown a.history) → All (λ e. HasFewPlaces e.reply) (drop shown b.history)
  one_place desk before =
      places_then caller (command ∷ []) a b (one_answered caller command a b reply h) shown within before
      (All-cons (λ e. HasFewPlaces e.reply) (entry_of caller command reply) []
      (few_places a.state b.state command reply h.answer h.state desk.of_run.scenario) (All-nil (λ e. HasFewPlaces e.reply)))

-- Use: a command waits.
pub one_waits : (d : Shown) (waiting : List Command) (shown : ℕ) (edit : Command) (more : List Command) → more ≡ waiting ++ edit ∷ []
    → HasTaken edit (batched d waiting shown) (batched d more shown)
one_waits d waiting shown edit more is = record {
  course = ap (course_behind (course_at d)) is ∙ course_behind-append (course_at d) waiting (edit ∷ []);
  lines =
      let line = reply_line (reply_to (course_behind (course_at d) waiting).state edit) in
      ap (λ w. entry_lines (drop shown d.history) ++ reply_lines (course_at d) w) is
      ∙ ap (λ t. entry_lines (drop shown d.history) ++ t) (reply_lines-append (course_at d) waiting (edit ∷ []) ∙ ap (λ t. reply_lines (course_at d) waiting ++ t) (append-nil line))
      ∙ sym (append_assoc (entry_lines (drop shown d.history)) (reply_lines (course_at d) waiting) line);
  turns = omega (arith, ap length is, length-append waiting (edit ∷ []));
}

-- Use: a command waits, and then those that wait were answered; or they were answered, and then a command.
pub taken_answered : (edit : Command) (a b c : Batched) → HasTaken edit a b → HasAnswered b c → HasTaken edit a c
taken_answered edit a b c h k = record {
  course = settled_course c k.none ∙ k.course ∙ h.course;
  lines = settled_lines c k.none ∙ k.lines ∙ h.lines;
  turns = omega (arith, h.turns, k.entries, ap length k.none);
}

pub answered_taken : (command : Command) (a b c : Batched) → HasAnswered a b → HasTaken command b c → HasTaken command a c
answered_taken command a b c h k =
    let course : course_to_be b ≡ course_to_be a = settled_course b h.none ∙ h.course in
    record {
      course = k.course ∙ ap (λ x. course_after x command) course;
      lines = k.lines ∙ ap₂ (λ t x. t ++ reply_line (reply_to x.state command)) (settled_lines b h.none ∙ h.lines) course;
      turns = omega (arith, k.turns, h.entries, ap length h.none);
    }

-- Use: a line was shown.
pub next_entry : (entries : List Entry) (k : ℕ) (e : Entry) → Some e ≡ slice_get entries k → drop k entries ≡ e ∷ drop (k + 1) entries
next_entry entries k e at =
    drop_more entries k e (slice_get_within entries k e (sym at)) ∙ ap (λ x. x ∷ drop (k + 1) entries) (get_or_from_slice_get entries k e e (sym at))

module _ (d : Shown) (k : ℕ) (e : Entry) (next : drop k d.history ≡ e ∷ drop (k + 1) d.history) where
  pub one_shown : (waiting : List Command) (text more : List ℕ) → more ≡ text ++ reply_line e.reply
      → HasShown text more (batched d waiting k) (batched d waiting (k + 1))
  one_shown waiting text more is = record {
    answered = refl;
    waiting = refl;
    lines =
        ap (λ es. text ++ entry_lines es) next ∙ sym (append_assoc text (reply_line e.reply) (entry_lines (drop (k + 1) d.history)))
        ∙ ap (λ t. t ++ entry_lines (drop (k + 1) d.history)) (sym is);
    entries = omega (arith, ap length next);
  }

  pub places_left : All (λ x. HasFewPlaces x.reply) (drop k d.history) → All (λ x. HasFewPlaces x.reply) (drop (k + 1) d.history)
  places_left all =
      All-tail (λ x. HasFewPlaces x.reply) e (drop (k + 1) d.history) (subst (All (λ x. HasFewPlaces x.reply)) next all)
