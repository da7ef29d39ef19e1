-- The state of a desk on which lines are carried out.
use Rattle.std.proofs.Common.{◌≡◌, ◌<◌, ℕ, ◌+◌, List, [], ◌∷◌, ◌++◌, length, map, drop, get_or, refl, sym, ap, ◌∙◌, append-nil}
use Rattle.std.specs.List.{flat_map}
use Rattle.std.proofs.lemmas.List.{at_drop_more}
use Rattle.std.proofs.lemmas.Grind.{flat_map-append}
use Rattle.pf_desk.specs.declared.command.Command.{Command}
use Rattle.pf_desk.specs.declared.entry.Entry.{Entry}
use Rattle.pf_desk.specs.declared.reply.Reply.{Reply}
use Rattle.pf_desk.specs.Desk.{Shown, AnswersAll}
use Rattle.pf_desk.specs.History as past
use Rattle.pf_desk.specs.Machine.{State, reply_to, state_after}
use Rattle.pf_script_desk.specs.Carrying.{Carrying, HasAnswered, HasTaken, script_caller}
use Rattle.pf_script.specs.declared.line.Line.{Line}
use Rattle.pf_script_desk.specs.Asked.{commands_of}
use Rattle.pf_plain_script.specs.Carried.{state_behind, state_to_be}

pub behind-append : (st : State) (xs ys : List Command) → state_behind st (xs ++ ys) ≡ state_behind (state_behind st xs) ys
behind-append st [] ys = refl
behind-append st (x ∷ xs) ys = behind-append (state_after st x (reply_to st x)) xs ys

legal_behind : (st : State) (es : List Entry) → past.IsLegalFrom st es → past.state_behind st es ≡ state_behind st (map (λ e. e.command) es)
legal_behind st [] h = refl
legal_behind st (e ∷ es) h =
    legal_behind (state_after st e.command e.reply) es h.1
    ∙ ap (λ r. state_behind (state_after st e.command r) (map (λ e. e.command) es)) h.0

-- commands were answered
all_answered : (commands : List Command) (a b : Shown) → AnswersAll script_caller commands a b → b.state ≡ state_behind a.state commands
all_answered commands a b h = h.state ∙ legal_behind a.state h.entries h.answers ∙ ap (state_behind a.state) h.commands_in_order

-- Use: commands were taken.
pub taken_behind : (commands : List Command) (a b : Carrying) → HasTaken commands a b → state_to_be b ≡ state_behind (state_to_be a) commands
taken_behind commands a b h =
    ap (λ st. state_behind st b.waiting) (all_answered h.answered a.desk b.desk h.answers)
    ∙ sym (behind-append a.desk.state h.answered b.waiting)
    ∙ ap (state_behind a.desk.state) h.in_order
    ∙ behind-append a.desk.state a.waiting commands

-- Use: those that waited were answered, and then one more.
module _ (command : Command) (a b : Carrying) (reply : Reply) (h : HasAnswered command a reply b) where
  waited_behind : h.between.state ≡ state_to_be a
  waited_behind = all_answered a.waiting a.desk h.between h.waited

  pub answered_reply : reply ≡ reply_to (state_to_be a) command
  answered_reply = h.answers.answer ∙ ap (λ st. reply_to st command) waited_behind

  pub answered_behind : state_to_be b ≡ state_behind (state_to_be a) (command ∷ [])
  answered_behind =
      ap (state_behind b.desk.state) h.none
      ∙ h.answers.state ∙ ap (state_after h.between.state command) h.answers.answer
      ∙ ap (λ st. state_behind st (command ∷ [])) waited_behind

-- Use: of the lines left the first was taken.
pub next_line : (c d : State) (lines : List Line) (i : ℕ) (z : Line) → i < length lines → d ≡ state_behind c (commands_of (get_or lines i z))
    → state_behind d (flat_map commands_of (drop (i + 1) lines)) ≡ state_behind c (flat_map commands_of (drop i lines))
next_line c d lines i z within taken =
    let rest = flat_map commands_of (drop (i + 1) lines) in
    ap (λ x. state_behind x rest) taken
    ∙ sym (behind-append c (commands_of (get_or lines i z)) rest)
    ∙ sym (at_drop_more (λ xs. state_behind c (flat_map commands_of xs)) lines i z within)

-- Use: one line more waits.
pub line_more : (st : State) (waiting more : List Line) (line : Line) → more ≡ waiting ++ line ∷ []
    → state_behind st (flat_map commands_of more) ≡ state_behind (state_behind st (flat_map commands_of waiting)) (commands_of line)
line_more st waiting more line is =
    ap (λ l. state_behind st (flat_map commands_of l)) is
    ∙ ap (state_behind st) (flat_map-append commands_of waiting (line ∷ []))
    ∙ behind-append st (flat_map commands_of waiting) (flat_map commands_of (line ∷ []))
    ∙ ap (state_behind (state_behind st (flat_map commands_of waiting))) (alone line)
  where
    alone : (line : Line) → flat_map commands_of (line ∷ []) ≡ commands_of line
    alone line = append-nil (commands_of line)
