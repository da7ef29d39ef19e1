-- A history with one entry more.
use Rattle.std.proofs.Common.{◌≡◌, ℕ, ◌+◌, true, false, List, [], ◌∷◌, ◌++◌, length, length-append, refl, sym, ap, ◌∙◌, subst, subst₂}
use mathlib.Core.List.{IsPrefix}
use Rattle.pf_scenario.specs.System.{System}
use Rattle.pf_desk.specs.declared.command.Command.{Command}
use Rattle.pf_desk.specs.declared.reply.Reply.{Reply}
use Rattle.pf_desk.specs.declared.entry.Entry.{Entry}
use Rattle.pf_desk.specs.Machine.{reply_to}
use Rattle.pf_desk.specs.History.{IsLegal, last_state}
use Rattle.pf_desk.specs.Desk.{Shown, Ready, IsDesk, AnswersCaller, entry_of}
use Rattle.pf_desk.proofs.Histories.{settings_after}
use Rattle.pf_board.specs.Passes.{Keeping, Turning, Passing}
use Rattle.pf_desk_board.specs.declared.done.Done.{Done}
use Rattle.pf_desk_board.specs.Entered.{Enters}
use Rattle.pf_desk_board.specs.Histories.{IsHistory, numbered, entries_of, quanta_of, quanta_of_reply}
use Rattle.pf_desk_board.proofs.Numbering.{entries_numbered, numbered_append}

-- the desk's settings stay
pub settings_stay : (settings : System) (caller : ℕ) (command : Command) (d : Shown) (reply : Reply) (d' : Shown) →
    AnswersCaller caller command d reply d' → d.state.plan.settings ≡ settings → d'.state.plan.settings ≡ settings
settings_stay settings caller command d reply d' answers is =
    ap (λ st. st.plan.settings) answers.state ∙ (settings_after d.state command reply ∙ is)

-- the entries of a history with one entry more, each beside its caller's number
pub more_numbered : (log log' : List Entry) (whole : List (ℕ × Entry)) (me : ℕ) (e : Entry) → log' ≡ log ++ e ∷ [] → whole ≡ numbered log → e.caller ≡ me →
    whole ++ (me, e) ∷ [] ≡ numbered log'
more_numbered log log' whole me e more is caller =
    ap (λ w. w ++ (me, e) ∷ []) is
    ∙ (ap (λ m. numbered log ++ (m, e) ∷ []) (sym caller) ∙ (sym (numbered_append log (e ∷ [])) ∙ ap numbered (sym more)))

-- where it is legal, the board may note the entry
pub may_note : (settings : System) (log log' : List Entry) (whole : List (ℕ × Entry)) (me : ℕ) (e : Entry) → IsLegal settings log' →
    log' ≡ log ++ e ∷ [] → whole ≡ numbered log → e.caller ≡ me → IsHistory settings (whole ++ (me, e) ∷ [])
may_note settings log log' whole me e legal more is caller =
    subst (IsHistory settings) (sym (more_numbered log log' whole me e more is caller)) (record {
      is_legal = subst (IsLegal settings) (sym (entries_numbered log')) legal;
      callers = ap numbered (sym (entries_numbered log'));
    })

-- the reply is the machine's after the history that the desk had
pub answers_after : (settings : System) (d : Shown) (whole : List (ℕ × Entry)) (command : Command) (reply : Reply) → IsDesk d → d.state.plan.settings ≡ settings →
    whole ≡ numbered d.history → reply ≡ reply_to d.state command → reply ≡ reply_to (last_state settings (entries_of whole)) command
answers_after settings d whole command reply desk of is answer =
    let last : last_state settings (entries_of whole) ≡ d.state =
    ap (last_state settings) (ap entries_of is ∙ entries_numbered d.history) ∙ (ap (λ s. last_state s d.history) (sym of) ∙ desk.last) in
    answer ∙ ap (λ st. reply_to st command) (sym last)

-- the pass after its command was entered
pub entered : (settings : System) (d d' : Shown) (whole : List (ℕ × Entry)) (command : Command) (done : Done) (v w : Passing Entry System) →
    IsDesk d → IsDesk d' → d.state.plan.settings ≡ settings → AnswersCaller v.me command d done.reply d' → whole ≡ numbered d.history → IsPrefix v.seen whole →
    w ≡ record v { seen = whole ++ (v.me, entry_of v.me command done.reply) ∷ []; mine = v.mine ++ entry_of v.me command done.reply ∷ [] } →
    done.front ≡ length whole + 1 → Enters settings command v done w
entered settings d d' whole command done v w desk desk' of answers is begins pass front =
    let e = entry_of v.me command done.reply in
    let seen : w.seen ≡ whole ++ (v.me, e) ∷ [] = ap (λ x. x.seen) pass in
    let legal : IsLegal settings d'.history = subst (λ (s : System). IsLegal s d'.history) (settings_stay settings v.me command d done.reply d' answers of) desk'.legal in record {
      before = whole;
      begins = begins;
      answer = answers_after settings d whole command done.reply desk of is answers.answer;
      pass = pass;
      is_legal = subst (IsHistory settings) (sym seen) (may_note settings d.history d'.history whole v.me e legal answers.entered is refl);
      front = front ∙ sym (ap length seen ∙ length-append whole ((v.me, e) ∷ []));
    }

-- a command of the pass `me` was committed to the desk d, whose history is `whole`; e is the entry
pub record IsCommitted (me : ℕ) (command : Command) (d d' : Shown) (whole : List (ℕ × Entry)) (reply : Reply) (e : Entry) : Type 0 where
  pub desk : IsDesk d
  pub desk' : IsDesk d'
  pub answers : AnswersCaller me command d reply d'
  pub whole_is : whole ≡ numbered d.history
  pub entry : e ≡ entry_of me command reply

pub committed : (me caller : ℕ) (command : Command) (old d d' : Shown) (keeper : Keeping Entry System) (turn : Turning Entry) (ready : Ready) (reply : Reply) →
    IsDesk d → IsDesk d' → caller ≡ me → ready.entry ≡ entry_of caller command (reply_to old.state command) → AnswersCaller ready.entry.caller ready.entry.command d reply d' →
    keeper.seen ≡ numbered d.history → turn ≡ record { board = keeper.board; whole = keeper.seen; empty = keeper.empty; left = keeper.left } →
    IsCommitted me command d d' turn.whole reply (entry_of caller command reply)
committed me caller command old d d' keeper turn ready reply desk desk' number entry answers seen turned =
    let by : ready.entry.caller ≡ me = ap (λ x. x.caller) entry ∙ number in
    let asked : ready.entry.command ≡ command = ap (λ x. x.command) entry in record {
      desk = desk;
      desk' = desk';
      answers = subst₂ (λ a b. AnswersCaller a b d reply d') by asked answers;
      whole_is = ap (λ t. t.whole) turned ∙ seen;
      entry = ap (λ n. entry_of n command reply) number;
    }

-- so the board may note the entry
pub committed_history : (settings : System) (me : ℕ) (command : Command) (d d' : Shown) (whole : List (ℕ × Entry)) (reply : Reply) (e : Entry) →
    d.state.plan.settings ≡ settings → IsCommitted me command d d' whole reply e → IsHistory settings (whole ++ (me, e) ∷ [])
committed_history settings me command d d' whole reply e of c =
    may_note settings d.history d'.history whole me e
    (subst (λ (s : System). IsLegal s d'.history) (settings_stay settings me command d reply d' c.answers of) c.desk'.legal)
    (c.answers.entered ∙ ap (λ x. d.history ++ x ∷ []) (sym c.entry)) c.whole_is (ap (λ x. x.caller) c.entry)

pub committed_numbered : (me : ℕ) (command : Command) (d d' : Shown) (whole : List (ℕ × Entry)) (reply : Reply) (e : Entry) →
    IsCommitted me command d d' whole reply e → whole ++ (me, e) ∷ [] ≡ numbered d'.history
committed_numbered me command d d' whole reply e c =
    more_numbered d.history d'.history whole me e (c.answers.entered ∙ ap (λ x. d.history ++ x ∷ []) (sym c.entry)) c.whole_is (ap (λ x. x.caller) c.entry)

-- the keeper before the turn, without it, and after the note
pub keeper_after : (k0 k1 k2 k3 : Keeping Entry System) (turn : Turning Entry) (seen : List (ℕ × Entry)) (me : ℕ) (command : Command) (reply : Reply) (e : Entry) →
    k1 ≡ k0 → k0.left ≡ [] → k1.has_turn ≡ true → e ≡ entry_of me command reply → seen ≡ turn.whole ++ (me, e) ∷ [] →
    turn ≡ record { board = k1.board; whole = k1.seen; empty = k1.empty; left = k1.left } →
    k2 ≡ record k1 { has_turn = false; empty = []; left = [] } →
    k3 ≡ record k2 { seen = turn.whole ++ (me, e) ∷ []; has_turn = true; empty = turn.empty; left = turn.left ++ quanta_of e } →
    k3 ≡ record k0 { seen = seen; left = quanta_of_reply reply }
keeper_after k0 k1 k2 k3 turn seen me command reply e same none turned entry is e_turn e2 e3 =
    let board = ap (λ k. k.board) e2 ∙ ap (λ k. k.board) same in
    let terms = ap (λ k. k.terms) e2 ∙ ap (λ k. k.terms) same in
    let loads = ap (λ k. k.loads) e2 ∙ ap (λ k. k.loads) same in
    let has = sym turned ∙ ap (λ k. k.has_turn) same in
    let empty = ap (λ t. t.empty) e_turn ∙ ap (λ k. k.empty) same in
    let left = ap (λ t. t.left ++ quanta_of e) e_turn ∙ (ap (λ k. k.left ++ quanta_of e) same ∙ (ap (λ l. l ++ quanta_of e) none ∙ ap (λ x. quanta_of x) entry)) in
    e3 ∙ (λ i. record { board = board i; terms = terms i; seen = sym is i; loads = loads i; has_turn = has i; empty = empty i; left = left i })
