-- A legal history issues the quanta of each slot once, since the slots of its steps rise.
use Rattle.std.proofs.Common.{◌≡◌, ◌≢◌, ℕ, suc, ◌≤◌, ◌==◌, Bool, true, false, Option, None, Some, List, [], ◌∷◌, refl, sym, ap, ◌∙◌, arith}
use Rattle.pf_order.specs.declared.pick.Pick.{Pick}
use Rattle.pf_scenario.specs.declared.change.Change.{Change}
use Rattle.pf_scenario.specs.declared.fault.EditFault.{EditFault}
use Rattle.pf_scenario.specs.Edit.{edit_fault}
use Rattle.pf_run.specs.declared.denied.Denied.{Denied}
use Rattle.pf_desk.specs.declared.command.Command.{Command}
use Rattle.pf_desk.specs.declared.command.Command.TheVariants.{Edit, Step}
use Rattle.pf_desk.specs.declared.reply.Reply.{Reply}
use Rattle.pf_desk.specs.declared.reply.Reply.TheVariants.{Edited, Stepped, Refused}
use Rattle.pf_desk.specs.declared.entry.Entry.{Entry}
use Rattle.pf_desk.specs.Machine.{State, step_reply, strict_reply, edit_reply, reply_to, state_after, row_at}
use Rattle.pf_desk.specs.History.{IsLegalFrom, state_behind}
use Rattle.pf_desk.specs.Desk.{entry_of}
use Rattle.pf_board.specs.declared.quantum.Quantum.{Quantum}
use Rattle.pf_board.specs.Quanta.{times, issues, is_step, is_same, one_if}
use Rattle.pf_board.proofs.Weights.{weigh-append}
use Rattle.pf_desk_board.proofs.Issuing.{differ}
use Rattle.pf_desk_board.specs.Histories.{numbered, quantum_of, quanta_from, quanta_of_reply, quanta_of, asks_step, is_step_command}

-- edits issue nothing
strict_none : (st : State) (change : Change) (o : Option Denied) → quanta_of_reply (strict_reply st change o) ≡ []
strict_none st change None = refl
strict_none st change (Some d) = refl

edit_none : (st : State) (change : Change) (strict : Bool) (o : Option EditFault) → quanta_of_reply (edit_reply st change strict o) ≡ []
edit_none st change strict (Some fault) = refl
edit_none st change true None = strict_none st change _
edit_none st change false None = refl

pub edits_issue_none : (st : State) (change : Change) (strict : Bool) → quanta_of_reply (reply_to st (Edit change strict)) ≡ []
edits_issue_none st change strict = edit_none st change strict (edit_fault st.plan change)

-- an entry of the machine is a step where the command is
pub steps_ask : (st : State) (caller : ℕ) (command : Command) (reply : Reply) → reply ≡ reply_to st command →
    is_step quanta_of asks_step (entry_of caller command reply) ≡ true → is_step_command command ≡ true
steps_ask st caller Step reply is e = refl
steps_ask st caller (Edit change strict) reply is e =
    let none : quanta_of_reply reply ≡ [] = ap quanta_of_reply is ∙ edits_issue_none st change strict in
    sym (ap (λ qs. is_some qs) none) ∙ e
  where
    is_some : List Quantum → Bool
    is_some [] = false
    is_some (q ∷ qs) = true

-- a quantum of another slot or processor is another
other : (slot p : ℕ) (pick : Pick) (q : Quantum) → q.slot ≢ slot → one_if (is_same q (quantum_of slot p pick)) ≡ 0
other slot p pick q ne = differ q (quantum_of slot p pick) (λ e. ne (ap (λ x. x.slot) e))

none_of_slot : (slot p : ℕ) (row : List (Option Pick)) (q : Quantum) → q.slot ≢ slot → times q (quanta_from slot p row) ≡ 0
none_of_slot slot p [] q ne = refl
none_of_slot slot p (None ∷ row) q ne = none_of_slot slot (suc p) row q ne
none_of_slot slot p (Some pick ∷ row) q ne =
    omega (arith, other slot p pick q ne, none_of_slot slot (suc p) row q ne)

-- one entry: it never goes back, and what it issues is of a slot that it takes
step_cases : (st : State) (b : Bool) (q : Quantum) → ((st.now == st.plan.settings.horizon) ≡ b) → q.slot ≢ st.now → times q (quanta_of_reply (step_reply st)) ≡ 0
step_cases st true q is ne = rw is refl
step_cases st false q is ne = rw is (none_of_slot st.now 0 (row_at st.plan st.now) q ne)

goes_on : (st : State) (c : Command) (r : Reply) → st.now ≤ (state_after st c r).now
goes_on st c (Refused fault) = omega arith
goes_on st Step (Edited id) = omega arith
goes_on st Step (Stepped slot row) = omega arith
goes_on st (Edit change strict) (Edited id) = omega arith
goes_on st (Edit change strict) (Stepped slot row) = omega arith

-- the quanta of a reply of the machine are of slots that are taken then
reply_slots : (st : State) (c : Command) (r : Reply) (q : Quantum) → r ≡ reply_to st c → (state_after st c r).now ≤ q.slot → times q (quanta_of_reply r) ≡ 0
reply_slots st c (Edited id) q is late = refl
reply_slots st c (Refused fault) q is late = refl
reply_slots st Step (Stepped slot row) q is late =
    ap (λ r. times q (quanta_of_reply r)) is ∙ step_cases st (st.now == st.plan.settings.horizon) q refl (omega arith)
reply_slots st (Edit change strict) (Stepped slot row) q is late =
    ap (λ r. times q (quanta_of_reply r)) is ∙ ap (times q) (edits_issue_none st change strict)

behind_goes_on : (st : State) (es : List Entry) → st.now ≤ (state_behind st es).now
behind_goes_on st [] = omega arith
behind_goes_on st (e ∷ es) = omega (arith, goes_on st e.command e.reply, behind_goes_on (state_after st e.command e.reply) es)

-- a legal history has issued nothing of the slots from its last state on
pub none_issued : (st : State) (es : List Entry) (q : Quantum) → IsLegalFrom st es → (state_behind st es).now ≤ q.slot →
    times q (issues quanta_of (numbered es)) ≡ 0
none_issued st [] q legal late = refl
none_issued st (e ∷ es) q legal late =
    let next = state_after st e.command e.reply in
    let here = reply_slots st e.command e.reply q legal.0 (omega (arith, behind_goes_on next es)) in
    let rest = none_issued next es q legal.1 late in
    weigh-append (λ r. one_if (is_same q r)) (quanta_of e) (issues quanta_of (numbered es)) ∙ omega arith
