-- How many slots the entries of a legal history took.
use Rattle.std.proofs.Common.{◌≡◌, ℕ, ◌+◌, ◌==◌, Bool, true, false, if◌then◌else◌, Option, Some, None, List, [], ◌∷◌, length, All, refl, sym, ap, ◌∙◌, arith}
use Rattle.std.specs.List.{slice_get}
use Rattle.std.proofs.lemmas.List.Elements.{All-nil, All-cons}
use Rattle.pf_order.specs.declared.pick.Pick.{Pick}
use Rattle.pf_scenario.specs.Scenario.{Plan, plan_after}
use Rattle.pf_scenario.specs.Edit.{edit_fault}
use Rattle.pf_scenario.specs.declared.change.Change.{Change}
use Rattle.pf_scenario.specs.declared.fault.EditFault.{EditFault}
use Rattle.pf_run.specs.RunRows.{denials_in}
use Rattle.pf_run.specs.declared.denied.Denied.{Denied}
use Rattle.pf_timeline.specs.Timeline.{KeptRun}
use Rattle.pf_desk.specs.declared.command.Command.{Command}
use Rattle.pf_desk.specs.declared.command.Command.TheVariants.{Edit, Step}
use Rattle.pf_desk.specs.declared.reply.Reply.{Reply}
use Rattle.pf_desk.specs.declared.reply.Reply.TheVariants.{Edited, Stepped, Refused}
use Rattle.pf_desk.specs.declared.reply.Fault.TheVariants.{AtHorizon}
use Rattle.pf_desk.specs.declared.entry.Entry.{Entry}
use Rattle.pf_desk.specs.Machine.{State, opening_state, row_at, strict_reply, edit_reply, reply_to, state_after}
use Rattle.pf_desk.specs.History.{IsLegalFrom, state_behind}
use Rattle.pf_desk.specs.Kept.{state_of, ArePartsOfDesk}
use Rattle.pf_desk.specs.Recorded.{Recorded, slots_of, slots_taken, CanFollow}
use Rattle.pf_desk.proofs.Pasts.{places_in}

-- no edit takes a slot
strict_unstepped : (st : State) (change : Change) (first : Option Denied) (slot : ℕ) (row : List (Option Pick)) →
    Stepped slot row ≡ strict_reply st change first → ⊥
strict_unstepped st change None slot row answer = cc
strict_unstepped st change (Some d) slot row answer = cc

unstepped : (st : State) (change : Change) (strict : Bool) (fault : Option EditFault) (slot : ℕ) (row : List (Option Pick)) →
    Stepped slot row ≡ edit_reply st change strict fault → ⊥
unstepped st change strict (Some fault) slot row answer = cc
unstepped st change false None slot row answer = cc
unstepped st change true None slot row answer =
    strict_unstepped st change (slice_get (denials_in (plan_after st.plan change) st.now) 0) slot row answer

-- a step that is answered so took this slot, and no step changes an event
step_taken : (at_horizon : Bool) (slot now : ℕ) (row places : List (Option Pick)) →
    Stepped slot row ≡ (if at_horizon then Refused AtHorizon else Stepped now places) → (slot ≡ now) × (row ≡ places)
step_taken true slot now row places answer = cc
step_taken false slot now row places answer = (cc, cc)

step_unedited : (at_horizon : Bool) (id now : ℕ) (places : List (Option Pick)) →
    Edited id ≡ (if at_horizon then Refused AtHorizon else Stepped now places) → ⊥
step_unedited true id now places answer = cc
step_unedited false id now places answer = cc

-- a command moves now by as many slots as its reply took
now_after : (st : State) (command : Command) (reply : Reply) → reply ≡ reply_to st command →
    (state_after st command reply).now ≡ st.now + slots_of reply
now_after st command (Refused fault) answer = omega arith
now_after st Step (Stepped slot row) answer = omega arith
now_after st Step (Edited id) answer =
    absurd (step_unedited (st.now == st.plan.settings.horizon) id st.now (row_at st.plan st.now) answer)
now_after st (Edit change strict) (Edited id) answer = omega arith
now_after st (Edit change strict) (Stepped slot row) answer =
    absurd (unstepped st change strict (edit_fault st.plan change) slot row answer)

-- legal entries move it by as many as they took
now_behind : (st : State) (es : List Entry) → IsLegalFrom st es → (state_behind st es).now ≡ st.now + slots_taken es
now_behind st [] legal = omega arith
now_behind st (e ∷ es) legal =
    omega (arith, now_after st e.command e.reply legal.0, now_behind (state_after st e.command e.reply) es legal.1)

none_taken : (es : List Entry) → slots_taken es ≡ 0 → All (λ e. slots_of e.reply ≡ 0) es
none_taken [] none = All-nil (λ e. slots_of e.reply ≡ 0)
none_taken (e ∷ es) none =
    All-cons (λ e. slots_of e.reply ≡ 0) e es (omega (arith, none)) (none_taken es (omega (arith, none)))

-- Use: legal entries that leave now where it was took no slot.
pub took_none : (st : State) (es : List Entry) → IsLegalFrom st es → (state_behind st es).now ≡ st.now →
    All (λ e. slots_of e.reply ≡ 0) es
took_none st es legal still = none_taken es (omega (arith, now_behind st es legal, still))

-- Use: the machine's reply to a command can be the next entry.
pub can_follow : (plan : Plan) (kept : KeptRun) (h : Recorded) (command : Command) (reply : Reply) → ArePartsOfDesk plan kept h →
    reply ≡ reply_to (state_of plan kept) command → CanFollow h command reply
can_follow plan kept h command (Edited id) is answer = tt
can_follow plan kept h command (Refused fault) is answer = tt
can_follow plan kept h (Edit change strict) (Stepped slot row) is answer =
    absurd (unstepped (state_of plan kept) change strict (edit_fault plan change) slot row answer)
can_follow plan kept h Step (Stepped slot row) is answer =
    let taken = step_taken (kept.now == plan.settings.horizon) slot kept.now row (row_at plan kept.now) answer in
    let now = ap (λ st. st.now) is.keeps.last in (
      refl,
      omega (arith, taken.0, now, now_behind (opening_state plan.settings) h.entries is.keeps.legal),
      ap length taken.1
          ∙ places_in plan (kept.now + 1) kept.now [] is.keeps.stands.of_run.scenario (omega arith)
          ∙ sym is.processors,
    )
