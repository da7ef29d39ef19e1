-- After a step was entered its quanta are left to issue, and can be.
use Rattle.std.proofs.Common.{◌≡◌, ℕ, ◌<◌, ◌==◌, Bool, true, false, [], ◌∷◌, ◌++◌, refl, sym, ap, ◌∙◌, subst, arith}
use Rattle.std.specs.Prelude.{if◌then◌else◌}
use Rattle.std.proofs.lemmas.Bool.Decides.{nat_tests}
use Rattle.pf_scenario.specs.System.{System}
use Rattle.pf_desk.specs.declared.command.Command.TheVariants.{Step}
use Rattle.pf_desk.specs.declared.reply.Reply.{Reply}
use Rattle.pf_desk.specs.declared.reply.Reply.TheVariants.{Stepped, Refused}
use Rattle.pf_desk.specs.declared.reply.Fault.TheVariants.{AtHorizon}
use Rattle.pf_desk.specs.declared.entry.Entry.{Entry}
use Rattle.pf_desk.specs.Machine.{State, opening_state, reply_to, row_at}
use Rattle.pf_desk.specs.Desk.{Shown, IsDesk}
use Rattle.pf_run.proofs.Within.{horizon_within}
use Rattle.pf_board.specs.declared.quantum.Quantum.{Quantum}
use Rattle.pf_board.specs.Quanta.{times, issues, is_same, one_if}
use Rattle.pf_board.specs.Passes.{Keeping, IsIn}
use Rattle.pf_board.proofs.Weights.{weigh_push}
use Rattle.pf_desk_board.specs.Histories.{numbered, quanta_of, quanta_of_reply, asks_step}
use Rattle.pf_desk_board.specs.Issuing.{AwaitsReply}
use Rattle.pf_desk_board.proofs.Limits.{row_within, quanta_fit}
use Rattle.pf_desk_board.proofs.Rising.{none_issued}

-- what the desk's step answers, where b says whether it is at the horizon
abbrev step_answer : Bool → State → Reply
step_answer b st = if b then Refused AtHorizon else Stepped st.now (row_at st.plan st.now)

-- the keeper has seen the desk's history, and then the entry with this reply, whose quanta are left; it knows the words of m processors empty
pub record IsEntered (m me : ℕ) (d : Shown) (e : Entry) (reply : Reply) (keeper : Keeping Entry System) : Type 0 where
  pub processors : m ≡ d.state.plan.settings.processors
  pub seen : keeper.seen ≡ numbered d.history ++ (me, e) ∷ []
  pub reply_is : e.reply ≡ reply
  pub left : keeper.left ≡ quanta_of_reply reply
  pub empty : (p : ℕ) → p < m → IsIn keeper.empty p

fresh : (me : ℕ) (d : Shown) (e : Entry) (q : Quantum) → IsDesk d → q.slot ≡ d.state.now →
    times q (issues quanta_of (numbered d.history ++ (me, e) ∷ [])) ≡ times q (quanta_of e)
fresh me d e q desk same =
    let none = none_issued (opening_state d.state.plan.settings) d.history q desk.legal (omega (arith, ap (λ st. st.now) desk.last, same)) in
    weigh_push quanta_of asks_step (λ r. one_if (is_same q r)) (numbered d.history) (me, e) ∙ omega (arith, none)

awaits_by : (m me : ℕ) (d : Shown) (e : Entry) (keeper : Keeping Entry System) (b : Bool) → (d.state.now == d.state.plan.settings.horizon) ≡ b → IsDesk d →
    IsEntered m me d e (step_answer b d.state) keeper → AwaitsReply m keeper (step_answer b d.state)
awaits_by m me d e keeper true is desk entered = tt
awaits_by m me d e keeper false is desk entered =
    let st = d.state in
    let scenario = desk.of_run.scenario in
    let row = row_within st scenario in
    let within = desk.of_run.within in
    let below : st.now < st.plan.settings.horizon = grind (arith, nat_tests) in record {
      places = row.0 ∙ sym entered.processors;
      left = entered.left;
      fit = quanta_fit st.now 0 (row_at st.plan st.now) (omega (arith, below, horizon_within st.plan.settings scenario.settings)) row.1;
      fresh = λ q same. ap (λ log. times q (issues quanta_of log)) entered.seen ∙ (fresh me d e q desk same ∙ ap (λ r. times q (quanta_of_reply r)) entered.reply_is);
      empty = entered.empty;
    }

pub awaits : (m me : ℕ) (d : Shown) (e : Entry) (reply : Reply) (keeper : Keeping Entry System) → IsDesk d → reply ≡ reply_to d.state Step →
    IsEntered m me d e reply keeper → AwaitsReply m keeper reply
awaits m me d e reply keeper desk answer entered =
    subst (AwaitsReply m keeper) (sym answer)
    (awaits_by m me d e keeper (d.state.now == d.state.plan.settings.horizon) refl desk (subst (λ (r : Reply). IsEntered m me d e r keeper) answer entered))
