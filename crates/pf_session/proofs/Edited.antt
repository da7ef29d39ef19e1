-- A change that was made ready, and is answered as one that is made.
use Rattle.std.proofs.Common.{◌≡◌, ◌∙◌, ℕ, Bool, Option, None, Some, ap, refl, sym}
use Rattle.pf_scenario.specs.Edit.{edit_fault}
use Rattle.pf_scenario.specs.Scenario.{plan_after}
use Rattle.pf_scenario.specs.declared.change.Change.{Change}
use Rattle.pf_scenario.specs.declared.fault.EditFault.{EditFault}
use Rattle.pf_desk.specs.Desk.{MakesReady, Ready, Shown}
use Rattle.pf_desk.specs.Machine.{edit_reply, reply_to, state_after}
use Rattle.pf_desk.specs.declared.command.Command.TheVariants.{Edit}
use Rattle.pf_desk.specs.declared.reply.Reply.{Reply}
use Rattle.pf_desk.specs.declared.reply.Reply.TheVariants.{Edited}

module _ (d : Shown) (ready : Ready) (change : Change) (strict : Bool) (id : ℕ) (makes : MakesReady 0 (Edit change strict) d ready) (edited : ready.entry.reply ≡ Edited id) where
  same_reply : reply_to d.state (Edit change strict) ≡ Edited id
  same_reply = sym (ap (λ e. e.reply) makes.entry) ∙ edited

  -- Use: it had no fault.
  pub edited_faultless : edit_fault d.state.plan change ≡ None
  edited_faultless = by (edit_fault d.state.plan change) same_reply
    where
      by : (o : Option EditFault) → edit_reply d.state change strict o ≡ Edited id → o ≡ None
      by None e = refl
      by (Some fault) e = cc

  -- Use: the plan is then the changed one.
  pub edited_state : ready.seen.state ≡ record d.state { plan = plan_after d.state.plan change }
  edited_state = makes.state ∙ ap (state_after d.state (Edit change strict)) same_reply
