use Rattle.std.proofs.Common.{sym, ap₂, ◌∙◌, subst}
use Rattle.std.specs.List.{slice_get}
use Rattle.pf_place.specs.Lent.{places_lent}
use Rattle.pf_desk.specs.declared.command.Command.TheVariants.{Step}
use Rattle.pf_desk.specs.declared.reply.Reply.{Reply}
use Rattle.pf_desk.specs.Applied.{IsApplied}
use Rattle.pf_desk.specs.Desk.{entry_of}
use Rattle.pf_desk.specs.Machine.{reply_by_row}
use Rattle.pf_desk.proofs.Entering.{Commits, is_desk, parts_roomier, applied_commits, commit_parts}
use Rattle.pf_desk.proofs.Slots.{can_follow}
use Rattle.pf_desk.proofs.desk.Desk.step.Goals as goal
use Rattle.pf_desk.proofs.desk.Desk.step.Goals.{After-get}

-- what was answered
abbrev reply : After-get → Reply
reply c = reply_by_row c.now-slot.result (places_lent c.get.result)

applied : (c : After-get) → IsApplied Step c.self.inside.run (reply c) c.take_slot.new.self
applied c =
    let slot = c.now-slot.ensures in
    subst (λ answer. IsApplied Step c.self.inside.run answer c.take_slot.new.self)
    (sym (ap₂ reply_by_row slot (c.get.ensures ∙ ap₂ slice_get c.rows-2.ensures slot))) c.in_ok-take_slot.ensures.ok

commits : (c : After-get) →
    Commits c.self.inside.run c.take_slot.new.self c.self.inside.history.entries (entry_of c.args.caller Step (reply c))
commits c = applied_commits _ _ _ _ c.self.invariant.keeps (applied c)

pub enter_step-requires-clause-next : goal.enter_step-requires-clause-next
enter_step-requires-clause-next c =
    can_follow _ _ _ _ _ (parts_roomier _ _ _ _ c.self.invariant c.in_ok-reserve.ensures.same) (applied (goal.at.enter_step-requires-clause-next c).After-get).answer

pub invariant_of-self-2 : goal.invariant_of-self-2
invariant_of-self-2 c =
    commit_parts _ _ _ _ _ _ (commits ((goal.at.invariant_of-self-2 c).After-get)) c.self.invariant.processors c.in_ok-reserve.ensures.same c.enter_step.ensures

pub returns-clause-desk : goal.returns-clause-desk
returns-clause-desk c = is_desk _ _ _ _ (invariant_of-self-2 c).keeps
