use Rattle.std.proofs.Common.{ℕ, List, ap, ap₂, sym, ◌∙◌}
use Rattle.pf_desk.specs.declared.entry.Entry.{Entry}
use Rattle.pf_desk.specs.declared.settled.Settled.{Settled}
use Rattle.pf_desk.specs.Desk.{entry_of}
use Rattle.pf_desk.specs.Recorded.{Recorded, entered_in}
use Rattle.pf_desk.specs.Laid.{reply_of_answer}
use Rattle.pf_desk.proofs.Laying.{room_taken, settled_entered, command_laid}
use Rattle.pf_desk.proofs.history.History.enter_settled.Goals as goal

pub invariant_of-self : goal.invariant_of-self
invariant_of-self c =
    let inside = c.self.inside in
    let are = c.self.invariant in
    let settled : Settled = record { command = c.args.command; answer = c.args.answer } in
    let at = sym c.len-index.ensures in
    rw (c.push_reserved-2.ensures.items, c.push_reserved.ensures.items)
    (command_laid inside.processors inside.slots inside.briefs.items inside.settled.items inside.rows _ _ are.laid are.taken c.args.caller c.len-index.result settled at are.kept)

pub returns : goal.returns
returns c =
    let inside = c.self.inside in
    let are = c.self.invariant in
    let settled : Settled = record { command = c.args.command; answer = c.args.answer } in
    let e = entry_of c.args.caller c.args.command (reply_of_answer c.args.answer) in
    let at = sym c.len-index.ensures in
    let entered = settled_entered inside.slots inside.briefs.items inside.settled.items inside.rows are.laid c.args.caller c.len-index.result settled at in
    rw (c.push_reserved-2.ensures.items, c.push_reserved.ensures.items)
    (ap₂ (λ (es : List Entry) (n : ℕ). let h : Recorded = record { entries = es; processors = inside.processors; spare = n } in h) entered (room_taken inside.has_room)
    ∙ ap (λ h. entered_in h e) c.self.view_is)
