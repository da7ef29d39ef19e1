use Rattle.std.proofs.Common.{ℕ, ◌≤◌, List, length, ap, ap₂, sym, subst, ◌∙◌}
use Rattle.pf_place.specs.Lent.{lent_row}
use Rattle.pf_desk.specs.declared.command.Command.TheVariants.{Step}
use Rattle.pf_desk.specs.declared.reply.Reply.TheVariants.{Stepped}
use Rattle.pf_desk.specs.declared.entry.Entry.{Entry}
use Rattle.pf_desk.specs.Desk.{entry_of}
use Rattle.pf_desk.specs.Recorded.{Recorded, slots_taken, entered_in}
use Rattle.pf_desk.proofs.Laying.{room_is_there, room_taken, length-row_put, slot_entered, slot_laid}
use Rattle.pf_desk.proofs.history.History.enter_slot.Goals as goal

pub invariant_of-self : goal.invariant_of-self
invariant_of-self c =
    let inside = c.self.inside in
    let are = c.self.invariant in
    let row = lent_row c.args.row in
    let room = room_is_there inside.has_room (subst (λ (h : Recorded). 1 ≤ h.spare) (sym c.self.view_is) c.requires.room) in
    let long = are.next room in
    let next = c.requires.next ∙ ap (λ (h : Recorded). slots_taken h.entries) (sym c.self.view_is) ∙ sym are.taken in
    let count = c.len.ensures ∙ ap length c.assign_last.ensures ∙ length-row_put inside.slots inside.rows row long in
    rw (count, c.push_reserved.ensures.items, c.assign_last.ensures)
    (slot_laid inside.processors inside.slots inside.briefs.items inside.settled.items inside.rows _ _ are.laid are.taken c.args.caller c.args.slot row long next)

pub returns : goal.returns
returns c =
    let inside = c.self.inside in
    let are = c.self.invariant in
    let row = lent_row c.args.row in
    let e = entry_of c.args.caller Step (Stepped c.args.slot row) in
    let room = room_is_there inside.has_room (subst (λ (h : Recorded). 1 ≤ h.spare) (sym c.self.view_is) c.requires.room) in
    let next = c.requires.next ∙ ap (λ (h : Recorded). slots_taken h.entries) (sym c.self.view_is) ∙ sym are.taken in
    let entered = slot_entered inside.slots inside.briefs.items inside.settled.items inside.rows are.laid c.args.caller c.args.slot row (are.next room) next in
    rw (c.push_reserved.ensures.items, c.assign_last.ensures)
    (ap₂ (λ (es : List Entry) (n : ℕ). let h : Recorded = record { entries = es; processors = inside.processors; spare = n } in h) entered (room_taken inside.has_room)
    ∙ ap (λ h. entered_in h e) c.self.view_is)
