use Rattle.std.proofs.Common.{sym, ap, ◌∙◌}
use Rattle.std.specs.Option.{option_map}
use Rattle.std.proofs.lemmas.Bool.{false≢true}
use Rattle.pf_scenario.specs.declared.found.Found.{Found}
use Rattle.pf_scenario.proofs.Numbering.{not_held}
use Rattle.pf_scenario.proofs.Indexing.{indexed_grown}
use Rattle.pf_scenario.proofs.Moving.{held_placeable, held_room, indexed_with}
use Rattle.pf_scenario.proofs.agenda.Agenda.replace.Goals as goal

pub unreachable-requires : goal.unreachable-requires
unreachable-requires c =
    let none = not_held c.self.inside.events c.args.id (sym c.find.ensures ∙ ap (option_map (λ (f : Found). f.event)) c.in_default.is) in
    let held = rw (← c.self.view_is) at c.requires.held in
    absurd (false≢true (sym none ∙ held))

pub of-from-requires : goal.of-from-requires
of-from-requires c = held_placeable c.self.inside.events c.args.id c.in-Some.found.event c.self.invariant.placeable (sym c.find.ensures ∙ ap (option_map (λ (f : Found). f.event)) c.in-Some.is)

pub note-requires : goal.note-requires
note-requires c =
    let grown = indexed_grown c.self.inside.events _ _ _ _ _ c.self.invariant c.grow_for.ensures.joins c.grow_for.ensures.leaves in
    held_room c.self.inside.events c.args.id c.in-Some.found.event _ _ _ grown (sym c.find.ensures ∙ ap (option_map (λ (f : Found). f.event)) c.in-Some.is)

pub invariant_of-self-2 : goal.invariant_of-self-2
invariant_of-self-2 c =
    let events = c.self.inside.events in
    let grown = indexed_grown events _ _ _ _ _ c.self.invariant c.grow_for.ensures.joins c.grow_for.ensures.leaves in
    let new = rw (← c.self.view_is) at c.requires.new in
    let move = rw (c.of-from.ensures, c.of-to.ensures) at c.in_ok-move_place.ensures.ok in
    let kept = indexed_with events c.args.id c.in-Some.found.event c.args.event _ _ _ _ _ _ _ _ grown (sym c.find.ensures ∙ ap (option_map (λ (f : Found). f.event)) c.in-Some.is) new move c.note.ensures.joins c.note.ensures.leaves c.note-2.ensures.joins c.note-2.ensures.leaves in
    rw c.set.ensures kept
