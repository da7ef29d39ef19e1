use Rattle.std.proofs.Common.{sym, ap, ◌∙◌}
use Rattle.std.specs.Option.{option_map}
use Rattle.std.proofs.lemmas.Bool.{false≢true}
use Rattle.pf_scenario.specs.declared.found.Found.{Found}
use Rattle.pf_scenario.proofs.Numbering.{not_held}
use Rattle.pf_scenario.proofs.Moving.{held_placeable, held_room, indexed_without}
use Rattle.pf_scenario.proofs.agenda.Agenda.take_out.Goals as goal

pub unreachable-requires : goal.unreachable-requires
unreachable-requires c =
    let none = not_held c.self.inside.events c.args.id (sym c.find.ensures ∙ ap (option_map (λ (f : Found). f.event)) c.in_default.is) in
    let held = rw (← c.self.view_is) at c.requires in
    absurd (false≢true (sym none ∙ held))

pub of-requires : goal.of-requires
of-requires c = held_placeable c.self.inside.events c.args.id c.in-Some.found.event c.self.invariant.placeable (sym c.find.ensures ∙ ap (option_map (λ (f : Found). f.event)) c.in-Some.is)

pub note-requires : goal.note-requires
note-requires c = held_room c.self.inside.events c.args.id c.in-Some.found.event _ _ _ c.self.invariant (sym c.find.ensures ∙ ap (option_map (λ (f : Found). f.event)) c.in-Some.is)

pub invariant_of-self : goal.invariant_of-self
invariant_of-self c =
    let kept = indexed_without c.self.inside.events c.args.id c.in-Some.found.event _ _ _ _ _ c.self.invariant (sym c.find.ensures ∙ ap (option_map (λ (f : Found). f.event)) c.in-Some.is) c.note.ensures.joins c.note.ensures.leaves in
    rw (c.take_out.ensures, c.remove.ensures.keys, c.of.ensures) kept
