use Rattle.std.proofs.Common.{◌∙◌, Option, ap, sym, arith}
use Rattle.std.specs.Option.{option_and_then}
use Rattle.pf_scenario.specs.Event.{task_of}
use Rattle.pf_scenario.specs.declared.event.Numbered.{Numbered}
use Rattle.pf_picture.proofs.Owners.{found, not_found, other_at}
use Rattle.pf_picture.proofs.denials.owner_of.Goals as goal
use Rattle.pf_picture.proofs.denials.owner_of.Goals.{else-place-events-via-then-place-events+else-events-place, else-place-events-via-else-place-events}

pub returns-then-events-place : goal.returns-then-events-place
returns-then-events-place c =
    c.task.ensures
    ∙ ap (λ (o : Option Numbered). option_and_then (λ (x : Numbered). task_of x.event) o)
    (sym (found c.args.events.now c.args.id c.place_of-place.result _ c.if-place-events.true c.place_of-place.ensures.below c.if-events-place.true))

pub returns : goal.returns
returns c =
    let xs = c.args.events.now in
    let id = c.args.id in
    let place = c.place_of-place.result in
    let none = not_found xs id place c.place_of-place.ensures.below c.place_of-place.ensures.others c.requires in
    elim c.else-place-events.branch [
      | else-place-events-via-then-place-events+else-events-place w ↦
          ap (λ (o : Option Numbered). option_and_then (λ (x : Numbered). task_of x.event) o) (sym (none (λ d within. other_at xs id place _ d within w.if-events-place.false)))
      | else-place-events-via-else-place-events w ↦
          ap (λ (o : Option Numbered). option_and_then (λ (x : Numbered). task_of x.event) o) (sym (none (λ d within. absurd (omega arith))))
    ]
