use Rattle.std.proofs.Common.{◌≡◌, ◌<◌, false, true, length, subst, arith}
use Rattle.std.specs.List.{All}
use Rattle.std.specs.Ordering.{is_lt}
use Rattle.std.proofs.lemmas.Bool.{ltb-true}
use Rattle.pf_scenario.specs.Place.{place_cmp}
use Rattle.pf_scenario.proofs.Slots.{behind_last, behind_none}
use Rattle.pf_scenario.proofs.agenda.Agenda.is_behind.Goals as goal

pub returns-in-Some : goal.returns-in-Some
returns-in-Some c less =
    let placed = c.self.invariant.placed in
    let last = c.in-Some.last.now in
    let up_to = subst (λ ps. All (λ q. is_lt (place_cmp last q) ≡ false) ps) placed c.in-Some.ensures.all_up_to in
    rw (← c.self.view_is)
    (behind_last c.args.t c.self.inside.events last up_to (omega (arith, ltb-true _ _ less)))

pub returns-in-None : goal.returns-in-None
returns-in-None c h =
    let empty = c.in-None.ensures.variant.1 in
    rw (← c.self.view_is)
    (behind_none c.args.t c.self.inside.events (subst (λ ps. 0 < length ps → false ≡ true) c.self.invariant.placed empty))
