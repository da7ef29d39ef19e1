use Rattle.std.proofs.Common.{◌+◌, sym, ◌∙◌, drop, arith}
use Rattle.pf_order.specs.declared.pick.Pick.{Pick}
use Rattle.pf_place.specs.Lent.{lent_row}
use Rattle.pf_place.specs.Occupancy.{others}
use Rattle.pf_place.proofs.Filling.{filled_full}
use Rattle.pf_place.proofs.Seats.{seated_more, seated_less, seated_all}
use Rattle.pf_place.proofs.seating.seat_others.Goals as goal
use Rattle.pf_place.proofs.seating.seat_others.Goals.{then-free-places+then-not-sat, else-free-places, else-free-places-via-then-free-places+else-not-sat, else-free-places-via-else-free-places}

pub loop-pick-preserved : goal.loop-pick-preserved
loop-pick-preserved c =
    let k = c.loop-pick.pick-index in
    let earlier = lent_row c.args.earlier in
    let picks = c.picks-picks.result.now in
    let places = c.loop-pick.places in
    let none : Pick = record { task = 0; sub = 0 } in
    elim c.if-free-places.branch [
      | then-free-places+then-not-sat w ↦
          rw (w.places-is, w.free-is) (
            rw (w.seat_lowest-free.ensures.seated)
                (seated_more c.args.places.now places earlier picks k none c.loop-pick-test.true (sym w.sat.ensures ∙ w.if-not-sat.true) c.loop-pick.invariant.0),
            w.seat_lowest-free.ensures.next,
          )
      | else-free-places w ↦
          rw (w.places-is, w.free-is) (
            elim w.else-free-places.branch [
              | else-free-places-via-then-free-places+else-not-sat v ↦
                  seated_less c.args.places.now places earlier picks k none c.loop-pick-test.true (sym v.sat.ensures ∙ v.if-not-sat.false) c.loop-pick.invariant.0
              | else-free-places-via-else-free-places v ↦
                  c.loop-pick.invariant.0
                  ∙ filled_full places (omega (arith, c.loop-pick.invariant.1, v.if-free-places.false))
                  (others earlier (drop k picks)) (others earlier (drop (k + 1) picks))
            ],
            c.loop-pick.invariant.1,
          )
    ]

pub returns : goal.returns
returns c =
    rw (← c.picks-picks.ensures)
    (seated_all c.args.places.now c.loop-pick.places (lent_row c.args.earlier) c.picks-picks.result.now c.loop-pick.pick-index c.loop-pick-test.false c.loop-pick.invariant.0)
