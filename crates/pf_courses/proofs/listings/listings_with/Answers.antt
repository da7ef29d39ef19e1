use Rattle.std.proofs.Common.{◌≡◌, ◌==◌, ◌∙◌, ◌-◌, nat_lt, find, filter, map, refl, ap, sym, arith}
use Rattle.std.specs.List.{list_any}
use Rattle.pf_weight.specs.declared.task.TheConstants.{LARGEST_TASK}
use Rattle.pf_scenario.specs.Event.{slot_of}
use Rattle.pf_scenario.specs.declared.event.Numbered.{Numbered}
use Rattle.pf_courses.specs.Built.{listings_by}
use Rattle.pf_courses.specs.Course.{Track}
use Rattle.pf_courses.proofs.Ranked.{listed_one, listed_none, listing_is}
use Rattle.pf_courses.proofs.listings.listings_with.Goals as goal
use Rattle.pf_courses.proofs.listings.listings_with.Goals.{then-is_listed+in_ok-listing+in_ok-push, else-is_listed}

pub loop-task-preserved : goal.loop-task-preserved
loop-task-preserved c =
    let tracks = c.args.courses.items in
    let own = c.args.own.now in
    let denied = c.args.denied.now in
    let n = c.args.now in
    let task = c.loop-task.task in
    let left = c.loop-task.courses.items in
    let events = c.get-events.result.now in
    let listed = ap (list_any (λ (x : Numbered). nat_lt (slot_of x.event) n)) (sym c.get-events.ensures) ∙ sym c.is_listed.ensures in
    elim c.if-is_listed.branch [
      | then-is_listed+in_ok-listing+in_ok-push w ↦ record {
        listed = listed_one tracks own denied n c.loop-task.listed.items _ task _ (omega (arith, c.loop-task.auto.task)) (listed ∙ w.if-is_listed.true)
            (listing_is tracks own denied n _ task task (find (λ (track : Track). track.task == task) left)
            (map (λ (x : Numbered). slot_of x.event) (filter (λ (x : Numbered). list_any (λ m. m == x.id) denied) events)) events
            w.in_ok-listing.ensures.value refl (c.loop-task.invariant.others task (omega arith)) refl c.get-events.ensures)
            (ap (λ v. v.items) w.listed-is ∙ w.in_ok-push.ensures.items) c.loop-task.invariant.listed;
        others = λ other above.
            ap (λ v. find (λ (track : Track). track.task == other) v.items) w.courses-is
            ∙ w.listing.ensures.others other (λ e. omega (arith, e, above)) ∙ c.loop-task.invariant.others other (omega (arith, above));
      }
      | else-is_listed w ↦ record {
        listed = listed_none tracks own denied n c.loop-task.listed.items _ task (omega (arith, c.loop-task.auto.task)) (listed ∙ w.if-is_listed.false)
            (ap (λ v. v.items) w.listed-is) c.loop-task.invariant.listed;
        others = λ other above.
            ap (λ v. find (λ (track : Track). track.task == other) v.items) w.courses-is ∙ c.loop-task.invariant.others other (omega (arith, above));
      }
    ]

pub returns : goal.returns
returns c =
    let z : c.loop-task.task - 1 ≡ LARGEST_TASK = omega (arith, c.loop-task-test.false, c.loop-task.auto.task-end (omega arith)) in
    c.loop-task.invariant.listed ∙ ap (listings_by c.args.courses.items c.args.own.now c.args.denied.now c.args.now) z
