use Rattle.std.proofs.Common.{◌≡◌, ◌∙◌, ℕ, ◌+◌, ◌-◌, List, length, map, ap, ap₂, sym, subst}
use Rattle.std.specs.Prelude.{is_some}
use Rattle.std.specs.List.{range_with_len}
use Rattle.std.specs.List.Sorted.{IsNonDecreasingBy, IsPartitionedBy}
use Rattle.std.proofs.lemmas.List.{length-map}
use Rattle.std.proofs.lemmas.List.FromFn.{length-range_with_len}
use Rattle.pf_tally.specs.Clock.{Stop}
use Rattle.pf_tally.specs.Held.{stop_of}
use Rattle.pf_tally.proofs.Ledgers.{can_miss}
use Rattle.pf_courses.specs.Built.{windows_by, lag_with}
use Rattle.pf_courses.specs.Course.{leave_in}
use Rattle.pf_courses.specs.Windows.{ran_below}
use Rattle.pf_courses.specs.declared.window.Window.{Window}
use Rattle.pf_courses.proofs.Tracks.{course_is}
use Rattle.pf_courses.proofs.Order.{chain_starts, chain_ends, releases_are, deadlines_are, quanta_are}
use Rattle.pf_courses.proofs.course.Course.of.Goals as goal

pub windows_of-requires-clause-chain : goal.windows_of-requires-clause-chain
windows_of-requires-clause-chain c =
    let can = can_miss c.args.task c.args.ran.now c.args.events.now c.args.now c.deref.result.now c.requires (c.deref.ensures.value ∙ c.in_ok-delays.ensures) in
    can.chain

pub windows_of-requires-clause-small : goal.windows_of-requires-clause-small
windows_of-requires-clause-small c =
    let can = can_miss c.args.task c.args.ran.now c.args.events.now c.args.now c.deref.result.now c.requires (c.deref.ensures.value ∙ c.in_ok-delays.ensures) in
    can.small

pub stops_of-requires : goal.stops_of-requires
stops_of-requires c =
    let can = can_miss c.args.task c.args.ran.now c.args.events.now c.args.now c.deref-2.result.now c.requires (c.deref-2.ensures.value ∙ c.in_ok-delays.ensures) in
    can.small

pub lags_of-requires-clause-starts : goal.lags_of-requires-clause-starts
lags_of-requires-clause-starts c =
    let j = c.args.task in
    let held = c.deref-2.result.now in
    let can = can_miss j c.args.ran.now c.args.events.now c.args.now held c.requires (c.deref-2.ensures.value ∙ c.in_ok-delays.ensures) in
    let stops : c.deref-3.result.now ≡ map (stop_of j.weight) held = c.deref-3.ensures.value ∙ c.in_ok-stops.ensures ∙ ap (λ j. map (stop_of j.weight) held) c.task.view_is in
    let P : List Stop → Type 0 = IsNonDecreasingBy (λ s. s.start) in
    subst P (sym stops) (chain_starts j held can.share can.chain)

pub lags_of-requires-clause-ends : goal.lags_of-requires-clause-ends
lags_of-requires-clause-ends c =
    let j = c.args.task in
    let held = c.deref-2.result.now in
    let can = can_miss j c.args.ran.now c.args.events.now c.args.now held c.requires (c.deref-2.ensures.value ∙ c.in_ok-delays.ensures) in
    let stops : c.deref-3.result.now ≡ map (stop_of j.weight) held = c.deref-3.ensures.value ∙ c.in_ok-stops.ensures ∙ ap (λ j. map (stop_of j.weight) held) c.task.view_is in
    let P : List Stop → Type 0 = IsNonDecreasingBy (λ s. s.end) in
    subst P (sym stops) (chain_ends j held can.share can.chain)

pub invariant_of-result : goal.invariant_of-result
invariant_of-result c =
    let j = c.args.task in
    let ran = c.args.ran.now in
    let on = c.args.on.now in
    let n = c.args.now in
    let end = c.end_of-end.result in
    let held = c.deref.result.now in
    let held' = c.deref-2.result.now in
    let can = can_miss j ran c.args.events.now n held c.requires (c.deref.ensures.value ∙ c.in_ok-delays.ensures) in
    let can' = can_miss j ran c.args.events.now n held' c.requires (c.deref-2.ensures.value ∙ c.in_ok-delays.ensures) in
    let windows : c.in_ok-windows.windows.items ≡ windows_by j ran on held end n = c.in_ok-windows.ensures in
    let stops : c.in_ok-stops.stops.items ≡ map (stop_of j.weight) held' = c.in_ok-stops.ensures ∙ ap (λ j. map (stop_of j.weight) held') c.task.view_is in
    let P : List Window → Type 0 = IsNonDecreasingBy (λ w. w.release) in
    let Q : List Window → Type 0 = IsNonDecreasingBy (λ w. w.deadline) in
    let R : List Window → Type 0 = λ ws. (t : ℕ) → IsPartitionedBy (ran_below t) ws in
    let S : List Stop → Type 0 = IsNonDecreasingBy (λ s. s.start) in
    let T : List Stop → Type 0 = IsNonDecreasingBy (λ s. s.end) in
    record {
      releases = subst P (sym windows) (releases_are j ran on held end n can.share);
      deadlines = subst Q (sym windows) (deadlines_are j ran on held end n can.share);
      quanta = subst R (sym windows) (quanta_are j ran on held end n c.requires.ran_rise);
      starts = subst S (sym stops) (chain_starts j held' can'.share can'.chain);
      ends = subst T (sym stops) (chain_ends j held' can'.share can'.chain);
      lags =
          ap length c.in_ok-lags.ensures
          ∙ length-map (range_with_len j.slot (end + 1 - j.slot)) (lag_with j ran c.deref-3.result.now)
          ∙ length-range_with_len j.slot (end + 1 - j.slot)
          ∙ ap (λ j. end + 1 - j.slot) (sym c.task-2.view_is);
    }

pub returns : goal.returns
returns c = λ s scenario long of_ran.
    let j = c.args.task in
    let ran = c.args.ran.now in
    let on = c.args.on.now in
    let xs = c.args.events.now in
    let n = c.args.now in
    let held = c.deref.result.now in
    let of_held = c.deref.ensures.value ∙ c.in_ok-delays.ensures in
    let same = c.deref-2.ensures.value ∙ sym c.deref.ensures.value in
    let stops = c.in_ok-stops.ensures ∙ ap₂ (λ j held. map (stop_of j.weight) held) c.task.view_is same in
    let end = c.end_of-end.ensures.value in
    course_is s n scenario long xs j ran on held c.requires of_ran of_held _
    (ap (λ j. j.task) c.task-2.view_is)
    (ap (λ j. j.weight) c.task-2.view_is)
    (ap (λ j. j.slot) c.task-2.view_is)
    end
    (c.is_some.ensures ∙ ap is_some (c.leave_of.ensures ∙ ap (leave_in xs) c.task-2.view_is))
    (c.in_ok-windows.ensures ∙ ap (λ end. windows_by j ran on held end n) end)
    stops
    (c.in_ok-lags.ensures ∙ ap₂ (λ stops end. map (lag_with j ran stops) (range_with_len j.slot (end + 1 - j.slot))) (c.deref-3.ensures.value ∙ stops) end)
