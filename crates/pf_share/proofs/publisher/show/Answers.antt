use Rattle.std.proofs.Common.{◌≡◌, drop, sym, ap, ◌∙◌}
use Rattle.left_right.specs.Sides.{view}
use Rattle.pf_share.specs.Reads.{IsAcquainted}
use Rattle.pf_share.proofs.Growing.{shows}
use Rattle.pf_share.proofs.Publishing.{shown_last, longer, map_result, acquainted_after}
use Rattle.pf_share.proofs.publisher.show.Goals.{in-Ok, in-Err}
use Rattle.pf_share.proofs.publisher.show.Goals as goal

pub publish_as-requires : goal.publish_as-requires
publish_as-requires g c next is =
    let w = c.append.new.self in
    let old = c.args.writer in
    let op = c.args.shown in
    let x = w.desk.shown.value in
    let same : x ≡ old.desk.shown.value = ap (λ d. d.shown.value) c.in-Ok.ensures.desk in
    let last = shown_last x (drop w.behind w.log.items) (drop old.behind old.log.items) op next c.in-Ok.ensures.pending is in
    shows w.desk.place.id (view w.desk.place) x next (longer x op next (rw same c.requires.grows) last) (ap (λ z. z.origin) same ∙ (c.requires.origin ∙ ap (λ z. z.origin) (sym last)))

pub returns-clause-shown : goal.returns-clause-shown
returns-clause-shown g c = elim c.match-append.branch [
  | in-Ok w ↦
      let now = c.append.new.self in
      let old = c.args.writer in
      let x = now.desk.shown.value in
      rw w.result-is (map_result w.publish_as.result.1
      (λ _ v. shown_last x (drop now.behind now.log.items) (drop old.behind old.log.items) c.args.shown w.publish_as.result.0.desk.shown.value w.in-Ok.ensures.pending v.0)
      (λ _ v. v.0 ∙ ap (λ d. d.shown.value) w.in-Ok.ensures.desk)
      w.publish_as.ensures.values)
  | in-Err w ↦ rw w.result-is (ap (λ d. d.shown.value) w.in-Err.ensures.desk)
]

pub returns-clause-acquainted : goal.returns-clause-acquainted
returns-clause-acquainted g c = elim c.match-append.branch [
  | in-Ok w ↦
      let now = c.append.new.self in
      let is : IsAcquainted now.desk.shown.value (view now.desk.place) = rw w.in-Ok.ensures.desk c.requires.acquainted in
      rw w.result-is (acquainted_after w.publish_as.result.1 now.desk.shown.value w.publish_as.result.0.desk.shown.value (view now.desk.place) (view w.publish_as.result.0.desk.place) is (map_result w.publish_as.result.1 (λ _ _. tt) (λ _ v. v.0) w.publish_as.ensures.values) w.publish_as.ensures.rule)
  | in-Err w ↦ rw (w.result-is, w.in-Err.ensures.desk) c.requires.acquainted
]
