use Rattle.std.proofs.Common.{drop, sym, ap}
use Rattle.left_right.specs.Sides.{view}
use Rattle.pf_lemmas.proofs.Prefixes.{prefix_self}
use Rattle.pf_share.proofs.Growing.{begins, shows}
use Rattle.pf_share.proofs.Publishing.{shown_none, longer}
use Rattle.pf_share.proofs.publisher.Publisher.new.Goals as goal

pub new-requires-clause-rule : goal.new-requires-clause-rule
new-requires-clause-rule g c = begins c.args.shown

pub publish_as-writer-requires : goal.publish_as-writer-requires
publish_as-writer-requires g c next is =
    let w = c.in_ok-writer.writer in
    let x = w.desk.shown.value in
    let same = shown_none x (drop w.behind w.log.items) next c.in_ok-writer.ensures.1 is in
    shows w.desk.place.id (view w.desk.place) x next (longer x x next (prefix_self x.history) same) (ap (λ s. s.origin) (sym same))
