use Rattle.std.proofs.Common.{◌≡◌, [], sym, subst}
use Rattle.std.specs.Prelude.{All}
use Rattle.pf_share.specs.Locked.{origin_of}
use Rattle.shared_first.specs.Handed.{Took}
use Rattle.shared_first.proofs.Passes.{new_from, new_took}
use Rattle.shared_first.proofs.main.Goals as goal

pub run-requires-clause-passes : goal.run-requires-clause-passes
run-requires-clause-passes g c κs =
    let id = c.in_ok-blank.blank.board.id in
    subst (λ l. All (Took id []) l) (sym c.in_ok-blank.ensures.passes) (new_took id c.in_ok-new.field-0 5)

pub run-requires-clause-viewers : goal.run-requires-clause-viewers
run-requires-clause-viewers g c κs =
    let blank = c.in_ok-blank.blank in
    let origin = origin_of blank.board blank.book in
    subst (λ l. All (λ v. v.origin ≡ origin) l) (sym c.in_ok-blank.ensures.viewers) (new_from origin 1)
