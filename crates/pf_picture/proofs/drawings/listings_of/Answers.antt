use Rattle.std.proofs.Common.{◌∙◌}
use Rattle.std.proofs.lemmas.Result.{IfOk-weaker}
use Rattle.pf_courses.proofs.OfRun.{of_run, same_listings}
use Rattle.pf_picture.proofs.drawings.listings_of.Goals as goal

pub listings-requires : goal.listings-requires
listings-requires c =
    of_run c.now.ensures.of_run c.scenario.ensures c.rows.ensures c.denials.ensures

pub returns : goal.returns
returns c =
    IfOk-weaker c.listings.result _ _
    (λ v h. h ∙ same_listings c.now.ensures.of_run c.scenario.ensures c.rows.ensures c.denials.ensures)
    c.listings.ensures
