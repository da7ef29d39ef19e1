use Rattle.std.proofs.Common.{◌≡◌, ap, ◌∙◌, subst}
use Rattle.logbook.specs.Pages.{Book}
use Rattle.pf_scenario.specs.System.{System}
use Rattle.pf_board.specs.Passes.{Boarding}
use Rattle.pf_share.specs.Locked.{IsLocked}
use Rattle.pf_share.proofs.blank.Blank.start.Goals as goal

pub new-locked-requires : goal.new-locked-requires
new-locked-requires g c =
    let b = c.self.inside in
    let board : b.board ≡ g.N.Naming.board = ap (λ o. o.board) c.self.view_is ∙ c.requires.0 in
    let book : b.press ≡ g.N.Naming.book = ap (λ o. o.book) c.self.view_is ∙ c.requires.1 in
    subst (λ (x : Boarding System). IsLocked x g.N.Naming.book b.desk b.keeper b.press b.stamp b.publisher) board (subst (λ (k : Book). IsLocked b.board k b.desk b.keeper b.press b.stamp b.publisher) book c.self.invariant.0)
