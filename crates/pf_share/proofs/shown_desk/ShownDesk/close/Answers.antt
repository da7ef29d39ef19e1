use Rattle.std.proofs.Common.{◌≡◌, List, ℕ, sym, ap, subst, ◌∙◌}
use lib.ListN.{get_elem?}
use Rattle.pf_scenario.specs.System.{System}
use Rattle.pf_desk.specs.declared.entry.Entry.{Entry}
use Rattle.pf_board.specs.Passes.{Keeping, Passing}
use Rattle.pf_share.specs.Ended.{AreFronts}
use Rattle.pf_share.specs.Histories.{numbered}
use Rattle.pf_share.proofs.shown_desk.ShownDesk.close.Goals as goal

pub close-requires-clause-board : goal.close-requires-clause-board
close-requires-clause-board g c =
    let id = ap (λ b. b.id) (sym c.requires.board.0) in
    (c.self.invariant.keeper_board ∙ id, λ k p at. c.requires.board.1 k p at ∙ id)

pub tie_all-requires-clause-board : goal.tie_all-requires-clause-board
tie_all-requires-clause-board g c =
    let back = c.in-Err.ensures.refused in
    let id = ap (λ b. b.id) (sym (back.0 ∙ c.requires.board.0)) in
    let passes : c.deref_mut.result.now ≡ c.args.passes.items = c.deref_mut.ensures.value ∙ back.2 in
    (ap (λ k. k.board) back.1 ∙ (c.self.invariant.keeper_board ∙ id), λ k p at. c.requires.board.1 k p (ap (λ l. get_elem? l k) (sym passes) ∙ at) ∙ id)

pub returns-in-Err-clause-goes_on : goal.returns-in-Err-clause-goes_on
returns-in-Err-clause-goes_on g c =
    let back = c.in-Err.ensures.refused in
    let passes : c.deref_mut.result.now ≡ c.args.passes.items = c.deref_mut.ensures.value ∙ back.2 in
    let tied : AreFronts c.self.inside.keeper.seen c.deref_mut.result.now = subst (λ (k : Keeping Entry System). AreFronts k.seen c.deref_mut.result.now) back.1 c.tie_all.ensures.tied in
    let seen : AreFronts (numbered c.self.inside.desk.history) c.deref_mut.result.now = subst (λ (l : List (ℕ × Entry)). AreFronts l c.deref_mut.result.now) c.self.invariant.seen tied in
    record {
      desk = c.self.inside.desk;
      is_desk = c.self.invariant.is_desk;
      settings = c.self.invariant.settings;
      fronts = subst (λ (l : List (Passing Entry System)). AreFronts (numbered c.self.inside.desk.history) l) passes seen;
    }
