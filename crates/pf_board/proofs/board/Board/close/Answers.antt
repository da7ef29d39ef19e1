use Rattle.std.proofs.Common.{◌≡◌, ◌++◌, drop, sym, ap, subst, ◌∙◌, arith}
use Rattle.std.specs.Mem.Slots.{slots_items}
use Rattle.pf_board.specs.declared.view.View.{View}
use Rattle.pf_board.specs.Closed.{hands_in}
use Rattle.pf_board.specs.Words.{on_words}
use Rattle.pf_board.proofs.Closing.{IsLast, closes}
use Rattle.pf_board.proofs.board.Board.close.Goals as goal

pub free-requires : goal.free-requires
free-requires g c = λ k lt. absurd (omega (arith, lt, c.close_with-closed.ensures.counts.1, c.self.invariant.2))

pub returns-clause-closed : goal.returns-clause-closed
returns-clause-closed g c =
    let ps = c.args.passes.items in
    let key = c.self.inside.table.shared.key in
    let final = c.close_with-closed.ensures.values.2 in
    let k = final.1.0 in
    let host = c.gather.new.host in
    let old = c.keeper.inside.seat.me.0 in
    let keeper = c.keeper.invariant.0 in
    let on = ap (λ x. x.has_turn) c.keeper.view_is ∙ c.requires.here in
    let with_hands : View g.row.E.Denot g.row.I-Terms.Denot = record old { guests = old.guests ++ hands_in ps } in
    let is_with : host.me.0 ≡ with_hands = ap (λ m. m.0) c.gather.ensures.hands in
    let last : IsLast ps with_hands = record {
      unnamed = keeper.unnamed;
      none = keeper.none;
      on = on;
      whole = keeper.whole on;
      left = ap (λ x. x.left) c.keeper.view_is ∙ c.requires.none_left;
      guests = ap (λ gs. gs ++ hands_in ps) keeper.alone;
    } in
    let here = subst (λ (v : View g.row.E.Denot g.row.I-Terms.Denot). IsLast ps v) (sym is_with) last in
    let done = closes g.I.Issues.legal g.I.Issues.quanta g.I.Issues.steps key final.0.words final.0.views host.id host.me.0 ps k final.1.1 here in
    let ws = slots_items c.close_with-closed.result.words in
    let items : c.read_words.new.left.items ≡ on_words 0 k.core.cells = c.read_words.ensures ∙ (ap (λ l. l ++ on_words 0 (drop 1 ws)) c.in-Ok.ensures.items ∙ ap (λ w. on_words 0 (drop 1 w)) (sym final.2 ∙ k.words_are)) in
    let seen : c.args.keeper.seen ≡ host.me.0.seen = sym (ap (λ x. x.seen) c.keeper.view_is) ∙ sym (ap (λ v. v.seen) is_with) in
    rw (items, seen, sym (ap (λ x. x.terms) c.self.view_is), sym (ap (λ x. x.processors) c.self.view_is), sym (ap (λ x. x.passes) c.self.view_is)) done
