use Rattle.std.proofs.Common.{[], ◌∷◌, ◌++◌, sym, ap, ◌∙◌, arith}
use Rattle.std.specs.Vec.Iter.{into_iter_items}
use Rattle.pf_board.specs.Passes.{Passing}
use Rattle.pf_board.specs.Closed.{hand_in, hands_in}
use Rattle.pf_board.proofs.Gathering.{first_of, one_more}
use Rattle.pf_board.proofs.Hands.{lends, hosts}
use Rattle.pf_board.proofs.board.Board.gather.Goals as goal

pub split_seat-hand-requires : goal.split_seat-hand-requires
split_seat-hand-requires g c =
    let b = c.self.inside.table.shared in
    let s = c.pass.inside.seat in
    let id = sym (ap (λ x. x.id) c.self.view_is) in
    (ap (λ p. p.board) c.pass.view_is ∙ ((first_of c.args.self.now.id c.in-Some.pass (into_iter_items c.next.new.self) (into_iter_items c.loop-pass.pass-iterator) c.in-Some.ensures.steps.0 c.loop-pass.invariant.of).0 ∙ id), omega arith, lends g.I.Issues.legal g.I.Issues.quanta g.I.Issues.steps b.key s.id s.me.0 c.pass.invariant.0.named)

pub join_seat-requires : goal.join_seat-requires
join_seat-requires g c =
    let b = c.self.inside.table.shared in
    let s = c.loop-pass.host in
    let e = c.split_seat-hand.ensures in
    let hand = c.split_seat-hand.result in
    let id = sym (ap (λ x. x.id) c.self.view_is) in
    let of = ap (λ p. p.board) c.pass.view_is ∙ ((first_of c.args.self.now.id c.in-Some.pass (into_iter_items c.next.new.self) (into_iter_items c.loop-pass.pass-iterator) c.in-Some.ensures.steps.0 c.loop-pass.invariant.of).0 ∙ id) in
    (c.loop-pass.invariant.board ∙ (c.requires.board.0 ∙ id), e.3 ∙ of, ap (λ m. m.1) e.4, omega arith, hosts g.I.Issues.legal g.I.Issues.quanta g.I.Issues.steps b.key s.id s.me.0 hand.id hand.me.0 (ap (λ m. m.0.named) e.4) (ap (λ m. m.0.taken) e.4))

pub loop-pass-preserved : goal.loop-pass-preserved
loop-pass-preserved g c =
    let i = c.loop-pass.invariant in
    let j = c.join_seat.ensures in
    let host = c.loop-pass.host in
    let old = c.args.host.now.me in
    let lent = ap (λ m. m.0.guests) c.split_seat-hand.ensures.4 in
    let more = ap (λ m. m.0.guests) j.2 ∙ (ap (λ gs. host.me.0.guests ++ gs) lent ∙ ap (λ (p : Passing g.row.E.Denot g.row.I-Terms.Denot). host.me.0.guests ++ hand_in p ∷ []) c.pass.view_is) in
    record {
      board = j.0 ∙ i.board;
      id = j.1 ∙ i.id;
      view = j.2 ∙ (ap (λ m. (record m.0 { guests = host.me.0.guests ++ c.split_seat-hand.result.me.0.guests }, m.1)) i.view ∙ ap (λ gs. (record old.0 { guests = gs }, old.1)) (sym (ap (λ m. m.0.guests) j.2)));
      hands = one_more host.me.0.guests c.join_seat.new.seat.me.0.guests c.in-Some.pass (into_iter_items c.next.new.self) (into_iter_items c.loop-pass.pass-iterator) (old.0.guests ++ hands_in c.args.passes.items) c.in-Some.ensures.steps.0 more i.hands;
      of = (first_of c.args.self.now.id c.in-Some.pass (into_iter_items c.next.new.self) (into_iter_items c.loop-pass.pass-iterator) c.in-Some.ensures.steps.0 i.of).1;
    }
