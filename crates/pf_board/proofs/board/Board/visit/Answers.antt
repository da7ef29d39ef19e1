use Rattle.std.proofs.Common.{◌≡◌, sym, ap, ◌∙◌, ◌++◌, arith}
use Rattle.pf_board.specs.Views.{hand_of, carrier_of, hosting}
use Rattle.pf_board.proofs.Fronts.{met}
use Rattle.pf_board.proofs.Hands.{lends, hosts, releases, regains}
use Rattle.pf_board.proofs.Looks.{settles}
use Rattle.pf_board.proofs.board.Board.visit.Goals as goal

pub split_seat-hand-requires : goal.split_seat-hand-requires
split_seat-hand-requires g c =
    let b = c.self.inside.table.shared in
    let s = c.args.guest.now in
    (c.requires.board.0 ∙ sym (ap (λ x. x.id) c.self.view_is), omega arith, lends g.I.Issues.legal g.I.Issues.quanta g.I.Issues.steps b.key s.id s.me.0 c.requires.guest)

pub join_seat-requires : goal.join_seat-requires
join_seat-requires g c =
    let b = c.self.inside.table.shared in
    let s = c.args.host.now in
    let e = c.split_seat-hand.ensures in
    let hand = c.split_seat-hand.result in
    let id = sym (ap (λ x. x.id) c.self.view_is) in
    (c.requires.board.1 ∙ id, e.3 ∙ (c.requires.board.0 ∙ id), ap (λ m. m.1) e.4, omega arith, hosts g.I.Issues.legal g.I.Issues.quanta g.I.Issues.steps b.key s.id s.me.0 hand.id hand.me.0 (ap (λ m. m.0.named) e.4) (ap (λ m. m.0.taken) e.4))

pub load-requires : goal.load-requires
load-requires g c =
    let b = c.self.inside.table.shared in
    let s = c.join_seat.new.seat in
    (c.join_seat.ensures.0 ∙ (c.requires.board.1 ∙ sym (ap (λ x. x.id) c.self.view_is)), omega arith, settles g.I.Issues.legal g.I.Issues.quanta g.I.Issues.steps b.key b.table_id.slots s.id s.me)

pub split_seat-hand-requires-2 : goal.split_seat-hand-requires-2
split_seat-hand-requires-2 g c =
    let b = c.self.inside.table.shared in
    let s = c.load.new.seat in
    (c.load.ensures.0 ∙ (c.join_seat.ensures.0 ∙ (c.requires.board.1 ∙ sym (ap (λ x. x.id) c.self.view_is))), omega arith, releases g.I.Issues.legal g.I.Issues.quanta g.I.Issues.steps b.key s.id s.me.0)

pub join_seat-requires-2 : goal.join_seat-requires-2
join_seat-requires-2 g c =
    let b = c.self.inside.table.shared in
    let s = c.split_seat-hand.new.seat in
    let v = c.split_seat-hand.ensures.2 in
    let e = c.split_seat-hand-2.ensures in
    let hand = c.split_seat-hand-2.result in
    let id = sym (ap (λ x. x.id) c.self.view_is) in
    let host = c.load.ensures.0 ∙ (c.join_seat.ensures.0 ∙ (c.requires.board.1 ∙ id)) in
    let lent = ap (λ m. m.0.guests) c.split_seat-hand.ensures.4 in
    let carried = ap (λ u. u.guests) c.load.ensures.2.0.same ∙ (ap (λ m. m.0.guests) c.join_seat.ensures.2 ∙ (ap (λ gs. gs ++ c.split_seat-hand.result.me.0.guests) c.requires.host ∙ lent)) in
    (c.split_seat-hand.ensures.0 ∙ (c.requires.board.0 ∙ id), e.3 ∙ host, ap (λ m. m.1) e.4, omega arith, regains g.I.Issues.legal g.I.Issues.quanta g.I.Issues.steps b.key s.id s.me.0 hand.id hand.me.0 (hand_of c.args.guest.now.me.0) (ap (λ m. m.0.named) v) (ap (λ m. m.0.taken) v) (ap (λ m. m.0.named) e.4) (ap (λ m. m.0.taken) e.4) (ap (λ m. m.0.guests) e.4 ∙ carried))

pub returns-clause-met : goal.returns-clause-met
returns-clause-met g c =
    let guest = c.args.guest.now.me.0 in
    let host = c.args.host.now.me.0 in
    let w = c.load.new.seat.me.0 in
    let joined : c.join_seat.new.seat.me.0 ≡ hosting host (carrier_of guest) = ap (λ m. m.0) c.join_seat.ensures.2 ∙ ap (λ m. hosting host m.0) c.split_seat-hand.ensures.4 in
    let settled = rw joined at c.load.ensures.2.0 in
    rw (ap (λ m. m.0) c.split_seat-hand-2.ensures.2) (met g.I.Issues.legal g.I.Issues.quanta guest host c.load.result w c.requires.host settled)
