use Rattle.std.proofs.Common.{◌≡◌, sym, ap, ◌∙◌, arith}
use Rattle.pf_board.proofs.Fronts.{pass_noted}
use Rattle.pf_board.proofs.Looks.{notes}
use Rattle.pf_board.proofs.Turns.{turns_on, turns_off}
use Rattle.pf_board.proofs.board.Board.note_as.Goals as goal

pub join_seat-requires : goal.join_seat-requires
join_seat-requires g c =
    let b = c.self.inside.table.shared in
    let s = c.pass.inside.seat in
    let t = c.turn.inside.seat in
    let turn = c.turn.invariant.0 in
    let id = sym (ap (λ x. x.id) c.self.view_is) in
    (ap (λ p. p.board) c.pass.view_is ∙ (c.requires.board.1 ∙ id), ap (λ p. p.board) c.turn.view_is ∙ (c.requires.board.2 ∙ id), c.turn.invariant.1, omega arith, turns_on g.I.Issues.legal g.I.Issues.quanta g.I.Issues.steps b.key s.id s.me.0 t.id t.me.0 turn.on turn.unnamed turn.alone turn.none)

pub fetch_add-requires : goal.fetch_add-requires
fetch_add-requires g c =
    let b = c.self.inside.table.shared in
    let s = c.join_seat.new.seat in
    let e = c.join_seat.ensures.2 in
    let whole : s.me.0.whole ≡ c.args.turn.whole = ap (λ m. m.0.whole) e ∙ ap (λ t. t.whole) c.turn.view_is in
    let left : s.me.0.left ≡ c.args.turn.left = ap (λ m. m.0.left) e ∙ ap (λ t. t.left) c.turn.view_is in
    let empty : s.me.0.empty ≡ c.args.turn.empty = ap (λ m. m.0.empty) e ∙ ap (λ t. t.empty) c.turn.view_is in
    let me : s.me.0.me ≡ c.args.pass.now.me = ap (λ m. m.0.me) e ∙ ap (λ p. p.me) c.pass.view_is in
    let terms : b.key.terms.value ≡ c.args.self.now.terms = ap (λ x. x.terms) c.self.view_is in
    let processors : b.key.processors ≡ c.args.self.now.processors = ap (λ x. x.processors) c.self.view_is in
    let id = sym (ap (λ x. x.id) c.self.view_is) in
    (c.join_seat.ensures.0 ∙ (ap (λ p. p.board) c.pass.view_is ∙ (c.requires.board.1 ∙ id)), omega arith, notes g.I.Issues.legal g.I.Issues.quanta g.I.Issues.steps b.key b.table_id.slots s.id s.me g.N.Names.entry c.args.entry.now c.requires.named (ap (λ m. m.0.turn) e ∙ c.turn.invariant.0.on) (ap (λ m. m.0.named) e ∙ c.pass.invariant.0.named) (rw (terms, whole, me) c.requires.legal) (rw whole c.requires.room) (rw (left, empty, processors) c.requires.step))

pub split_seat-seat-requires : goal.split_seat-seat-requires
split_seat-seat-requires g c =
    let b = c.self.inside.table.shared in
    let s = c.fetch_add.new.seat in
    let id = sym (ap (λ x. x.id) c.self.view_is) in
    (c.fetch_add.ensures.0 ∙ (c.join_seat.ensures.0 ∙ (ap (λ p. p.board) c.pass.view_is ∙ (c.requires.board.1 ∙ id))), omega arith, turns_off g.I.Issues.legal g.I.Issues.quanta g.I.Issues.steps b.key s.id s.me.0 (ap (λ w. w.turn) c.fetch_add.ensures.2.0.same ∙ (ap (λ m. m.0.turn) c.join_seat.ensures.2 ∙ c.turn.invariant.0.on)))

pub invariant_of-pass : goal.invariant_of-pass
invariant_of-pass g c =
    let p = c.pass.inside.seat in
    let t = c.turn.inside.seat in
    let w = c.fetch_add.new.seat in
    let joined = c.join_seat.ensures.2 in
    let noted = rw (ap (λ m. m.0) joined) at c.fetch_add.ensures.2.0 in
    rw c.split_seat-seat.ensures.2 (pass_noted g.I.Issues.legal g.I.Issues.quanta g.N.Names.entry p.me.0 t.me.0 c.fetch_add.result w.me.0 c.pass.invariant.0 noted, c.fetch_add.ensures.2.1 ∙ (ap (λ m. m.1) joined ∙ c.pass.invariant.1), c.pass.invariant.2 ∙ sym (ap (λ u. u.me) c.fetch_add.ensures.2.0.same ∙ ap (λ m. m.0.me) joined))

pub returns-clause-front : goal.returns-clause-front
returns-clause-front g c =
    let p = c.pass.inside.seat in
    let t = c.turn.inside.seat in
    let w = c.fetch_add.new.seat in
    let noted = rw (ap (λ m. m.0) c.join_seat.ensures.2) at c.fetch_add.ensures.2.0 in
    let pass = pass_noted g.I.Issues.legal g.I.Issues.quanta g.N.Names.entry p.me.0 t.me.0 c.fetch_add.result w.me.0 c.pass.invariant.0 noted in
    rw c.split_seat-seat.ensures.2 (record { is_legal = pass.is_legal; mine = pass.mine })
