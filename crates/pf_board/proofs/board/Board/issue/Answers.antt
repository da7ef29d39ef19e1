use Rattle.std.proofs.Common.{◌≡◌, ℕ, sym, ap, ◌∙◌, refl, arith}
use Rattle.pf_board.specs.declared.quantum.Quantum.{Quantum}
use Rattle.pf_board.specs.declared.view.View.{View}
use Rattle.atomic_table.specs.Seated.{TableId}
use Rattle.pf_board.specs.Passes.{Keeping, but}
use Rattle.pf_board.specs.Quanta.{quanta_without}
use Rattle.pf_board.specs.Views.{keeping}
use Rattle.pf_board.specs.Words.{FitsWord, word_of, quantum_at}
use Rattle.pf_board.proofs.Cells.{puts}
use Rattle.pf_board.proofs.Digits.{read_back, some_word}
use Rattle.pf_board.proofs.Fronts.{keeper_put}
use Rattle.pf_board.proofs.board.Board.issue.Goals as goal

pub store-requires : goal.store-requires
store-requires g c =
    let b = c.self.inside.table.shared in
    let s = c.keeper.inside.seat in
    let q = c.args.quantum in
    let on = ap (λ p. p.has_turn) c.keeper.view_is ∙ c.requires.here in
    let left = ap (λ p. p.left) c.keeper.view_is in
    let empty = ap (λ p. p.empty) c.keeper.view_is in
    let whole = c.keeper.invariant.0.whole on ∙ ap (λ p. p.seen) c.keeper.view_is in
    let processors = ap (λ x. x.processors) c.self.view_is in
    let word = c.encode-bits.ensures in
    (ap (λ p. p.board) c.keeper.view_is ∙ (c.requires.board ∙ sym (ap (λ x. x.id) c.self.view_is)), omega (arith, c.requires.inside, c.self.invariant.0, c.self.invariant.1, processors), puts g.I.Issues.legal g.I.Issues.quanta g.I.Issues.steps b.key b.table_id.slots s.id q c.encode-bits.result.bits s.me on (rw left c.requires.left) (rw (whole, left) c.requires.unissued) (rw empty c.requires.empty) (rw processors c.requires.inside) (rw word (some_word q c.requires.fits)) (ap (quantum_at q.processor) word ∙ read_back q c.requires.fits))

pub invariant_of-keeper : goal.invariant_of-keeper
invariant_of-keeper g c =
    let e = c.store.ensures.2 in
    let q = c.args.quantum in
    (keeper_put g.I.Issues.legal (quantum_at q.processor c.encode-bits.result.bits) c.keeper.inside.seat.me.0 c.store.new.seat.me.0 c.keeper.invariant.0 (e.0 q.processor refl), e.1 ∙ c.keeper.invariant.1)

-- the word is the quantum's
is_quantum : (q : Quantum) (bits : ℕ) → FitsWord q → bits ≡ word_of q → quantum_at q.processor bits ≡ q
is_quantum q bits fits e = ap (quantum_at q.processor) e ∙ read_back q fits

pub returns : goal.returns
returns g c =
    let e = c.store.ensures.2 in
    let q = c.args.quantum in
    let is = is_quantum q c.encode-bits.result.bits c.requires.fits c.encode-bits.ensures in
    let put = rw is at (e.0 q.processor refl).same in
    ap (λ (v : View g.row.E.Denot g.row.I-Terms.Denot). keeping c.store.new.seat.table_id v) put
    ∙ (ap (λ (t : TableId). record (keeping t c.keeper.inside.seat.me.0) { left = quanta_without q c.keeper.inside.seat.me.0.left; empty = but q.processor c.keeper.inside.seat.me.0.empty }) c.store.ensures.0
    ∙ ap (λ (k : Keeping g.row.E.Denot g.row.I-Terms.Denot). record k { left = quanta_without q k.left; empty = but q.processor k.empty }) c.keeper.view_is)
