use Rattle.std.proofs.Common.{◌≡◌, ℕ, List, [], sym, ◌∙◌, ap, arith}
use Rattle.std.proofs.lemmas.List.{nil_from_length}
use Rattle.pf_journal.proofs.Sizes.{size_from, size_is}
use Rattle.pf_journal.proofs.shape.lines_size.Goals as goal

pub returns : goal.returns
returns c =
    let l = c.loop-rest in
    let none : l.rest.now ≡ [] = nil_from_length l.rest.now (omega (arith, c.in_default.len_below)) in
    ap (λ (r : List ℕ). size_from l.at l.best l.begun r) (sym none) ∙ l.invariant.same ∙ size_is c.args.bytes.now
