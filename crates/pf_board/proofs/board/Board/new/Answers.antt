use Rattle.std.proofs.Common.{◌≡◌, ℕ, suc, ◌+◌, List, sym, ap, ◌∙◌, subst, [], ◌∷◌, arith}
use lib.ListN.{replicate}
use Rattle.pf_board.specs.declared.charter.Charter.{Charter}
use Rattle.pf_board.specs.Kept.{Kept}
use Rattle.pf_board.specs.Views.{opening}
use Rattle.pf_board.proofs.Turns.{begins}
use Rattle.pf_board.proofs.board.Board.new.Goals as goal

pub of_words-requires : goal.of_words-requires
of_words-requires g c =
    let m = c.args.processors in
    let charter : Charter g.row.I-Terms.Denot = record { terms = c.of.result; processors = m; passes = c.args.passes } in
    let n : 1 + m ≡ suc m = omega arith in
    let words : c.as_slice.result.now ≡ 0 ∷ replicate m 0 = c.as_slice.ensures.value ∙ (c.in_ok-words.ensures.items_if_clones_equal (λ y p. p) ∙ ap (λ (k : ℕ). replicate k 0) n) in
    subst (λ (ws : List ℕ). Kept g.I.Issues.quanta g.I.Issues.steps g.I.Issues.legal charter ws (opening charter ∷ [])) (sym words)
    (begins g.I.Issues.legal g.I.Issues.quanta g.I.Issues.steps charter (g.I.Issues.opens c.of.result.value))
