use Rattle.std.proofs.Common.{◌≡◌, ◌∙◌, ◌≤◌, ◌++◌, [], length, drop, min, ap, ap₂, sym, true, rules, arith}
use Rattle.std.proofs.lemmas.List.{nil_from_length}
use Rattle.pf_text.specs.Page.{table_text}
use Rattle.pf_diff.specs.Diff.{slot_changes}
use Rattle.pf_diff.proofs.SideBySide.{slot_end}
use Rattle.pf_diff.proofs.slots.SlotPiecesPieces.next_piece.Goals as goal
use Rattle.pf_diff.proofs.slots.SlotPiecesPieces.next_piece.Goals.{then-loop-at-test+else-not-is_long, else-loop-at-test}

pub returns-then-is_empty-clause-text : goal.returns-then-is_empty-clause-text
returns-then-is_empty-clause-text c =
    let before = c.self.inside.before.now.rows in
    let after = c.self.inside.after.now.rows in
    let at = c.loop-at.at in
    let short : length c.in_ok-piece.piece.items ≡ 0 = search rules in
    let empty : c.loop-at.table.text ≡ [] = sym c.in_ok-piece.ensures ∙ nil_from_length c.in_ok-piece.piece.items short in
    let count : c.min-count.result ≡ min (length before) (length after) = c.min-count.ensures ∙ ap₂ min c.row_count.ensures c.row_count-2.ensures in
    let over : min (length before) (length after) ≤ at = elim c.loop-at-test.branch [
      | then-loop-at-test+else-not-is_long w ↦
          let long : w.is_long.result ≡ true = search rules in
          absurd (omega (arith, w.is_long.ensures long, ap length empty))
      | else-loop-at-test w ↦ omega (arith, count)
    ] in
    let none = slot_end at before after over in
    let left = ap (λ text. text ++ table_text (slot_changes at (drop at before) (drop at after))) (sym empty) ∙ c.loop-at.invariant.whole in
    (sym left ∙ ap table_text none, ap table_text none)
