use Rattle.std.proofs.Common.{◌∙◌, ap, arith}
use Rattle.pf_place.specs.Lent.{lent_row}
use Rattle.pf_code.proofs.Written.{row_some, rows_next}
use Rattle.pf_code.proofs.rows.RowLinesPieces.next_piece.Goals as goal

pub loop-at-preserved : goal.loop-at-preserved
loop-at-preserved c =
    let rows = c.self.inside.snapshot.now.rows in
    let row = lent_row c.row_at.result in
    record {
      whole = rows_next _ _ c.loop-at.at c.self.inside.to rows row c.loop-at.text.items _ _
          (c.processors-processors.ensures.value ∙ ap (λ s. s.processors) c.settings.ensures) (omega arith) c.self.invariant.1 c.row_at.ensures.row
          c.in_ok-push_row.ensures c.loop-at.invariant.whole;
      within = omega arith;
      behind = omega (arith, c.loop-at.invariant.behind);
      some = λ more. row_some _ row c.loop-at.text.items _ c.in_ok-push_row.ensures;
    }
