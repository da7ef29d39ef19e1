use Rattle.std.proofs.Common.{◌∙◌, codes, [], ◌∷◌}
use Rattle.pf_text.specs.Page.{table_text}
use Rattle.pf_diff.specs.Summary.{cells_changed, summary_of, summary_records, summary_text}
use Rattle.pf_diff.proofs.Pages.{behind_head}
use Rattle.pf_diff.proofs.summary_text.summary_text.Goals as goal

pub returns : goal.returns
unfolding summary_text
returns c =
    behind_head _ _ _ (codes "summary" ∷ []) (codes "figure" ∷ codes "before" ∷ codes "after" ∷ [])
    (summary_records (summary_of c.args.before.now) (summary_of c.args.after.now) (cells_changed c.args.before.now c.args.after.now))
    c.in_ok-extend_from_slice.ensures.items c.in_ok-text.ensures
    (c.deref.ensures.value ∙ c.in_ok-records.ensures
    ∙ (λ i. table_text (summary_records (c.in_ok-first.ensures i) (c.in_ok-second.ensures i) (c.cells_changed-cells.ensures i))))
