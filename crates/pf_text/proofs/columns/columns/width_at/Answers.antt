use Rattle.std.proofs.Common.{◌∙◌, ap, get_or, length, arith}
use Rattle.std.proofs.lemmas.List.FromFn.{get_or-map-range_with_len}
use Rattle.pf_text.specs.Columns.Columns.{width_of}
use Rattle.pf_text.proofs.columns.columns.width_at.Goals as goal

pub returns-then-column-widths : goal.returns-then-column-widths
returns-then-column-widths c =
    ap (λ xs. get_or xs c.args.column 0) c.requires
    ∙ get_or-map-range_with_len (width_of c.args.rows.now) 0 (length c.args.widths.now) c.args.column c.args.column 0 (omega arith) (omega arith)
