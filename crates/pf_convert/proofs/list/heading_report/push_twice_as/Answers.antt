use Rattle.std.proofs.Common.{◌∙◌, ◌++◌, codes, sym, ap, append_assoc, append-nil}
use Rattle.std.proofs.lemmas.Result.{on_ok_weaker}
use Rattle.pf_text.specs.Quoted.{quoted}
use Rattle.pf_convert.proofs.list.heading_report.push_twice_as.Goals as goal

pub returns : goal.returns
returns c =
    let old = c.args.text.now.items in
    let name = quoted c.args.field.now in
    let is = codes " stands twice, as " in
    let column = c.args.column.now in
    on_ok_weaker c.push_parts.result
    (λ e. e ∙ ap (λ v. old ++ (name ++ (is ++ v))) (append-nil column) ∙ ap (λ v. old ++ v) (sym (append_assoc name is column)))
    c.push_parts.ensures
