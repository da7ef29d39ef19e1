use Rattle.std.proofs.Common.{◌∙◌, ◌++◌, ap, codes}
use Rattle.pf_check_run.specs.Answers.{counted_text}
use Rattle.pf_check_run.proofs.Appended.{appended}
use Rattle.pf_check_run.proofs.carried.push_totals_line.Goals as goal

pub returns : goal.returns
returns g =
    let a = counted_text g.args.records (codes " records, 0 faults, ") in
    let b = counted_text g.args.refused (codes " refused, ") in
    let c = counted_text g.args.denied (codes " denied, ") in
    let d = counted_text g.args.missed (codes " missed\n") in
    g.in_ok-push_counted-4.ensures
    ∙ ap (λ l. l ++ d) (g.in_ok-push_counted-3.ensures ∙ ap (λ l. l ++ c) (g.in_ok-push_counted-2.ensures ∙ ap (λ l. l ++ b) g.in_ok-push_counted.ensures))
    ∙ appended g.args.text.now.items a b c d
