use Rattle.std.proofs.Common.{◌≡◌, ◌∙◌, ap, arith, length}
use Rattle.pf_script.specs.PlanCheck.Checked.{faults}
use Rattle.pf_script.specs.PlanCheck.Unread.{Unread}
use Rattle.pf_text.specs.Rows.Rows.{rows}
use Rattle.pf_script.specs.Messages.Lines.{plan_messages}
use Rattle.pf_script.proofs.CheckLemmas.Finding.{found_all}
use Rattle.pf_script.proofs.CheckLemmas.Plans.{of_plan}
use Rattle.pf_script.proofs.check.faults.plan_faults.Goals as goal

pub returns : goal.returns
returns c =
    let inv = c.faults.invariant in
    let telling = c.args.telling in
    let t = rows c.args.script.now in
    let none = rw c.in_default.is at c.in_ok-bad.ensures in
    let count : c.records-records.result ≡ length t.rows = c.records-records.ensures ∙ ap (λ (u : Unread). u.read) none.1 ∙ inv.records in
    found_all (length t.rows) (plan_messages telling (faults t)) (record { lines = c.faults.lines; records = c.records-records.result })
    (of_plan t telling) (rw (none.0, inv.records) at inv.lines) count (omega (arith, inv.others, inv.records, count))
    (omega (arith, count, c.in_ok-faults.ensures.records, c.in_ok-faults.ensures.few.1, c.requires))
