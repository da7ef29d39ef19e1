use Rattle.std.proofs.Common.{arith, rules, sym, ap, ◌∙◌}
use Rattle.pf_text.specs.Rows.Rows.{rows}
use Rattle.pf_script.specs.Plan.Progress.{at_heading}
use Rattle.pf_script.specs.PlanCheck.Checked.{heading_of}
use Rattle.pf_script.specs.PlanCheck.Unread.{Unread}
use Rattle.pf_script.proofs.PlanCheckLemmas.Told.{few_under, second_read}
use Rattle.pf_script.proofs.plan_check.plan_faults.PlanFaults.new.Goals as goal

pub at-requires-clause-few : goal.at-requires-clause-few
at-requires-clause-few c =
    let all = sym c.new-rows.ensures.rows ∙ (rw c.in-Found.is at c.in_ok-line.ensures) in
    let bad = rw c.new.ensures at c.bad_heading-heading.ensures.bad in
    let found = rw c.in-Some.is at c.in_ok-after-in-Found.ensures in
    let both = second_read (rows c.args.script.now) _ _ _ _ c.in-Some.after all bad (sym found) in
    λ going. search (rules, both.1)

pub returns-in-Some-clause-faults : goal.returns-in-Some-clause-faults
returns-in-Some-clause-faults c =
    let all = sym c.new-rows.ensures.rows ∙ (rw c.in-Found.is at c.in_ok-line.ensures) in
    let bad = rw c.new.ensures at c.bad_heading-heading.ensures.bad in
    let found = rw c.in-Some.is at c.in_ok-after-in-Found.ensures in
    let both = second_read (rows c.args.script.now) _ _ _ _ c.in-Some.after all bad (sym found) in
    ap (λ (u : Unread). u.faults) c.at.ensures ∙ both.0

pub returns-in-Some-clause-records : goal.returns-in-Some-clause-records
returns-in-Some-clause-records c =
    let all = sym c.new-rows.ensures.rows ∙ (rw c.in-Found.is at c.in_ok-line.ensures) in
    let bad = rw c.new.ensures at c.bad_heading-heading.ensures.bad in
    let found = rw c.in-Some.is at c.in_ok-after-in-Found.ensures in
    let both = second_read (rows c.args.script.now) _ _ _ _ c.in-Some.after all bad (sym found) in
    ap (λ (u : Unread). u.records) c.at.ensures ∙ both.1

pub returns-in-Some-clause-few : goal.returns-in-Some-clause-few
returns-in-Some-clause-few c =
    let all = sym c.new-rows.ensures.rows ∙ (rw c.in-Found.is at c.in_ok-line.ensures) in
    let bad = rw c.new.ensures at c.bad_heading-heading.ensures.bad in
    let found = rw c.in-Some.is at c.in_ok-after-in-Found.ensures in
    let both = second_read (rows c.args.script.now) _ _ _ _ c.in-Some.after all bad (sym found) in
    let few = few_under at_heading c.bad_heading-heading.result (heading_of c.args.script.now) at_heading 3 c.in-Some.after.end c.in-Some.after.rows in
    rw c.at.ensures (omega (arith, few), search (rules, both.1))
