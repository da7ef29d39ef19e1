use Rattle.std.proofs.Common.{rules, ◌≡◌, Option, Some, sym, subst}
use Rattle.std.specs.Prelude.{IfOk}
use Rattle.csv.specs.Records.{fields_of}
use Rattle.pf_script.specs.Plan.Heading.{heading_fault}
use Rattle.pf_script.specs.declared.plan.fault.RecordFault.{RecordFault}
use Rattle.pf_plain_script.specs.declared.origin.Origin.{Origin}
use Rattle.pf_plain_script.specs.Plain.{IsPlain, ended, first_column, origin_at, plain_behind, start, with_heading}
use Rattle.pf_plain_script.proofs.plain.write_under.Goals as goal

pub returns-in-Some : goal.returns-in-Some
returns-in-Some c =
    let column = first_column c.args.positions.now in
    let origin : c.origin_at.result ≡ origin_at column 1 c.args.line = search rules in
    let fault : heading_fault (fields_of c.args.row) ≡ Some c.in-Some.fault = search rules in
    subst
    (λ (f : Option RecordFault). IfOk c.write_bad.result (λ made. IsPlain made (with_heading column c.args.line (plain_behind column f c.args.line c.args.rows.end c.args.rows.rows))))
    (sym fault)
    (subst (λ (o : Origin). IfOk c.write_bad.result (λ made. IsPlain made (with_heading column c.args.line (ended start.progress o (Some c.in-Some.fault)))))
    origin (c.write_bad.ensures column c.args.line origin))
