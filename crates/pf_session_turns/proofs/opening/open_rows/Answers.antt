use Rattle.std.proofs.Common.{◌≡◌, ◌∙◌, ap, sym, false}
use Rattle.csv.specs.Records.{fields_of}
use Rattle.pf_script.specs.Plan.Heading.{is_plan_heading}
use Rattle.pf_session_turns.proofs.Stops.{stopped_rows}
use Rattle.pf_session_turns.proofs.opening.open_rows.Goals as goal

pub returns-in-Err : goal.returns-in-Err
returns-in-Err c =
    let is_plan : is_plan_heading (fields_of c.args.row) ≡ false =
    sym (ap is_plan_heading c.new.ensures) ∙ sym c.is_plan_heading.ensures ∙ c.if-is_plan_heading.false in
    stopped_rows c.args.session c.args.script.now (record { line = 0; fields = fields_of c.args.row }) c.args.rows.rows c.in-Err.fault is_plan
    c.in-Err.ensures.stopped
