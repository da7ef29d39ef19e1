use Rattle.std.proofs.Common.{◌∙◌, sym}
use Rattle.pf_desk.proofs.Places.{length-rows}
use Rattle.pf_desk.proofs.rows.row_count.Goals as goal

pub returns : goal.returns
returns c =
    let seen = c.args.snapshot.now in
    c.now.ensures.value ∙ sym (length-rows seen.state.plan _ seen.rows seen.denials c.now.ensures.of_run)
