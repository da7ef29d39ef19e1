use Rattle.std.proofs.Common.{rules}
use Rattle.pf_report.proofs.Scripted.{script_parts}
use Rattle.pf_report.proofs.script.script_pieces.Goals as goal

pub returns : goal.returns
returns c =
    let parts = script_parts c.args.every c.args.snapshot.now c.args.titles.now in
    search rules
