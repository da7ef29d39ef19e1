use Rattle.std.proofs.Common.{rules}
use Rattle.pf_report.proofs.Scripted.{title_parts}
use Rattle.pf_report.proofs.script.titles_text.Goals as goal

pub returns : goal.returns
returns c =
    let parts = title_parts c.args.titles.now in
    search rules
