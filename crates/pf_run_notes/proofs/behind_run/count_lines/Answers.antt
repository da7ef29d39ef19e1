use Rattle.std.proofs.Common.{rules, ◌≡◌, length}
use Rattle.pf_run_notes.specs.Refusals.{more}
use Rattle.pf_run_notes.proofs.Behind.{lines_counted}
use Rattle.pf_run_notes.proofs.behind_run.count_lines.Goals as goal

pub returns : goal.returns
returns c = λ misses are.
    let kept = c.args.refusals.now in
    let seen = c.args.snapshot.now in
    let before : c.saturating_add-before.result ≡ more kept.records (length seen.denials) = search rules in
    let lines : c.saturating_add.result ≡ more c.saturating_add-before.result (length c.args.late.now.firsts.items) = search rules in
    lines_counted kept seen misses c.args.late.now.firsts.items c.args.late.now.counts c.saturating_add-before.result c.saturating_add.result
    are before lines
