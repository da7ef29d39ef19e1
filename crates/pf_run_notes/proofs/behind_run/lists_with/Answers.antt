use Rattle.std.proofs.Common.{rules, ◌≡◌, ◌-◌, ◌++◌, take, length}
use Rattle.std.specs.List.{flat_map}
use Rattle.pf_run.specs.Computed.{run_of}
use Rattle.pf_run_notes.specs.Notes.{denied_note, late_lines, more_text}
use Rattle.pf_run_notes.specs.Refusals.{more}
use Rattle.pf_run_notes.proofs.Behind.{lists_told}
use Rattle.pf_run_notes.proofs.behind_run.lists_with.Goals as goal

pub returns : goal.returns
returns c = λ misses are.
    let file = c.args.file.now in
    let hints = c.args.hints in
    let names = c.args.names.now in
    let made = c.args.made.now in
    let kept = c.args.refusals.now in
    let seen = c.args.snapshot.now in
    let before : c.saturating_add-before.result ≡ more kept.records (length seen.denials) = search rules in
    let lines : c.saturating_add-lines.result ≡ more c.saturating_add-before.result (length c.args.late.now.firsts.items) = search rules in
    let t : c.in_ok-text.text.items ≡ kept.lines = search rules in
    let u : c.push_denials.new.text.items ≡ c.in_ok-text.text.items
    ++ flat_map (denied_note file hints names made seen.state.plan (run_of seen.state.plan seen.state.now)) (take (kept.most - kept.records) seen.denials) = search rules in
    let v : c.push_late_tasks.new.text.items ≡ c.push_denials.new.text.items
    ++ late_lines file names made seen.state.plan.events c.args.late.now.counts (take (kept.most - c.saturating_add-before.result) c.args.late.now.firsts.items) = search rules in
    let w : c.push_rest.new.text.items ≡ c.push_late_tasks.new.text.items ++ more_text kept.most c.saturating_add-lines.result = search rules in
    lists_told file hints names made kept seen (run_of seen.state.plan seen.state.now) misses c.args.late.now.firsts.items c.args.late.now.counts
    c.saturating_add-before.result c.saturating_add-lines.result c.in_ok-text.text.items c.push_denials.new.text.items
    c.push_late_tasks.new.text.items c.push_rest.new.text.items are before lines t u v w
