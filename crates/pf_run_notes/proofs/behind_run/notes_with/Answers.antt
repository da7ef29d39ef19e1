use Rattle.std.proofs.Common.{rules, ◌≡◌, ◌++◌, length, true}
use Rattle.pf_run.specs.Computed.{run_of}
use Rattle.pf_run_notes.specs.Notes.{counts_text, lines_of, lists_with}
use Rattle.pf_run_notes.proofs.Behind.{notes_told}
use Rattle.pf_run_notes.proofs.behind_run.notes_with.Goals as goal

pub returns : goal.returns
returns c = λ misses are of_missed.
    let file = c.args.file.now in
    let names = c.args.names.now in
    let made = c.args.made.now in
    let kept = c.args.refusals.now in
    let seen = c.args.snapshot.now in
    let lines : c.count_lines-lines.result ≡ lines_of kept seen misses = c.count_lines-lines.ensures misses are in
    let w : c.in_ok-text.text.items ≡ lists_with file true names made kept seen (run_of seen.state.plan seen.state.now) misses = c.in_ok-text.ensures misses are in
    let x : c.push_last.new.text.items ≡ c.in_ok-text.text.items
    ++ counts_text file c.count_lines-lines.result kept.commands (length seen.denials) c.args.missed = search rules in
    notes_told file names made kept seen (run_of seen.state.plan seen.state.now) misses c.args.missed c.count_lines-lines.result
    c.in_ok-text.text.items c.push_last.new.text.items of_missed lines w x
