use Rattle.std.proofs.Common.{rules, ◌≡◌, subst}
use Rattle.std.specs.Prelude.{IfOk}
use Rattle.pf_run.specs.Computed.{run_of}
use Rattle.pf_tally.specs.Misses.{misses_of}
use Rattle.pf_run_notes.specs.Late.{AreLate}
use Rattle.pf_run_notes.proofs.Behind.{lists_are}
use Rattle.pf_run_notes.proofs.behind_run.lists.Goals as goal

pub returns : goal.returns
returns c =
    let seen = c.args.snapshot.now in
    let missed : c.in_ok-misses.misses.items ≡ misses_of seen.state.plan (run_of seen.state.plan seen.state.now) = search rules in
    let are : AreLate c.in_ok-misses.misses.items c.in_ok-late.late.firsts.items c.in_ok-late.late.counts = search rules in
    subst (λ t. IfOk c.lists_with.result (λ text. text.items ≡ t))
    (lists_are c.args.file.now c.args.hints c.args.names.now c.args.made.now c.args.refusals.now seen c.in_ok-misses.misses.items missed)
    (c.lists_with.ensures c.in_ok-misses.misses.items are)
