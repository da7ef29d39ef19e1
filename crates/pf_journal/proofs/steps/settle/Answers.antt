use Rattle.std.proofs.Common.{sym, ◌∙◌}
use Rattle.pf_journal.proofs.Opening.{mended_rest}
use Rattle.pf_journal.proofs.States.{is_journal}
use Rattle.pf_journal.proofs.steps.settle.Goals as goal

pub returns-clause-at_rest : goal.returns-clause-at_rest
returns-clause-at_rest g c clean =
    let r = c.requires in
    let file = c.args.bytes.now in
    let journal = is_journal file (sym r.new ∙ c.if-begins.false) r.known in
    mended_rest file c.args.size r.size journal (g.D.Disk.seen c.mend.new.disk) (c.in_ok-mend.ensures.mended clean)
