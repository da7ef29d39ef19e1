use Rattle.std.proofs.Common.{subst}
use Rattle.std.proofs.lemmas.Result.{on_ok_weaker}
use Rattle.sqlite_disk.specs.Disk.{Torn}
use Rattle.pf_journal.proofs.Opening.{heading_crash, heading_done}
use Rattle.pf_journal.proofs.steps.end_heading.Goals as goal

pub returns-clause-ended : goal.returns-clause-ended
returns-clause-ended g c =
    on_ok_weaker c.write.result (λ holds clean.
    let new = g.D.Disk.seen c.write.new.disk in
    let begun = c.requires.begun clean in
    heading_done begun.0 begun.1 new (subst (λ f. Torn 1 8 f new) begun.2 c.write.ensures.others) holds) c.write.ensures.written

pub returns-clause-crash : goal.returns-clause-crash
returns-clause-crash g c clean left may =
    let begun = c.requires.begun clean in
    heading_crash begun.0 begun.1 left (subst (λ f. Torn 1 8 f left) begun.2 (c.write.ensures.crash clean left may))
