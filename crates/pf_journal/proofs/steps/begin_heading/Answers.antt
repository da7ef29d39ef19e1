use Rattle.std.proofs.Common.{sym, subst}
use Rattle.std.proofs.lemmas.Result.{on_ok_weaker}
use Rattle.sqlite_disk.specs.Disk.{Torn}
use Rattle.pf_journal.proofs.Opening.{first_crash, first_done}
use Rattle.pf_journal.proofs.steps.begin_heading.Goals as goal

pub returns-clause-begun : goal.returns-clause-begun
returns-clause-begun g c =
    on_ok_weaker c.write.result (λ holds clean.
    let new = g.D.Disk.seen c.write.new.disk in
    first_done c.args.bytes.now c.requires.short new (subst (λ f. Torn 0 1 f new) (sym (c.requires.bytes clean)) c.write.ensures.others) holds) c.write.ensures.written

pub returns-clause-crash : goal.returns-clause-crash
returns-clause-crash g c clean left may =
    first_crash c.args.bytes.now c.requires.short left (subst (λ f. Torn 0 1 f left) (sym (c.requires.bytes clean)) (c.write.ensures.crash clean left may))
