use Rattle.std.proofs.Common.{◌+◌, sym, ◌∙◌, subst}
use Rattle.std.proofs.lemmas.Result.{on_ok_weaker}
use Rattle.sqlite_disk.specs.Disk.{Torn, Cut}
use Rattle.pf_journal.specs.Crash.{IsMended}
use Rattle.pf_journal.proofs.Opening.{cut_crash, is_cut, is_rest, is_shut, kept_same, shut_crash}
use Rattle.pf_journal.proofs.steps.mend.Goals as goal

pub returns-then-bytes-size-clause-mended : goal.returns-then-bytes-size-clause-mended
returns-then-bytes-size-clause-mended g c =
    on_ok_weaker c.cut.result (λ long clean.
    let r = c.requires in
    let new = g.D.Disk.seen c.cut.new.disk in
    is_cut c.args.bytes.now c.args.size r.size r.journal c.if-bytes-size.true new
    (subst (λ f. Cut (c.args.size + 1) f new) (sym (r.bytes clean)) c.cut.ensures.others) long) c.cut.ensures.len

pub returns-then-bytes-size-clause-crash : goal.returns-then-bytes-size-clause-crash
returns-then-bytes-size-clause-crash g c clean left may =
    let r = c.requires in
    cut_crash c.args.bytes.now c.args.size r.size r.journal c.if-bytes-size.true left
    (subst (λ f. Cut (c.args.size + 1) f left) (sym (r.bytes clean)) (c.cut.ensures.crash clean left may))

pub returns-then-bytes-size-eq35-clause-mended : goal.returns-then-bytes-size-eq35-clause-mended
returns-then-bytes-size-eq35-clause-mended g c clean =
    let r = c.requires in
    sym (r.bytes clean) ∙ is_rest c.args.bytes.now c.args.size r.size r.journal c.if-size-bytes.true c.if-bytes-size.false c.if-bytes-size-eq35.true

pub returns-then-bytes-size-eq35-clause-crash : goal.returns-then-bytes-size-eq35-clause-crash
returns-then-bytes-size-eq35-clause-crash g c clean left may =
    let r = c.requires in
    let same = r.settled.durable clean left may ∙ sym (r.bytes clean) in
    subst (λ f. IsMended c.args.bytes.now f) (sym same) (kept_same c.args.bytes.now c.args.size r.size r.journal)

pub returns-clause-mended : goal.returns-clause-mended
returns-clause-mended g c =
    on_ok_weaker c.write.result (λ holds clean.
    let r = c.requires in
    let new = g.D.Disk.seen c.write.new.disk in
    is_shut c.args.bytes.now c.args.size r.size r.journal c.if-bytes-size.false new
    (subst (λ f. Torn c.args.size 1 f new) (sym (r.bytes clean)) c.write.ensures.others) holds) c.write.ensures.written

pub returns-clause-crash : goal.returns-clause-crash
returns-clause-crash g c clean left may =
    let r = c.requires in
    shut_crash c.args.bytes.now c.args.size r.size r.journal c.if-bytes-size.false left
    (subst (λ f. Torn c.args.size 1 f left) (sym (r.bytes clean)) (c.write.ensures.crash clean left may))
