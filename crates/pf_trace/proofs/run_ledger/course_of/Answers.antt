use Rattle.std.proofs.Common.{◌∙◌, find, ap}
use Rattle.std.specs.Prelude.{◌==◌}
use Rattle.pf_run.specs.Inside.{Joined}
use Rattle.pf_trace.proofs.Listing.{found_can}
use Rattle.pf_trace.proofs.run_ledger.course_of.Goals as goal

pub of-requires : goal.of-requires
of-requires c =
    let run = c.args.run.now in
    found_can run.ledger run.admitted.items c.args.task c.in-Some.joined _ _ c.requires
    (c.in-Some.ensures ∙ ap (find (λ (j : Joined). j.task == c.args.task)) c.deref.ensures.value) c.quanta-ran.ensures c.diary-diary.ensures
