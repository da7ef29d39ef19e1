use Rattle.std.proofs.Common.{◌≡◌, ℕ, List, Err, rules, subst}
use Rattle.pf_vocabulary.specs.declared.fault.fault.Fault.TheVariants as why
use Rattle.pf_cli.specs.Noted.{IsTold, notes_in}
use Rattle.pf_cli.specs.Status.{Tells}
use Rattle.pf_cli.proofs.Telling.{told_unwritten}
use Rattle.pf_cli.proofs.ending.end.Goals as goal

pub returns-in-Err-Write-clause-told : goal.returns-in-Err-Write-clause-told
returns-in-Err-Write-clause-told g c =
    let outcome : c.args.noted.outcome ≡ Err why.Write = search rules in
    let tells = Tells (g.F.Write.contents c.args.faults.now) (g.F.Write.contents c.end_unwritten.new.faults) (g.F.Sink.failed c.args.faults.now)
    (g.F.Sink.failed c.end_unwritten.new.faults) in
    told_unwritten c.args.closed c.args.noted.outcome (notes_in c.args.noted.notes) tells outcome
    (subst (λ (n : List ℕ). IsTold c.args.closed (Err why.Write) n tells) c.notes_in-in-Err-Write.ensures c.end_unwritten.ensures.told)
