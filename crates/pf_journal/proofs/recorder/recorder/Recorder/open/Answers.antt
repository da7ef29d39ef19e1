use Rattle.std.proofs.Common.{◌≡◌, rules, sym, ◌∙◌, ap, subst}
use Rattle.pf_journal.specs.Crash.{IsOpenable}
use Rattle.pf_journal.specs.Kept.{disk_of}
use Rattle.pf_journal.proofs.Resting.{rest_opens}
use Rattle.pf_journal.proofs.recorder.recorder.Recorder.open.Goals as goal

pub returns-in-Ok-open_with-clause-begins : goal.returns-in-Ok-open_with-clause-begins
returns-in-Ok-open_with-clause-begins g c =
    let file_is : c.over.result.file ≡ disk_of c.in-Ok-open_with.journal = ap (λ q. q.file) c.over.ensures in
    record {
      machine_is = search rules;
      waiting_is = search rules;
      lost_is = search rules;
      calm = search rules;
      records_are = search rules;
      durable = search rules;
      opens = λ clean. subst (λ f. IsOpenable (g.D.Disk.seen f)) (sym file_is)
          (rest_opens _ c.in-Ok-open_with.journal.size (c.in-Ok-open_with.ensures.kept.at_rest (ap g.D.Disk.is_clean (sym file_is) ∙ clean)));
    }
