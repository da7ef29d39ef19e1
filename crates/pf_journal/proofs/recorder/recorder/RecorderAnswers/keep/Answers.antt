use Rattle.std.proofs.Common.{rules, ◌∙◌, ap}
use Rattle.pf_journal.proofs.Resting.{rest_opens}
use Rattle.pf_journal.proofs.recorder.recorder.RecorderAnswers.keep.Goals as goal

pub returns-in-Ok-clause-ok : goal.returns-in-Ok-clause-ok
returns-in-Ok-clause-ok g c = record {
  machine_is = search rules;
  waiting_is = search rules;
  was = search rules;
  lost_is = search rules;
  calm = search rules;
  records_are = search rules;
  durable = search rules;
  opens = λ clean. rest_opens _ c.put_lines.new.self.size (c.in-Ok.ensures.kept.at_rest clean);
}

pub returns-in-Err-clause-err : goal.returns-in-Err-clause-err
returns-in-Err-clause-err g c = record {
  machine_is = search rules;
  lost_is = search rules;
  front = search rules;
  opens = λ was clean mixing left may.
      c.put_lines.ensures.opens mixing (ap g.D.Disk.is_clean (ap (λ q. q.file) c.self.view_is) ∙ clean) left may;
  same = search rules;
}
