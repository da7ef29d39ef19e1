use Rattle.std.proofs.Common.{rules, arith}
use Rattle.pf_desk.proofs.Gathering.{plain_more}
use Rattle.pf_desk.proofs.apply_all.plain_edits.Goals as goal

pub loop-command-preserved : goal.loop-command-preserved
loop-command-preserved c = record {
  counted = omega arith;
  plain = plain_more _ _ _ c.loop-command-test.true c.loop-command.invariant.plain (c.is_plain.ensures.0 (search rules));
}
