use Rattle.std.proofs.Common.{length, ap, arith}
use Rattle.pf_script.proofs.Counting.{few_records}
use Rattle.pf_script.proofs.reader.ScriptReader.at.Goals as goal

pub invariant_of-result : goal.invariant_of-result
invariant_of-result c = omega (arith, ap length c.new.ensures, few_records c.args.bytes.now)
