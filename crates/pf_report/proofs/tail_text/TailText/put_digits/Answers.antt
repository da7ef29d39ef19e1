use Rattle.std.proofs.Common.{length, ap, arith}
use Rattle.std.proofs.lemmas.List.{length-drop}
use Rattle.pf_report.proofs.tail_text.TailText.put_digits.Goals as goal

pub write_digits-self-inside-requires : goal.write_digits-self-inside-requires
write_digits-self-inside-requires c =
    let left = length-drop c.self.inside.start c.self.inside.bytes in
    let is = ap length c.self.view_is in
    (omega (arith, left, is), omega arith)
