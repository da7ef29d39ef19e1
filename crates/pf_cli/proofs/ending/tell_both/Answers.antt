use Rattle.std.proofs.Common.{◌≡◌, rules, true, false}
use Rattle.std.specs.Result.{is_ok}
use Rattle.pf_cli.proofs.Telling.{both_told, first_told}
use Rattle.pf_cli.proofs.ending.tell_both.Goals as goal

pub returns-then-is_ok : goal.returns-then-is_ok
returns-then-is_ok g c =
    let is : is_ok c.write_out.result ≡ true = search rules in
    both_told c.write_out.result c.write_out-then-is_ok.result _ _ _ _ _ _ _ _ is c.write_out.ensures.ok c.write_out.ensures.count
    c.write_out-then-is_ok.ensures.ok c.write_out-then-is_ok.ensures.err c.write_out-then-is_ok.ensures.count

pub returns-else-is_ok : goal.returns-else-is_ok
returns-else-is_ok g c =
    let is : is_ok c.write_out.result ≡ false = search rules in
    first_told c.write_out.result _ _ _ _ _ _ is c.write_out.ensures.err c.write_out.ensures.count
