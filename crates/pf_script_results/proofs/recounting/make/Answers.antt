use Rattle.std.proofs.Common.{◌≡◌, None, Some, Err, sym, ap, ◌∙◌}
use Rattle.pf_script_results.proofs.recounting.make.Goals as goal

pub returns-in-Err-Refused-clause-own : goal.returns-in-Err-Refused-clause-own
returns-in-Err-Refused-clause-own c = λ none.
    let some = (c.apply.ensures.refused c.in-Err-Refused.field-0-0).1 (c.in-Err-Refused.is ∙ ap Err c.in-Err-Refused.field-0-is) in
    let never : None ≡ Some c.in-Err-Refused.field-0-0 = sym none ∙ some in
    cc
