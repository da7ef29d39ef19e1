use Rattle.std.proofs.Common.{◌∙◌, ◌++◌, ◌-◌, length, ap, arith}
use Rattle.std.proofs.lemmas.Result.{on_ok_weaker}
use Rattle.pf_convert.specs.Fit.Notes.{late_from}
use Rattle.pf_convert.proofs.FitLemmas.Firsts.{first_and_others}
use Rattle.pf_convert.proofs.fit.ground.push_late.Goals as goal

pub returns-in-len1-up : goal.returns-in-len1-up
returns-in-len1-up c =
    on_ok_weaker c.push_late_of.result
    (λ e. e ∙ ap (λ ts. c.args.words.now.items ++ late_from c.args.shown.now c.args.count ts)
    (first_and_others c.args.shown.now.tasks.now (length c.args.shown.now.tasks.now - 1) _ (omega arith) (omega arith)))
    c.push_late_of.ensures
