use Rattle.std.proofs.Common.{◌∙◌, None, map, fold, subst, sym, arith, List}
use Rattle.std.proofs.lemmas.List.{at_drop_all}
use Rattle.pf_tally.specs.declared.figures.Figures.{Figures}
use Rattle.pf_verdict.specs.Worst.{lag_of, worse}
use Rattle.pf_verdict.proofs.Periods.{HasPeriod, worst_kept}
use Rattle.pf_verdict.proofs.worst.worst_lag.Goals as goal

pub returns-clause-value : goal.returns-clause-value
returns-clause-value c =
    sym (at_drop_all (λ (fs : List Figures). fold worse c.loop-task.worst (map lag_of fs)) c.args.figures.now c.loop-task.task-index (omega arith))
    ∙ c.loop-task.invariant

pub returns-clause-period : goal.returns-clause-period
returns-clause-period c =
    λ all. subst HasPeriod (sym (returns-clause-value c)) (worst_kept None c.args.figures.now tt all)
