use Rattle.std.proofs.Common.{◌<◌, ◌≤◌, rules, sym, subst}
use Rattle.std.specs.Prelude.{All}
use Rattle.pf_convert.specs.Fit.Answers.{IsReady}
use Rattle.pf_convert.specs.declared.quantum.TheConstants.{LONGEST_QUANTUM}
use Rattle.pf_convert.proofs.FitLemmas.Ready.{all_ready}
use Rattle.pf_convert.proofs.fit.fit.fit_tasks.Goals as goal

pub fit_all-requires-clause-ready : goal.fit_all-requires-clause-ready
fit_all-requires-clause-ready c =
    let longer : All (λ q. c.terms_of.result.switch < q) c.all.result.now = search rules in
    let short : All (λ q. q ≤ LONGEST_QUANTUM) c.all.result.now = search rules in
    subst (All (IsReady c.tasks-tasks.result.now)) (sym c.deref.ensures.value)
    (all_ready c.terms_of.result c.tasks-tasks.result.now c.all.result.now c.in_ok-all.all.items c.in_ok-all.ensures.planned c.in_ok-all.ensures.holds longer short
    c.tasks-tasks.ensures.few)
