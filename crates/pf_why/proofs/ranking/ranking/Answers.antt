use Rattle.std.proofs.Common.{length, rules}
use Rattle.std.proofs.lemmas.List.Sorted.{answers_always}
use Rattle.pf_order.specs.Priority.{priority_cmp}
use Rattle.pf_run.specs.Computed.{run_of}
use Rattle.pf_why.specs.declared.subtask.Subtask.{Subtask}
use Rattle.pf_why.specs.Ranking.{priority_of}
use Rattle.pf_why.proofs.Ranked.{ranked_is}
use Rattle.pf_why.proofs.ranking.ranking.Goals as goal

pub returns : goal.returns
unfolding priority_cmp
returns c =
    ranked_is c.args.scenario.now (run_of c.args.scenario.now (length c.args.rows.now)) c.args.t _ _ c.requires.of_run.scenario c.in_ok-ranked.ensures
    c.sort_unstable_by_key.ensures.permutation
    (c.sort_unstable_by_key.ensures.sorted
    (λ (x : Subtask). (x.deadline, (record { 0 = x.bit }, (record { 0 = (priority_of x).group }, x.task))))
    (answers_always _ _ _ (λ f a r g h. search rules)))
