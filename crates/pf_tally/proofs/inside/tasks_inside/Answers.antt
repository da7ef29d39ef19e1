use Rattle.std.proofs.Common.{◌∙◌, rules}
use Rattle.std.proofs.lemmas.List.Sorted.{answers_always}
use Rattle.pf_run.specs.Inside.{Joined}
use Rattle.pf_tally.proofs.Own.{staying_own}
use Rattle.pf_tally.proofs.Tallies.{tasks_from_sort}
use Rattle.pf_tally.proofs.inside.tasks_inside.Goals as goal

pub returns : goal.returns
returns c =
    let xs = c.args.events.now in
    tasks_from_sort c.args.settings.base xs _ _ _ _ c.requires.once c.in_ok-admitted.ensures c.deref.ensures.value
    (c.in_ok-tasks.ensures ∙ staying_own xs c.args.diaries.now _ c.requires.diaries)
    c.sort_unstable_by_key.ensures.permutation
    (c.sort_unstable_by_key.ensures.sorted (λ (j : Joined). j.task) (answers_always _ _ _ (λ f a r g h. search rules)))
