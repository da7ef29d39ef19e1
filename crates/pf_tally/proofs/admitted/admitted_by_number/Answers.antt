use Rattle.std.proofs.Common.{rules}
use Rattle.std.proofs.lemmas.List.Sorted.{answers_always}
use Rattle.pf_run.specs.Inside.{Joined}
use Rattle.pf_tally.proofs.Figured.{joined_sorted}
use Rattle.pf_tally.proofs.admitted.admitted_by_number.Goals as goal

pub returns : goal.returns
returns c =
    joined_sorted c.args.settings.base c.args.events.now _ _ c.requires.once c.in_ok-tasks.ensures c.sort_unstable_by_key.ensures.permutation
    (c.sort_unstable_by_key.ensures.sorted (λ (j : Joined). j.task) (answers_always _ _ _ (λ f a r g h. search rules)))
