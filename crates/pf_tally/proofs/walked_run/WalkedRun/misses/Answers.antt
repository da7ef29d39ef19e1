use Rattle.std.proofs.Common.{◌∙◌, ap, arith, rules}
use Rattle.std.proofs.lemmas.List.Sorted.{answers_always}
use Rattle.std.specs.Prelude.{filter_map}
use Rattle.pf_run.specs.Inside.{join_of}
use Rattle.pf_tally.specs.Misses.{miss_cmp}
use Rattle.pf_tally.specs.declared.miss.Miss.{Miss}
use Rattle.pf_tally.proofs.Journals.{misses_known, joined_at, miss_step}
use Rattle.pf_tally.proofs.walked_run.WalkedRun.misses.Goals as goal

pub note_misses-requires-clause-joined : goal.note_misses-requires-clause-joined
note_misses-requires-clause-joined c =
    let run = c.args.self.now in
    let tasks = c.deref-task-items.ensures.value ∙ c.in_ok-tasks.ensures ∙ ap (λ xs. filter_map (join_of run.journal.settings.base) xs) c.deref.ensures.value in
    joined_at run.journal _ c.loop-task.task-index c.task-item.result tasks (omega arith) c.task-item.is

pub loop-task-preserved : goal.loop-task-preserved
loop-task-preserved c = λ s rows denials known.
    miss_step _ _ c.loop-task.task-index c.task-item.result _ _ (omega arith) c.task-item.is (c.in_ok-note_misses.ensures s rows denials known) (c.loop-task.invariant s rows denials known)

pub returns : goal.returns
unfolding miss_cmp
returns c = λ s rows denials known.
    let run = c.args.self.now in
    let tasks = c.deref-task-items.ensures.value ∙ c.in_ok-tasks.ensures ∙ ap (λ xs. filter_map (join_of run.journal.settings.base) xs) c.deref.ensures.value in
    misses_known s _ run.journal known.journal _ tasks c.loop-task.misses.items _ c.loop-task.task-index (c.loop-task.invariant s rows denials known) (omega arith)
    c.sort_unstable_by_key.ensures.permutation
    (c.sort_unstable_by_key.ensures.sorted (λ (m : Miss). (m.deadline, m.task)) (answers_always _ _ _ (λ f a r g h. search rules)))
