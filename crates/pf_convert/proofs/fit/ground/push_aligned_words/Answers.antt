use Rattle.std.proofs.Common.{◌∙◌, ◌++◌, ap}
use Rattle.std.proofs.lemmas.Result.{on_ok_weaker}
use Rattle.pf_lemmas.proofs.Lists.{three_written}
use Rattle.pf_convert.specs.Fit.Lateness.{early_count, late_count}
use Rattle.pf_convert.specs.Fit.Notes.{late_from, release_words, wait_words}
use Rattle.pf_convert.proofs.fit.ground.push_aligned_words.Goals as goal

pub returns : goal.returns
returns c =
    let s = c.args.shown.now in
    on_ok_weaker c.push_late.result
    (λ e. three_written c.args.words.now.items (release_words (early_count s.tasks.now)) (wait_words s.file.now.unit s.quantum.length)
    (late_from s (late_count s s.tasks.now) s.tasks.now) c.push_release.new.words.items c.push_wait.new.words.items c.push_late.new.words.items
    (c.in_ok-push_release.ensures ∙ ap (λ n. c.args.words.now.items ++ release_words n) c.early_tasks-early.ensures)
    c.in_ok-push_wait.ensures
    (e ∙ ap (λ n. c.push_wait.new.words.items ++ late_from s n s.tasks.now) c.late_tasks-late.ensures))
    c.push_late.ensures
