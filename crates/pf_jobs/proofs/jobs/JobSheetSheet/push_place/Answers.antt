use Rattle.std.proofs.Common.{◌≡◌, ◌∙◌, ◌+◌, ◌++◌, ap, subst, sym, arith}
use Rattle.std.specs.Prelude.{OnOk}
use Rattle.pf_vocabulary.specs.NameColumn.Column.{name_fields}
use Rattle.pf_text.specs.Page.{with_record}
use Rattle.pf_jobs.specs.Ran.{NamedRan}
use Rattle.pf_jobs.specs.Jobs.{is_told, job_by, job_count, job_record}
use Rattle.pf_jobs.proofs.Told.{told_added}
use Rattle.pf_jobs.proofs.jobs.JobSheetSheet.push_place.Goals as goal

pub overflow_add-at : goal.overflow_add-at
overflow_add-at c =
    omega (arith, c.requires.within, c.job_count.ensures ∙ ap (λ (x : NamedRan). job_count x.ran) c.self.view_is, c.job_count.type_inv)

pub returns-then-tells : goal.returns-then-tells
returns-then-tells c =
    let x = c.args.self.now in
    let job = c.job-job.result in
    let P : NamedRan → Type 0 = λ y. OnOk c.push_job.result
    (c.push_job.new.table ≡ with_record c.args.table.now (job_record job ++ name_fields y.titles job.task)) in
    told_added x.ran c.args.at c.requires.within x.titles c.push_job.result job c.args.table.now c.push_job.new.table
    (c.job-job.ensures.value ∙ ap (λ (y : NamedRan). job_by y.ran (c.args.at + 1)) c.self.view_is)
    (sym (c.tells.ensures ∙ ap (λ (y : NamedRan). is_told y.ran.end job) c.self.view_is) ∙ c.if-tells.true)
    (subst P c.self.view_is c.push_job.ensures)
