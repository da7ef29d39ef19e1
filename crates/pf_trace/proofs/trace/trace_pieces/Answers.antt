use Rattle.std.proofs.Common.{◌∙◌, ◌++◌, ap, ap₂, sym, subst}
use Rattle.std.specs.List.Sorted.{IsNonDecreasingBy}
use Rattle.pf_tally.specs.declared.level.Level.{Level}
use Rattle.pf_run.specs.Computed.{run_of}
use Rattle.pf_trace.proofs.Levels.{levels_rise}
use Rattle.pf_trace.specs.Runs.{run_by, run_text}
use Rattle.pf_trace.specs.Trace.{head_text, trace_text}
use Rattle.pf_trace.proofs.trace.trace_pieces.Goals as goal

pub new-book-requires : goal.new-book-requires
new-book-requires c =
    let seen = c.args.snapshot.now in
    subst (IsNonDecreasingBy (λ (l : Level). l.slot)) (sym c.in_ok-levels.ensures)
    (levels_rise seen.state.plan (run_of seen.state.plan seen.state.now) 0 seen.state.now)

pub returns : goal.returns
unfolding trace_text
returns c =
    let seen = c.args.snapshot.now in
    let head = c.new.ensures ∙ c.in_ok-head.ensures
    ∙ ap₂ (λ t m. head_text t m) c.in_ok-of.ensures (c.processors.ensures.value ∙ ap (λ s. s.processors) c.settings.ensures) in
    let told = ap (λ b. run_text (run_by b)) c.new-book.ensures
    ∙ (λ k. run_text (record {
      rows = seen.rows;
      processors = seen.state.plan.settings.processors;
      title = c.in_ok-title.ensures k;
      told = λ task. c.in_ok-tasks.ensures task k;
      levels = c.in_ok-levels.ensures k;
    })) in
    c.new-5.ensures ∙ ap₂ (λ x y. x ++ y) head (c.new-4.ensures ∙ ap₂ (λ x y. x ++ y) (c.new-2.ensures ∙ told) (c.new-3.ensures ∙ c.in_ok-end.ensures.items))
