use Rattle.std.proofs.Common.{◌≡◌, get_or, sym, subst, arith}
use Rattle.std.proofs.lemmas.List.{take_all}
use Rattle.pf_run.specs.Inside.{Joined}
use Rattle.pf_code.proofs.Spans.{IsLeastSpan, none_yet, span_is, span_next, span_within}
use Rattle.pf_code.proofs.span.least_span.Goals as goal

pub loop-task-init : goal.loop-task-init
loop-task-init c = none_yet

pub least_multiple-span-requires-clause-small : goal.least_multiple-span-requires-clause-small
least_multiple-span-requires-clause-small c =
    let within = span_within c.args.base c.args.tasks.now c.loop-task.task-index c.loop-task.span c.requires.some c.requires.whole c.loop-task.invariant in
    omega (arith, within, c.requires.small)

pub loop-task-preserved : goal.loop-task-preserved
loop-task-preserved c =
    let inside = c.task.inside in
    let j : Joined = record { task = inside.task; slot = inside.slot; weight = inside.weight; early = inside.early } in
    let tasks = c.args.tasks.now in
    let i = c.loop-task.task-index in
    let at = subst (λ (x : Joined). x ≡ get_or tasks i x) (sym c.task.view_is) c.task-item.is in
    span_next tasks i j c.loop-task.span c.least_multiple-span.result (omega arith) at c.loop-task.invariant c.least_multiple-span.ensures

pub returns : goal.returns
returns c =
    let tasks = c.args.tasks.now in
    span_is c.args.base tasks c.loop-task.span c.requires.some c.requires.whole
    (subst (λ js. IsLeastSpan js c.loop-task.span) (take_all c.loop-task.task-index tasks c.loop-task-test.false) c.loop-task.invariant)
