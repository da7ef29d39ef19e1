use Rattle.std.proofs.Common.{◌-◌, arith}
use Rattle.pf_desk.specs.declared.brief.Brief.TheVariants.{OfSlot}
use Rattle.pf_desk.specs.declared.run.Run.{Run}
use Rattle.pf_desk.proofs.Runs.{some_begins, brief_of_last}
use Rattle.pf_desk.proofs.briefs.run_of.Goals as goal

pub overflow_sub-result : goal.overflow_sub-result
overflow_sub-result c =
    let d : Run = record { start = 0; first = OfSlot 0 0 } in
    some_begins c.args.runs.now c.args.k c.count_begun.result d c.requires.begin (λ m l u. c.count_begun.ensures.later m d l u)

pub returns-clause-start : goal.returns-clause-start
returns-clause-start c =
    let d : Run = record { start = 0; first = OfSlot 0 0 } in
    let some = some_begins c.args.runs.now c.args.k c.count_begun.result d c.requires.begin (λ m l u. c.count_begun.ensures.later m d l u) in
    c.count_begun.ensures.begun (c.count_begun.result - 1) d (omega (arith, some))

pub returns-clause-brief : goal.returns-clause-brief
returns-clause-brief c before =
    let d : Run = record { start = 0; first = OfSlot 0 0 } in
    let some = some_begins c.args.runs.now c.args.k c.count_begun.result d c.requires.begin (λ m l u. c.count_begun.ensures.later m d l u) in
    brief_of_last before c.args.runs.now c.args.k c.count_begun.result d
    (λ m l. c.count_begun.ensures.begun m d l) (λ m l u. c.count_begun.ensures.later m d l u)
    some c.count_begun.ensures.within
