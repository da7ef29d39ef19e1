use Rattle.std.proofs.Common.{◌∙◌, ◌++◌, ap, arith}
use Rattle.pf_convert.specs.Slots.{slots_or_fault}
use Rattle.pf_convert.specs.Conversion.Slots.{fault_of, slots_given}
use Rattle.pf_convert.proofs.ConversionLemmas.Numbering.{one_more}
use Rattle.pf_convert.proofs.conversion.slots.Slots.of.Goals as goal

pub loop-task-preserved : goal.loop-task-preserved
loop-task-preserved c =
    let task = c.task-item.result in
    let q = c.args.quantum in
    let arrivals = c.args.arrivals in
    record {
      tasks =
          c.in_ok-note.ensures.tasks ∙ ap (λ v. v ++ slots_given (slots_or_fault q arrivals task.times)) c.loop-task.invariant.tasks
          ∙ one_more (λ t. slots_given (slots_or_fault q arrivals t.times)) c.args.tasks.now c.loop-task.task-index task c.loop-task-test.true c.task-item.is;
      faults =
          c.in_ok-note.ensures.faults ∙ ap (λ v. v ++ fault_of task (slots_or_fault q arrivals task.times)) c.loop-task.invariant.faults
          ∙ one_more (λ t. fault_of t (slots_or_fault q arrivals t.times)) c.args.tasks.now c.loop-task.task-index task c.loop-task-test.true c.task-item.is;
      slotted = c.in_ok-note.ensures.slotted c.loop-task.invariant.slotted;
      few = omega (arith, c.in_ok-note.ensures.few, c.loop-task.invariant.few);
    }
