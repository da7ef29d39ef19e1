use Rattle.pf_lemmas.proofs.Ranges.{number_next}
use Rattle.pf_trace.specs.Trace.{processor_name}
use Rattle.pf_trace.proofs.head.push_processors.Goals as goal

pub loop-processor-preserved : goal.loop-processor-preserved
loop-processor-preserved c =
    number_next (processor_name c.args.title.now) c.loop-processor.processor c.args.text.now.items c.loop-processor.text.items _
    c.in_ok-push_processor.ensures c.loop-processor.invariant
