use Rattle.pf_drill.specs.Gates.{SomeArrived}
use Rattle.pf_cli.proofs.Drilling.{half_written}
use Rattle.pf_cli.proofs.drill.drill.Goals as goal

pub returns-in-Ok-drill_bytes-clause-drilled : goal.returns-in-Ok-drill_bytes-clause-drilled
returns-in-Ok-drill_bytes-clause-drilled g c =
    half_written (g.G.Gate.lets_in c.args.gate.now) (SomeArrived (g.G.Gate.shuts_out c.args.gate.now)) (g.R.Read.remaining c.args.reader.now)
    c.in-Ok.script.items c.deref.result.now c.in-Ok-drill_bytes.answer.text.items c.deref-in-Ok-drill_bytes.result.now _ _
    c.in-Ok.ensures.bytes c.deref.ensures.value c.in-Ok-drill_bytes.ensures.drilled c.deref-in-Ok-drill_bytes.ensures.value c.in-Err-write_out.ensures.err
