use Rattle.std.proofs.Common.{codes}
use Rattle.std.proofs.lemmas.Result.{on_ok_weaker}
use Rattle.pf_lemmas.proofs.Lists.{two_written}
use Rattle.pf_convert.specs.Conversion.Script.{numbered}
use Rattle.pf_convert.specs.Conversion.Table.{quantum_line, series_text}
use Rattle.pf_convert.proofs.conversion.table.push_series.Goals as goal

pub returns : goal.returns
unfolding series_text
returns c =
    on_ok_weaker c.push_quanta.result
    (λ e. two_written c.args.text.now.items (codes "quantum,base,periods,work,load,utilization,processors,fits,best\n")
    (numbered (quantum_line c.args.series) 0 c.args.all.now) c.extend_from_slice.new.self.items c.push_quanta.new.text.items
    c.in_ok-extend_from_slice.ensures.items e)
    c.push_quanta.ensures
