use Rattle.pf_convert.specs.Margins.Margins.{AreMarginsOf}
use Rattle.pf_convert.proofs.margins.margins.margins_of.Given as goal

abbrev pub invariant-loop-place : goal.invariant-loop-place
invariant-loop-place l = AreMarginsOf l.processors l.quantum l.plan l.place l.margins.items
