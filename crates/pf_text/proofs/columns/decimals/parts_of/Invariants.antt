use Rattle.pf_text.proofs.ColumnsLemmas.Places.{IsQuotient}
use Rattle.pf_text.proofs.columns.decimals.parts_of.Given as goal

abbrev pub invariant-loop : goal.invariant-loop
invariant-loop l = IsQuotient l.a l.b l.counter l.parts l.rest
