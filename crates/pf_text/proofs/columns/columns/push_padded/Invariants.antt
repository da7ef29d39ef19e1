use Rattle.std.proofs.Common.{◌≡◌, ◌++◌, replicate}
use Rattle.pf_text.proofs.columns.columns.push_padded.Given as goal

abbrev pub invariant-loop : goal.invariant-loop
invariant-loop l = l.line.items ≡ l.initial.line.items ++ replicate l.counter 32
