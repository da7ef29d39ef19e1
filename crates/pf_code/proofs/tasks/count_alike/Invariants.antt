use Rattle.std.proofs.Common.{◌≡◌, ◌≤◌, count_by, take}
use Rattle.std.specs.Str.{bytes_eq}
use Rattle.pf_code.proofs.tasks.count_alike.Given as goal

abbrev pub invariant-loop-symbol : goal.invariant-loop-symbol
invariant-loop-symbol l = record {
  value : l.count ≡ count_by (λ symbol. bytes_eq l.own symbol.items) (take l.symbol-index l.symbols);
  few : l.count ≤ l.symbol-index;
}
