use Rattle.std.proofs.Common.{◌≡◌, ◌∙◌, ℕ, List, Option, None, Some, sym}
use Rattle.pf_code.specs.Symbol.{is_symbol}
use Rattle.pf_code.proofs.symbol.Symbol.usual.Goals as goal

pub unreachable-requires : goal.unreachable-requires
unfolding is_symbol
unreachable-requires c =
    let none : ◌≡◌ {A = Option (List ℕ)} None (Some _) = sym c.in-None.is ∙ c.new.ensures in
    cc
