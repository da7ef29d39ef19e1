use Rattle.std.proofs.Common.{sym, ◌∙◌}
use Rattle.std.proofs.lemmas.List.{length-take-le}
use Rattle.pf_code.proofs.Symbols.{is_short}
use Rattle.pf_code.proofs.symbol.Symbol.new.Goals as goal

pub slice_bounds-copy_from_slice-end : goal.slice_bounds-copy_from_slice-end
slice_bounds-copy_from_slice-end c = sym (length-take-le _ _ (is_short c.args.word.now (sym c.is_symbol.ensures ∙ c.if-not-is_symbol.false)))

pub copy_from_slice-requires : goal.copy_from_slice-requires
copy_from_slice-requires c = length-take-le _ _ (is_short c.args.word.now (sym c.is_symbol.ensures ∙ c.if-not-is_symbol.false))
