-- Numbers with four decimals.
use Rattle.std.proofs.Common.{◌≡◌, ℕ, ap, arith}
use Rattle.pf_text.specs.Columns.Decimals.{up, with_places}
use Rattle.pf_convert.proofs.MarginsLemmas.Works.{whole}

pub four_places : (parts : ℕ) → up parts 10000 4 ≡ with_places 4 parts
four_places parts = ap (with_places 4) (whole 10000 parts (omega arith))
