-- Lines, part by part.
use Rattle.std.specs.Prelude.{ℕ, List}
use Rattle.std.specs.Fmt.{decimal}
use Rattle.std.specs.List.{flat_map}
use Rattle.pf_code.specs.declared.parts.Part.{Part}
use Rattle.pf_code.specs.declared.parts.Part.TheVariants.{Words, Bytes, Number, Wide}

abbrev pub part_text : Part → List ℕ
part_text (Words words) = words.now
part_text (Bytes bytes) = bytes.now
part_text (Number number) = decimal number
part_text (Wide number) = decimal number

-- these texts, one after another
abbrev pub joined : List (List ℕ) → List ℕ
joined texts = flat_map (λ text. text) texts
