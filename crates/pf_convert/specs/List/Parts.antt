-- Lines, part by part.
use Rattle.std.specs.Prelude.{ℕ, List}
use Rattle.std.specs.List.{flat_map}
use Rattle.std.specs.Fmt.{decimal}
use Rattle.pf_text.specs.Columns.Decimals.{with_fewest_places}
use Rattle.pf_convert.specs.declared.list.parts.Part.{Part}
use Rattle.pf_convert.specs.declared.list.parts.Part.TheVariants.{Words, Bytes, Quoted, Number, Wide, Decimal, Time}
use Rattle.pf_text.specs.Quoted.{quoted}
use Rattle.pf_convert.specs.List.Times.{places_of, time_text}

abbrev pub part_text : Part → List ℕ
part_text (Words words) = words.now
part_text (Bytes bytes) = bytes.now
part_text (Quoted field) = quoted field.now
part_text (Number number) = decimal number
part_text (Wide number) = decimal number
part_text (Decimal unit time) = with_fewest_places (places_of unit) time
part_text (Time unit time) = time_text unit time

-- these texts, one after another
abbrev pub joined : List (List ℕ) → List ℕ
joined texts = flat_map (λ text. text) texts
