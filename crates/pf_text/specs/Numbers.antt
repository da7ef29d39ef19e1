-- Numbers as texts.
use Rattle.std.specs.Prelude.{ℕ, ◌==◌, ◌||◌, nat_lt, if◌then◌else◌, List, length, Option, Some, None}
use Rattle.std.specs.Str.{all_ascii_digits}
use Rattle.std.specs.Str.Parse.{digits_value}

-- the number that a text is: 1 to 15 ASCII digits and nothing else
unfoldable pub number_of : List ℕ → Option ℕ
number_of bytes =
    if (length bytes == 0) || nat_lt 15 (length bytes) then None
    else if all_ascii_digits bytes then Some (digits_value 10 bytes)
    else None
