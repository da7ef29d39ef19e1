-- Where a reader of a list is, byte by byte.
use Rattle.std.proofs.Common.{◌≡◌, ℕ, ◌+◌, ◌<◌, ◌≤◌, ◌∙◌, List, drop, length, get_or, Some, None, sym, ap}
use Rattle.std.specs.Prelude.{Bool, if◌then◌else◌}
use Rattle.std.proofs.lemmas.List.{at_drop_more, at_drop_all}
use Rattle.pf_convert.specs.List.Quotes.{Reading, first_reading, is_quoted, line_if_quoted, reading_after, reading_from}

pub byte_passed : (bytes : List ℕ) (i : ℕ) (r : Reading) → i < length bytes
    → reading_from r (drop i bytes) ≡ reading_from (reading_after r (get_or bytes i 0)) (drop (i + 1) bytes)
unfolding reading_from
byte_passed bytes i r lt = at_drop_more (reading_from r) bytes i 0 lt

all_passed : (bytes : List ℕ) (i : ℕ) (r : Reading) → length bytes ≤ i → reading_from r (drop i bytes) ≡ r
unfolding reading_from
all_passed bytes i r le = at_drop_all (reading_from r) bytes i le

pub quoted_at : (bytes : List ℕ) (i : ℕ) (r : Reading) (b : Bool) → length bytes ≤ i → reading_from r (drop i bytes) ≡ reading_from first_reading bytes
    → is_quoted r.state ≡ b → (if b then Some r.begun else None) ≡ line_if_quoted (reading_from first_reading bytes)
quoted_at bytes i r b le read is =
    sym (ap (λ x. if x then Some r.begun else None) is) ∙ ap line_if_quoted (sym (all_passed bytes i r le) ∙ read)
