-- The field at a place of a record.
use Rattle.std.proofs.Common.{◌≡◌, ◌+◌, ◌∙◌, ℕ, zero, suc, List, [], ◌∷◌, Option, Some, None, Bor, drop, get_or, refl}
use Rattle.std.specs.Prelude.{unwrap_or, option_map}
use Rattle.std.proofs.lemmas.List.{get_or-drop}
use Rattle.csv.specs.Records.{field_at}

-- the field at a place, empty past the last
field_at-or : (fields : List (List ℕ)) (place : ℕ) → unwrap_or (field_at fields place) [] ≡ get_or fields place []
unfolding field_at
field_at-or [] place = refl
field_at-or (f ∷ fs) zero = refl
field_at-or (f ∷ fs) (suc place) = field_at-or fs place

-- what a reference in an option points to, or else
now-or : (o : Option (Bor (List ℕ))) (d : Bor (List ℕ)) → (unwrap_or o d).now ≡ unwrap_or (option_map (λ s. s.now) o) d.now
now-or None d = refl
now-or (Some b) d = refl

-- the field at a place of those from `at` on
pub field-from : (fields : List (List ℕ)) (at place : ℕ) (o : Option (Bor (List ℕ))) (d : Bor (List ℕ))
    → option_map (λ s. s.now) o ≡ field_at fields (at + place) → d.now ≡ []
    → (unwrap_or o d).now ≡ get_or (drop at fields) place []
field-from fields at place o d e none = now-or o d ∙ rw (e, none, get_or-drop at fields place []) (field_at-or fields (at + place))
