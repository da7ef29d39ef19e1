-- The processors of a slot, one after another.
use Rattle.std.proofs.Common.{◌≡◌, ◌∙◌, ℕ, ◌+◌, List, [], ◌∷◌, ◌++◌, Option, map, sym, ap, ap₂, arith}
use Rattle.std.specs.List.{range_with_len}
use Rattle.std.proofs.lemmas.List.{map-append}
use Rattle.pf_lemmas.proofs.Ranges.{range_more}
use Rattle.pf_order.specs.declared.pick.Pick.{Pick}
use Rattle.pf_place.specs.Occupancy.{sitter}
use Rattle.pf_why_json.specs.Ranks.{places_json, sitter_json}

places_more : (row : List (Option Pick)) (m : ℕ) → places_json m row ++ sitter_json (sitter row m) ∷ [] ≡ places_json (m + 1) row
places_more row m =
    let f : ℕ → List ℕ = λ p. sitter_json (sitter row p) in
    let z : 0 + m ≡ m = omega arith in
    sym (ap (map f) (range_more 0 m) ∙ map-append f (range_with_len 0 m) ((0 + m) ∷ [])
    ∙ ap (λ q. map f (range_with_len 0 m) ++ f q ∷ []) z)

-- Use: one processor more.
pub place_next : {V : Type 0} (items : V → List ℕ) (texts after : List V) (v : V) (row : List (Option Pick)) (m : ℕ) → after ≡ texts ++ v ∷ []
    → map items texts ≡ places_json m row → items v ≡ sitter_json (sitter row m) → map items after ≡ places_json (m + 1) row
place_next items texts after v row m push before is =
    ap (map items) push ∙ map-append items texts (v ∷ []) ∙ ap₂ (λ a b. a ++ b ∷ []) before is ∙ places_more row m
