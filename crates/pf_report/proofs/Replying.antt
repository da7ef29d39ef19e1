-- A text with spaces between its parts, and the places of a row.
use Rattle.std.proofs.Common.{◌≡◌, ℕ, ◌<◌, ◌≤◌, ◌^◌, Option, List, [], ◌∷◌, ◌++◌, Result, Ok, Err, length, take, drop, sym, append_assoc, ◌∙◌, ap, arith}
use Rattle.std.specs.Prelude.{OnOk}
use Rattle.std.specs.List.{flat_map}
use Rattle.std.specs.Fmt.{decimal}
use Rattle.std.proofs.lemmas.Fmt.{length-decimal-le}
use Rattle.std.proofs.lemmas.Grind.{flat_map-append}
use Rattle.std.proofs.lemmas.List.{take-append-drop, take-take}
use Rattle.pf_order.specs.declared.pick.Pick.{Pick}
use Rattle.pf_report.specs.Replies.{place_text}

-- three texts with a space between them
spaced : (a b c : List ℕ) → a ++ (32 ∷ (b ++ (32 ∷ c))) ≡ (((a ++ 32 ∷ []) ++ b) ++ 32 ∷ []) ++ c
spaced a b c = sym (simp append_assoc)

-- and what stands before them
pub spaced_behind : (text before a b c : List ℕ)
    → (((text ++ before) ++ a) ++ 32 ∷ []) ++ (b ++ (32 ∷ c)) ≡ text ++ (before ++ ((((a ++ 32 ∷ []) ++ b) ++ 32 ∷ []) ++ c))
spaced_behind text before a b c =
    append_assoc ((text ++ before) ++ a) (32 ∷ []) (b ++ (32 ∷ c))
    ∙ append_assoc (text ++ before) a (32 ∷ (b ++ (32 ∷ c)))
    ∙ append_assoc text before (a ++ (32 ∷ (b ++ (32 ∷ c))))
    ∙ ap (λ t. text ++ (before ++ t)) (spaced a b c)

pub ok_retold : {A E : Type 0} (r : Result A E) (new xs ys : List ℕ) → xs ≡ ys → OnOk r (new ≡ xs) → OnOk r (new ≡ ys)
ok_retold (Ok done) new xs ys same h = h ∙ same
ok_retold (Err e) new xs ys same h = tt

-- a number of 32 bits has at most ten digits
pub ten_digits : (n : ℕ) → n < 2 ^ 32 → length (decimal n) ≤ 10
ten_digits n fits = length-decimal-le 10 n (omega arith) (omega arith) (omega arith)

-- the places below `from`, and after them those below `to`
pub places_more : (row : List (Option Pick)) (from to : ℕ) → from ≤ to
    → flat_map place_text (take from row) ++ flat_map place_text (drop from (take to row)) ≡ flat_map place_text (take to row)
places_more row from to order =
    ap (λ front. flat_map place_text front ++ flat_map place_text (drop from (take to row))) (sym (take-take from to row order))
    ∙ sym (flat_map-append place_text (take from (take to row)) (drop from (take to row)))
    ∙ ap (flat_map place_text) (take-append-drop from (take to row))
