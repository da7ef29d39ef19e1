-- Lines filled, byte by byte.
use Rattle.std.proofs.Common.{◌≡◌, ℕ, ◌+◌, ◌<◌, ◌≤◌, ◌∙◌, Bool, List, [], ◌∷◌, ◌++◌, drop, length, get_or, refl, sym, ap, subst, append_assoc, codes}
use Rattle.std.specs.Prelude.{◌==◌, if◌then◌else◌}
use Rattle.std.proofs.lemmas.Bool.{ne_eqb}
use Rattle.std.proofs.lemmas.List.{at_drop_more, at_drop_all}
use Rattle.pf_convert.specs.Fit.Filled.{filled_from, width_after, word_text}

pub blank_passed : (text longer whole word after : List ℕ) (width wider : ℕ) (bytes : List ℕ) (i : ℕ) → i < length bytes → get_or bytes i 0 ≡ 32
    → longer ≡ text ++ word_text width word → wider ≡ width_after width word → after ≡ [] → text ++ filled_from width word (drop i bytes) ≡ whole
    → longer ++ filled_from wider after (drop (i + 1) bytes) ≡ whole
unfolding filled_from
blank_passed text longer whole word after width wider bytes i lt is e w none h =
    let rest = drop (i + 1) bytes in
    let next = filled_from (width_after width word) [] rest in
    let step : filled_from width word (drop i bytes) ≡ word_text width word ++ next =
    at_drop_more (filled_from width word) bytes i 0 lt ∙ ap (λ b. filled_from width word (b ∷ rest)) is in
    ap (λ v. longer ++ filled_from v after rest) w ∙ ap (λ v. longer ++ filled_from (width_after width word) v rest) none ∙ ap (λ v. v ++ next) e
    ∙ append_assoc text (word_text width word) next ∙ ap (λ v. text ++ v) (sym step) ∙ h

pub byte_passed : (text longer whole word after : List ℕ) (width wider : ℕ) (bytes : List ℕ) (i : ℕ) → i < length bytes → (get_or bytes i 0 ≡ 32 → ⊥)
    → longer ≡ text → wider ≡ width → after ≡ word ++ get_or bytes i 0 ∷ [] → text ++ filled_from width word (drop i bytes) ≡ whole
    → longer ++ filled_from wider after (drop (i + 1) bytes) ≡ whole
unfolding filled_from
byte_passed text longer whole word after width wider bytes i lt never e w more h =
    let rest = drop (i + 1) bytes in
    let b = get_or bytes i 0 in
    let step : filled_from width word (drop i bytes) ≡ filled_from width (word ++ b ∷ []) rest =
    at_drop_more (filled_from width word) bytes i 0 lt
    ∙ ap (λ (t : Bool). if t then word_text width word ++ filled_from (width_after width word) [] rest else filled_from width (word ++ b ∷ []) rest) (ne_eqb b 32 never) in
    ap (λ v. longer ++ filled_from v after rest) w ∙ ap (λ v. longer ++ filled_from width v rest) more ∙ ap (λ v. v ++ filled_from width (word ++ b ∷ []) rest) e
    ∙ ap (λ v. text ++ v) (sym step) ∙ h

pub all_filled : (text whole word : List ℕ) (width : ℕ) (bytes : List ℕ) (i : ℕ) → length bytes ≤ i → text ++ filled_from width word (drop i bytes) ≡ whole
    → text ++ (word_text width word ++ codes "\n") ≡ whole
unfolding filled_from
all_filled text whole word width bytes i le h = ap (λ v. text ++ v) (sym (at_drop_all (filled_from width word) bytes i le)) ∙ h
