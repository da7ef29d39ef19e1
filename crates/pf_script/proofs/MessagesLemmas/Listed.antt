-- Words one after another.
use Rattle.std.proofs.Common.{◌≡◌, ◌≤◌, ◌<◌, ◌-◌, ℕ, List, [], ◌∷◌, ◌++◌, drop, get_or, length, map, take, refl, ap, sym, arith}
use Rattle.std.specs.Borrow.{Bor}
use Rattle.std.specs.List.{flat_map}
use Rattle.std.proofs.lemmas.List.{take_all}
use Rattle.std.proofs.lemmas.List.Folds.{flat_map-map}
use Rattle.pf_script.specs.Messages.Words.{list_of, listed_word}

abbrev nothing : Bor (List ℕ)
nothing = record { ref_ptr = (0, 0); now = [] }

abbrev texts : List (Bor (List ℕ)) → List (List ℕ)
texts words = map (λ w. w.now) words

-- the words of texts that are lent
listed_texts : (words : List (Bor (List ℕ))) → flat_map listed_word (texts words) ≡ flat_map (λ w. listed_word w.now) words
listed_texts words = flat_map-map listed_word (λ w. w.now) words

-- Use: words of which there are none, and others.
pub list_of_none : (words : List (Bor (List ℕ))) → length words < 1 → list_of (texts words) ≡ []
unfolding list_of
list_of_none [] none = refl
list_of_none (word ∷ words) none = absurd (omega (arith, none))

pub list_of_words : (words : List (Bor (List ℕ))) → 1 ≤ length words
    → list_of (texts words) ≡ (get_or words 0 nothing).now ++ flat_map (λ w. listed_word w.now) (take (length words - 1) (drop 1 words))
unfolding list_of
list_of_words [] some = absurd (omega (arith, some))
list_of_words (word ∷ words) some =
    rw (listed_texts words)
    (ap (λ ws. word.now ++ flat_map (λ w. listed_word w.now) ws) (sym (take_all (length (word ∷ words) - 1) words (omega arith))))
