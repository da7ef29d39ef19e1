-- The nearest of names, one name after another.
use Rattle.std.proofs.Common.{rules, ◌≡◌, ◌+◌, ◌<◌, ◌≤◌, ℕ, List, [], ◌∷◌, drop, length, map, refl, ap, ◌∙◌, add-one, drop-cons, arith}
use Rattle.std.specs.Borrow.{Bor}
use Rattle.std.proofs.lemmas.List.{drop_all}
use Rattle.pf_message.specs.Nearness.{distance, name_at, near_name, nearer, nearest_name, name_within, most_edits}

abbrev texts : List (Bor (List ℕ)) → List (List ℕ)
texts names = map (λ n. n.now) names

next_name : (word best : List ℕ) (names : List (Bor (List ℕ))) (place : ℕ) → place < length names
    → nearest_name word best (texts (drop place names)) ≡ nearest_name word (nearer word best (name_at names place)) (texts (drop (place + 1) names))
unfolding nearest_name
next_name word best names place some = rw (add-one place, drop-cons names place (record { ref_ptr = (0, 0); now = [] })) refl

nearer_is : (word best name : List ℕ) → distance word name < distance word best → nearer word best name ≡ name
unfolding nearer
nearer_is word best name less = search (rules, less)

farther_is : (word best name : List ℕ) → distance word best ≤ distance word name → nearer word best name ≡ best
unfolding nearer
farther_is word best name least = search (rules, least)

-- Use: the next name is nearer, or is not.
pub next_nearer : (word best : List ℕ) (names : List (Bor (List ℕ))) (place : ℕ) → place < length names
    → distance word (name_at names place) < distance word best
    → nearest_name word best (texts (drop place names)) ≡ nearest_name word (name_at names place) (texts (drop (place + 1) names))
next_nearer word best names place some less =
    next_name word best names place some
    ∙ ap (λ name. nearest_name word name (texts (drop (place + 1) names))) (nearer_is word best (name_at names place) less)

pub next_farther : (word best : List ℕ) (names : List (Bor (List ℕ))) (place : ℕ) → place < length names
    → distance word best ≤ distance word (name_at names place)
    → nearest_name word best (texts (drop place names)) ≡ nearest_name word best (texts (drop (place + 1) names))
next_farther word best names place some least =
    next_name word best names place some
    ∙ ap (λ name. nearest_name word name (texts (drop (place + 1) names))) (farther_is word best (name_at names place) least)

pub no_more : (word best : List ℕ) (names : List (Bor (List ℕ))) (place : ℕ) → length names ≤ place → nearest_name word best (texts (drop place names)) ≡ best
unfolding nearest_name
no_more word best names place none = rw (drop_all place names none) refl

-- Use: of some names it is the nearest, where that is near.
pub first_of : (word : List ℕ) (names : List (Bor (List ℕ))) → 1 ≤ length names
    → near_name word (texts names) ≡ name_within (most_edits word) word (nearest_name word (name_at names 0) (texts (drop 1 names)))
first_of word [] some = absurd (omega (arith, some))
first_of word (name ∷ names) some = refl
