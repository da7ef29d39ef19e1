-- Where the records of a script stand, by the lines that are left.
use Rattle.std.proofs.Common.{◌≡◌, ◌<◌, ◌≤◌, ℕ, ◌+◌, ◌-◌, zero, suc, List, [], ◌∷◌, drop, get_or, Option, None, Some, refl, sym, ap, subst, ◌∙◌, arith, Bor}
use Rattle.std.specs.Prelude.{slice_index_or}
use Rattle.std.specs.List.{slice_get}
use Rattle.std.specs.Option.{unwrap_or}
use Rattle.std.proofs.Math.Seq.{drop-nil}
use Rattle.std.proofs.lemmas.List.{get_or-drop}
use Rattle.std.proofs.lemmas.Option.{unwrap_or-slice_get}
use Rattle.pf_script.specs.Places.{line_at, lines_behind, record_lines}
use Rattle.pf_plain_script.specs.declared.origin.Origin.{Origin}
use Rattle.pf_run_notes.specs.declared.place.Place.{Place}
use Rattle.pf_script_results.specs.Places.{ArePlaces, IsBehind, place_of, place_of_origin}
use Rattle.pf_script.specs.Left.{lines_left}
use Rattle.pf_script_results.specs.declared.places.LinesLeft.{LinesLeft}
use Rattle.pf_script_results.specs.declared.places.Places.{Places}
use Rattle.pf_script_results.specs.declared.places.Places.TheVariants.{Origins, Lines}

first_of : (xs : List ℕ) → line_at xs ≡ get_or xs 0 0
first_of [] = refl
first_of (x ∷ xs) = refl

-- Use: the origin at a place.
pub given_origin : (xs : List Origin) (i : ℕ) (d : Origin) → unwrap_or (slice_get xs i) d ≡ slice_index_or xs i d
given_origin xs i d = unwrap_or-slice_get xs i d

-- Use: the line after so many.
pub line_behind : (xs ys : List ℕ) (k n : ℕ) → ys ≡ drop k xs → k ≡ n → line_at ys ≡ slice_index_or xs n 0
line_behind xs ys k n left is =
    let m : k + 0 ≡ n = omega (arith, is) in
    ap line_at left ∙ first_of (drop k xs) ∙ get_or-drop k xs 0 0 ∙ ap (λ i. get_or xs i 0) m

one_behind : (k : ℕ) (xs : List ℕ) → lines_behind (drop k xs) ≡ drop (suc k) xs
one_behind zero [] = refl
one_behind zero (x ∷ xs) = refl
one_behind (suc k) [] = refl
one_behind (suc k) (x ∷ xs) = one_behind k xs

-- Use: the lines left after one more.
pub more_behind : (xs ys zs : List ℕ) (k n : ℕ) → ys ≡ drop k xs → zs ≡ lines_behind ys → n ≡ k + 1 → zs ≡ drop n xs
more_behind xs ys zs k n left behind is =
    let m : suc k ≡ n = omega (arith, is) in
    behind ∙ ap lines_behind left ∙ one_behind k xs ∙ ap (λ i. drop i xs) m

behind_both : (j k : ℕ) (xs : List ℕ) → drop j (drop k xs) ≡ drop (k + j) xs
behind_both j zero xs = let n : j ≡ 0 + j = omega arith in ap (λ i. drop i xs) n
behind_both j (suc k) [] = drop-nil j ∙ sym (drop-nil (suc k + j))
behind_both j (suc k) (x ∷ xs) = behind_both j k xs ∙ (let n : suc k + j ≡ suc (k + j) = omega arith in ap (λ i. drop i (x ∷ xs)) (sym n))

-- Use: the place of the record of a number by the lines that are left.
module _ (script : List ℕ) (bound number : ℕ) (left new : List ℕ) (behind new_behind : ℕ) (place : Place)
    (is_left : left ≡ drop behind (record_lines script)) (below : behind ≤ bound) (above : bound < number)
    (is : IsBehind number left behind place new new_behind) where
  pub stands : place ≡ place_of None script number
  stands =
      let all = record_lines script in
      let n : behind + (number - behind - 1) ≡ number - 1 = omega (arith, below, above) in
      is.place_is
      ∙ ap (λ l. record { «record» = number; line = l; column = 1 })
      (ap (λ (xs : List ℕ). get_or xs (number - behind - 1) 0) is_left ∙ get_or-drop behind all (number - behind - 1) 0 ∙ ap (λ i. get_or all i 0) n)

  pub left_behind : new ≡ drop new_behind (record_lines script)
  left_behind =
      let n : behind + (number - behind) ≡ new_behind = omega (arith, below, above, is.behind) in
      is.left ∙ ap (drop (number - behind)) is_left ∙ behind_both (number - behind) behind (record_lines script)
      ∙ ap (λ i. drop i (record_lines script)) n

-- Use: the same where fewer were asked for.
pub places_above : (origins : Option (List Origin)) (script : List ℕ) (bound more : ℕ) (p : Places) → bound ≤ more → ArePlaces origins script bound p
    → ArePlaces origins script more p
places_above origins script bound more (Origins told) h are = are
places_above origins script bound more (Lines left) h are = (are.0, are.1, omega (arith, are.2, h))

-- Use: of a script that belongs to a plan.
module _ (origins : Option (List Origin)) (script : List ℕ) (bound number : ℕ) (p : Places) (are : ArePlaces origins script bound p) where
  pub origin_stands : (told : Bor (List Origin)) (place : Place) → p ≡ Origins told
      → place ≡ place_of_origin (slice_index_or told.now (number - 1) (record { number = number; line = 0; column = 1 })) → place ≡ place_of origins script number
  origin_stands told place is h =
      let some : origins ≡ Some told.now = subst (ArePlaces origins script bound) is are in
      h ∙ sym (ap (λ o. place_of o script number) some)

  pub origins_left : (told : Bor (List Origin)) → p ≡ Origins told → ArePlaces origins script number p
  origins_left told is = subst (ArePlaces origins script number) (sym is) (subst (ArePlaces origins script bound) is are)

  -- Use: of any other.
  module _ (left new : LinesLeft) (place : Place) (is : p ≡ Lines left) (above : bound < number)
      (behind : left.behind < number → IsBehind number (lines_left left.lines) left.behind place (lines_left new.lines) new.behind) where
    left_are : ArePlaces origins script bound (Lines left)
    left_are = subst (ArePlaces origins script bound) is are

    told_behind : IsBehind number (lines_left left.lines) left.behind place (lines_left new.lines) new.behind
    told_behind = behind (omega (arith, left_are.2, above))

    pub line_stands : place ≡ place_of origins script number
    line_stands =
        stands script bound number (lines_left left.lines) (lines_left new.lines) left.behind new.behind place left_are.1 left_are.2 above told_behind
        ∙ sym (ap (λ o. place_of o script number) left_are.0)

    pub lines_stand : ArePlaces origins script number (Lines new)
    lines_stand = (
      left_are.0,
      left_behind script bound number (lines_left left.lines) (lines_left new.lines) left.behind new.behind place left_are.1 left_are.2 above told_behind,
      omega (arith, told_behind.behind),
    )
