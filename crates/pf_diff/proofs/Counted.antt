-- How many cells of two schedules differ.
use Rattle.std.proofs.Common.{◌≡◌, ◌∙◌, ℕ, ◌+◌, ◌<◌, ◌≤◌, Bool, true, false, cond, Option, Some, List, [], ◌∷◌, length, drop, min, ap, refl, arith}
use Rattle.std.specs.List.{slice_get}
use Rattle.std.specs.Fmt.{decimal}
use Rattle.std.proofs.lemmas.List.{length-append}
use Rattle.pf_order.specs.declared.pick.Pick.{Pick}
use Rattle.pf_report.specs.Tables.{sitter_field}
use Rattle.pf_diff.specs.Diff.{same_sitter, sitter_changes, row_changes, slot_changes}
use Rattle.pf_diff.proofs.SideBySide.{row_end, slot_end, slot_more}

length_of : (b : Bool) (x : List (List ℕ)) → length (cond b [] (x ∷ [])) ≡ cond b 0 1
length_of true x = refl
length_of false x = refl

one_sitter : (t p : ℕ) (x y : Option Pick) (b : Bool) → same_sitter x y ≡ b → length (sitter_changes t p x y) ≡ cond b 0 1
one_sitter t p x y b e = length_of (same_sitter x y) (decimal t ∷ decimal p ∷ sitter_field x ∷ sitter_field y ∷ []) ∙ ap (λ c. cond c 0 1) e

-- the number of a slot does not count
pub any_slot : (t u p : ℕ) (xs ys : List (Option Pick)) → length (row_changes t p xs ys) ≡ length (row_changes u p xs ys)
any_slot t u p [] ys = refl
any_slot t u p (x ∷ xs) [] = refl
any_slot t u p (x ∷ xs) (y ∷ ys) =
    omega (
      arith,
      length-append (sitter_changes t p x y) (row_changes t (p + 1) xs ys),
      length-append (sitter_changes u p x y) (row_changes u (p + 1) xs ys),
      one_sitter t p x y (same_sitter x y) refl,
      one_sitter u p x y (same_sitter x y) refl,
      any_slot t u (p + 1) xs ys,
    )

pub row_all : (p cells : ℕ) (xs ys : List (Option Pick)) → min (length xs) (length ys) ≤ p →
    cells + length (row_changes 0 p (drop p xs) (drop p ys)) ≡ length (row_changes 0 0 xs ys) → cells ≡ length (row_changes 0 0 xs ys)
row_all p cells xs ys over before = omega (arith, before, ap length (row_end 0 p xs ys over))

-- a slot more
pub slot_counted : (t cells more : ℕ) (xs ys : List (List (Option Pick))) (x y : List (Option Pick)) → t < length xs → t < length ys →
    Some x ≡ slice_get xs t → Some y ≡ slice_get ys t → more ≡ length (row_changes 0 0 x y) →
    cells + length (slot_changes t (drop t xs) (drop t ys)) ≡ length (slot_changes 0 xs ys) →
    cells + more + length (slot_changes (t + 1) (drop (t + 1) xs) (drop (t + 1) ys)) ≡ length (slot_changes 0 xs ys)
slot_counted t cells more xs ys x y first second is_x is_y is before =
    omega (
      arith,
      before,
      is,
      any_slot t 0 0 x y,
      ap length (slot_more t xs ys x y first second is_x is_y),
      length-append (row_changes t 0 x y) (slot_changes (t + 1) (drop (t + 1) xs) (drop (t + 1) ys)),
    )

pub slot_all : (t cells : ℕ) (xs ys : List (List (Option Pick))) → min (length xs) (length ys) ≤ t →
    cells + length (slot_changes t (drop t xs) (drop t ys)) ≡ length (slot_changes 0 xs ys) → cells ≡ length (slot_changes 0 xs ys)
slot_all t cells xs ys over before = omega (arith, before, ap length (slot_end t xs ys over))
