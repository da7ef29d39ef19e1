-- Commands that took no slot, with one more.
use Rattle.std.proofs.Common.{◌≡◌, ℕ, ◌+◌, ◌<◌, ◌≤◌, not, cond, List, [], ◌∷◌, ◌++◌, length, map, take, drop, All, refl, sym, ap, ap₂, ◌∙◌, arith}
use Rattle.std.proofs.lemmas.List.{length-map, get_or_push, get_or_append_left, take-append-drop, map-append, map_push}
use Rattle.std.proofs.lemmas.List.Sums.{sum_by-append}
use Rattle.std.proofs.lemmas.List.Elements.{All-head, All-tail}
use Rattle.pf_desk.specs.declared.entry.Entry.{Entry}
use Rattle.pf_desk.specs.declared.settled.Settled.{Settled}
use Rattle.pf_desk.specs.declared.settlements.Kept.{Kept}
use Rattle.pf_desk.specs.declared.settlements.Kept.TheVariants.{Small, Wide}
use Rattle.pf_desk.specs.Settled.{Listed, HasRoomFor, count_wide, nothing_settled}
use Rattle.pf_desk.specs.Small.{is_small}
use Rattle.pf_desk.specs.Laid.{settled_of}
use Rattle.pf_desk.specs.Settlements.{IsWithin, settled_at}

one_kept : (wide : List Settled) (s : Settled) (kept : Kept) → IsWithin (length wide) kept → settled_at (wide ++ s ∷ []) kept ≡ settled_at wide kept
one_kept wide s (Small small) within = refl
one_kept wide s (Wide index) within = get_or_append_left wide (s ∷ []) nothing_settled index within

all_kept : (wide : List Settled) (s : Settled) (kept : List Kept) → All (IsWithin (length wide)) kept → map (settled_at (wide ++ s ∷ [])) kept ≡ map (settled_at wide) kept
all_kept wide s [] within = refl
all_kept wide s (k ∷ kept) within =
    let P : Kept → Type 0 = IsWithin (length wide) in
    ap₂ (λ x xs. x ∷ xs) (one_kept wide s k (All-head P k kept within)) (all_kept wide s kept (All-tail P k kept within))

-- Use: it stands after the others.
pub kept_apart : (wide : List Settled) (s : Settled) (kept : List Kept) (index : ℕ) → All (IsWithin (length wide)) kept → length wide ≡ index →
    map (settled_at (wide ++ s ∷ [])) (kept ++ Wide index ∷ []) ≡ map (settled_at wide) kept ++ s ∷ []
kept_apart wide s kept index within at =
    map_push (settled_at (wide ++ s ∷ [])) kept (Wide index)
    ∙ ap₂ (λ xs x. xs ++ x ∷ []) (all_kept wide s kept within) (get_or_push wide s nothing_settled index at)

wide-append : (xs ys : List Settled) → count_wide (xs ++ ys) ≡ count_wide xs + count_wide ys
wide-append xs ys = sum_by-append (λ s. cond (not (is_small s)) 1 0) xs ys

-- of these entries one more is kept
module _ (es : List Entry) (i : ℕ) (e : Entry) (within : i < length es) (taken : take (i + 1) es ≡ take i es ++ e ∷ []) where
  pub wide_more : count_wide (map settled_of (take (i + 1) es)) ≡ count_wide (map settled_of (take i es)) + count_wide (settled_of e ∷ [])
  wide_more =
      ap (λ xs. count_wide (map settled_of xs)) taken
      ∙ ap count_wide (map_push settled_of (take i es) e)
      ∙ wide-append (map settled_of (take i es)) (settled_of e ∷ [])

  pub room_for_next : (before now : Listed) → HasRoomFor before (map settled_of es) → before.room ≤ now.room + i →
      before.wide_room ≤ now.wide_room + count_wide (map settled_of (take i es)) → HasRoomFor now (settled_of e ∷ [])
  room_for_next before now room for_all for_wide =
      let front = take (i + 1) es in
      let back = drop (i + 1) es in
      let parts = ap (λ xs. count_wide (map settled_of xs)) (sym (take-append-drop (i + 1) es))
      ∙ ap count_wide (map-append settled_of front back)
      ∙ wide-append (map settled_of front) (map settled_of back) in
      record {
        for_all = omega (arith, room.for_all, length-map es settled_of);
        for_wide = omega (arith, room.for_wide, parts, wide_more);
      }
