-- The text of a form, hole by hole.
use Rattle.std.proofs.Common.{◌≡◌, ◌∙◌, ℕ, ◌+◌, ◌-◌, ◌<◌, ◌≤◌, Bool, true, false, cond, List, [], ◌∷◌, ◌++◌, length, take, drop, get_or, refl, sym, ap, ap₂, append_assoc, arith}
use Rattle.std.proofs.lemmas.List.{append-nil, at_drop_all, at_drop_more, drop-drop, get_or-drop, length-drop, take_all, take_more}
use Rattle.pf_trace.specs.Forms.{filled, first_number, hole_text, is_hole}
use Rattle.pf_trace.specs.Titles.{Called}

-- one number further
drop_next : (ns : List ℕ) (k : ℕ) → drop 1 (drop k ns) ≡ drop (k + 1) ns
drop_next ns k = drop-drop 1 k ns

-- one byte more of a part
part_more : (xs : List ℕ) (start at d : ℕ) → start ≤ at → at < length xs →
    take (at + 1 - start) (drop start xs) ≡ take (at - start) (drop start xs) ++ get_or xs at d ∷ []
part_more xs start at d order within =
    let part = take (at - start) (drop start xs) in
    ap (λ n. take n (drop start xs)) (let z : at + 1 - start ≡ at - start + 1 = omega (arith, order) in z)
    ∙ take_more (drop start xs) (at - start) d (omega (arith, order, within, length-drop start xs))
    ∙ ap (λ x. part ++ x ∷ []) (get_or-drop start xs (at - start) d ∙ ap (λ k. get_or xs k d) (let z : start + (at - start) ≡ at = omega (arith, order) in z))

module _ (title : Called) (form numbers : List ℕ) where
  abbrev left_at : ℕ → ℕ → ℕ → List ℕ
  left_at start at used = take (at - start) (drop start form) ++ filled title (drop at form) (drop used numbers)

  by_byte : (byte : ℕ) (rest ns : List ℕ) (b : Bool) → is_hole byte ≡ b →
      filled title (byte ∷ rest) ns ≡ cond b (hole_text title byte (first_number ns) ++ filled title rest (drop 1 ns)) (byte ∷ filled title rest ns)
  unfolding filled
  by_byte byte rest ns b is = ap (λ b. cond b (hole_text title byte (first_number ns) ++ filled title rest (drop 1 ns)) (byte ∷ filled title rest ns)) is

  next_byte : (at used d : ℕ) (b : Bool) → at < length form → is_hole (get_or form at d) ≡ b →
      filled title (drop at form) (drop used numbers)
      ≡ cond b (hole_text title (get_or form at d) (first_number (drop used numbers)) ++ filled title (drop (at + 1) form) (drop (used + 1) numbers))
      (get_or form at d ∷ filled title (drop (at + 1) form) (drop used numbers))
  next_byte at used d b within is =
      at_drop_more (λ xs. filled title xs (drop used numbers)) form at d within
      ∙ by_byte (get_or form at d) (drop (at + 1) form) (drop used numbers) b is
      ∙ ap (λ ns. cond b (hole_text title (get_or form at d) (first_number (drop used numbers)) ++ filled title (drop (at + 1) form) ns)
      (get_or form at d ∷ filled title (drop (at + 1) form) (drop used numbers))) (drop_next numbers used)

  -- Use: a byte that is no hole.
  pub byte_passed : (start at used d : ℕ) (old whole : List ℕ) → start ≤ at → at < length form → is_hole (get_or form at d) ≡ false →
      old ++ left_at start at used ≡ whole → old ++ left_at start (at + 1) used ≡ whole
  byte_passed start at used d old whole order within fails so_far =
      let byte = get_or form at d in
      let rest = filled title (drop (at + 1) form) (drop used numbers) in
      let part = take (at - start) (drop start form) in
      ap (λ text. old ++ text)
      (ap (λ xs. xs ++ rest) (part_more form start at d order within)
      ∙ append_assoc part (byte ∷ []) rest
      ∙ ap (λ text. part ++ text) (sym (next_byte at used d false within fails)))
      ∙ so_far

  -- Use: a hole that was filled after the part before it.
  pub hole_passed : (start at used d n : ℕ) (old mid new whole : List ℕ) → at < length form → is_hole (get_or form at d) ≡ true →
      mid ≡ old ++ take (at - start) (drop start form) → n ≡ first_number (drop used numbers) → new ≡ mid ++ hole_text title (get_or form at d) n →
      old ++ left_at start at used ≡ whole → new ++ left_at (at + 1) (at + 1) (used + 1) ≡ whole
  hole_passed start at used d n old mid new whole within passes part_is n_is new_is so_far =
      let byte = get_or form at d in
      let rest = filled title (drop (at + 1) form) (drop (used + 1) numbers) in
      let part = take (at - start) (drop start form) in
      let none : take (at + 1 - (at + 1)) (drop (at + 1) form) ≡ [] = ap (λ k. take k (drop (at + 1) form)) (let z : at + 1 - (at + 1) ≡ 0 = omega arith in z) in
      ap₂ (λ text part. text ++ (part ++ rest)) (new_is ∙ ap₂ (λ t k. t ++ hole_text title byte k) part_is n_is) none
      ∙ append_assoc (old ++ part) (hole_text title byte (first_number (drop used numbers))) rest
      ∙ append_assoc old part (hole_text title byte (first_number (drop used numbers)) ++ rest)
      ∙ ap (λ text. old ++ (part ++ text)) (sym (next_byte at used d true within passes))
      ∙ so_far

  none_left : (used : ℕ) → filled title [] (drop used numbers) ≡ []
  unfolding filled
  none_left used = refl

  -- Use: the part after the last hole.
  pub form_passed : (start at used : ℕ) (old new whole : List ℕ) → length form ≤ at → new ≡ old ++ take (length form - start) (drop start form) →
      old ++ left_at start at used ≡ whole → new ≡ whole
  form_passed start at used old new whole over new_is so_far =
      new_is ∙ ap (λ text. old ++ text) (take_all (length form - start) (drop start form) (omega (arith, length-drop start form)) ∙ sym all_left) ∙ so_far
    where
      all_left : left_at start at used ≡ drop start form
      all_left =
          ap₂ (λ part rest. part ++ rest)
          (take_all (at - start) (drop start form) (omega (arith, over, length-drop start form)))
          (at_drop_all (λ xs. filled title xs (drop used numbers)) form at over ∙ none_left used)
          ∙ append-nil (drop start form)
