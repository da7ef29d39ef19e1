-- Texts of numbers and of events, one after another.
use Rattle.std.proofs.Common.{◌≡◌, ◌∙◌, ℕ, ◌+◌, ◌<◌, Bool, true, false, cond, take, filter, get_or, List, [], ◌∷◌, ◌++◌, length, sym, ap}
use Rattle.std.specs.List.{flat_map}
use Rattle.std.proofs.lemmas.List.{append-nil, flat_map_more}
use Rattle.std.proofs.lemmas.List.Elements.{filter_more}

module _ {X : Type 0} (f : X → List ℕ) (test : X → Bool) (xs : List X) (k : ℕ) (d : X) (within : k < length xs) (old before after : List ℕ)
    (so_far : before ≡ old ++ flat_map f (filter test (take k xs))) where
  -- Use: one that passes.
  pub shown_next : test (get_or xs k d) ≡ true → after ≡ before ++ f (get_or xs k d) → after ≡ old ++ flat_map f (filter test (take (k + 1) xs))
  shown_next passes push =
      let x = get_or xs k d in
      push ∙ ap (λ t. t ++ f x) so_far ∙ flat_map_more f old (filter test (take k xs)) x
      ∙ ap (λ ys. old ++ flat_map f ys)
      (sym (filter_more test xs k d within ∙ ap (λ b. filter test (take k xs) ++ cond b (x ∷ []) []) passes))

  -- Use: one that does not.
  pub passed_next : test (get_or xs k d) ≡ false → after ≡ before → after ≡ old ++ flat_map f (filter test (take (k + 1) xs))
  passed_next fails same =
      let x = get_or xs k d in
      same ∙ so_far
      ∙ ap (λ ys. old ++ flat_map f ys)
      (sym (filter_more test xs k d within ∙ ap (λ b. filter test (take k xs) ++ cond b (x ∷ []) []) fails ∙ append-nil (filter test (take k xs))))
