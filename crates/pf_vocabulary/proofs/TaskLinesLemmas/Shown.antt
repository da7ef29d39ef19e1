-- The lines that are shown, byte by byte.
use Rattle.std.proofs.Common.{◌≡◌, ◌∙◌, ℕ, ◌+◌, ◌<◌, List, [], ◌∷◌, ◌++◌, length, drop, get_or, ap, ap₂, sym, refl, Bool, true, false}
use Rattle.std.specs.Prelude.{if◌then◌else◌}
use Rattle.std.specs.List.{flat_map}
use Rattle.std.proofs.lemmas.Bool.{eq-eqb, ne_eqb}
use Rattle.std.proofs.lemmas.List.{append-nil, append_assoc, at_drop_more}
use Rattle.std.proofs.lemmas.List.Concat.{flat_map-cons}
use Rattle.pf_vocabulary.specs.declared.tasks.task_range.TaskRange.{TaskRange}
use Rattle.pf_vocabulary.specs.TaskLines.Lines.{is_shown, lines_from, shown_from, shown_line}

either_way : (b : Bool) (xs : List ℕ) → (if b then xs else xs) ≡ xs
either_way true xs = refl
either_way false xs = refl

module _ (tasks : List TaskRange) (column : ℕ) where
  pub line_ends : (line rest : List ℕ) (byte : ℕ) → byte ≡ 10
      → shown_from tasks column line (byte ∷ rest) ≡ shown_line tasks column (line ++ byte ∷ []) ++ shown_from tasks column [] rest
  unfolding lines_from
  line_ends line rest byte end =
      ap (λ b. flat_map (shown_line tasks column) (if b then (line ++ byte ∷ []) ∷ lines_from [] rest else lines_from (line ++ byte ∷ []) rest)) (eq-eqb byte 10 end)
      ∙ flat_map-cons (shown_line tasks column) (line ++ byte ∷ []) (lines_from [] rest)

  pub line_goes_on : (line rest : List ℕ) (byte : ℕ) → (byte ≡ 10 → ⊥)
      → shown_from tasks column line (byte ∷ rest) ≡ shown_from tasks column (line ++ byte ∷ []) rest
  unfolding lines_from
  line_goes_on line rest byte other =
      ap (λ b. flat_map (shown_line tasks column) (if b then (line ++ byte ∷ []) ∷ lines_from [] rest else lines_from (line ++ byte ∷ []) rest)) (ne_eqb byte 10 other)

  pub line_last : (line : List ℕ) → shown_from tasks column line [] ≡ shown_line tasks column line
  unfolding lines_from
  line_last line = flat_map-cons (shown_line tasks column) line [] ∙ append-nil (shown_line tasks column line)

  pub nothing_shown : shown_line tasks column [] ≡ []
  nothing_shown = either_way (is_shown tasks column []) []

  -- Use: no piece is left: the line that was begun is the last one.
  module _ (line next shown was left text : List ℕ) (taken : (was ≡ []) × (left ≡ [])) (so_far : shown_from tasks column line was ≡ text)
      (shows : shown ≡ shown_line tasks column line) (none : next ≡ []) where
    pub behind_last : shown_from tasks column next left ≡ []
    behind_last = ap₂ (shown_from tasks column) none taken.1 ∙ line_last [] ∙ nothing_shown

    pub last_is : text ≡ shown
    last_is = sym so_far ∙ ap (shown_from tasks column line) taken.0 ∙ line_last line ∙ sym shows

    pub last_shown : text ≡ shown ++ shown_from tasks column next left
    last_shown = last_is ∙ sym (append-nil shown) ∙ ap (λ t. shown ++ t) (sym behind_last)

  -- Use: a byte of a piece was read, after which comes `rest`.
  module _ (line shown piece rest total : List ℕ) (i : ℕ) (within : i < length piece)
      (so_far : shown ++ shown_from tasks column line (drop i piece ++ rest) ≡ total) where
    first : shown_from tasks column line (drop i piece ++ rest) ≡ shown_from tasks column line (get_or piece i 0 ∷ (drop (i + 1) piece ++ rest))
    first = at_drop_more (λ bytes. shown_from tasks column line (bytes ++ rest)) piece i 0 within

    pub byte_ends : (more next after : List ℕ) → get_or piece i 0 ≡ 10 → more ≡ line ++ get_or piece i 0 ∷ [] → next ≡ []
        → after ≡ shown ++ shown_line tasks column more → after ++ shown_from tasks column next (drop (i + 1) piece ++ rest) ≡ total
    byte_ends more next after end is none shows =
        let left = drop (i + 1) piece ++ rest in
        ap₂ (λ a n. a ++ shown_from tasks column n left) (shows ∙ ap (λ m. shown ++ shown_line tasks column m) is) none
        ∙ append_assoc shown (shown_line tasks column (line ++ get_or piece i 0 ∷ [])) (shown_from tasks column [] left)
        ∙ ap (λ t. shown ++ t) (sym (first ∙ line_ends line left (get_or piece i 0) end)) ∙ so_far

    pub byte_goes_on : (next after : List ℕ) → (get_or piece i 0 ≡ 10 → ⊥) → next ≡ line ++ get_or piece i 0 ∷ [] → after ≡ shown
        → after ++ shown_from tasks column next (drop (i + 1) piece ++ rest) ≡ total
    byte_goes_on next after other is same =
        let left = drop (i + 1) piece ++ rest in
        ap₂ (λ a n. a ++ shown_from tasks column n left) same is
        ∙ ap (λ t. shown ++ t) (sym (first ∙ line_goes_on line left (get_or piece i 0) other)) ∙ so_far
