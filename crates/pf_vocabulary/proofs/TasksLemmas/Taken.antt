-- A walk over tasks, of which those of a list are taken: what it keeps of each is all that there is of those so far.
use Rattle.std.proofs.Common.{◌≡◌, ◌∙◌, ℕ, ◌+◌, ◌<◌, Bool, true, false, cond, take, filter, get_or, List, [], ◌∷◌, ◌++◌, length, refl, sym, ap, ap₂}
use Rattle.std.specs.List.{flat_map}
use Rattle.std.proofs.lemmas.Grind.{flat_map-append}
use Rattle.std.proofs.lemmas.List.{append-nil}
use Rattle.std.proofs.lemmas.List.Concat.{flat_map-cons}
use Rattle.std.proofs.lemmas.List.Elements.{filter_more}
use Rattle.pf_vocabulary.specs.Tasks.Listed.{is_listed}
use Rattle.pf_vocabulary.specs.declared.tasks.task_range.TaskRange.{TaskRange}

-- J is what is known of a task, S what is kept of it, R what both tell
module _ {J S R : Type 0} (number : J → ℕ) (told : J → List R) (kept : S → List R) (ranges : List TaskRange) (tasks : List J) where
  abbrev is_taken : J → Bool
  is_taken j = is_listed ranges (number j)

  taken_more : (k : ℕ) (j : J) → k < length tasks → j ≡ get_or tasks k j → (b : Bool) → is_taken j ≡ b →
      flat_map told (filter is_taken (take (k + 1) tasks)) ≡ flat_map told (filter is_taken (take k tasks)) ++ cond b (told j) []
  taken_more k j within is b has =
      let before = filter is_taken (take k tasks) in
      ap (flat_map told)
      (filter_more is_taken tasks k j within ∙ ap (λ x. before ++ cond (is_taken x) (x ∷ []) []) (sym is) ∙ ap (λ c. before ++ cond c (j ∷ []) []) has)
      ∙ flat_map-append told before (cond b (j ∷ []) [])
      ∙ ap (λ t. flat_map told before ++ t) (single b)
    where
      single : (c : Bool) → flat_map told (cond c (j ∷ []) []) ≡ cond c (told j) []
      single true = flat_map-cons told j [] ∙ append-nil (told j)
      single false = refl

  pub one_taken : (k : ℕ) (j : J) → k < length tasks → j ≡ get_or tasks k j → is_listed ranges (number j) ≡ true →
      (one : S) (before after : List S) → kept one ≡ told j → after ≡ before ++ one ∷ [] →
      flat_map kept before ≡ flat_map told (filter is_taken (take k tasks)) →
      flat_map kept after ≡ flat_map told (filter is_taken (take (k + 1) tasks))
  one_taken k j within is has one before after same push so_far =
      ap (flat_map kept) push ∙ flat_map-append kept before (one ∷ [])
      ∙ ap₂ (λ xs ys. xs ++ ys) so_far (flat_map-cons kept one [] ∙ append-nil (kept one) ∙ same)
      ∙ sym (taken_more k j within is true has)

  pub one_left : (k : ℕ) (j : J) → k < length tasks → j ≡ get_or tasks k j → is_listed ranges (number j) ≡ false →
      (before after : List S) → after ≡ before →
      flat_map kept before ≡ flat_map told (filter is_taken (take k tasks)) →
      flat_map kept after ≡ flat_map told (filter is_taken (take (k + 1) tasks))
  one_left k j within is has before after same so_far =
      ap (flat_map kept) same ∙ so_far
      ∙ sym (taken_more k j within is false has ∙ append-nil (flat_map told (filter is_taken (take k tasks))))
