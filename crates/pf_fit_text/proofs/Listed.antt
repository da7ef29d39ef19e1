-- The tasks of a fit as objects, a task further.
use Rattle.std.proofs.Common.{◌≡◌, ◌∙◌, ℕ, ◌+◌, ◌<◌, ◌≤◌, Option, List, ◌++◌, length, drop, get_or, refl, sym, ap, ap₂, append_assoc}
use Rattle.std.proofs.lemmas.List.{append-nil, at_drop_all, at_drop_more}
use Rattle.pf_vocabulary.specs.declared.names.named.Named.{Named}
use Rattle.pf_tally.specs.declared.figures.Figures.{Figures}
use Rattle.pf_fit_text.specs.Json.{comma_behind, task_json, tasks_from}
use Rattle.pf_fit_text.specs.Rows.{grow_at}

module _ (names : List Named) (grows : List (Option ℕ)) (k : ℕ) (figures : List Figures) (d : Figures) (whole : List ℕ) where
  pub task_next : (old between new object : List ℕ) → k < length figures → between ≡ old ++ comma_behind k → new ≡ between ++ object →
      object ≡ task_json names (get_or figures k d) (grow_at grows k) → old ++ tasks_from names grows k (drop k figures) ≡ whole →
      new ++ tasks_from names grows (k + 1) (drop (k + 1) figures) ≡ whole
  unfolding tasks_from
  task_next old between new object lt comma push is so_far =
      let rest = tasks_from names grows (k + 1) (drop (k + 1) figures) in
      let task = task_json names (get_or figures k d) (grow_at grows k) in
      ap (λ t. t ++ rest) (push ∙ ap₂ (λ a b. a ++ b) comma is)
      ∙ together old (comma_behind k) task rest
      ∙ ap (λ t. old ++ t) (sym (at_drop_more (tasks_from names grows k) figures k d lt))
      ∙ so_far
    where
      together : (a b c e : List ℕ) → ((a ++ b) ++ c) ++ e ≡ a ++ ((b ++ c) ++ e)
      together a b c e = simp append_assoc refl

pub tasks_all : (names : List Named) (grows : List (Option ℕ)) (k : ℕ) (figures : List Figures) (text whole : List ℕ) → length figures ≤ k →
    text ++ tasks_from names grows k (drop k figures) ≡ whole → text ≡ whole
unfolding tasks_from
tasks_all names grows k figures text whole over so_far =
    sym (append-nil text) ∙ ap (λ t. text ++ t) (sym (at_drop_all (tasks_from names grows k) figures k over)) ∙ so_far
