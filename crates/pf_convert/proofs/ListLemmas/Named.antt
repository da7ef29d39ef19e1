-- The line of a name, with one task more.
use Rattle.std.proofs.Common.{◌≡◌, ℕ, ◌∙◌, true, false, true≢false, cond, List, [], ◌∷◌, ◌++◌, Option, None, Some, refl, sym, ap, subst, inl, inr}
use Rattle.std.specs.Prelude.{if◌then◌else◌, is_some}
use Rattle.std.specs.Map.{update}
use Rattle.std.specs.Str.{bytes_eq}
use Rattle.std.proofs.lemmas.Bool.{cases_Bool}
use Rattle.std.proofs.lemmas.Slice.Eq.{bytes_eq-Decides}
use Rattle.pf_convert.specs.declared.list.listed.Listed.{Listed}
use Rattle.pf_convert.specs.List.Reading.{line_of, line_with}

pub task_pushed : (tasks : List Listed) (task : Listed) (name : List ℕ)
    → line_of (tasks ++ task ∷ []) name ≡ line_with (line_of tasks name) task.name task.line name
unfolding line_of
task_pushed [] task name = refl
task_pushed (first ∷ tasks) task name =
    elim (cases_Bool (bytes_eq first.name name)) [
      | inl same ↦
          ap (λ b. if b then Some first.line else line_of (tasks ++ task ∷ []) name) same
          ∙ sym (ap (λ b. line_with (if b then Some first.line else line_of tasks name) task.name task.line name) same)
      | inr other ↦
          ap (λ b. if b then Some first.line else line_of (tasks ++ task ∷ []) name) other
          ∙ task_pushed tasks task name
          ∙ sym (ap (λ b. line_with (if b then Some first.line else line_of tasks name) task.name task.line name) other)
    ]

other_stays : (was : Option ℕ) (name : List ℕ) (line : ℕ) (other : List ℕ) → bytes_eq name other ≡ false → was ≡ line_with was name line other
other_stays None name line other differs = sym (ap (λ b. if b then Some line else None) differs)
other_stays (Some first) name line other differs = refl

none_gives_way : (was : Option ℕ) (name : List ℕ) (line : ℕ) (other : List ℕ) → bytes_eq name other ≡ true → is_some was ≡ false
    → Some line ≡ line_with was name line other
none_gives_way None name line other same is = sym (ap (λ b. if b then Some line else None) same)
none_gives_way (Some first) name line other same is = absurd (true≢false is)

-- a name that has none gets it
pub name_noted : (lines : List ℕ → Option ℕ) (name : List ℕ) (line : ℕ) → is_some (lines name) ≡ false
    → (other : List ℕ) → update bytes_eq lines name (Some line) other ≡ line_with (lines other) name line other
name_noted lines name line none other =
    elim (cases_Bool (bytes_eq name other)) [
      | inl same ↦
          ap (λ b. cond b (Some line) (lines other)) same
          ∙ none_gives_way (lines other) name line other same (subst (λ n. is_some (lines n) ≡ false) ((bytes_eq-Decides name other).0 same) none)
      | inr differs ↦ ap (λ b. cond b (Some line) (lines other)) differs ∙ other_stays (lines other) name line other differs
    ]
