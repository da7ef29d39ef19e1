-- The marks of first picks tell whose task sat on an earlier place.
use Rattle.std.proofs.Common.{◌≡◌, ◌≢◌, ℕ, ◌+◌, ◌<◌, ◌≤◌, Bool, true, false, ◌||◌, inl, inr, Option, Some, None, List, ◌++◌, length, get_or, take, ap, sym, subst, ◌∙◌, refl, eqb, arith}
use Rattle.std.specs.Option.{option_and_then, option_map_or}
use Rattle.std.proofs.Math.ListN.{drop_of_length-le}
use Rattle.std.proofs.lemmas.Bool.{cases_lt, cases_eq, eqb-true, eq-eqb}
use Rattle.std.proofs.lemmas.Bool.Decides.{nat_tests}
use Rattle.std.proofs.lemmas.List.{append-nil, take-append-drop, get_or-set_same, get_or-set_other, get_or_past, length-set}
use Rattle.std.proofs.lemmas.List.Folds.{list_any_more}
use Rattle.std.proofs.lemmas.List.Sums.{passes_at_first}
use Rattle.pf_order.specs.declared.pick.Pick.{Pick}
use Rattle.pf_place.specs.Index.{number_of, with_mark, AreMarked}
use Rattle.pf_place.specs.Occupancy.{sitter, is_seated}
use Rattle.pf_place.proofs.Positions.{is_position}

take_all : {X : Type 0} (xs : List X) (n : ℕ) → length xs ≤ n → take n xs ≡ xs
take_all xs n l =
    sym (append-nil (take n xs)) ∙ ap (λ ys. take n xs ++ ys) (sym (drop_of_length-le xs l)) ∙ take-append-drop n xs

-- the pick of a task's number is of that task
task_of_number : (picks : List Pick) (task k : ℕ) → Some k ≡ number_of picks task → (d : Pick) → (get_or picks k d).task ≡ task
task_of_number picks task k at d =
    let test = λ (p : Pick). eqb p.task task in
    let there = is_position test picks k at in
    let first = passes_at_first test picks d (omega (arith, there.0, there.1)) in
    eqb-true (get_or picks k d).task task (rw (there.0) first)

-- two tasks have no number in common
number_apart : (picks : List Pick) (task other j k : ℕ) → other ≢ task → Some j ≡ number_of picks other → Some k ≡ number_of picks task → k ≢ j
number_apart picks task other j k differ there here same =
    let none : Pick = record { task = 0; sub = 0 } in
    differ (sym (task_of_number picks other j there none) ∙ ap (λ n. (get_or picks n none).task) (sym same) ∙ task_of_number picks task k here none)

or_false : (b : Bool) → b ≡ (b || false)
or_false true = refl
or_false false = refl

or_true : (b : Bool) → true ≡ (b || true)
or_true true = refl
or_true false = refl

abbrev is_of : ℕ → Pick → Bool
is_of task p = eqb p.task task

-- one place more tells of whoever sat there
seated_with : (places : List (Option Pick)) (q task : ℕ)
    → is_seated (take (q + 1) places) task ≡ (is_seated (take q places) task || option_map_or (is_of task) (sitter places q) false)
seated_with places q task =
    elim (cases_lt q (length places)) [
      | inl below ↦ list_any_more (λ place. option_map_or (is_of task) place false) places q None below
      | inr past ↦
          rw (get_or_past places q None past, take_all places q past, take_all places (q + 1) (omega arith)) (or_false (is_seated places task))
    ]

-- a mark at another pick changes nothing
other_mark : (marks : List Bool) (j : Option ℕ) (k : ℕ) (d : Bool) → ((i : ℕ) → j ≡ Some i → k ≢ i) → get_or (with_mark marks j) k d ≡ get_or marks k d
other_mark marks None k d apart = refl
other_mark marks (Some j) k d apart = get_or-set_other marks j k true d (apart j refl)

length-with_mark : (marks : List Bool) (j : Option ℕ) → length (with_mark marks j) ≡ length marks
length-with_mark marks None = refl
length-with_mark marks (Some j) = length-set marks j true

marked_with : (marks : List Bool) (places : List (Option Pick)) (picks : List Pick) (q : ℕ) → AreMarked marks (take q places) picks
    → (task k : ℕ) (d : Bool) → number_of picks task ≡ Some k → (sat : Option Pick)
    → k < length (with_mark marks (option_and_then (λ p. number_of picks p.task) sat))
    → get_or (with_mark marks (option_and_then (λ p. number_of picks p.task) sat)) k d
    ≡ (is_seated (take q places) task || option_map_or (is_of task) sat false)
marked_with marks places picks q so_far task k d at None within =
    so_far task k d at within ∙ or_false (is_seated (take q places) task)
marked_with marks places picks q so_far task k d at (Some p) within =
    let long : k < length marks = omega (arith, within, length-with_mark marks (number_of picks p.task)) in
    elim (cases_eq p.task task) [
      | inl same ↦
          let here : number_of picks p.task ≡ Some k = ap (number_of picks) same ∙ at in
          let is : eqb p.task task ≡ true = eq-eqb p.task task same in
          rw (here, is) (get_or-set_same marks k true d long ∙ or_true (is_seated (take q places) task))
      | inr differ ↦
          let is_not : eqb p.task task ≡ false = grind (arith, nat_tests) in
          rw is_not
          (other_mark marks (number_of picks p.task) k d (λ i there. number_apart picks task p.task i k differ (sym there) (sym at))
          ∙ so_far task k d at long
          ∙ or_false (is_seated (take q places) task))
    ]

-- so the marks tell of one place more, once its sitter's pick is marked
pub marked_more : (marks : List Bool) (places : List (Option Pick)) (picks : List Pick) (q : ℕ) → AreMarked marks (take q places) picks
    → AreMarked (with_mark marks (option_and_then (λ p. number_of picks p.task) (sitter places q))) (take (q + 1) places) picks
marked_more marks places picks q so_far =
    λ task k d at within.
    rw (seated_with places q task) (marked_with marks places picks q so_far task k d at (sitter places q) within)

-- all places were asked
pub marked_all : (marks : List Bool) (places : List (Option Pick)) (picks : List Pick) (q : ℕ) → length places ≤ q → AreMarked marks (take q places) picks
    → AreMarked marks places picks
marked_all marks places picks q l = subst (λ row. AreMarked marks row picks) (take_all places q l)
