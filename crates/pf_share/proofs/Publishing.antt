-- What is shown after several operations.
use Rattle.std.proofs.Common.{◌≡◌, List, [], ◌∷◌, ◌++◌, fold, refl, sym, ap, ◌∙◌, subst}
use Rattle.std.specs.Prelude.{Result, MatchResult, Ok, Err}
use mathlib.Core.List.{IsPrefix}
use Rattle.pf_share.specs.declared.reads.Reads.{Reads}
use Rattle.pf_share.specs.Stories.{Stamped}
use Rattle.pf_share.specs.Reads.{IsAcquainted, Publishes}

pub fold_last : {S O : Type 0} (f : S → O → S) (s : S) (xs : List O) (x : O) → fold f s (xs ++ x ∷ []) ≡ f (fold f s xs) x
fold_last f s [] x = refl
fold_last f s (y ∷ xs) x = fold_last f (f s y) xs x

pub map_result : {A B : Type 0} {P P' : A → Type 0} {Q Q' : B → Type 0} (r : Result A B) → ((a : A) → P a → P' a) → ((b : B) → Q b → Q' b) → MatchResult r P Q → MatchResult r P' Q'
map_result (Ok a) f g h = f a h
map_result (Err b) f g h = g b h

-- the last operation counts alone
pub shown_last : (s : Stamped) (pending before : List Stamped) (op now : Stamped) → pending ≡ before ++ op ∷ [] → now ≡ fold (λ (t : Stamped) (o : Stamped). o) s pending → now ≡ op
shown_last s pending before op now is e = e ∙ (ap (fold (λ (t : Stamped) (o : Stamped). o) s) is ∙ fold_last (λ (t : Stamped) (o : Stamped). o) s before op)

-- where none is pending, what was shown is shown still
pub shown_none : (s : Stamped) (pending : List Stamped) (now : Stamped) → pending ≡ [] → now ≡ fold (λ (t : Stamped) (o : Stamped). o) s pending → now ≡ s
shown_none s pending now none e = e ∙ ap (fold (λ (t : Stamped) (o : Stamped). o) s) none

pub longer : (x op now : Stamped) → IsPrefix x.history op.history → now ≡ op → IsPrefix x.history now.history
longer x op now p e = subst (λ (z : Stamped). IsPrefix x.history z.history) (sym e) p

-- the writer knows where what is shown is from, also where it could not show more
pub acquainted_after : {A B : Type 0} (r : Result A B) (x y : Stamped) (v w : Reads) → IsAcquainted x v
    → MatchResult r (λ _. Unit {0}) (λ _. y ≡ x) → MatchResult r (λ _. Publishes v y w) (λ _. w ≡ v) → IsAcquainted y w
acquainted_after (Ok a) x y v w is same rule = record { shown = y; known = rule; origin = refl }
acquainted_after (Err b) x y v w is same rule = rw (same, rule) is
