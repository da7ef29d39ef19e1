-- What a step's look at the words leaves of its pass.
use Rattle.std.proofs.Common.{◌≡◌, ℕ, ◌+◌, ◌<◌, Option, None, Some, List, [], ◌∷◌, ◌++◌, sym, ap, subst, ◌∙◌}
use Rattle.std.specs.Prelude.{IfSome, IfNone}
use Rattle.pf_scenario.specs.System.{System}
use Rattle.pf_desk.specs.declared.entry.Entry.{Entry}
use Rattle.pf_board.specs.Passes.{Keeping, Passing, Finds, IsIn, checked, empty_loads}
use Rattle.pf_board.proofs.Known.{checked_all}
use Rattle.pf_desk_board.specs.Entered.{FindsQuantum, found_empty}

-- a quantum was found, and the keeper k had no load to report before
one_found : (p : ℕ) (v w : Passing Entry System) (k k' : Keeping Entry System) → Finds p k k' → k.loads ≡ [] → w ≡ record v { loads = v.loads ++ k'.loads } →
    FindsQuantum p v w
one_found p v w k k' check none reported = record {
  word = check.word;
  some_word = check.some_word;
  pass = reported ∙ ap (λ (ls : List (ℕ × ℕ)). record v { loads = v.loads ++ ls }) (ap (λ x. x.loads) check.keeper ∙ ap (λ (ls : List (ℕ × ℕ)). (ls ++ empty_loads p) ++ (1 + p, check.word) ∷ []) none);
}

pub some_found : (m n : ℕ) (v w : Passing Entry System) (k k' : Keeping Entry System) (r : Option ℕ) → m ≡ n → IfSome r (λ p. (p < m) × Finds p k k') → k.loads ≡ [] →
    w ≡ record v { loads = v.loads ++ k'.loads } → IfSome r (λ p. (p < n) × FindsQuantum p v w)
some_found m n v w k k' None same check none reported = tt
some_found m n v w k k' (Some p) same check none reported = (subst (λ x. p < x) same check.0, one_found p v w k k' check.1 none reported)

-- or every word was found empty
pub none_found : (m n : ℕ) (v w : Passing Entry System) (k k' : Keeping Entry System) (r : Option ℕ) → m ≡ n → IfNone r (k' ≡ checked m k) → k.loads ≡ [] →
    w ≡ record v { loads = v.loads ++ k'.loads } → IfNone r (w ≡ found_empty n v)
none_found m n v w k k' None same check none reported =
    reported ∙ ap (λ (ls : List (ℕ × ℕ)). record v { loads = v.loads ++ ls }) (ap (λ x. x.loads) check ∙ (ap (λ (ls : List (ℕ × ℕ)). ls ++ empty_loads m) none ∙ ap empty_loads same))
none_found m n v w k k' (Some p) same check none reported = tt

pub all_empty : (m n : ℕ) (k k' k'' : Keeping Entry System) (r : Option ℕ) → m ≡ n → IfNone r (k' ≡ checked m k) → k''.empty ≡ k'.empty →
    IfNone r ((p : ℕ) → p < n → IsIn k''.empty p)
all_empty m n k k' k'' None same check kept = λ p lt.
    subst (λ (xs : List ℕ). IsIn xs p) (sym (kept ∙ ap (λ x. x.empty) check)) (checked_all k.empty m p (subst (λ x. p < x) (sym same) lt))
all_empty m n k k' k'' (Some p) same check kept = tt
