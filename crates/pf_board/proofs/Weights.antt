-- Weights of lists of quanta.
use Rattle.std.proofs.Common.{◌≡◌, ℕ, zero, suc, ◌+◌, ◌<◌, Bool, true, false, true≢false, List, [], ◌∷◌, ◌++◌, length, refl, ap, arith}
use Rattle.std.specs.Prelude.{slice_index, slice_set, if◌then◌else◌, ◌||◌}
use Rattle.std.proofs.lemmas.Grind.{common_steps}
use Rattle.std.proofs.lemmas.Bool.Decides.{nat_tests}
use lib.ListN.{replicate}
use Rattle.pf_board.specs.declared.quantum.Quantum.{Quantum}
use Rattle.pf_board.specs.Quanta.{one_if, is_same, is_some_list, weigh, times, quanta_without, issues, is_step, issues_after, last_issues, IsOnceEach}
use Rattle.pf_board.specs.Words.{on_word, on_words, quantum_at}

-- the test for equal quanta is one
pub same_quantum : (q r : Quantum) → is_same q r ≡ true → q ≡ r
same_quantum q r e = grind (arith, common_steps, nat_tests)

pub same_self : (q : Quantum) → is_same q q ≡ true
same_self q = grind (arith, common_steps, nat_tests)

pub weigh-append : (h : Quantum → ℕ) (xs ys : List Quantum) → weigh h (xs ++ ys) ≡ weigh h xs + weigh h ys
weigh-append h [] ys = omega arith
weigh-append h (x ∷ xs) ys = let t = weigh-append h xs ys in omega arith

pub weigh_snoc : (h : Quantum → ℕ) (xs : List Quantum) (q : Quantum) → weigh h (xs ++ q ∷ []) ≡ weigh h xs + h q
weigh_snoc h xs q = let t = weigh-append h xs (q ∷ []) in omega arith

pub times_own : (q : Quantum) (xs : List Quantum) → times q (xs ++ q ∷ []) ≡ times q xs + 1
times_own q xs = let t = weigh_snoc (λ r. one_if (is_same q r)) xs q in let s = ap one_if (same_self q) in omega arith

without_step : (h : Quantum → ℕ) (q x : Quantum) (xs : List Quantum) (b : Bool) → is_same q x ≡ b → (0 < times q xs → weigh h (quanta_without q xs) + h q ≡ weigh h xs) → 0 < one_if b + times q xs
    → weigh h (if b then xs else x ∷ quanta_without q xs) + h q ≡ weigh h (x ∷ xs)
without_step h q x xs true e rec some = let s = ap h (same_quantum q x e) in omega arith
without_step h q x xs false e rec some = let t = rec (omega arith) in omega arith

-- what is left out is gone once
pub weigh_without : (h : Quantum → ℕ) (q : Quantum) (xs : List Quantum) → 0 < times q xs → weigh h (quanta_without q xs) + h q ≡ weigh h xs
weigh_without h q [] some = absurd (omega arith)
weigh_without h q (x ∷ xs) some = without_step h q x xs (is_same q x) refl (weigh_without h q xs) some

once_step : (q r : Quantum) (xs : List Quantum) (b : Bool) → is_same r q ≡ b → times q xs ≡ 0 → times r xs < 2 → times r xs + one_if b < 2
once_step q r xs true e none once = let s = ap (λ x. times x xs) (same_quantum r q e) in omega arith
once_step q r xs false e none once = omega arith

-- one more, which was not there
pub once_snoc : (q : Quantum) (xs : List Quantum) → times q xs ≡ 0 → IsOnceEach xs → IsOnceEach (xs ++ q ∷ [])
once_snoc q xs none once r = let t = weigh_snoc (λ x. one_if (is_same r x)) xs q in let s = once_step q r xs (is_same r q) refl none (once r) in omega arith

no_list : (b : Bool) (qs : List Quantum) → (b || is_some_list qs) ≡ false → qs ≡ []
no_list b [] e = refl
no_list true (q ∷ qs) e = absurd (true≢false e)
no_list false (q ∷ qs) e = absurd (true≢false e)

module _ {E : Type 0} (quanta : E → List Quantum) (steps : E → Bool) where
  pub weigh_push : (h : Quantum → ℕ) (xs : List (ℕ × E)) (x : ℕ × E) → weigh h (issues quanta (xs ++ x ∷ [])) ≡ weigh h (issues quanta xs) + weigh h (quanta x.1)
  weigh_push h [] x = let t = weigh-append h (quanta x.1) [] in omega arith
  weigh_push h (y ∷ xs) x = let t = weigh_push h xs x in let a = weigh-append h (quanta y.1) (issues quanta (xs ++ x ∷ [])) in let b = weigh-append h (quanta y.1) (issues quanta xs) in omega arith

  after_push : (sofar : List Quantum) (xs : List (ℕ × E)) (x : ℕ × E) → issues_after quanta steps sofar (xs ++ x ∷ []) ≡ (if is_step quanta steps x.1 then quanta x.1 else issues_after quanta steps sofar xs)
  after_push sofar [] x = refl
  after_push sofar (y ∷ xs) x = after_push (if is_step quanta steps y.1 then quanta y.1 else sofar) xs x

  -- the last step of a history with one entry more
  pub last_push : (xs : List (ℕ × E)) (x : ℕ × E) → last_issues quanta steps (xs ++ x ∷ []) ≡ (if is_step quanta steps x.1 then quanta x.1 else last_issues quanta steps xs)
  last_push xs x = after_push [] xs x

  -- an entry that is no step has no quanta
  pub no_quanta : (e : E) → is_step quanta steps e ≡ false → quanta e ≡ []
  no_quanta e off = no_list (steps e) (quanta e) off

pub none_on_words : (h : Quantum → ℕ) (p n : ℕ) → weigh h (on_words p (replicate n 0)) ≡ 0
none_on_words h p zero = refl
none_on_words h p (suc n) = none_on_words h (suc p) n

-- where each word is 0, no quantum lies there
pub clear_words : (h : Quantum → ℕ) (b : ℕ) (cells : List ℕ) → ((p : ℕ) → p < length cells → slice_index cells p ≡ 0) → weigh h (on_words b cells) ≡ 0
clear_words h b [] clear = refl
clear_words h b (c ∷ cells) clear =
    let t = clear_words h (suc b) cells (λ p lt. clear (suc p) (omega arith)) in
    let z : c ≡ 0 = clear zero (omega arith) in
    let s = ap (λ (m : ℕ). weigh h (on_word b m)) z in
    let a = weigh-append h (on_word b c) (on_words (suc b) cells) in
    omega arith

pub on_words_set : (h : Quantum → ℕ) (b : ℕ) (cells : List ℕ) (p i n : ℕ) → i ≡ b + p → p < length cells
    → weigh h (on_words b (slice_set cells p n)) + weigh h (on_word i (slice_index cells p)) ≡ weigh h (on_words b cells) + weigh h (on_word i n)
on_words_set h b [] p i n e lt = absurd (omega (arith, lt))
on_words_set h b (c ∷ cells) zero i n e lt =
    let same : i ≡ b = omega arith in
    let x = weigh-append h (on_word b n) (on_words (suc b) cells) in
    let y = weigh-append h (on_word b c) (on_words (suc b) cells) in
    rw same (omega arith)
on_words_set h b (c ∷ cells) (suc p) i n e lt =
    let r = on_words_set h (suc b) cells p i n (omega arith) (omega arith) in
    let x = weigh-append h (on_word b c) (on_words (suc b) (slice_set cells p n)) in
    let y = weigh-append h (on_word b c) (on_words (suc b) cells) in
    omega arith

pub full_word : (p n : ℕ) → 0 < n → on_word p n ≡ quantum_at p n ∷ []
full_word p n lt = grind (arith, common_steps)
