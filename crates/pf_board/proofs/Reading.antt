-- Quanta are read off the words one after another.
use Rattle.std.proofs.Common.{◌≡◌, ◌≢◌, ℕ, suc, ◌+◌, List, [], ◌∷◌, ◌++◌, drop, sym, ap, ◌∙◌, arith, append_assoc}
use Rattle.std.proofs.lemmas.Grind.{common_steps}
use Rattle.std.proofs.lemmas.List.{append-nil}
use mathlib.Core.Option.{some}
use lib.ListN.{get_elem?}
use Rattle.atomic_table.proofs.Lists.{drop_at}
use Rattle.pf_board.specs.declared.quantum.Quantum.{Quantum}
use Rattle.pf_board.specs.Words.{on_word, on_words, quantum_at}

-- the quanta from word p + 1 on are that word's and those of the words after it
words_from : (words : List ℕ) (p n : ℕ) → get_elem? words (p + 1) ≡ some n → on_words p (drop (p + 1) words) ≡ on_word p n ++ on_words (p + 1) (drop (p + 1 + 1) words)
words_from words p n at =
    let next : suc p ≡ p + 1 = omega arith in
    let after : suc (p + 1) ≡ p + 1 + 1 = omega arith in
    ap (on_words p) (drop_at words (p + 1) n at) ∙ (λ i. on_word p n ++ on_words (next i) (drop (after i) words))

read_one : (words : List ℕ) (p n : ℕ) (qs qs' sum : List Quantum) → get_elem? words (p + 1) ≡ some n → qs' ≡ qs ++ on_word p n → qs ++ on_words p (drop (p + 1) words) ≡ sum → qs' ++ on_words (p + 1) (drop (p + 1 + 1) words) ≡ sum
read_one words p n qs qs' sum at e before =
    let rest = on_words (p + 1) (drop (p + 1 + 1) words) in
    ap (λ l. l ++ rest) e ∙ (append_assoc qs (on_word p n) rest ∙ (ap (λ l. qs ++ l) (sym (words_from words p n at)) ∙ before))

full : (p n : ℕ) → n ≢ 0 → on_word p n ≡ quantum_at p n ∷ []
full p n some_word = grind (arith, common_steps)

none : (p n : ℕ) → n ≡ 0 → on_word p n ≡ []
none p n e = grind (arith, common_steps)

-- a word with a quantum, and one without
pub read_some : (words : List ℕ) (p n : ℕ) (q : Quantum) (qs qs' sum : List Quantum) → get_elem? words (p + 1) ≡ some n → n ≢ 0 → q ≡ quantum_at p n → qs' ≡ qs ++ q ∷ [] → qs ++ on_words p (drop (p + 1) words) ≡ sum → qs' ++ on_words (p + 1) (drop (p + 1 + 1) words) ≡ sum
read_some words p n q qs qs' sum at some_word is e before = read_one words p n qs qs' sum at (e ∙ (ap (λ r. qs ++ r ∷ []) is ∙ ap (λ l. qs ++ l) (sym (full p n some_word)))) before

pub read_none : (words : List ℕ) (p n : ℕ) (qs sum : List Quantum) → get_elem? words (p + 1) ≡ some n → n ≡ 0 → qs ++ on_words p (drop (p + 1) words) ≡ sum → qs ++ on_words (p + 1) (drop (p + 1 + 1) words) ≡ sum
read_none words p n qs sum at e before = read_one words p n qs qs sum at (sym (append-nil qs) ∙ ap (λ l. qs ++ l) (sym (none p n e))) before
