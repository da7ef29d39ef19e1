-- Texts of numbers, one after another.
use Rattle.std.proofs.Common.{◌≡◌, ◌∙◌, ℕ, ◌+◌, List, ◌++◌, ap, append_assoc}

-- texts, one after another
four_parts : (t1 t2 t3 t4 a b c d : List ℕ) → t1 ≡ a → t2 ≡ t1 ++ b → t3 ≡ t2 ++ c → t4 ≡ t3 ++ d → t4 ≡ a ++ (b ++ (c ++ d))
four_parts t1 t2 t3 t4 a b c d h1 h2 h3 h4 =
    h4 ∙ ap (λ t. t ++ d) (h3 ∙ ap (λ t. t ++ c) (h2 ∙ ap (λ t. t ++ b) h1))
    ∙ ap (λ t. t ++ d) (append_assoc a b c) ∙ append_assoc a (b ++ c) d ∙ ap (λ t. a ++ t) (append_assoc b c d)

pub five_parts : (t1 t2 t3 t4 t5 a b c d e : List ℕ) → t1 ≡ a → t2 ≡ t1 ++ b → t3 ≡ t2 ++ c → t4 ≡ t3 ++ d → t5 ≡ t4 ++ e
    → t5 ≡ a ++ (b ++ (c ++ (d ++ e)))
five_parts t1 t2 t3 t4 t5 a b c d e h1 h2 h3 h4 h5 =
    h5 ∙ ap (λ t. t ++ e) (four_parts t1 t2 t3 t4 a b c d h1 h2 h3 h4)
    ∙ append_assoc a (b ++ (c ++ d)) e
    ∙ ap (λ t. a ++ t) (append_assoc b (c ++ d) e ∙ ap (λ t. b ++ t) (append_assoc c d e))
