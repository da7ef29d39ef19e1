-- Texts, one after another.
use Rattle.std.proofs.Common.{◌≡◌, ◌∙◌, ℕ, List, [], ◌++◌, ap, append_assoc}

-- a text that another follows
follows : (t u x y : List ℕ) → u ≡ t ++ x → u ++ y ≡ t ++ (x ++ y)
follows t u x y is = ap (λ z. z ++ y) is ∙ append_assoc t x y

-- Use: six of them.
pub six_parts : (t0 t1 t2 t3 t4 t5 t6 a b c d e f : List ℕ) → t0 ≡ [] → t1 ≡ t0 ++ a → t2 ≡ t1 ++ b → t3 ≡ t2 ++ c → t4 ≡ t3 ++ d → t5 ≡ t4 ++ e
    → t6 ≡ t5 ++ f → t6 ≡ a ++ (b ++ (c ++ (d ++ (e ++ f))))
six_parts t0 t1 t2 t3 t4 t5 t6 a b c d e f h0 h1 h2 h3 h4 h5 h6 =
    h6 ∙ follows t4 t5 e f h5 ∙ follows t3 t4 d (e ++ f) h4 ∙ follows t2 t3 c (d ++ (e ++ f)) h3 ∙ follows t1 t2 b (c ++ (d ++ (e ++ f))) h2
    ∙ follows t0 t1 a (b ++ (c ++ (d ++ (e ++ f)))) h1 ∙ ap (λ z. z ++ (a ++ (b ++ (c ++ (d ++ (e ++ f)))))) h0
