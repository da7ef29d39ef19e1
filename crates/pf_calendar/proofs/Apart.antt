-- No task has two keys.
use Rattle.std.proofs.Common.{◌≡◌, ◌≢◌, ℕ, true, ◌⊎◌, List, get_or, sym, ap, ◌∙◌, ⊎_elim}
use Rattle.std.specs.FinSet as fin
use Rattle.pf_order.specs.Priority.{Priority}
use Rattle.pf_heap.specs.Keys.{Keys, EachTaskOnce}

-- list i has the key
abbrev pub Has : List Keys → ℕ → Priority → Type 0
Has lists i p = fin.contains (get_or lists i fin.empty) p ≡ true

-- each key comes from a list that goes to its own
pub apart_by : (old new : List Keys) (goes : ℕ → ℕ) → ((i : ℕ) (p : Priority) → Has new i p → (j : ℕ) × (Has old j p) × (goes j ≡ i)) → EachTaskOnce old → EachTaskOnce new
apart_by old new goes from apart i j p q hp hq same =
    let a = from i p hp in
    let b = from j q hq in
    let m = apart a.0 b.0 p q a.1 b.1 same in
    (sym a.2 ∙ ap goes m.0 ∙ b.2, m.1)

-- each key but one was in its own list
pub apart_but : (old new : List Keys) (at : ℕ) (key : Priority) → ((i : ℕ) (p : Priority) → Has new i p → (Has old i p) ⊎ ((i ≡ at) × (p ≡ key))) →
    ((i : ℕ) (p : Priority) → Has old i p → p.task ≢ key.task) → EachTaskOnce old → EachTaskOnce new
apart_but old new at key from absent apart i j p q hp hq same =
    ⊎_elim
    (λ op. ⊎_elim
    (λ oq. apart i j p q op oq same)
    (λ nq. absurd (absent i p op (same ∙ ap (λ k. k.task) nq.1)))
    (from j q hq))
    (λ np. ⊎_elim
    (λ oq. absurd (absent j q oq (sym same ∙ ap (λ k. k.task) np.1)))
    (λ nq. (np.0 ∙ sym nq.0, np.1 ∙ sym nq.1))
    (from j q hq))
    (from i p hp)
