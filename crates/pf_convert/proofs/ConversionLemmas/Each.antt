-- What holds of each element with its place, one element more.
use Rattle.std.proofs.Common.{◌≡◌, ℕ, ◌+◌, ◌<◌, ◌∙◌, inl, inr, List, [], ◌∷◌, ◌++◌, length, get_or, sym, ap, subst, arith, length-append}
use Rattle.std.proofs.lemmas.Bool.{cases_lt}
use Rattle.std.proofs.lemmas.List.{get_or_append_left, get_or_push}

pub each_more : {X : Type 0} (Q : ℕ → X → Type 0) (all : List X) (x : X) → ((k : ℕ) (d : X) → k < length all → Q k (get_or all k d)) → Q (length all) x
    → (longer : List X) → longer ≡ all ++ x ∷ [] → (k : ℕ) (d : X) → k < length longer → Q k (get_or longer k d)
each_more Q all x each here longer e k d lt =
    let grown : length longer ≡ length all + 1 = omega (arith, ap length e, length-append all (x ∷ [])) in
    elim (cases_lt k (length all)) [
      | inl before ↦
          subst (Q k) (sym (ap (λ xs. get_or xs k d) e ∙ get_or_append_left all (x ∷ []) d k before)) (each k d before)
      | inr last ↦
          let at : k ≡ length all = omega (arith, lt, last, grown) in
          let read : get_or longer k d ≡ x = ap (λ xs. get_or xs k d) e ∙ get_or_push all x d k (sym at) in
          subst (Q k) (sym read) (subst (λ n. Q n x) (sym at) here)
    ]
