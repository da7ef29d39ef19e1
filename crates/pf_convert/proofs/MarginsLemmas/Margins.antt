-- The margins of the tasks, one after another.
use Rattle.std.proofs.Common.{◌≡◌, ℕ, ◌+◌, ◌<◌, inl, inr, List, [], ◌∷◌, ◌++◌, length, get_or, sym, subst, arith, length-append}
use Rattle.std.proofs.Math.Seq.{get_or-append_seam}
use Rattle.std.proofs.lemmas.Bool.{cases_lt}
use Rattle.std.proofs.lemmas.List.{get_or_append_left}
use Rattle.pf_convert.specs.declared.margins.margin.Margin.{Margin}
use Rattle.pf_convert.specs.declared.plan.Plan.{Plan}
use Rattle.pf_convert.specs.declared.quantum.Quantum.{Quantum}
use Rattle.pf_convert.specs.Margins.Margins.{AreMarginsOf, IsMarginOf}

last_is : (processors : ℕ) (q : Quantum) (plan : Plan) (ms : List Margin) (m d : Margin) (place : ℕ) → place ≡ length ms → IsMarginOf processors q plan place m
    → IsMarginOf processors q plan place (get_or (ms ++ m ∷ []) place d)
last_is processors q plan ms m d place same is =
    subst (IsMarginOf processors q plan place) (sym (subst (λ n. get_or (ms ++ m ∷ []) n d ≡ m) (sym same) (get_or-append_seam ms m [] d))) is

pub one_more : (processors : ℕ) (q : Quantum) (plan : Plan) (count : ℕ) (ms : List Margin) (m : Margin) → AreMarginsOf processors q plan count ms
    → IsMarginOf processors q plan count m → AreMarginsOf processors q plan (count + 1) (ms ++ m ∷ [])
one_more processors q plan count ms m h is = record {
  as_many = omega (arith, length-append ms (m ∷ []), h.as_many);
  each = λ place d lt.
      elim (cases_lt place count) [
        | inl below ↦
            subst (IsMarginOf processors q plan place) (sym (get_or_append_left ms (m ∷ []) d place (omega (arith, below, h.as_many)))) (h.each place d below)
        | inr here ↦
            (let same : count ≡ place = omega (arith, here, lt) in
            last_is processors q plan ms m d place (omega (arith, h.as_many, same)) (subst (λ n. IsMarginOf processors q plan n m) same is))
      ];
}
