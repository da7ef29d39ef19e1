-- The first of some keys a span later are the first of them, a span later: the order looks at what moves alike.
use Rattle.std.proofs.Common.{◌≡◌, ℕ, zero, suc, ◌+◌, ◌<◌, ◌≤◌, ◌==◌, cond, List, ◌++◌, map, filter, arith, refl, ap, ap₂, sym, ◌∙◌, ⊎_elim}
use Rattle.std.specs.declared.cmp.Ordering.TheVariants.{Less, Equal, Greater}
use Rattle.std.specs.Ordering.{nat_cmp, ordering_then, is_lt}
use Rattle.std.proofs.lemmas.Bool.{cases_order, lt-ltb, ne_eqb, cond-false}
use Rattle.std.proofs.lemmas.List.{map-append}
use Rattle.std.proofs.lemmas.List.Elements.{filter_agree}
use Rattle.pf_lemmas.proofs.Orders.{cmp_equal, cmp_greater}
use Rattle.pf_lemmas.proofs.Sums.{sum_by-agree}
use Rattle.pf_order.specs.Priority.{Priority, precedes, priority_cmp}
use Rattle.pf_order.specs.First.{rank, first_keys}
use Rattle.pf_run.proofs.Counting.{filter-map, sum_by-map}
use Rattle.pf_laws.proofs.RepetitionLemmas.Shifted.{later_group, later_key}

-- what rises keeps the order of numbers
nat_cmp-rises : (f : ℕ → ℕ) → ((a b : ℕ) → a < b → f a < f b) → (a b : ℕ) → nat_cmp (f a) (f b) ≡ nat_cmp a b
nat_cmp-rises f rises a b = ⊎_elim same (⊎_elim below above) (cases_order a b) where
  less : (a b : ℕ) → a < b → nat_cmp a b ≡ Less
  less a b lt = ap (λ c. cond c Less (cond (a == b) Equal Greater)) (lt-ltb a b lt)

  same : a ≡ b → nat_cmp (f a) (f b) ≡ nat_cmp a b
  same e = cmp_equal (f a) (f b) (ap f e) ∙ sym (cmp_equal a b e)

  below : a < b → nat_cmp (f a) (f b) ≡ nat_cmp a b
  below lt = less (f a) (f b) (rises a b lt) ∙ sym (less a b lt)

  above : b < a → nat_cmp (f a) (f b) ≡ nat_cmp a b
  above lt = cmp_greater (f a) (f b) (rises b a lt) ∙ sym (cmp_greater a b lt)

group-some : (span n : ℕ) → 1 ≤ n → later_group span n ≡ n + span
group-some span n some = cond-false (n == 0) 0 (n + span) (ne_eqb n 0 (λ e. omega (arith, e, some)))

group-rises : (span a b : ℕ) → a < b → later_group span a < later_group span b
group-rises span zero b lt = omega (arith, lt, group-some span b (omega (arith, lt)))
group-rises span (suc a) b lt =
    omega (arith, lt, group-some span (suc a) (omega arith), group-some span b (omega (arith, lt)))

-- the order keeps through a span
pub precedes-later : (span : ℕ) (owed : ℕ → ℕ) (x y : Priority) →
    precedes (later_key span owed x) (later_key span owed y) ≡ precedes x y
unfolding priority_cmp
precedes-later span owed x y =
    ap₂ (λ c g. is_lt (ordering_then c (ordering_then (nat_cmp y.bit x.bit) (ordering_then g (nat_cmp x.task y.task)))))
    (nat_cmp-rises (λ n. n + span) (λ a b lt. omega (arith, lt)) x.deadline y.deadline)
    (nat_cmp-rises (later_group span) (group-rises span) y.group x.group)

module _ (f : Priority → Priority) (kept : (x y : Priority) → precedes (f x) (f y) ≡ precedes x y) where
  rank-kept : (keys : List Priority) (k : Priority) → rank (map f keys) (f k) ≡ rank keys k
  rank-kept keys k =
      sum_by-map (λ x. cond (precedes x (f k)) 1 0) f keys
      ∙ sum_by-agree (λ x. cond (precedes (f x) (f k)) 1 0) (λ x. cond (precedes x k) 1 0) keys
      (λ i d lt. ap (λ b. cond b 1 0) (kept _ k))

  -- Use: the first keys of a list through a function that keeps the order.
  pub first_keys-kept : (n : ℕ) (keys : List Priority) → first_keys n (map f keys) ≡ map f (first_keys n keys)
  first_keys-kept zero keys = refl
  first_keys-kept (suc c) keys =
      ap₂ (λ xs ys. xs ++ ys) (first_keys-kept c keys)
      (filter-map (λ k. rank (map f keys) k == c) f keys
      ∙ ap (map f)
      (filter_agree (λ k. rank (map f keys) (f k) == c) (λ k. rank keys k == c) (λ k. ap (λ n. n == c) (rank-kept keys k)) keys))
      ∙ sym (map-append f (first_keys c keys) (filter (λ k. rank keys k == c) keys))
