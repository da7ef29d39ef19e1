-- Forests without memory: the order of their keys, and their weights.
use Rattle.std.proofs.Common.{◌≡◌, ◌≢◌, ℕ, ◌+◌, ◌^◌, ◌≤◌, true, ◌⊎◌, inl, inr, refl, sym, ap, ◌∙◌, arith}
use Rattle.std.proofs.lemmas.Nat.{pow-add}
use Rattle.std.proofs.Math.Pow.{pow_mono}
use Rattle.std.proofs.lemmas.Cmp.{upto, tied_itself}
use Rattle.std.specs.declared.cmp.Ordering.{Ordering}
use Rattle.std.specs.declared.cmp.Ordering.TheVariants.{Less, Equal, Greater}
use Rattle.std.specs.Ordering.{is_lt, is_gt, ordering_reverse}
use Rattle.pf_lemmas.proofs.Orders.{not_both}
use Rattle.pf_order.specs.Priority.{Priority, precedes, priority_cmp}
use Rattle.pf_order.proofs.Order.{priority_cmp_total}
use Rattle.pf_heap.specs.Forest.{Forest, none, tree, forest_weight, same, size, IsBelow, AllBelow, Falls, Rises, IsTreeOrNone, some}

-- ---- numbers

pub same-self : (i : ℕ) → same i i ≡ 1
unfolding same
same-self i = omega arith

pub same-other : (i j : ℕ) → i ≢ j → same i j ≡ 0
unfolding same
same-other i j differ = omega arith

pub equal_from_same : (i j : ℕ) → 1 ≤ same i j → i ≡ j
unfolding same
equal_from_same i j h = omega arith

pub same-le : (i j : ℕ) → same i j ≤ 1
unfolding same
same-le i j = omega arith

pub double : (r s : ℕ) → s ≡ r + 1 → 2 ^ s ≡ 2 ^ r + 2 ^ r
double r s e = rw e (omega (arith, pow-add 2 r 1))

-- ---- the order

reversed : (o : Ordering) → is_gt (ordering_reverse o) ≡ is_lt o
reversed Less = refl
reversed Equal = refl
reversed Greater = refl

turned : (p k : Priority) → is_gt (priority_cmp p k) ≡ precedes k p
turned p k = ap is_gt (priority_cmp_total.antisymm p k) ∙ reversed (priority_cmp k p)

pub below-trans : (p q k : Priority) → IsBelow p q → IsBelow q k → IsBelow p k
below-trans p q k upper lower =
    sym (turned p k) ∙ upto priority_cmp_total p q k (turned p q ∙ upper) (turned q k ∙ lower)

pub below-itself : (p : Priority) → IsBelow p p
below-itself p = ap is_lt (tied_itself priority_cmp_total p)

-- what precedes is above
pub below_from_precedes : (p k : Priority) → precedes p k ≡ true → IsBelow p k
below_from_precedes p k e = ap is_lt (priority_cmp_total.antisymm k p) ∙ not_both (priority_cmp p k) e

pub all_below-trans : (p q : Priority) (f : Forest) → IsBelow p q → AllBelow q f → AllBelow p f
all_below-trans p q none h a = tt
all_below-trans p q (tree at key rank kids rest) h a =
    (below-trans p q key h a.0, all_below-trans p q kids h a.1, all_below-trans p q rest h a.2)

pub all_below_from_falls : (p : Priority) (r : ℕ) (f : Forest) → Falls p r f → AllBelow p f
all_below_from_falls p r none h = tt
all_below_from_falls p r (tree at key rank kids rest) h =
    (h.1, all_below-trans p key kids h.1 (all_below_from_falls key rank kids h.2), all_below_from_falls p rank rest h.3)

-- ---- sizes

-- children of rank r and their parent are 2^r nodes
pub size_from_falls : (p : Priority) (r : ℕ) (f : Forest) → Falls p r f → size f + 1 ≡ 2 ^ r
size_from_falls p r none h = rw h (omega arith)
size_from_falls p r (tree at key rank kids rest) h =
    omega (arith, double rank r h.0, size_from_falls key rank kids h.2, size_from_falls p rank rest h.3)

pub size_from_rises : (r : ℕ) (f : Forest) → Rises r f → (f ≡ none) ⊎ (2 ^ r ≤ size f)
size_from_rises r none h = inl refl
size_from_rises r (tree at key rank kids rest) h =
    inr (omega (arith, pow_mono h.0, size_from_falls key rank kids h.1))

pub size_from_tree : (r : ℕ) (f : Forest) → IsTreeOrNone r f → (f ≡ none) ⊎ (size f ≡ 2 ^ r)
size_from_tree r none h = inl refl
size_from_tree r (tree at key rank kids none) h =
    let p : 2 ^ rank ≡ 2 ^ r = ap (λ x. 2 ^ x) h.0 in
    inr (omega (arith, size_from_falls key rank kids h.1))
size_from_tree r (tree at key rank kids (tree at' key' rank' kids' rest')) h = absurd h

-- ---- weights

pub forest_weight-add : (u v w : ℕ → Priority → ℕ) (f : Forest) → ((at : ℕ) (key : Priority) → w at key ≡ u at key + v at key) → forest_weight w f ≡ forest_weight u f + forest_weight v f
forest_weight-add u v w none e = refl
forest_weight-add u v w (tree at key rank kids rest) e =
    omega (arith, e at key, forest_weight-add u v w kids e, forest_weight-add u v w rest e)

pub forest_weight-zero : (w : ℕ → Priority → ℕ) (f : Forest) → ((at : ℕ) (key : Priority) → w at key ≡ 0) → forest_weight w f ≡ 0
forest_weight-zero w none e = refl
forest_weight-zero w (tree at key rank kids rest) e = omega (arith, e at key, forest_weight-zero w kids e, forest_weight-zero w rest e)

pub forest_weight-le : (v w : ℕ → Priority → ℕ) (f : Forest) → ((at : ℕ) (key : Priority) → v at key ≤ w at key) → forest_weight v f ≤ forest_weight w f
forest_weight-le v w none e = omega arith
forest_weight-le v w (tree at key rank kids rest) e = omega (arith, e at key, forest_weight-le v w kids e, forest_weight-le v w rest e)

-- ---- roots

pub some-le : (f : Forest) → some f ≤ 1
some-le none = omega arith
some-le (tree at key rank kids rest) = omega arith

pub rises_less : (r s : ℕ) (f : Forest) → s ≤ r → Rises r f → Rises s f
rises_less r s none le h = tt
rises_less r s (tree at key rank kids rest) le h = (omega (arith, h.0), h.1, h.2)
