-- How many nodes there are: as many as places at most, where no two share one.
use Rattle.std.proofs.Common.{◌≡◌, ℕ, zero, suc, ◌+◌, ◌-◌, ◌<◌, ◌≤◌, List, [], ◌∷◌, length, refl, ap, ◌∙◌, arith}
use Rattle.pf_order.specs.Priority.{Priority}
use Rattle.pf_heap.specs.declared.node.Node.{Node}
use Rattle.pf_heap.specs.Forest.{Forest, none, tree, forest_weight, same, one_each, size}
use Rattle.pf_heap.specs.Memory.{Stands, Part, weigh_all, StandAll, Parts}
use Rattle.pf_heap.proofs.Forests.{forest_weight-add, forest_weight-zero}

-- 1 below n, else 0
unfoldable pub upto : ℕ → ℕ → ℕ
upto n i = 1 - (i + 1 - n)

upto-more : (n i : ℕ) → upto (n + 1) i ≡ upto n i + same n i
unfolding upto same
upto-more n i = omega arith

upto-zero : (i : ℕ) → upto 0 i ≡ 0
unfolding upto
upto-zero i = omega arith

pub upto-below : (n i : ℕ) → i < n → upto n i ≡ 1
unfolding upto
upto-below n i h = omega arith

pub weigh_all-zero : (w : ℕ → Priority → ℕ) (ps : List Part) → ((at : ℕ) (key : Priority) → w at key ≡ 0) → weigh_all w ps ≡ 0
weigh_all-zero w [] e = refl
weigh_all-zero w (p ∷ ps) e = omega (arith, forest_weight-zero w p.1 e, weigh_all-zero w ps e)

pub weigh_all-add : (u v w : ℕ → Priority → ℕ) (ps : List Part) → ((at : ℕ) (key : Priority) → w at key ≡ u at key + v at key) → weigh_all w ps ≡ weigh_all u ps + weigh_all v ps
weigh_all-add u v w [] e = refl
weigh_all-add u v w (p ∷ ps) e = omega (arith, forest_weight-add u v w p.1 e, weigh_all-add u v w ps e)

-- pigeons in holes: where no number is had twice, no more than n numbers are below n
pub pigeonhole : (g : ℕ → Priority → ℕ) (ps : List Part) (n : ℕ) → ((i : ℕ) → weigh_all (λ at key. same i (g at key)) ps ≤ 1) →
    weigh_all (λ at key. upto n (g at key)) ps ≤ n
pigeonhole g ps zero once = omega (arith, weigh_all-zero (λ at key. upto 0 (g at key)) ps (λ at key. upto-zero (g at key)))
pigeonhole g ps (suc n) once =
    let more : (at : ℕ) (key : Priority) → upto (suc n) (g at key) ≡ upto n (g at key) + same n (g at key) =
    λ at key. ap (λ m. upto m (g at key)) (omega arith) ∙ upto-more n (g at key) in
    omega (
      arith,
      once n,
      pigeonhole g ps n once,
      weigh_all-add (λ at key. upto n (g at key)) (λ at key. same n (g at key)) (λ at key. upto (suc n) (g at key)) ps more,
    )

within : (nodes : List Node) (up : ℕ) (f : Forest) → Stands nodes up f → forest_weight (λ at key. upto (length nodes) at) f ≡ size f
within nodes up none s = refl
within nodes up (tree at key rank kids rest) s =
    omega (arith, upto-below (length nodes) at s.0, within nodes at kids s.2, within nodes up rest s.3)

all_within : (nodes : List Node) (ps : List Part) → StandAll nodes ps → weigh_all (λ at key. upto (length nodes) at) ps ≡ weigh_all one_each ps
all_within nodes [] s = refl
all_within nodes (p ∷ ps) s = omega (arith, within nodes p.0 p.1 s.0, all_within nodes ps s.1)

pub sizes-le-length : (nodes : List Node) (ps : List Part) → Parts nodes ps → weigh_all one_each ps ≤ length nodes
sizes-le-length nodes ps parts =
    omega (arith, all_within nodes ps parts.stand, pigeonhole (λ at key. at) ps (length nodes) parts.once)
