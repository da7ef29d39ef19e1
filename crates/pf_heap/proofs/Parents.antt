-- Nodes and their parents.
use Rattle.std.proofs.Common.{◌≡◌, ◌≢◌, ℕ, ◌+◌, ◌^◌, ◌<◌, ◌≤◌, ◌⊎◌, inl, inr, List, length, ap, ◌∙◌, arith, ⊎_elim}
use Rattle.std.proofs.lemmas.Bool.{cases_lt}
use Rattle.pf_order.specs.Priority.{Priority}
use Rattle.pf_heap.specs.declared.node.Node.{Node}
use Rattle.pf_heap.specs.Forest.{Forest, none, tree, nowhere, forest_weight, same, at_place, size, Falls, Rises}
use Rattle.pf_heap.specs.Memory.{node_at, Stands}
use Rattle.pf_heap.proofs.Forests.{same-self, equal_from_same, size_from_falls}

-- ---- the parent of a node

-- where the forest has node h: h is a root of it, or its parent is in it too, at a greater rank
abbrev IsRootOrHasParent : List Node → ℕ → ℕ → ℕ → Forest → Type 0
IsRootOrHasParent nodes up r h f =
    (((node_at nodes h).parent ≡ up) × ((node_at nodes h).rank < r))
    ⊎ ((1 ≤ forest_weight (at_place (node_at nodes h).parent) f) × ((node_at nodes h).rank < (node_at nodes (node_at nodes h).parent).rank))

pub is_node : (nodes : List Node) (h at : ℕ) (n : Node) → h ≡ at → node_at nodes at ≡ n → node_at nodes h ≡ n
is_node nodes h at n e f = ap (λ x. node_at nodes x) e ∙ f

parent_of : (nodes : List Node) (up : ℕ) (p : Priority) (r h : ℕ) (f : Forest) → Falls p r f → Stands nodes up f → 1 ≤ forest_weight (at_place h) f → IsRootOrHasParent nodes up r h f
parent_of nodes up p r h none falls s has = absurd (omega (arith, has))
parent_of nodes up p r h (tree at key rank kids rest) falls s has =
    ⊎_elim
    (λ here.
    let n = is_node nodes h at _ (equal_from_same h at (omega (arith, here))) s.1 in
    inl (ap (λ (x : Node). x.parent) n, omega (arith, falls.0, ap (λ (x : Node). x.rank) n)))
    (λ other. ⊎_elim
    (λ inside. ⊎_elim
    (λ m. inr (
      omega (arith, same-self at, ap (λ x. same x at) m.0),
      omega (arith, m.1, ap (λ x. (node_at nodes x).rank) m.0, ap (λ (x : Node). x.rank) s.1),
    ))
    (λ m. inr (omega (arith, m.0), m.1))
    (parent_of nodes at key rank h kids falls.2 s.2 (omega (arith, inside))))
    (λ outside. ⊎_elim
    (λ m. inl (m.0, omega (arith, falls.0, m.1)))
    (λ m. inr (omega (arith, m.0), m.1))
    (parent_of nodes up p rank h rest falls.3 s.3 (omega (arith, has, other, outside))))
    (cases_lt 0 (forest_weight (at_place h) kids)))
    (cases_lt 0 (same h at))

-- in a heap
pub parent_in : (nodes : List Node) (r h : ℕ) (f : Forest) → Rises r f → Stands nodes nowhere f → 1 ≤ forest_weight (at_place h) f → (node_at nodes h).parent ≢ nowhere →
    (1 ≤ forest_weight (at_place (node_at nodes h).parent) f) × ((node_at nodes h).rank < (node_at nodes (node_at nodes h).parent).rank)
parent_in nodes r h none rises s has some = absurd (omega (arith, has))
parent_in nodes r h (tree at key rank kids rest) rises s has some =
    ⊎_elim
    (λ here. absurd (some (ap (λ (x : Node). x.parent) (is_node nodes h at _ (equal_from_same h at (omega (arith, here))) s.1))))
    (λ other. ⊎_elim
    (λ inside. ⊎_elim
    (λ m. (
      omega (arith, same-self at, ap (λ x. same x at) m.0),
      omega (arith, m.1, ap (λ x. (node_at nodes x).rank) m.0, ap (λ (x : Node). x.rank) s.1),
    ))
    (λ m. (omega (arith, m.0), m.1))
    (parent_of nodes at key rank h kids rises.1 s.2 (omega (arith, inside))))
    (λ outside.
    let m = parent_in nodes (rank + 1) h rest rises.2 s.3 (omega (arith, has, other, outside)) some in
    (omega (arith, m.0), m.1))
    (cases_lt 0 (forest_weight (at_place h) kids)))
    (cases_lt 0 (same h at))

-- in any forest of roots, whatever the order
pub parent_stands : (nodes : List Node) (up h : ℕ) (f : Forest) → Stands nodes up f → 1 ≤ forest_weight (at_place h) f →
    ((node_at nodes h).parent ≡ up) ⊎ (1 ≤ forest_weight (at_place (node_at nodes h).parent) f)
parent_stands nodes up h none s has = absurd (omega (arith, has))
parent_stands nodes up h (tree at key rank kids rest) s has =
    ⊎_elim
    (λ here. inl (ap (λ (x : Node). x.parent) (is_node nodes h at _ (equal_from_same h at (omega (arith, here))) s.1)))
    (λ other. ⊎_elim
    (λ inside. ⊎_elim
    (λ m. inr (omega (arith, same-self at, ap (λ x. same x at) m)))
    (λ m. inr (omega (arith, m)))
    (parent_stands nodes at h kids s.2 (omega (arith, inside))))
    (λ outside. ⊎_elim
    (λ m. inl m)
    (λ m. inr (omega (arith, m)))
    (parent_stands nodes up h rest s.3 (omega (arith, has, other, outside))))
    (cases_lt 0 (forest_weight (at_place h) kids)))
    (cases_lt 0 (same h at))

pub parent_stands_in : (nodes : List Node) (h : ℕ) (f : Forest) → Stands nodes nowhere f → 1 ≤ forest_weight (at_place h) f → (node_at nodes h).parent ≢ nowhere →
    1 ≤ forest_weight (at_place (node_at nodes h).parent) f
parent_stands_in nodes h f s has some = ⊎_elim (λ e. absurd (some e)) (λ m. m) (parent_stands nodes nowhere h f s has)

pub node_within : (nodes : List Node) (up h : ℕ) (f : Forest) → Stands nodes up f → 1 ≤ forest_weight (at_place h) f → h < length nodes
node_within nodes up h none s has = absurd (omega (arith, has))
node_within nodes up h (tree at key rank kids rest) s has =
    ⊎_elim
    (λ here. omega (arith, equal_from_same h at (omega (arith, here)), s.0))
    (λ other. ⊎_elim
    (λ inside. node_within nodes at h kids s.2 (omega (arith, inside)))
    (λ outside. node_within nodes up h rest s.3 (omega (arith, has, other, outside)))
    (cases_lt 0 (forest_weight (at_place h) kids)))
    (cases_lt 0 (same h at))

-- what a node weighs
pub node_weighs : (w : ℕ → Priority → ℕ) (nodes : List Node) (up h : ℕ) (f : Forest) → Stands nodes up f → 1 ≤ forest_weight (at_place h) f → w h (node_at nodes h).key ≤ forest_weight w f
node_weighs w nodes up h none s has = absurd (omega (arith, has))
node_weighs w nodes up h (tree at key rank kids rest) s has =
    ⊎_elim
    (λ here.
    let e = equal_from_same h at (omega (arith, here)) in
    let n = is_node nodes h at _ e s.1 in
    let p : w h (node_at nodes h).key ≡ w at key = λ i. w (e i) (n i).key in
    omega (arith, p))
    (λ other. ⊎_elim
    (λ inside. omega (arith, node_weighs w nodes at h kids s.2 (omega (arith, inside))))
    (λ outside. omega (arith, node_weighs w nodes up h rest s.3 (omega (arith, has, other, outside))))
    (cases_lt 0 (forest_weight (at_place h) kids)))
    (cases_lt 0 (same h at))

-- a node of rank r has 2^r nodes under it, itself counted
rank_of_falls : (nodes : List Node) (up : ℕ) (p : Priority) (r h : ℕ) (f : Forest) → Falls p r f → Stands nodes up f → 1 ≤ forest_weight (at_place h) f → 2 ^ (node_at nodes h).rank ≤ size f
rank_of_falls nodes up p r h none falls s has = absurd (omega (arith, has))
rank_of_falls nodes up p r h (tree at key rank kids rest) falls s has =
    ⊎_elim
    (λ here.
    let n : (node_at nodes h).rank ≡ rank = ap (λ (x : Node). x.rank) (is_node nodes h at _ (equal_from_same h at (omega (arith, here))) s.1) in
    omega (arith, ap (λ x. 2 ^ x) n, size_from_falls key rank kids falls.2))
    (λ other. ⊎_elim
    (λ inside. omega (arith, rank_of_falls nodes at key rank h kids falls.2 s.2 (omega (arith, inside))))
    (λ outside. omega (arith, rank_of_falls nodes up p rank h rest falls.3 s.3 (omega (arith, has, other, outside))))
    (cases_lt 0 (forest_weight (at_place h) kids)))
    (cases_lt 0 (same h at))

pub rank_of_rises : (nodes : List Node) (r h : ℕ) (f : Forest) → Rises r f → Stands nodes nowhere f → 1 ≤ forest_weight (at_place h) f → 2 ^ (node_at nodes h).rank ≤ size f
rank_of_rises nodes r h none rises s has = absurd (omega (arith, has))
rank_of_rises nodes r h (tree at key rank kids rest) rises s has =
    ⊎_elim
    (λ here.
    let n : (node_at nodes h).rank ≡ rank = ap (λ (x : Node). x.rank) (is_node nodes h at _ (equal_from_same h at (omega (arith, here))) s.1) in
    omega (arith, ap (λ x. 2 ^ x) n, size_from_falls key rank kids rises.1))
    (λ other. ⊎_elim
    (λ inside. omega (arith, rank_of_falls nodes at key rank h kids rises.1 s.2 (omega (arith, inside))))
    (λ outside. omega (arith, rank_of_rises nodes (rank + 1) h rest rises.2 s.3 (omega (arith, has, other, outside))))
    (cases_lt 0 (forest_weight (at_place h) kids)))
    (cases_lt 0 (same h at))

-- a node with no parent is a root
pub inner_parent : (nodes : List Node) (up h : ℕ) (f : Forest) → length nodes < 2 ^ 16 → up < nowhere → Stands nodes up f → 1 ≤ forest_weight (at_place h) f → (node_at nodes h).parent < nowhere
inner_parent nodes up h none small low s has = absurd (omega (arith, has))
inner_parent nodes up h (tree at key rank kids rest) small low s has =
    ⊎_elim
    (λ here. omega (arith, low, ap (λ (x : Node). x.parent) (is_node nodes h at _ (equal_from_same h at (omega (arith, here))) s.1)))
    (λ other. ⊎_elim
    (λ inside. inner_parent nodes at h kids small (omega (arith, s.0)) s.2 (omega (arith, inside)))
    (λ outside. inner_parent nodes up h rest small low s.3 (omega (arith, has, other, outside)))
    (cases_lt 0 (forest_weight (at_place h) kids)))
    (cases_lt 0 (same h at))
