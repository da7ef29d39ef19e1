-- The view is the forests' keys.
use Rattle.std.proofs.Common.{◌≡◌, ◌≢◌, ℕ, zero, suc, ◌/◌, ◌%◌, ◌^◌, ◌<◌, ◌≤◌, false, cond, eqb, List, [], ◌∷◌, map, length, get_or, refl, ap, ◌∙◌, arith}
use Rattle.std.proofs.lemmas.Bool.Decides.{nat_tests}
use Rattle.pf_heap.specs.declared.node.Node.{Node}
use Rattle.pf_heap.specs.Forest.{Forest, none, tree, nowhere, head, one_each, size, some}
use Rattle.pf_heap.specs.Memory.{node_at, Stands, root, weigh_all, StandAll, Parts}
use Rattle.pf_heap.specs.View.{keys, forest_from, lists_at, with_trees, side_by_side, trees_from, main_at}
use Rattle.pf_heap.specs.declared.table.Roots.{Roots}
use Rattle.pf_heap.specs.Table.{mask_of, IsTable}
use Rattle.pf_heap.proofs.Forests.{some-le}
use Rattle.pf_heap.proofs.Weights.{sizes-le-length}

no_link : (at : ℕ) → at < nowhere → eqb at nowhere ≡ false
no_link at h = grind (arith, nat_tests)

pub forest_from-head : (n : ℕ) (nodes : List Node) (up : ℕ) (f : Forest) → length nodes < 2 ^ 16 → size f ≤ n → Stands nodes up f → forest_from n nodes (head f) ≡ f
forest_from-head zero nodes up none small le s = refl
forest_from-head (suc n) nodes up none small le s = refl
forest_from-head zero nodes up (tree at key rank kids rest) small le s = absurd (omega (arith, le))
forest_from-head (suc n) nodes up (tree at key rank kids rest) small le s =
    let some : eqb at nowhere ≡ false = no_link at (omega (arith, s.0)) in
    let by_kids = forest_from-head n nodes at kids small (omega (arith, le)) s.2 in
    let by_rest = forest_from-head n nodes up rest small (omega (arith, le)) s.3 in
    ap (λ b. cond b none (tree at (node_at nodes at).key (node_at nodes at).rank (forest_from n nodes (node_at nodes at).child) (forest_from n nodes (node_at nodes at).sibling))) some
    ∙ (λ i. tree at (s.1 i).key (s.1 i).rank (forest_from n nodes (s.1 i).child) (forest_from n nodes (s.1 i).sibling))
    ∙ (λ i. tree at key rank (by_kids i) (by_rest i))

all_from-head : (n : ℕ) (nodes : List Node) (heaps : List Forest) → length nodes < 2 ^ 16 → weigh_all one_each (map root heaps) ≤ n → StandAll nodes (map root heaps) →
    map (λ link. keys (forest_from n nodes link)) (map head heaps) ≡ map keys heaps
all_from-head n nodes [] small le s = refl
all_from-head n nodes (f ∷ fs) small le s =
    let one = forest_from-head n nodes nowhere f small (omega (arith, le)) s.0 in
    let more = all_from-head n nodes fs small (omega (arith, le)) s.1 in
    λ i. keys (one i) ∷ more i

pub lists_at-heads : (nodes : List Node) (heads : List ℕ) (heaps : List Forest) → length nodes < 2 ^ 16 → heads ≡ map head heaps → Parts nodes (map root heaps) →
    lists_at nodes heads ≡ map keys heaps
unfolding lists_at
lists_at-heads nodes heads heaps small heads_are parts =
    ap (λ links. map (λ link. keys (forest_from (length nodes) nodes link)) links) heads_are
    ∙ all_from-head (length nodes) nodes heaps small (sizes-le-length nodes (map root heaps) parts) parts.stand

-- ---- the main heap

-- one place of a table
place_from : (n : ℕ) (nodes : List Node) (f : Forest) (link : ℕ) (m : ℕ) → length nodes < 2 ^ 16 → size f ≤ n → Stands nodes nowhere f → (f ≢ none → link ≡ head f) → m ≡ some f →
    cond (eqb m 0) none (forest_from n nodes link) ≡ f
place_from n nodes none link m small le s is e = ap (λ x. cond (eqb x 0) none (forest_from n nodes link)) e
place_from n nodes (tree at key rank kids rest) link m small le s is e =
    ap (λ x. cond (eqb x 0) none (forest_from n nodes link)) e
    ∙ ap (λ x. forest_from n nodes x) (is (λ z. absurd (omega (arith, ap some z))))
    ∙ forest_from-head n nodes nowhere (tree at key rank kids rest) small le s

pub trees_from-links : (n : ℕ) (nodes : List Node) (links : List ℕ) (fs : List Forest) (mask : ℕ) → length nodes < 2 ^ 16 → weigh_all one_each (map root fs) ≤ n → StandAll nodes (map root fs) →
    length links ≡ length fs → mask ≡ mask_of fs → ((r : ℕ) → get_or fs r none ≢ none → get_or links r nowhere ≡ head (get_or fs r none)) →
    trees_from n nodes mask links ≡ side_by_side fs
trees_from-links n nodes [] [] mask small le s long is at = refl
trees_from-links n nodes [] (f ∷ fs) mask small le s long is at = absurd (omega (arith, long))
trees_from-links n nodes (c ∷ cs) [] mask small le s long is at = absurd (omega (arith, long))
trees_from-links n nodes (c ∷ cs) (f ∷ fs) mask small le s long is at =
    let bit : mask % 2 ≡ some f = omega (arith, is, some-le f) in
    let more : mask / 2 ≡ mask_of fs = omega (arith, is, some-le f) in
    let here = place_from n nodes f c (mask % 2) small (omega (arith, le)) s.0 (at zero) bit in
    let rest = trees_from-links n nodes cs fs (mask / 2) small (omega (arith, le)) s.1 (omega (arith, long)) more (λ r h. at (suc r) h) in
    λ i. with_trees (here i) (rest i)

pub main_at-trees : (nodes : List Node) (main : Roots) (trees : List Forest) → length nodes < 2 ^ 16 → IsTable main trees → Parts nodes (map root trees) → main_at nodes main ≡ keys (side_by_side trees)
unfolding main_at
main_at-trees nodes main trees small t parts =
    ap keys (trees_from-links (length nodes) nodes main.trees trees main.ranks small (sizes-le-length nodes (map root trees) parts) parts.stand
    (omega (arith, t.places, t.long)) t.ranks t.links)
