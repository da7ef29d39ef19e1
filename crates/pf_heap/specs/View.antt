-- From nodes and links to lists of keys.
use Rattle.std.specs.Prelude.{ℕ, zero, suc, ◌/◌, ◌%◌, ◌==◌, cond, List, [], ◌∷◌, map, length}
use Rattle.std.specs.FinSet as set
use Rattle.pf_heap.specs.declared.node.Node.{Node}
use Rattle.pf_heap.specs.Forest.{Forest, none, tree, nowhere}
use Rattle.pf_heap.specs.Memory.{node_at}
use Rattle.pf_heap.specs.declared.table.Roots.{Roots}
use Rattle.pf_heap.specs.Keys.{Keys}

-- a forest's keys
abbrev pub keys : Forest → Keys
keys none = set.empty
keys (tree at key rank kids rest) = set.insert (set.union (keys kids) (keys rest)) key

-- the forest after a link, n links deep
abbrev pub forest_from : ℕ → List Node → ℕ → Forest
forest_from zero nodes link = none
forest_from (suc n) nodes link =
    cond (link == nowhere) none
    (tree link (node_at nodes link).key (node_at nodes link).rank
    (forest_from n nodes (node_at nodes link).child) (forest_from n nodes (node_at nodes link).sibling))

-- the lists of heaps with these first nodes
unfoldable pub lists_at : List Node → List ℕ → List Keys
lists_at nodes heads = map (λ link. keys (forest_from (length nodes) nodes link)) heads

-- the trees side by side
abbrev pub with_trees : Forest → Forest → Forest
with_trees none more = more
with_trees (tree at key rank kids rest) more = tree at key rank kids (with_trees rest more)

-- the trees of a list side by side
abbrev pub side_by_side : List Forest → Forest
side_by_side [] = none
side_by_side (f ∷ fs) = with_trees f (side_by_side fs)

-- the trees of the ranks that the mask has, after these links
abbrev pub trees_from : ℕ → List Node → ℕ → List ℕ → Forest
trees_from n nodes mask [] = none
trees_from n nodes mask (link ∷ links) =
    with_trees (cond (mask % 2 == 0) none (forest_from n nodes link)) (trees_from n nodes (mask / 2) links)

-- the keys of the heap with these roots
unfoldable pub main_at : List Node → Roots → Keys
main_at nodes main = keys (trees_from (length nodes) nodes main.ranks main.trees)
