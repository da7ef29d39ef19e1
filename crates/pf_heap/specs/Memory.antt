-- Forests in an arena's nodes.
use Rattle.std.specs.Prelude.{◌≡◌, ℕ, ◌+◌, ◌-◌, ◌<◌, ◌≤◌, ◌⊎◌, true, false, List, [], ◌∷◌, map, length, slice_index_or, slice_set}
use Rattle.pf_order.specs.Priority.{Priority, precedes}
use Rattle.pf_heap.specs.declared.node.Node.{Node}
use Rattle.pf_heap.specs.Forest.{Forest, none, tree, nowhere, idle, head, forest_weight, at_place}

-- a node that no list has
abbrev pub no_node : Node
no_node = record { key = record { deadline = 0; bit = 0; group = 0; task = 0; sub = 0 }; parent = 0; child = 0; sibling = 0; rank = 0 }

abbrev pub node_at : List Node → ℕ → Node
node_at nodes i = slice_index_or nodes i no_node

-- the forest stands in these nodes, under the parent `up`
abbrev pub Stands : List Node → ℕ → Forest → Type 0
Stands nodes up none = Unit {0}
Stands nodes up (tree at key rank kids rest) =
    (at < length nodes)
    × (node_at nodes at ≡ record { key = key; parent = up; child = head kids; sibling = head rest; rank = rank })
    × Stands nodes at kids
    × Stands nodes up rest

-- a forest beside the parent of its roots
abbrev pub Part : Type 0
Part = ℕ × Forest

-- a forest with no parent
abbrev pub root : Forest → Part
root f = (nowhere, f)

-- what all nodes of the parts weigh together
abbrev pub weigh_all : (ℕ → Priority → ℕ) → List Part → ℕ
weigh_all w [] = 0
weigh_all w (p ∷ ps) = forest_weight w p.1 + weigh_all w ps

abbrev pub StandAll : List Node → List Part → Type 0
StandAll nodes [] = Unit {0}
StandAll nodes (p ∷ ps) = Stands nodes p.0 p.1 × StandAll nodes ps

-- these forests stand in the nodes, apart from one another
pub record Parts (nodes : List Node) (ps : List Part) : Type 0 where
  pub stand : StandAll nodes ps
  pub once : (i : ℕ) → weigh_all (at_place i) ps ≤ 1

-- the forests as parts of memory
abbrev pub all_roots : List Forest → List Part
all_roots fs = map root fs

-- the node is a root with this sibling
abbrev pub nodes_with_sibling : List Node → ℕ → ℕ → List Node
nodes_with_sibling nodes at to = slice_set nodes at (record (node_at nodes at) { parent = nowhere; sibling = to })

-- the root `below` has the parent `above`, whose children are after it
abbrev pub lowered_root : List Node → ℕ → ℕ → List Node
lowered_root nodes above below =
    slice_set nodes below (record (node_at nodes below) { parent = above; sibling = (node_at nodes above).child })

-- the root `below` is the first child of the root `above`, whose rank is one greater
abbrev pub nodes_with_child : List Node → ℕ → ℕ → List Node
nodes_with_child nodes above below =
    slice_set (lowered_root nodes above below) above
    (record (node_at (lowered_root nodes above below) above) { child = below; rank = (node_at (lowered_root nodes above below) above).rank + 1 })

-- the first child of the root `above` is a root, and the rank of that is one less
abbrev pub nodes_without_child : List Node → ℕ → ℕ → List Node
nodes_without_child nodes above below =
    nodes_with_sibling
    (slice_set nodes above (record (node_at nodes above) { child = (node_at nodes below).sibling; rank = (node_at nodes above).rank - 1 }))
    below nowhere

-- the node is alone
abbrev pub nodes_alone : List Node → ℕ → List Node
nodes_alone nodes at =
    slice_set nodes at (record (node_at nodes at) { parent = nowhere; sibling = nowhere; child = nowhere; rank = 0 })

-- a node in no heap, with this key
abbrev pub idle_node : Priority → Node
idle_node key = record { key = key; parent = nowhere; sibling = nowhere; child = nowhere; rank = idle }

-- the node is in no heap
abbrev pub nodes_idle : List Node → ℕ → List Node
nodes_idle nodes at = slice_set nodes at (record (node_at nodes at) { rank = idle })

-- the root with the first of the two keys has the other as its first child; in a tie x stays above
abbrev pub AreJoined : List Node → List Node → ℕ → ℕ → ℕ → Type 0
AreJoined old new x y result =
    ((result ≡ x) × (precedes (node_at old y).key (node_at old x).key ≡ false) × (new ≡ nodes_with_child old x y))
    ⊎ ((result ≡ y) × (precedes (node_at old y).key (node_at old x).key ≡ true) × (new ≡ nodes_with_child old y x))
