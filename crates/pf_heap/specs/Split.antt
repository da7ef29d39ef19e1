-- Finding the root above a node, and splitting its tree until the node stands alone.
use Rattle.std.specs.Prelude.{◌≡◌, ℕ, ◌+◌, ◌<◌, ◌≤◌, ◌^◌, List, ◌∷◌, length}
use Rattle.pf_order.specs.Priority.{Priority}
use Rattle.pf_heap.specs.declared.node.Node.{Node}
use Rattle.pf_heap.specs.Forest.{Forest, none, tree, single, nowhere, head, forest_weight, same, at_place, size, Falls, Rises}
use Rattle.pf_heap.specs.Memory.{node_at, Stands, Part, root, Parts}

-- the node is in a heap
pub record HasNode (nodes : List Node) (at : ℕ) : Type 0 where
  pub heap : Forest
  pub others : List Part
  pub has : 1 ≤ forest_weight (at_place at) heap
  pub rises : Rises 0 heap
  pub small : length nodes < 2 ^ 16
  pub parts : Parts nodes (root heap ∷ others)

-- a node with no parent, in each forest of roots that has the first one, and in the first one's tree
pub record IsTop (nodes : List Node) (at top : ℕ) : Type 0 where
  pub above : (f : Forest) → Stands nodes nowhere f → 1 ≤ forest_weight (at_place at) f → 1 ≤ forest_weight (at_place top) f
  pub in_tree : (b : ℕ) (f : Forest) → (node_at nodes b).parent ≡ nowhere → Stands nodes b f → 1 ≤ same at b + forest_weight (at_place at) f → 1 ≤ same top b + forest_weight (at_place top) f
  pub no_parent : (node_at nodes top).parent ≡ nowhere

-- the way up so far, as many steps as the node's rank at most
pub record IsClimbing (nodes : List Node) (at now steps : ℕ) : Type 0 where
  pub above : (f : Forest) → Stands nodes nowhere f → 1 ≤ forest_weight (at_place at) f → 1 ≤ forest_weight (at_place now) f
  pub in_tree : (b : ℕ) (f : Forest) → (node_at nodes b).parent ≡ nowhere → Stands nodes b f → 1 ≤ same at b + forest_weight (at_place at) f → 1 ≤ same now b + forest_weight (at_place now) f
  pub high : steps ≤ (node_at nodes now).rank

-- a heap's roots are being looked through for one that has no parent
pub record IsLooking (nodes : List Node) (heap : Forest) (at rest_link steps : ℕ) : Type 0 where
  pub rest : Forest
  pub rest_is : rest_link ≡ head rest
  pub stands : Stands nodes nowhere rest
  pub rises : Rises steps rest
  pub smaller : size rest ≤ size heap
  pub out : 1 ≤ forest_weight (at_place at) heap → 1 ≤ forest_weight (at_place at) rest
  pub into : 1 ≤ forest_weight (at_place at) rest → 1 ≤ forest_weight (at_place at) heap

-- the node is in this root's tree
pub record HasTreeOf (nodes : List Node) (top at : ℕ) : Type 0 where
  pub key : Priority
  pub rank : ℕ
  pub kids : Forest
  pub others : List Part
  pub falls : Falls key rank kids
  pub has : 1 ≤ forest_weight (at_place at) (tree top key rank kids none)
  pub small : length nodes < 2 ^ 16
  pub parts : Parts nodes (root (tree top key rank kids none) ∷ others)

-- a tree is split so far that its half with the node has this rank; the other halves are a list of rising ranks
pub record IsSplitting (nodes : List Node) (rank at : ℕ) (whole : Forest) (others : List Part) (half link : ℕ) : Type 0 where
  pub key : Priority
  pub kids : Forest
  pub halves : Forest
  pub falls : Falls key rank kids
  pub has : 1 ≤ forest_weight (at_place at) (tree half key rank kids none)
  pub link_is : link ≡ head halves
  pub rises : Rises rank halves
  pub parts : Parts nodes (root (tree half key rank kids none) ∷ root halves ∷ others)
  pub kept : (w : ℕ → Priority → ℕ) → forest_weight w (tree half key rank kids none) + forest_weight w halves ≡ forest_weight w whole

-- two trees of one rank, one of which has the node, and a list of higher ranks
pub record HasHalves (nodes : List Node) (x y at link : ℕ) : Type 0 where
  pub first_key : Priority
  pub second_key : Priority
  pub rank : ℕ
  pub first_kids : Forest
  pub second_kids : Forest
  pub halves : Forest
  pub others : List Part
  pub first_falls : Falls first_key rank first_kids
  pub second_falls : Falls second_key rank second_kids
  pub has : 1 ≤ forest_weight (at_place at) (tree x first_key rank first_kids none) + forest_weight (at_place at) (tree y second_key rank second_kids none)
  pub link_is : link ≡ head halves
  pub rises : Rises (rank + 1) halves
  pub small : length nodes < 2 ^ 16
  pub parts : Parts nodes (root (tree x first_key rank first_kids none) ∷ root (tree y second_key rank second_kids none) ∷ root halves ∷ others)

-- the tree with the node, and the other one in front of the list
pub record IsHalved {old : List Node} (nodes : List Node) (x y at : ℕ) {before : ℕ} (can : HasHalves old x y at before) (half link : ℕ) : Type 0 where
  pub key : Priority
  pub kids : Forest
  pub halves : Forest
  pub falls : Falls key can.rank kids
  pub has : 1 ≤ forest_weight (at_place at) (tree half key can.rank kids none)
  pub link_is : link ≡ head halves
  pub rises : Rises can.rank halves
  pub parts : Parts nodes (root (tree half key can.rank kids none) ∷ root halves ∷ can.others)
  pub kept : (w : ℕ → Priority → ℕ) → forest_weight w (tree half key can.rank kids none) + forest_weight w halves
      ≡ forest_weight w (tree x can.first_key can.rank can.first_kids none)
      + (forest_weight w (tree y can.second_key can.rank can.second_kids none) + forest_weight w can.halves)

-- the node stands alone, beside the others of its tree
pub record IsSplit (nodes : List Node) (at : ℕ) (whole : Forest) (others : List Part) (link : ℕ) : Type 0 where
  pub key : Priority
  pub halves : Forest
  pub link_is : link ≡ head halves
  pub rises : Rises 0 halves
  pub small : length nodes < 2 ^ 16
  pub parts : Parts nodes (root (single at key) ∷ root halves ∷ others)
  pub kept : (w : ℕ → Priority → ℕ) → w at key + forest_weight w halves ≡ forest_weight w whole
