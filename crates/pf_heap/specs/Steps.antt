-- What the steps of adding a node to a list of trees need and leave. In memory a list of trees is one part; the others
-- stay as they are.
use Rattle.std.specs.Prelude.{◌≡◌, ℕ, ◌+◌, ◌<◌, ◌≤◌, ◌^◌, ◌⊎◌, List, ◌∷◌, length}
use Rattle.pf_order.specs.Priority.{Priority}
use Rattle.pf_order.specs.Counts.{Counts, Compares}
use Rattle.pf_heap.specs.declared.node.Node.{Node}
use Rattle.pf_heap.specs.Forest.{Forest, head, forest_weight, size, Rises, IsTreeOrNone}
use Rattle.pf_heap.specs.Memory.{Part, root, Parts}

-- the link is a list of roots
pub record HasRoots (nodes : List Node) (link : ℕ) : Type 0 where
  pub list : Forest
  pub others : List Part
  pub link_is : link ≡ head list
  pub small : length nodes < 2 ^ 16
  pub parts : Parts nodes (root list ∷ others)

-- the list's first tree, if it has this rank, is cut off
pub record IsCut (nodes : List Node) (rank : ℕ) (list : Forest) (others : List Part) (tree_link rest_link : ℕ) : Type 0 where
  pub first : Forest
  pub rest : Forest
  pub first_is : tree_link ≡ head first
  pub rest_is : rest_link ≡ head rest
  pub first_tree : IsTreeOrNone rank first
  pub rises : Rises (rank + 1) rest
  pub parts : Parts nodes (root first ∷ root rest ∷ others)
  pub kept : (w : ℕ → Priority → ℕ) → forest_weight w first + forest_weight w rest ≡ forest_weight w list

-- two trees of this rank are one of the next
pub record IsJoined (nodes : List Node) (rank : ℕ) (first second : Forest) (others : List Part) (link : ℕ) : Type 0 where
  pub whole : Forest
  pub whole_is : link ≡ head whole
  pub is_tree : IsTreeOrNone (rank + 1) whole
  pub parts : Parts nodes (root whole ∷ others)
  pub kept : (w : ℕ → Priority → ℕ) → forest_weight w whole ≡ forest_weight w first + forest_weight w second

-- a node that stands alone, and a list
pub record HasNodeAndList (nodes : List Node) (at link : ℕ) : Type 0 where
  pub added : Forest
  pub list : Forest
  pub others : List Part
  pub added_is : at ≡ head added
  pub list_is : link ≡ head list
  pub is_tree : IsTreeOrNone 0 added
  pub full : size added ≡ 1
  pub rises : Rises 0 list
  pub small : length nodes < 2 ^ 16
  pub parts : Parts nodes (root added ∷ root list ∷ others)

-- the node is added to the list, by `made` comparisons
pub record IsAddedTo (nodes : List Node) (added list : Forest) (others : List Part) (link : ℕ) (before after : Counts) : Type 0 where
  pub heap : Forest
  pub heap_is : link ≡ head heap
  pub rises : Rises 0 heap
  pub parts : Parts nodes (root heap ∷ others)
  pub kept : (w : ℕ → Priority → ℕ) → forest_weight w heap ≡ forest_weight w added + forest_weight w list
  pub made : ℕ
  pub made_paid : (made ≡ 0) ⊎ (2 ^ made ≤ size added + size list)
  pub counted : Compares made before after

-- x is carried into y: no more comparisons were made than there are lower ranks, and y is left from this rank on
pub record IsCarrying (nodes : List Node) (rank : ℕ) (x y : Forest) (others : List Part) (carry_link rest_link : ℕ) (before after : Counts) : Type 0 where
  pub carry : Forest
  pub rest : Forest
  pub carry_is : carry_link ≡ head carry
  pub rest_is : rest_link ≡ head rest
  pub carry_tree : IsTreeOrNone rank carry
  pub full : size carry ≡ 2 ^ rank
  pub rises : Rises rank rest
  pub small : length nodes < 2 ^ 16
  pub parts : Parts nodes (root carry ∷ root rest ∷ others)
  pub kept : (w : ℕ → Priority → ℕ) → forest_weight w carry + forest_weight w rest ≡ forest_weight w x + forest_weight w y
  pub counted : Compares rank before after
