-- Taking a node out of a heap, and merging two.
use Rattle.std.specs.Prelude.{◌≡◌, ℕ, ◌+◌, ◌*◌, ◌<◌, ◌≤◌, ◌^◌, List, ◌∷◌, ◌++◌, length, slice_index_or}
use Rattle.pf_order.specs.Priority.{Priority}
use Rattle.pf_order.specs.Counts.{Counts, Compares}
use Rattle.pf_heap.specs.declared.node.Node.{Node}
use Rattle.pf_heap.specs.declared.table.Roots.{Roots}
use Rattle.pf_heap.specs.Digits.{digits}
use Rattle.pf_heap.specs.Forest.{Forest, none, tree, idle, head, forest_weight, at_place, one_each, size, Rises, HasRoot}
use Rattle.pf_heap.specs.Memory.{Part, root, all_roots, weigh_all, Parts}
use Rattle.pf_heap.specs.Table.{IsTable, NoneBefore}

-- the links are two lists'
pub record HasTwoHeaps (nodes : List Node) (x y : ℕ) : Type 0 where
  pub first : Forest
  pub second : Forest
  pub others : List Part
  pub first_is : x ≡ head first
  pub second_is : y ≡ head second
  pub first_rises : Rises 0 first
  pub second_rises : Rises 0 second
  pub small : length nodes < 2 ^ 16
  pub parts : Parts nodes (root first ∷ root second ∷ others)

-- the two lists are one
pub record IsMerged (nodes : List Node) (first second : Forest) (others : List Part) (link : ℕ) (before after : Counts) : Type 0 where
  pub heap : Forest
  pub heap_is : link ≡ head heap
  pub rises : Rises 0 heap
  pub parts : Parts nodes (root heap ∷ others)
  pub kept : (w : ℕ → Priority → ℕ) → forest_weight w heap ≡ forest_weight w first + forest_weight w second
  pub counted : Compares (digits (size first + size second)) before after

-- the link is a list's that has this root, and the root's tree has this node
pub record CanTake (nodes : List Node) (link top at : ℕ) : Type 0 where
  pub heap : Forest
  pub others : List Part
  pub key : Priority
  pub rank : ℕ
  pub kids : Forest
  pub heap_is : link ≡ head heap
  pub has_root : HasRoot top key rank kids heap
  pub has : 1 ≤ forest_weight (at_place at) (tree top key rank kids none)
  pub rises : Rises 0 heap
  pub small : length nodes < 2 ^ 16
  pub parts : Parts nodes (root heap ∷ others)

-- the node is in no heap, beside the list that is left
pub record IsTaken (nodes : List Node) (heap : Forest) (others : List Part) (at link : ℕ) (before after : Counts) : Type 0 where
  pub key : Priority
  pub left : Forest
  pub link_is : link ≡ head left
  pub rises : Rises 0 left
  pub parts : Parts nodes (root (tree at key idle none none) ∷ root left ∷ others)
  pub kept : (w : ℕ → Priority → ℕ) → w at key + forest_weight w left ≡ forest_weight w heap
  pub counted : Compares (digits (size heap)) before after

-- the table has this root, and the root's tree has this node
pub record CanTakeFrom (nodes : List Node) (table : Roots) (rank top at : ℕ) : Type 0 where
  pub trees : List Forest
  pub others : List Part
  pub key : Priority
  pub kids : Forest
  pub place : rank < length trees
  pub tree_is : slice_index_or trees rank none ≡ tree top key rank kids none
  pub has : 1 ≤ forest_weight (at_place at) (tree top key rank kids none)
  pub table_is : IsTable table trees
  pub small : length nodes < 2 ^ 16
  pub parts : Parts nodes (all_roots trees ++ others)

-- the node is in no heap, beside the table's trees that are left
pub record IsTakenFrom (nodes : List Node) (table : Roots) (trees : List Forest) (others : List Part) (at : ℕ) (before after : Counts) : Type 0 where
  pub key : Priority
  pub left : List Forest
  pub table_is : IsTable table left
  pub parts : Parts nodes (root (tree at key idle none none) ∷ (all_roots left ++ others))
  pub kept : (w : ℕ → Priority → ℕ) → w at key + weigh_all w (all_roots left) ≡ weigh_all w (all_roots trees)
  pub counted : Compares (digits (weigh_all one_each (all_roots trees))) before after

-- the table's root with the first key is in no heap, beside the table's trees that are left
pub record IsFirstTaken (nodes : List Node) (table : Roots) (trees : List Forest) (others : List Part) (at : ℕ) (before after : Counts) : Type 0 where
  pub key : Priority
  pub left : List Forest
  pub table_is : IsTable table left
  pub parts : Parts nodes (root (tree at key idle none none) ∷ (all_roots left ++ others))
  pub kept : (w : ℕ → Priority → ℕ) → w at key + weigh_all w (all_roots left) ≡ weigh_all w (all_roots trees)
  pub first : NoneBefore key trees
  pub counted : Compares (2 * digits (weigh_all one_each (all_roots trees))) before after
