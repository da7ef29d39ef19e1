-- Finding the root with the first key of a list of trees, and cutting a root out of it.
use Rattle.std.specs.Prelude.{◌≡◌, ◌≢◌, ℕ, ◌+◌, ◌<◌, ◌≤◌, ◌^◌, ◌⊎◌, true, false, List, ◌∷◌, length}
use Rattle.pf_order.specs.Priority.{Priority, precedes}
use Rattle.pf_order.specs.Counts.{Counts, Compares}
use Rattle.pf_heap.specs.declared.node.Node.{Node}
use Rattle.pf_heap.specs.Forest.{Forest, none, tree, nowhere, head, forest_weight, size, AllBelow, IsBelow, Rises, HasRoot, roots}
use Rattle.pf_heap.specs.Memory.{node_at, Stands, Part, root, Parts}

-- the link is a heap's
pub record HasHeap (nodes : List Node) (link : ℕ) : Type 0 where
  pub heap : Forest
  pub others : List Part
  pub heap_is : link ≡ head heap
  pub rises : Rises 0 heap
  pub small : length nodes < 2 ^ 16
  pub parts : Parts nodes (root heap ∷ others)

-- the node whose key comes first; in a tie x
abbrev pub IsEarlier : List Node → ℕ → ℕ → ℕ → Type 0
IsEarlier nodes x y result =
    ((result ≡ x) × (precedes (node_at nodes y).key (node_at nodes x).key ≡ false))
    ⊎ ((result ≡ y) × (precedes (node_at nodes y).key (node_at nodes x).key ≡ true))

-- the best of the roots that were seen: a key that isn't after it nor after those that are left is after none
pub record IsSeeking (nodes : List Node) (heap : Forest) (best rest_link steps : ℕ) (before after : Counts) : Type 0 where
  pub rest : Forest
  pub rest_is : rest_link ≡ head rest
  pub stands : Stands nodes nowhere rest
  pub rises : Rises steps rest
  pub smaller : size rest ≤ size heap
  pub key : Priority
  pub rank : ℕ
  pub kids : Forest
  pub has : HasRoot best key rank kids heap
  pub into : (i : ℕ) (k : Priority) (r : ℕ) (f : Forest) → HasRoot i k r f rest → HasRoot i k r f heap
  pub closes : (p : Priority) → IsBelow p key → AllBelow p rest → AllBelow p heap
  pub made : ℕ
  pub made_few : made + (roots rest + 1) ≤ roots heap
  pub counted : Compares made before after

-- the root with the first key of the heap
pub record IsLeastRoot (heap : Forest) (at : ℕ) (before after : Counts) : Type 0 where
  pub key : Priority
  pub rank : ℕ
  pub kids : Forest
  pub has : HasRoot at key rank kids heap
  pub least : AllBelow key heap
  pub made : ℕ
  pub made_few : made + 1 ≤ roots heap
  pub counted : Compares made before after

-- the link is a heap's that has this root
pub record HasHeapAndRoot (nodes : List Node) (link at : ℕ) : Type 0 where
  pub heap : Forest
  pub others : List Part
  pub key : Priority
  pub rank : ℕ
  pub kids : Forest
  pub heap_is : link ≡ head heap
  pub has : HasRoot at key rank kids heap
  pub rises : Rises 0 heap
  pub small : length nodes < 2 ^ 16
  pub parts : Parts nodes (root heap ∷ others)

-- root p stands right before root i
abbrev pub IsRightBefore : ℕ → ℕ → Forest → Type 0
IsRightBefore p i none = ⊥
IsRightBefore p i (tree at key rank kids rest) = ((p ≡ at) × (i ≡ head rest)) ⊎ IsRightBefore p i rest

-- a heap's roots are being passed, as far as root `now`: a later one is at `at`
pub record IsPassing (nodes : List Node) (heap : Forest) (at : ℕ) (key : Priority) (rank : ℕ) (kids : Forest) (now steps : ℕ) : Type 0 where
  pub rest : Forest
  pub rest_is : now ≡ head rest
  pub has : HasRoot at key rank kids rest
  pub differ : now ≢ at
  pub stands : Stands nodes nowhere rest
  pub rises : Rises steps rest
  pub smaller : size rest ≤ size heap
  pub into : (p : ℕ) → IsRightBefore p at rest → IsRightBefore p at heap

-- the heap that stays, beside the root that stands alone
pub record IsParted (nodes : List Node) (heap : Forest) (others : List Part) (at : ℕ) (key : Priority) (rank : ℕ) (kids : Forest) (link : ℕ) : Type 0 where
  pub stay : Forest
  pub stay_is : link ≡ head stay
  pub rises : Rises 0 stay
  pub parts : Parts nodes (root stay ∷ root (tree at key rank kids none) ∷ others)
  pub kept : (w : ℕ → Priority → ℕ) → forest_weight w stay + forest_weight w (tree at key rank kids none) ≡ forest_weight w heap
