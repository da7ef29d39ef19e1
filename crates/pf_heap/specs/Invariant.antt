-- What holds of every arena.
use Rattle.std.specs.Prelude.{◌≡◌, ℕ, suc, ◌+◌, ◌-◌, ◌^◌, ◌<◌, ◌≤◌, List, [], ◌∷◌, ◌++◌, map, length}
use Rattle.pf_weight.specs.declared.task.TheConstants.{LARGEST_TASK}
use Rattle.pf_order.specs.Priority.{Priority}
use Rattle.pf_heap.specs.declared.node.Node.{Node}
use Rattle.pf_heap.specs.declared.table.Roots.{Roots}
use Rattle.pf_heap.specs.Forest.{Forest, none, tree, idle, head, same, one_each, at_place, Rises}
use Rattle.pf_heap.specs.Memory.{Part, all_roots, weigh_all, Parts}
use Rattle.pf_heap.specs.Table.{IsTable}

abbrev pub AllRise : List Forest → Type 0
AllRise [] = Unit {0}
AllRise (f ∷ fs) = Rises 0 f × AllRise fs

-- node i, if it is there, is in no heap
abbrev pub IsIdle : ℕ → Forest → Type 0
IsIdle i none = Unit {0}
IsIdle i (tree at key rank kids rest) = (at ≡ i) × (rank ≡ idle) × (kids ≡ none) × (rest ≡ none)

-- by their places from i on the nodes that are in no heap
abbrev pub AreIdle : ℕ → List Forest → Type 0
AreIdle i [] = Unit {0}
AreIdle i (f ∷ fs) = IsIdle i f × AreIdle (suc i) fs

-- 1 where the node isn't its key's task
abbrev pub misplaced : ℕ → Priority → ℕ
misplaced at key = 1 - same key.task at

-- all nodes: those of the main heap, those of the others, and those that are in no heap
abbrev pub all_parts : List Forest → List Forest → List Forest → List Part
all_parts trees heaps idles = all_roots trees ++ (all_roots heaps ++ all_roots idles)

-- the heaps and the idle nodes are all nodes, and each key is in its task's node; there is room for 2^63 keys and for
-- those whose nodes are idle at most
pub record IsArena (nodes : List Node) (heads : List ℕ) (main : Roots) (room : ℕ) : Type 0 where
  pub trees : List Forest
  pub heaps : List Forest
  pub idles : List Forest
  pub main_is : IsTable main trees
  pub heads_are : heads ≡ map head heaps
  pub rise : AllRise heaps
  pub idles_are : AreIdle 0 idles
  pub few : length nodes ≤ LARGEST_TASK + 1
  pub as_many : length idles ≡ length nodes
  pub parts : Parts nodes (all_parts trees heaps idles)
  pub filled : (i : ℕ) → i < length nodes → weigh_all (at_place i) (all_parts trees heaps idles) ≡ 1
  pub placed : weigh_all misplaced (all_roots trees) + weigh_all misplaced (all_roots heaps) ≡ 0
  pub room_few : room ≤ 2 ^ 63 + weigh_all one_each (all_roots idles)
