-- How many more keys an arena has room for: no more than 2^63, and one for each node that is idle.
use Rattle.std.proofs.Common.{◌≡◌, ℕ, suc, ◌+◌, ◌-◌, ◌^◌, ◌<◌, ◌≤◌, List, [], ◌∷◌, length, get_or, set, ap, arith}
use Rattle.pf_order.specs.Priority.{Priority}
use Rattle.pf_heap.specs.declared.node.Node.{Node}
use Rattle.pf_heap.specs.declared.table.Roots.{Roots}
use Rattle.pf_heap.specs.Forest.{Forest, none, tree, one_each, size}
use Rattle.pf_heap.specs.Memory.{all_roots, weigh_all}
use Rattle.pf_heap.specs.Invariant.{IsArena, IsIdle, AreIdle}
use Rattle.pf_heap.proofs.Tables.{weigh_all-put}
use Rattle.pf_heap.proofs.Takes.{idle_tree}
use Rattle.pf_heap.proofs.Lists.{own_idle}

idle_size : (i : ℕ) (f : Forest) → IsIdle i f → size f ≤ 1
idle_size i none h = omega arith
idle_size i (tree at key rank kids rest) h = omega (arith, ap size h.2, ap size h.3)

-- there is no more than one idle node at each place
pub idles-le-length : (i : ℕ) (fs : List Forest) → AreIdle i fs → weigh_all one_each (all_roots fs) ≤ length fs
idles-le-length i [] h = omega arith
idles-le-length i (f ∷ fs) h = omega (arith, idle_size i f h.0, idles-le-length (suc i) fs h.1)

-- room for one more key is a number of 64 bits
pub room_low : {nodes : List Node} {heads : List ℕ} {main : Roots} {room : ℕ} → IsArena nodes heads main room → room + 1 < 2 ^ 64
room_low a = omega (arith, a.room_few, idles-le-length 0 a.idles a.idles_are, a.as_many, a.few)

-- a key is inserted: its node is not idle then
pub room_used : {room : ℕ} (t : ℕ) (idles : List Forest) → AreIdle 0 idles → t < length idles → room ≤ 2 ^ 63 + weigh_all one_each (all_roots idles) →
    room - 1 ≤ 2 ^ 63 + weigh_all one_each (all_roots (set idles t none))
room_used t idles idle_nodes within few =
    omega (arith, few, weigh_all-put one_each idles t none within, idle_size t (get_or idles t none) (own_idle t idles idle_nodes))

-- a key is taken: its node is idle then
pub room_back : {room : ℕ} (t : ℕ) (key : Priority) (idles : List Forest) → t < length idles → get_or idles t none ≡ none → room ≤ 2 ^ 63 + weigh_all one_each (all_roots idles) →
    room + 1 ≤ 2 ^ 63 + weigh_all one_each (all_roots (set idles t (idle_tree t key)))
room_back t key idles within vacant few = omega (arith, few, weigh_all-put one_each idles t (idle_tree t key) within, ap size vacant)
