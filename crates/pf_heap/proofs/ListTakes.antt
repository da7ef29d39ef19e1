-- A key is taken out of a list: that of a task, or the first one.
use Rattle.std.proofs.Common.{◌≡◌, ℕ, suc, ◌+◌, ◌*◌, ◌^◌, ◌<◌, ◌≤◌, Bool, true, false, cond, List, ◌++◌, length, get_or, set, refl, sym, ap, ◌∙◌, subst, arith}
use Rattle.std.specs.Prelude.{◌↔◌, IsTrue}
use Rattle.std.proofs.lemmas.Bool.{both_ways}
use Rattle.std.proofs.lemmas.List.{get_or_read}
use Rattle.std.specs.FinSet as fin
use Rattle.std.specs.Ordering.{eq_by_cmp}
use Rattle.pf_order.specs.Priority.{Priority, key_cmp}
use Rattle.pf_order.specs.Counts.{Counts, Compares}
use Rattle.pf_heap.specs.declared.node.Node.{Node}
use Rattle.pf_heap.specs.declared.table.Roots.{Roots}
use Rattle.pf_heap.specs.Forest.{Forest, none, tree, nowhere, forest_weight, at_place, of_key, HasRoot}
use Rattle.pf_heap.specs.Memory.{no_node, node_at, Stands, all_roots, weigh_all}
use Rattle.pf_heap.specs.Split.{HasNode, IsTop}
use Rattle.pf_heap.specs.Pops.{HasHeap}
use Rattle.pf_heap.specs.Taking.{IsTaken}
use Rattle.pf_heap.specs.Digits.{digits}
use Rattle.pf_heap.specs.Keys.{Heaps, list_of, with_list, all_lists, IsHeld, HasNone, other_keys}
use Rattle.pf_heap.specs.View.{lists_at, main_at}
use Rattle.pf_heap.specs.Invariant.{IsArena}
use Rattle.pf_order.proofs.Comparing.{compares_within, compares_both}
use Rattle.pf_heap.proofs.Forests.{same-self}
use Rattle.pf_heap.proofs.Sets.{key_alike, tied_keys, contains_from_weigh, of_key-self}
use Rattle.pf_heap.proofs.Tables.{tree_stands}
use Rattle.pf_heap.proofs.Climb.{IsTreeOf, tree_of}
use Rattle.pf_heap.proofs.Whole.{small, heaps_stand, in_heaps, node_there, list_is, len_is, node_from_held, heap_in, has_heap}
use Rattle.pf_heap.proofs.Changes.{IsArenaAfter}
use Rattle.pf_heap.proofs.Holders.{none_in_heap, in_list}
use Rattle.pf_heap.proofs.TakingOut.{list_without, list_others, list_removed, out_task}

-- ---- a node's key

-- 1 where the node there has another key
other_key : List Node → ℕ → Priority → ℕ
other_key nodes at key = cond (eq_by_cmp key_cmp (node_at nodes at).key key) 0 1

own_keys : (nodes : List Node) (up : ℕ) (f : Forest) → Stands nodes up f → forest_weight (other_key nodes) f ≡ 0
unfolding other_key
own_keys nodes up none s = refl
own_keys nodes up (tree at key rank kids rest) s =
    let here : other_key nodes at key ≡ 0 =
    ap (λ b. let n : ℕ = cond b 0 1 in n) (ap (λ (n : Node). eq_by_cmp key_cmp n.key key) s.1 ∙ key_alike key) in
    omega (arith, here, own_keys nodes at kids s.2, own_keys nodes up rest s.3)

key_from_weight : (nodes : List Node) (at : ℕ) (key : Priority) → other_key nodes at key ≡ 0 → (node_at nodes at).key ≡ key
unfolding other_key
key_from_weight nodes at key h =
    elim (eq_by_cmp key_cmp (node_at nodes at).key key) as (λ b. eq_by_cmp key_cmp (node_at nodes at).key key ≡ b → cond b 0 1 ≤ 0 → (node_at nodes at).key ≡ key) [
      | true ↦ λ e z. tied_keys (node_at nodes at).key key e
      | false ↦ λ e z. absurd (omega (arith, z))
    ] refl (omega (arith, h))

-- the key that is taken out of a forest is the one in its node
pub taken_key : (nodes : List Node) (up at : ℕ) (key : Priority) (f left : Forest) → Stands nodes up f →
    ((w : ℕ → Priority → ℕ) → w at key + forest_weight w left ≡ forest_weight w f) → (node_at nodes at).key ≡ key
taken_key nodes up at key f left s kept =
    key_from_weight nodes at key (omega (arith, kept (other_key nodes), own_keys nodes up f s))

-- a root's tree has its own node
pub own_tree : (at : ℕ) (key : Priority) (rank : ℕ) (kids f : Forest) → HasRoot at key rank kids f → IsTreeOf at at f
own_tree at key rank kids f has = record { key = key; rank = rank; kids = kids; has_root = has; has = omega (arith, same-self at) }

-- ---- the key of a task

-- a list has no key of a task that none has
pub none_unheld : (now : Heaps) (h t : ℕ) → (IsHeld (all_lists now) t → ⊥) → h < length now.lists → HasNone (list_of now h) t
none_unheld now h t unheld within q has task =
    unheld (record { list = suc h; key = q; listed = omega (arith, within); has = has; of_task = task })

module _ {nodes : List Node} {heads : List ℕ} {main : Roots} {room : ℕ} (a : IsArena nodes heads main room) {now : Heaps}
    (seen : ◌≡◌ {A = Heaps} (record { main = main_at nodes main; lists = lists_at nodes heads; spare = room; tasks = length nodes }) now) where
  module _ {t : ℕ} (held : IsHeld (all_lists now) t) where
    pub held_low : t < length nodes
    held_low = (node_from_held a seen t held).0

    pub held_small : t < 2 ^ 16
    held_small = omega (arith, held_low, small a)

    pub held_in : 1 ≤ weigh_all (at_place t) (all_roots a.trees) + weigh_all (at_place t) (all_roots a.heaps)
    held_in = in_heaps a t held_low (node_from_held a seen t held).1

    pub held_node : {lent : List Node} → lent ≡ nodes → HasNode lent t
    held_node e = subst (λ ns. HasNode ns t) (sym e) (node_there a t held_low held_in)

    module _ {h index link : ℕ} (is : index ≡ h) (within : h < length now.lists) (read : link ≡ get_or heads index link) {top : ℕ} {lent : List Node} (e : lent ≡ nodes)
        (is_top : IsTop lent t top) {rented : List Node} (f : rented ≡ nodes) {found : Bool} (has_root : (can : HasHeap rented link) → IsTrue found ↔ (1 ≤ forest_weight (at_place top) can.heap)) where
      top_here : IsTop nodes t top
      top_here = subst (λ ns. IsTop ns t top) e is_top

      heap_stands : Stands nodes nowhere (get_or a.heaps h none)
      heap_stands = tree_stands nodes a.heaps h (heaps_stand a)

      root_in : IsTrue found ↔ (1 ≤ forest_weight (at_place top) (get_or a.heaps h none))
      root_in = has_root (has_heap a seen is within read f)

      -- where the list doesn't have the root above the node
      pub none_without_root : found ≡ false → HasNone (list_of now h) t
      none_without_root miss =
          none_in_heap a seen h t (λ has. both_ways found miss (root_in.1 (top_here.above (get_or a.heaps h none) heap_stands has)))

      -- and where it does
      pub tree_found : found ≡ true → IsTreeOf top t (get_or a.heaps h none)
      tree_found hit =
          tree_of nodes t top top_here (small a) (get_or a.heaps h none) heap_stands
          (in_list a seen t top top_here held_in h (heap_in a seen is within read) (root_in.0 hit))

  -- ---- what is left

  module _ {h index : ℕ} (is : index ≡ h) (listed : h < length a.heaps) {mid : List Node} {at link : ℕ} {before after : Counts}
      (d : IsTaken mid (get_or a.heaps h none) (all_roots a.trees ++ (all_roots (set a.heaps h none) ++ all_roots a.idles)) at link before after) (long : length mid ≡ length nodes) where
    -- the key that was read before
    pub read_key : {node : Node} → at < length nodes → node ≡ get_or nodes at node → node.key ≡ d.key
    read_key {node} low found =
        ap (λ (n : Node). n.key) (get_or_read nodes at node low found no_node)
        ∙ taken_key nodes nowhere at d.key (get_or a.heaps h none) d.left (tree_stands nodes a.heaps h (heaps_stand a)) d.kept

    pub had_key : fin.contains (list_of now h) d.key ≡ true
    had_key =
        ap (λ s. fin.contains s d.key) (list_is a seen h)
        ∙ contains_from_weigh (get_or a.heaps h none) d.key (omega (arith, d.kept (of_key d.key), of_key-self d.key at))

    pub task_removed : IsArenaAfter mid (set heads h link) main (room + 1)
        (record (with_list now h (other_keys (list_of now h) at)) { spare = now.spare + 1 }) (2 * digits (fin.len (list_of now h))) before after
    task_removed =
        list_without a seen is listed d long (other_keys (list_of now h) at) (list_others a seen is listed d long)
        (compares_within (omega (arith, ap digits (len_is a seen h))) d.counted)

    pub first_removed : {start : Counts} (key : Priority) → key ≡ d.key → Compares (digits (fin.len (list_of now h))) start before →
        IsArenaAfter mid (set heads h link) main (room + 1)
        (record (with_list now h (fin.remove (list_of now h) key)) { spare = now.spare + 1 }) (2 * digits (fin.len (list_of now h))) start after
    first_removed key is_its counted =
        list_without a seen is listed d long (fin.remove (list_of now h) key)
        (list_removed a seen is listed d long ∙ ap (λ q. fin.remove (list_of now h) q) (sym is_its))
        (compares_within (omega (arith, ap digits (len_is a seen h))) (compares_both counted d.counted))

    pub key_removed : {node : Node} → at < length nodes → node ≡ get_or nodes at node → (fin.contains (list_of now h) node.key ≡ true) × (node.key.task ≡ at)
    key_removed low found =
        let k = read_key low found in
        (ap (λ q. fin.contains (list_of now h) q) k ∙ had_key, ap (λ (q : Priority). q.task) k ∙ out_task a seen is listed d long)
