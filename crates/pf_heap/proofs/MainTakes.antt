-- The main heap after a key was taken out of it.
use Rattle.std.proofs.Common.{◌≡◌, ℕ, ◌+◌, ◌*◌, ◌<◌, ◌≤◌, true, List, ◌++◌, length, get_or, refl, sym, ap, ◌∙◌, subst, arith, ⊎_elim}
use Rattle.std.proofs.lemmas.Bool.{cases_lt}
use Rattle.std.proofs.lemmas.List.{get_or_read}
use Rattle.std.specs.FinSet as fin
use Rattle.std.specs.Int.{bit_at}
use Rattle.pf_order.specs.Priority.{Priority}
use Rattle.pf_order.specs.Counts.{Counts}
use Rattle.pf_order.proofs.Comparing.{compares_within}
use Rattle.pf_heap.specs.declared.node.Node.{Node}
use Rattle.pf_heap.specs.declared.table.Roots.{Roots}
use Rattle.pf_heap.specs.Forest.{Forest, none, tree, nowhere, head, forest_weight, at_place, of_key, some, IsTreeOrNone, HasRoot}
use Rattle.pf_heap.specs.Memory.{no_node, node_at, all_roots, weigh_all, Parts}
use Rattle.pf_heap.specs.Split.{HasNode, IsTop}
use Rattle.pf_heap.specs.Taking.{CanTakeFrom, IsTakenFrom, IsFirstTaken}
use Rattle.pf_heap.specs.Keys.{Heaps, all_lists, IsHeld, IsFirst, HasNone, other_keys}
use Rattle.pf_heap.specs.View.{lists_at, side_by_side, main_at}
use Rattle.pf_heap.specs.Digits.{digits}
use Rattle.pf_heap.specs.Invariant.{IsArena, all_parts, misplaced}
use Rattle.pf_heap.proofs.Forests.{same-self, equal_from_same}
use Rattle.pf_heap.proofs.Parents.{node_within, node_weighs}
use Rattle.pf_heap.proofs.Carries.{tree_node}
use Rattle.pf_heap.proofs.Climb.{not_so_high, tree_of}
use Rattle.pf_heap.proofs.Tables.{tree_stands, tree_at, weigh-le-all, bit_of_mask, bit_some}
use Rattle.pf_heap.proofs.Seeking.{IsTreeThere, tree_there}
use Rattle.pf_heap.proofs.Sets.{contains_from_weigh, of_key-self}
use Rattle.pf_heap.proofs.Lists.{some_heap, side_by_side-weight}
use Rattle.pf_heap.proofs.Whole.{small, small_lent, trees_stand, task_weighs, node_there, node_low, now_main, main_len, weigh_from_held}
use Rattle.pf_heap.proofs.Changes.{IsArenaAfter, arena_as}
use Rattle.pf_heap.proofs.Holders.{none_in_main, in_tree_of}
use Rattle.pf_heap.proofs.TakingOut.{main_without, main_others, main_popped, popped_first, popped_low, popped_key}

-- ---- the first key

module _ {nodes : List Node} {heads : List ℕ} {main : Roots} {room : ℕ} (a : IsArena nodes heads main room) {now : Heaps}
    (seen : ◌≡◌ {A = Heaps} (record { main = main_at nodes main; lists = lists_at nodes heads; spare = room; tasks = length nodes }) now)
    {mid : List Node} {table : Roots} {at : ℕ} {before after : Counts}
    (d : IsFirstTaken mid table a.trees (all_roots a.heaps ++ all_roots a.idles) at before after) (long : length mid ≡ length nodes)
    {items : List Node} (written : items ≡ mid) where
  pub popped : IsArenaAfter items heads table (room + 1) (record now { main = fin.remove now.main d.key; spare = now.spare + 1 }) (2 * digits (fin.len now.main)) before after
  popped = arena_as written refl (main_popped a seen d long)

  -- the node's key is the one that was taken
  pub popped_read : {node : Node} → node ≡ get_or items at node → node.key ≡ d.key
  popped_read {node} found =
      ap (λ (n : Node). n.key) (get_or_read items at node (omega (arith, popped_low a seen d long, ap length written)) found no_node ∙ ap (λ ns. node_at ns at) written)
      ∙ popped_key a seen d long

  pub popped_is : {node : Node} → node ≡ get_or items at node → IsFirst now.main node.key
      × ◌≡◌ {A = Heaps} (record { main = main_at items table; lists = lists_at items heads; spare = room + 1; tasks = length items })
      (record now { main = fin.remove now.main node.key; spare = now.spare + 1 })
  popped_is {node} found =
      subst (λ k. IsFirst now.main k
      × ◌≡◌ {A = Heaps} (record { main = main_at items table; lists = lists_at items heads; spare = room + 1; tasks = length items })
      (record now { main = fin.remove now.main k; spare = now.spare + 1 }))
      (sym (popped_read found)) (popped_first a seen d long, popped.view)

-- ---- the key of a task

-- the root of a tree that stands alone
lone_root : (k i : ℕ) (key : Priority) (rank : ℕ) (kids f : Forest) → IsTreeOrNone k f → HasRoot i key rank kids f → (i ≡ head f) × (some f ≡ 1)
lone_root k i key rank kids none t h = absurd h
lone_root k i key rank kids (tree a q r g none) t h = ⊎_elim (λ e. (sym e.0, refl)) (λ m. absurd m) h
lone_root k i key rank kids (tree a q r g (tree a' q' r' g' n')) t h = absurd t

module _ {nodes : List Node} {heads : List ℕ} {main : Roots} {room : ℕ} (a : IsArena nodes heads main room) {now : Heaps}
    (seen : ◌≡◌ {A = Heaps} (record { main = main_at nodes main; lists = lists_at nodes heads; spare = room; tasks = length nodes }) now)
    {t : ℕ} (held : IsHeld (all_lists now) t) where
  held_weighs : 1 ≤ weigh_all (at_place t) (all_roots a.trees) + weigh_all (at_place t) (all_roots a.heaps)
  held_weighs = omega (arith, weigh_from_held a seen t held, task_weighs a t)

  pub held_low : t < length nodes
  held_low = node_low a t held_weighs

  its_node : HasNode nodes t
  its_node = node_there a t held_low held_weighs

  pub node_lent : {lent : List Node} → lent ≡ nodes → HasNode lent t
  node_lent e = subst (λ ns. HasNode ns t) (sym e) its_node

  module _ {lent : List Node} {top : ℕ} (e : lent ≡ nodes) (lent_top : IsTop lent t top) where
    is_top : IsTop nodes t top
    is_top = subst (λ ns. IsTop ns t top) e lent_top

    top_has : 1 ≤ forest_weight (at_place top) its_node.heap
    top_has = is_top.above its_node.heap its_node.parts.stand.0 its_node.has

    pub top_low : top < length nodes
    top_low = node_within nodes nowhere top its_node.heap its_node.parts.stand.0 top_has

    module _ {node : Node} (read : node ≡ get_or nodes top node) where
      node_is : node ≡ node_at nodes top
      node_is = get_or_read nodes top node top_low read no_node

      pub rank_low : node.rank < 16
      rank_low =
          ⊎_elim
          (λ lt. lt)
          (λ ge. absurd (not_so_high nodes top its_node.heap its_node.others (small a) its_node.parts its_node.rises top_has (omega (arith, ge, ap (λ (n : Node). n.rank) node_is))))
          (cases_lt node.rank 16)

      -- the table has the root of each tree of the main heap that the node is in
      root_of_tree : 1 ≤ weigh_all (at_place t) (all_roots a.trees) → (bit_at main.ranks node.rank ≡ 1) × (get_or main.trees node.rank nowhere ≡ top)
      root_of_tree in_main =
          let k = some_heap (at_place t) a.trees in_main in
          let f : Forest = get_or a.trees k.0 none in
          let stands = tree_stands nodes a.trees k.0 (trees_stand a) in
          let alone = tree_at a.trees k.0 a.main_is.by_rank in
          let m = tree_of nodes t top is_top (small a) f stands k.2 in
          let lone = lone_root k.0 top m.key m.rank m.kids f alone m.has_root in
          let n = tree_node nodes k.0 top f lone.0 (λ z. absurd (omega (arith, top_low, small a, z))) alone stands in
          let rank_is : k.0 ≡ node.rank = sym (ap (λ (x : Node). x.rank) node_is ∙ n.1) in
          let bit = bit_of_mask a.trees k.0 ∙ lone.1 in
          subst (λ r. (bit_at main.ranks r ≡ 1) × (get_or main.trees r nowhere ≡ top)) rank_is (
            ap (λ x. bit_at x k.0) a.main_is.ranks ∙ bit,
            a.main_is.links k.0 (bit_some a.trees k.0 bit) ∙ sym lone.0,
          )

      -- where the main heap hasn't this root at its rank, it has no key of the task
      pub not_in_main : ((bit_at main.ranks node.rank ≡ 1) × (get_or main.trees node.rank nowhere ≡ top) → ⊥) → HasNone now.main t
      not_in_main out = none_in_main a seen t (λ in_main. out (root_of_tree in_main))

      module _ (there : (bit_at main.ranks node.rank ≡ 1) × (get_or main.trees node.rank nowhere ≡ top)) where
        pub root_there : IsTreeThere a.trees node.rank top
        root_there = tree_there a.trees node.rank top a.main_is (ap (λ x. bit_at x node.rank) (sym a.main_is.ranks) ∙ there.0) (sym there.1)

        pub rank_place : node.rank < length a.trees
        rank_place = omega (arith, rank_low, a.main_is.long)

        pub node_in_tree : 1 ≤ forest_weight (at_place t) (tree top root_there.key node.rank root_there.kids none)
        node_in_tree =
            subst (λ f. 1 ≤ forest_weight (at_place t) f) root_there.is
            (in_tree_of a seen t top is_top held_weighs node.rank rank_place
            (omega (arith, ap (λ f. forest_weight (at_place top) f) root_there.is, same-self top)))

        abbrev pub can_take_from : {again : List Node} → again ≡ nodes → CanTakeFrom again main node.rank top t
        can_take_from {again} same_nodes = record {
          trees = a.trees;
          others = all_roots a.heaps ++ all_roots a.idles;
          key = root_there.key;
          kids = root_there.kids;
          place = rank_place;
          tree_is = root_there.is;
          has = node_in_tree;
          table_is = a.main_is;
          small = small_lent a same_nodes;
          parts = subst (λ ns. Parts ns (all_parts a.trees a.heaps a.idles)) (sym same_nodes) a.parts;
        }

module _ {nodes : List Node} {heads : List ℕ} {main : Roots} {room : ℕ} (a : IsArena nodes heads main room) {now : Heaps}
    (seen : ◌≡◌ {A = Heaps} (record { main = main_at nodes main; lists = lists_at nodes heads; spare = room; tasks = length nodes }) now)
    {mid : List Node} {table : Roots} {t : ℕ} {before after : Counts}
    (d : IsTakenFrom mid table a.trees (all_roots a.heaps ++ all_roots a.idles) t before after) (long : length mid ≡ length nodes) where
  pub removed : {items : List Node} → items ≡ mid →
      IsArenaAfter items heads table (room + 1) (record now { main = other_keys now.main t; spare = now.spare + 1 }) (2 * digits (fin.len now.main)) before after
  removed written =
      arena_as written refl
      (main_without a seen d.left d.table_is d.parts d.kept long (other_keys now.main t) (main_others a seen d.left d.table_is d.parts d.kept long)
      (compares_within (omega (arith, ap digits (main_len a seen))) d.counted))

  -- the key that the node had
  pub removed_key : {node : Node} → node ≡ get_or nodes t node → (fin.contains now.main node.key ≡ true) × (node.key.task ≡ t)
  removed_key {node} read =
      let k = some_heap (at_place t) a.trees (omega (arith, d.kept (at_place t), same-self t)) in
      let f : Forest = get_or a.trees k.0 none in
      let q : Priority = (node_at nodes t).key in
      let stands = tree_stands nodes a.trees k.0 (trees_stand a) in
      let node_is = get_or_read nodes t node (node_within nodes nowhere t f stands k.2) read no_node in
      subst (λ (p : Priority). (fin.contains now.main p ≡ true) × (p.task ≡ t)) (ap (λ (n : Node). n.key) (sym node_is)) (
        ap (λ s. fin.contains s q) (now_main a seen)
            ∙ contains_from_weigh (side_by_side a.trees) q
            (omega (arith, node_weighs (of_key q) nodes nowhere t f stands k.2, of_key-self q t, weigh-le-all (of_key q) a.trees k.0, side_by_side-weight (of_key q) a.trees)),
        equal_from_same q.task t (omega (arith, node_weighs misplaced nodes nowhere t f stands k.2, weigh-le-all misplaced a.trees k.0, a.placed)),
      )
