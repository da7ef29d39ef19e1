-- What a change leaves of an arena.
use Rattle.std.proofs.Common.{◌≡◌, ℕ, ◌+◌, ◌^◌, ◌<◌, ◌≤◌, List, ◌∷◌, ◌++◌, map, length, get_or, set, refl, sym, ap, ◌∙◌, subst, arith}
use Rattle.std.proofs.lemmas.List.{set-set}
use Rattle.pf_order.specs.Priority.{Priority}
use Rattle.pf_order.specs.Counts.{Counts, Compares}
use Rattle.pf_heap.specs.declared.node.Node.{Node}
use Rattle.pf_heap.specs.declared.table.Roots.{Roots}
use Rattle.pf_heap.specs.Forest.{Forest, none, tree, single, nowhere, head, forest_weight, same, one_each, at_place}
use Rattle.pf_heap.specs.Memory.{root, all_roots, weigh_all, StandAll, Parts}
use Rattle.pf_heap.specs.Table.{IsTable}
use Rattle.pf_heap.specs.Keys.{Heaps}
use Rattle.pf_heap.specs.View.{lists_at, main_at}
use Rattle.pf_heap.specs.Invariant.{IsArena, AllRise, IsIdle, AreIdle, all_parts, misplaced}
use Rattle.pf_heap.proofs.Forests.{same-self}
use Rattle.pf_heap.proofs.Tables.{weigh_all-append, weigh_all-put, stand_append, stand_front, stand_back, put_stands}
use Rattle.pf_heap.proofs.Takes.{idle_tree, alone_parts}
use Rattle.pf_heap.proofs.Lists.{idle_weight}

-- an arena that stands for these heaps, after so many comparisons at most
pub record IsArenaAfter (nodes : List Node) (heads : List ℕ) (main : Roots) (room : ℕ) (heaps : Heaps) (made : ℕ) (before after : Counts) : Type 0 where
  pub arena : IsArena nodes heads main room
  pub view : ◌≡◌ {A = Heaps} (record { main = main_at nodes main; lists = lists_at nodes heads; spare = room; tasks = length nodes }) heaps
  pub counted : Compares made before after

-- the same, as the code has the lists
pub arena_as : {nodes items : List Node} {heads links : List ℕ} {main : Roots} {room made : ℕ} {heaps : Heaps} {before after : Counts} →
    items ≡ nodes → links ≡ heads → IsArenaAfter nodes heads main room heaps made before after → IsArenaAfter items links main room heaps made before after
arena_as {main = main} {room = room} {made = made} {heaps = heaps} {before = before} {after = after} e f a =
    subst (λ (l : List Node × List ℕ). IsArenaAfter l.0 l.1 main room heaps made before after) (λ i. (sym e i, sym f i)) a

-- ---- what a change leaves

-- the heaps were changed and no node was lost
module _ {nodes : List Node} {heads : List ℕ} {main : Roots} {room : ℕ} (a : IsArena nodes heads main room) where
  -- parts by groups
  pub grouped : (w : ℕ → Priority → ℕ) (trees heaps idles : List Forest) → weigh_all w (all_parts trees heaps idles) ≡ weigh_all w (all_roots trees) + (weigh_all w (all_roots heaps) + weigh_all w (all_roots idles))
  grouped w trees heaps idles =
      omega (
        arith,
        weigh_all-append w (all_roots trees) (all_roots heaps ++ all_roots idles),
        weigh_all-append w (all_roots heaps) (all_roots idles),
      )

  unfoldable pub rebuilt : {newer : List Node} {links : List ℕ} {table : Roots} {spare : ℕ} (trees heaps idles : List Forest) → length newer ≡ length nodes → IsTable table trees → links ≡ map head heaps → AllRise heaps → AreIdle 0 idles →
      length idles ≡ length a.idles → Parts newer (all_parts trees heaps idles) →
      ((i : ℕ) → weigh_all (at_place i) (all_parts trees heaps idles) ≡ weigh_all (at_place i) (all_parts a.trees a.heaps a.idles)) →
      weigh_all misplaced (all_roots trees) + weigh_all misplaced (all_roots heaps) ≡ 0 → spare ≤ 2 ^ 63 + weigh_all one_each (all_roots idles) → IsArena newer links table spare
  rebuilt trees heaps idles long table_is heads_are rise idle_nodes same_idles parts conserved placed room_few = record {
    trees = trees;
    heaps = heaps;
    idles = idles;
    main_is = table_is;
    heads_are = heads_are;
    rise = rise;
    idles_are = idle_nodes;
    few = omega (arith, a.few, long);
    as_many = omega (arith, a.as_many, long, same_idles);
    parts = parts;
    filled = λ i within. conserved i ∙ a.filled i (omega (arith, within, long));
    placed = placed;
    room_few = room_few;
  }

-- a heap is back among the others
pub heap_back : {nodes : List Node} (trees heaps idles : List Forest) (h : ℕ) (f : Forest) → h < length heaps →
    Parts nodes (root f ∷ (all_roots trees ++ (all_roots (set heaps h none) ++ all_roots idles))) → Parts nodes (all_parts trees (set heaps h f) idles)
heap_back {nodes} trees heaps idles h f within parts =
    let t = stand_front nodes (all_roots trees) (all_roots (set heaps h none) ++ all_roots idles) parts.stand.1 in
    let r = stand_back nodes (all_roots trees) (all_roots (set heaps h none) ++ all_roots idles) parts.stand.1 in
    let others = stand_front nodes (all_roots (set heaps h none)) (all_roots idles) r in
    let i = stand_back nodes (all_roots (set heaps h none)) (all_roots idles) r in
    record {
      stand = stand_append nodes (all_roots trees) (all_roots (set heaps h f) ++ all_roots idles) t
          (stand_append nodes (all_roots (set heaps h f)) (all_roots idles)
          (subst (λ l. StandAll nodes (all_roots l)) (set-set heaps h none f) (put_stands nodes (set heaps h none) h f others parts.stand.0)) i);
      once = λ j. omega (
        arith,
        parts.once j,
        weigh_all-append (at_place j) (all_roots trees) (all_roots (set heaps h none) ++ all_roots idles),
        weigh_all-append (at_place j) (all_roots (set heaps h none)) (all_roots idles),
        weigh_all-append (at_place j) (all_roots trees) (all_roots (set heaps h f) ++ all_roots idles),
        weigh_all-append (at_place j) (all_roots (set heaps h f)) (all_roots idles),
        weigh_all-put (at_place j) heaps h none within,
        weigh_all-put (at_place j) heaps h f within,
      );
    }

-- ---- a node goes out of the idle ones, and back

abbrev pub fresh : Priority → Node
fresh key = record { key = key; parent = nowhere; child = nowhere; sibling = nowhere; rank = 0 }

-- the idle nodes without one, and with one more
pub idle_out : {nodes : List Node} (trees heaps idles : List Forest) (t : ℕ) (key : Priority) → AreIdle 0 idles → t < length nodes → t < length idles → Parts nodes (all_parts trees heaps idles) →
    weigh_all (at_place t) (all_roots trees) + weigh_all (at_place t) (all_roots heaps) ≡ 0 → Parts (set nodes t (fresh key)) (root (single t key) ∷ all_parts trees heaps (set idles t none))
idle_out {nodes} trees heaps idles t key idle_nodes within listed parts unheld =
    let f = stand_front nodes (all_roots trees) (all_roots heaps ++ all_roots idles) parts.stand in
    let r = stand_back nodes (all_roots trees) (all_roots heaps ++ all_roots idles) parts.stand in
    let h = stand_front nodes (all_roots heaps) (all_roots idles) r in
    let i = stand_back nodes (all_roots heaps) (all_roots idles) r in
    let whole : (j : ℕ) → weigh_all (at_place j) (all_parts trees heaps (set idles t none)) + forest_weight (at_place j) (get_or idles t none) ≡ weigh_all (at_place j) (all_parts trees heaps idles) =
    λ j. omega (
      arith,
      weigh_all-append (at_place j) (all_roots trees) (all_roots heaps ++ all_roots idles),
      weigh_all-append (at_place j) (all_roots heaps) (all_roots idles),
      weigh_all-append (at_place j) (all_roots trees) (all_roots heaps ++ all_roots (set idles t none)),
      weigh_all-append (at_place j) (all_roots heaps) (all_roots (set idles t none)),
      weigh_all-put (at_place j) idles t none listed,
    ) in
    let none_of_it : weigh_all (at_place t) (all_parts trees heaps (set idles t none)) ≡ 0 =
    omega (
      arith,
      unheld,
      weigh_all-append (at_place t) (all_roots trees) (all_roots heaps ++ all_roots (set idles t none)),
      weigh_all-append (at_place t) (all_roots heaps) (all_roots (set idles t none)),
      weigh_all-put (at_place t) idles t none listed,
      idle_weight t idles idle_nodes,
    ) in
    alone_parts nodes t (fresh key) key 0 (all_parts trees heaps (set idles t none)) within none_of_it refl
    (λ j. omega (arith, whole j, parts.once j))
    (stand_append nodes (all_roots trees) (all_roots heaps ++ all_roots (set idles t none)) f
    (stand_append nodes (all_roots heaps) (all_roots (set idles t none)) h (put_stands nodes idles t none i tt)))

pub idle_in : {nodes : List Node} (trees heaps idles : List Forest) (t : ℕ) (key : Priority) → t < length idles → get_or idles t none ≡ none →
    Parts nodes (root (idle_tree t key) ∷ all_parts trees heaps idles) → Parts nodes (all_parts trees heaps (set idles t (idle_tree t key)))
idle_in {nodes} trees heaps idles t key listed vacant parts =
    let f = stand_front nodes (all_roots trees) (all_roots heaps ++ all_roots idles) parts.stand.1 in
    let r = stand_back nodes (all_roots trees) (all_roots heaps ++ all_roots idles) parts.stand.1 in
    let h = stand_front nodes (all_roots heaps) (all_roots idles) r in
    let i = stand_back nodes (all_roots heaps) (all_roots idles) r in
    record {
      stand = stand_append nodes (all_roots trees) (all_roots heaps ++ all_roots (set idles t (idle_tree t key))) f
          (stand_append nodes (all_roots heaps) (all_roots (set idles t (idle_tree t key))) h (put_stands nodes idles t (idle_tree t key) i parts.stand.0));
      once = λ j. omega (
        arith,
        parts.once j,
        weigh_all-append (at_place j) (all_roots trees) (all_roots heaps ++ all_roots idles),
        weigh_all-append (at_place j) (all_roots heaps) (all_roots idles),
        weigh_all-append (at_place j) (all_roots trees) (all_roots heaps ++ all_roots (set idles t (idle_tree t key))),
        weigh_all-append (at_place j) (all_roots heaps) (all_roots (set idles t (idle_tree t key))),
        weigh_all-put (at_place j) idles t (idle_tree t key) listed,
        ap (λ g. forest_weight (at_place j) g) vacant,
      );
    }

-- where a node is in a heap, none is idle at its place
pub not_idle : (t : ℕ) (f : Forest) → IsIdle t f → forest_weight (at_place t) f ≡ 0 → f ≡ none
not_idle t none h e = refl
not_idle t (tree at key rank kids rest) h e = absurd (omega (arith, e, same-self t, ap (λ x. same t x) h.0))

pub idle_elsewhere : (i t : ℕ) (f : Forest) → IsIdle t f → same i t ≡ 0 → forest_weight (at_place i) f ≡ 0
idle_elsewhere i t none h e = refl
idle_elsewhere i t (tree at key rank kids rest) h e =
    omega (
      arith,
      e,
      ap (λ x. same i x) h.0,
      ap (λ g. forest_weight (at_place i) g) h.2,
      ap (λ g. forest_weight (at_place i) g) h.3,
    )
