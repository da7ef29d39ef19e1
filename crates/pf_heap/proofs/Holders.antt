-- The heap that a node is in, and the first key of the main heap.
use Rattle.std.proofs.Common.{◌≡◌, ℕ, zero, suc, ◌+◌, ◌<◌, ◌≤◌, List, [], ◌∷◌, ◌++◌, length, get_or, set, refl, sym, ap, ◌∙◌, subst, arith, ⊎_elim}
use Rattle.std.proofs.lemmas.Bool.{cases_lt, cases_eq}
use Rattle.std.specs.FinSet as fin
use Rattle.pf_order.specs.Priority.{Priority}
use Rattle.pf_heap.specs.declared.node.Node.{Node}
use Rattle.pf_heap.specs.declared.table.Roots.{Roots}
use Rattle.pf_heap.specs.Forest.{Forest, none, tree, forest_weight, at_place, of_task, of_key, AllBelow}
use Rattle.pf_heap.specs.Memory.{all_roots, weigh_all}
use Rattle.pf_heap.specs.Split.{IsTop}
use Rattle.pf_heap.specs.Table.{NoneBefore}
use Rattle.pf_heap.specs.Taking.{CanTake}
use Rattle.pf_heap.specs.Keys.{Heaps, list_of, IsFirst, HasNone}
use Rattle.pf_heap.specs.View.{keys, lists_at, with_trees, side_by_side, main_at}
use Rattle.pf_heap.specs.Invariant.{IsArena, misplaced}
use Rattle.pf_heap.proofs.Sets.{contains_from_weigh, weigh_from_contains, of_key-self, below_in, key-le-task}
use Rattle.pf_heap.proofs.Seeking.{no_trees as no_trees_there}
use Rattle.pf_heap.proofs.Tables.{weigh-le-all, tree_stands}
use Rattle.pf_heap.proofs.Climb.{IsTreeOf}
use Rattle.pf_heap.proofs.Lists.{rises_in, side_by_side-weight, own_task, own_tasks, some_heap, two-le-all}
use Rattle.pf_heap.proofs.Whole.{trees_stand, heaps_stand, all_weigh, small_lent, parts_lent, now_main, list_is, heap_in, link_is}

-- ---- what a node that is taken needs

none_side_by_side : (fs : List Forest) → ((k : ℕ) → get_or fs k none ≡ none) → side_by_side fs ≡ none
none_side_by_side [] h = refl
none_side_by_side (f ∷ fs) h = (λ i. with_trees (h zero i) (side_by_side fs)) ∙ none_side_by_side fs (λ k. h (suc k))

all_below_with : (p : Priority) (f g : Forest) → AllBelow p f → AllBelow p g → AllBelow p (with_trees f g)
all_below_with p none g h i = i
all_below_with p (tree at key rank kids rest) g h i = (h.0, h.1, all_below_with p rest g h.2 i)

all_below_side : (p : Priority) (fs : List Forest) → NoneBefore p fs → AllBelow p (side_by_side fs)
all_below_side p [] h = tt
all_below_side p (f ∷ fs) h = all_below_with p f (side_by_side fs) h.0 (all_below_side p fs h.1)

module _ {nodes : List Node} {heads : List ℕ} {main : Roots} {room : ℕ} (a : IsArena nodes heads main room) {now : Heaps}
    (seen : ◌≡◌ {A = Heaps} (record { main = main_at nodes main; lists = lists_at nodes heads; spare = room; tasks = length nodes }) now) where
  -- the keys of the main heap where it has no rank
  pub main_empty : main.ranks ≡ 0 → now.main ≡ fin.empty
  main_empty e =
      now_main a seen ∙ ap keys (none_side_by_side a.trees (λ k. no_trees_there a.trees k (sym a.main_is.ranks ∙ e)))

  -- the first key of the main heap
  pub main_first : (key : Priority) (at : ℕ) (left : List Forest) → NoneBefore key a.trees → ((w : ℕ → Priority → ℕ) → w at key + weigh_all w (all_roots left) ≡ weigh_all w (all_roots a.trees)) → IsFirst now.main key
  main_first key at left first kept =
      subst (λ s. IsFirst s key) (sym (now_main a seen)) (
        contains_from_weigh (side_by_side a.trees) key (omega (arith, side_by_side-weight (of_key key) a.trees, kept (of_key key), of_key-self key at)),
        λ q c. below_in key q (side_by_side a.trees) (all_below_side key a.trees first) (weigh_from_contains (side_by_side a.trees) q c),
      )

  -- ---- the heap of a node

  -- no key of the task is in a heap that its node isn't in
  pub none_in_heap : (h t : ℕ) → (1 ≤ forest_weight (at_place t) (get_or a.heaps h none) → ⊥) → HasNone (list_of now h) t
  none_in_heap h t out q has task =
      let placed : forest_weight misplaced (get_or a.heaps h none) ≡ 0 = omega (arith, a.placed, weigh-le-all misplaced a.heaps h) in
      let there = weigh_from_contains (get_or a.heaps h none) q (ap (λ s. fin.contains s q) (sym (list_is a seen h)) ∙ has) in
      out (omega (
        arith,
        there,
        key-le-task q (get_or a.heaps h none),
        ap (λ x. forest_weight (of_task x) (get_or a.heaps h none)) task,
        own_task t (get_or a.heaps h none) placed,
      ))

  pub none_in_main : (t : ℕ) → (1 ≤ weigh_all (at_place t) (all_roots a.trees) → ⊥) → HasNone now.main t
  none_in_main t out q has task =
      let there = weigh_from_contains (side_by_side a.trees) q (ap (λ s. fin.contains s q) (sym (now_main a seen)) ∙ has) in
      out (omega (
        arith,
        there,
        key-le-task q (side_by_side a.trees),
        ap (λ x. forest_weight (of_task x) (side_by_side a.trees)) task,
        side_by_side-weight (of_task t) a.trees,
        own_tasks t a.trees (omega (arith, a.placed)),
      ))

  module _ (t top : ℕ) (is_top : IsTop nodes t top) (held : 1 ≤ weigh_all (at_place t) (all_roots a.trees) + weigh_all (at_place t) (all_roots a.heaps)) where
    -- where the root is in a list the node is
    pub in_list : (h : ℕ) → h < length a.heaps → 1 ≤ forest_weight (at_place top) (get_or a.heaps h none) → 1 ≤ forest_weight (at_place t) (get_or a.heaps h none)
    in_list h listed has =
        ⊎_elim
        (λ in_main.
        let k = some_heap (at_place t) a.trees (omega (arith, in_main)) in
        absurd (omega (
          arith,
          is_top.above (get_or a.trees k.0 none) (tree_stands nodes a.trees k.0 (trees_stand a)) k.2,
          weigh-le-all (at_place top) a.trees k.0,
          weigh-le-all (at_place top) a.heaps h,
          a.parts.once top,
          all_weigh a (at_place top),
          has,
        )))
        (λ not_main.
        let k = some_heap (at_place t) a.heaps (omega (arith, held, not_main)) in
        ⊎_elim
        (λ e. subst (λ x. 1 ≤ forest_weight (at_place t) (get_or a.heaps x none)) e k.2)
        (λ differ. absurd (omega (
          arith,
          is_top.above (get_or a.heaps k.0 none) (tree_stands nodes a.heaps k.0 (heaps_stand a)) k.2,
          two-le-all (at_place top) a.heaps k.0 h differ listed,
          a.parts.once top,
          all_weigh a (at_place top),
          has,
        )))
        (cases_eq k.0 h))
        (cases_lt 0 (weigh_all (at_place t) (all_roots a.trees)))

    -- where it is the main heap's root of a rank, the node is in the tree of that rank
    pub in_tree_of : (r : ℕ) → r < length a.trees → 1 ≤ forest_weight (at_place top) (get_or a.trees r none) → 1 ≤ forest_weight (at_place t) (get_or a.trees r none)
    in_tree_of r place has =
        ⊎_elim
        (λ in_main.
        let k = some_heap (at_place t) a.trees (omega (arith, in_main)) in
        ⊎_elim
        (λ e. subst (λ x. 1 ≤ forest_weight (at_place t) (get_or a.trees x none)) e k.2)
        (λ differ. absurd (omega (
          arith,
          is_top.above (get_or a.trees k.0 none) (tree_stands nodes a.trees k.0 (trees_stand a)) k.2,
          two-le-all (at_place top) a.trees k.0 r differ place,
          a.parts.once top,
          all_weigh a (at_place top),
          has,
        )))
        (cases_eq k.0 r))
        (λ not_main.
        let k = some_heap (at_place t) a.heaps (omega (arith, held, not_main)) in
        absurd (omega (
          arith,
          is_top.above (get_or a.heaps k.0 none) (tree_stands nodes a.heaps k.0 (heaps_stand a)) k.2,
          weigh-le-all (at_place top) a.heaps k.0,
          weigh-le-all (at_place top) a.trees r,
          a.parts.once top,
          all_weigh a (at_place top),
          has,
        )))
        (cases_lt 0 (weigh_all (at_place t) (all_roots a.trees)))

  module _ {h index link : ℕ} (is : index ≡ h) (within : h < length now.lists) (read : link ≡ get_or heads index link) {top at : ℕ} (m : IsTreeOf top at (get_or a.heaps h none)) where
    abbrev pub can_take : {lent : List Node} → lent ≡ nodes → CanTake lent link top at
    can_take {lent} e = record {
      heap = get_or a.heaps h none;
      others = all_roots a.trees ++ (all_roots (set a.heaps h none) ++ all_roots a.idles);
      key = m.key;
      rank = m.rank;
      kids = m.kids;
      heap_is = link_is a seen is within read;
      has_root = m.has_root;
      has = m.has;
      rises = rises_in a.heaps h a.rise;
      small = small_lent a e;
      parts = parts_lent a e h (heap_in a seen is within read);
    }
