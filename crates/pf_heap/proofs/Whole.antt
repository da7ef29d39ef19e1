-- Arenas: what the view says of the forests, and what the heaps hold.
use Rattle.std.proofs.Common.{◌≡◌, ◌≢◌, ℕ, zero, suc, ◌+◌, ◌-◌, ◌^◌, ◌<◌, ◌≤◌, true, false, List, ◌∷◌, ◌++◌, map, length, get_or, set, refl, sym, ap, ◌∙◌, subst, arith, ⊎_elim}
use Rattle.std.proofs.lemmas.Bool.{cases_lt, cases_eq}
use Rattle.std.proofs.lemmas.List.{get_or_read, get_or_past}
use Rattle.std.specs.FinSet as fin
use Rattle.std.specs.Ordering.{eq_by_cmp}
use Rattle.pf_order.specs.Priority.{Priority, key_cmp}
use Rattle.pf_order.specs.Counts.{Counts, Compares}
use Rattle.pf_heap.specs.declared.node.Node.{Node}
use Rattle.pf_heap.specs.declared.table.Roots.{Roots}
use Rattle.pf_heap.specs.Forest.{Forest, none, tree, nowhere, idle, head, forest_weight, one_each, at_place, of_task, of_key, size, roots, Rises, IsTreeOrNone}
use Rattle.pf_heap.specs.Memory.{no_node, node_at, root, all_roots, weigh_all, StandAll, Parts}
use Rattle.pf_heap.specs.Pops.{HasHeap, IsLeastRoot}
use Rattle.pf_heap.specs.Split.{HasNode}
use Rattle.pf_heap.specs.Keys.{Heaps, list_of, all_lists, IsHeld, IsFirst, EachTaskOnce}
use Rattle.pf_heap.specs.View.{keys, lists_at, side_by_side, main_at}
use Rattle.pf_heap.specs.Digits.{digits}
use Rattle.pf_heap.specs.Invariant.{IsArena, all_parts}
use Rattle.pf_order.proofs.Comparing.{compares_within}
use Rattle.pf_heap.proofs.Standing.{none_from_link}
use Rattle.pf_heap.proofs.Pops.{roots_paid, root_weighs, root_stands, IsRootNode}
use Rattle.pf_heap.proofs.Climb.{not_so_high}
use Rattle.pf_heap.proofs.Parents.{node_within}
use Rattle.pf_heap.proofs.Views.{lists_at-heads, main_at-trees}
use Rattle.pf_heap.proofs.Sets.{len-keys, weigh_from_contains, contains_from_weigh, below_in, tied_keys, key_of_task, of_key-self, key-le-task, two-le-task}
use Rattle.pf_heap.proofs.Digits.{below-digits}
use Rattle.pf_heap.proofs.Tables.{weigh_all-append, weigh_all-put, weigh-le-all, stand_append, stand_front, stand_back, tree_stands, put_stands, tree_out, tree_at}
use Rattle.pf_heap.proofs.Lists.{get_or-map_at, length-map_at, rises_in, some_heap, two-le-all, side_by_side-weight, own_tasks, own_idle, idle_weight, idle_rank}

some_head : (nodes : List Node) (heads : List ℕ) (heaps : List Forest) (h x : ℕ) → heads ≡ map head heaps → h < length heaps → x ≡ get_or heads h x → x ≡ head (get_or heaps h none)
some_head nodes heads heaps h x heads_are within read =
    get_or_read heads h x (omega (arith, ap length heads_are, length-map_at head heaps)) read nowhere
    ∙ ap (λ l. get_or l h nowhere) heads_are ∙ get_or-map_at head heaps h none

-- a heap beside all others
pub heap_apart : {nodes : List Node} (trees heaps idles : List Forest) (h : ℕ) → h < length heaps → Parts nodes (all_parts trees heaps idles) →
    Parts nodes (root (get_or heaps h none) ∷ (all_roots trees ++ (all_roots (set heaps h none) ++ all_roots idles)))
heap_apart {nodes} trees heaps idles h within parts =
    let t = stand_front nodes (all_roots trees) (all_roots heaps ++ all_roots idles) parts.stand in
    let r = stand_back nodes (all_roots trees) (all_roots heaps ++ all_roots idles) parts.stand in
    let f = stand_front nodes (all_roots heaps) (all_roots idles) r in
    let i = stand_back nodes (all_roots heaps) (all_roots idles) r in
    record {
      stand = (
        tree_stands nodes heaps h f,
        stand_append nodes (all_roots trees) (all_roots (set heaps h none) ++ all_roots idles) t
            (stand_append nodes (all_roots (set heaps h none)) (all_roots idles) (put_stands nodes heaps h none f tt) i),
      );
      once = λ j. omega (
        arith,
        parts.once j,
        weigh_all-append (at_place j) (all_roots trees) (all_roots heaps ++ all_roots idles),
        weigh_all-append (at_place j) (all_roots heaps) (all_roots idles),
        weigh_all-append (at_place j) (all_roots trees) (all_roots (set heaps h none) ++ all_roots idles),
        weigh_all-append (at_place j) (all_roots (set heaps h none)) (all_roots idles),
        weigh_all-put (at_place j) heaps h none within,
      );
    }

-- a tree is a list that rises
tree_rises : (k : ℕ) (f : Forest) → IsTreeOrNone k f → Rises 0 f
tree_rises k none h = tt
tree_rises k (tree at key rank kids none) h = (omega arith, h.1, tt)
tree_rises k (tree at key rank kids (tree at' key' rank' kids' rest')) h = absurd h

-- all heaps as forests, the main one first
abbrev pub all_forests : {nodes : List Node} {heads : List ℕ} {main : Roots} {room : ℕ} → IsArena nodes heads main room → List Forest
all_forests a = side_by_side a.trees ∷ a.heaps

-- what a view says of the forests
module _ {nodes : List Node} {heads : List ℕ} {main : Roots} {room : ℕ} (a : IsArena nodes heads main room) where
  pub small : length nodes < 2 ^ 16
  small = omega (arith, a.few)

  pub trees_stand : StandAll nodes (all_roots a.trees)
  trees_stand = stand_front nodes (all_roots a.trees) (all_roots a.heaps ++ all_roots a.idles) a.parts.stand

  heaps_idles_stand : StandAll nodes (all_roots a.heaps ++ all_roots a.idles)
  heaps_idles_stand = stand_back nodes (all_roots a.trees) (all_roots a.heaps ++ all_roots a.idles) a.parts.stand

  pub heaps_stand : StandAll nodes (all_roots a.heaps)
  heaps_stand = stand_front nodes (all_roots a.heaps) (all_roots a.idles) heaps_idles_stand

  pub idles_stand : StandAll nodes (all_roots a.idles)
  idles_stand = stand_back nodes (all_roots a.heaps) (all_roots a.idles) heaps_idles_stand

  pub all_weigh : (w : ℕ → Priority → ℕ) → weigh_all w (all_parts a.trees a.heaps a.idles) ≡ weigh_all w (all_roots a.trees) + (weigh_all w (all_roots a.heaps) + weigh_all w (all_roots a.idles))
  all_weigh w =
      omega (
        arith,
        weigh_all-append w (all_roots a.trees) (all_roots a.heaps ++ all_roots a.idles),
        weigh_all-append w (all_roots a.heaps) (all_roots a.idles),
      )

  pub forests_weigh : (w : ℕ → Priority → ℕ) → weigh_all w (all_roots (all_forests a)) ≡ weigh_all w (all_roots a.trees) + weigh_all w (all_roots a.heaps)
  forests_weigh w = omega (arith, side_by_side-weight w a.trees)

  pub lists_are : lists_at nodes heads ≡ map keys a.heaps
  lists_are = lists_at-heads nodes heads a.heaps small a.heads_are (record { stand = heaps_stand; once = λ i. omega (arith, a.parts.once i, all_weigh (at_place i)) })

  pub main_is_keys : main_at nodes main ≡ keys (side_by_side a.trees)
  main_is_keys = main_at-trees nodes main a.trees small a.main_is (record { stand = trees_stand; once = λ i. omega (arith, a.parts.once i, all_weigh (at_place i)) })

  -- of a task as many keys are held as its node is in heaps
  pub task_weighs : (t : ℕ) → weigh_all (of_task t) (all_roots (all_forests a)) ≡ weigh_all (at_place t) (all_roots a.trees) + weigh_all (at_place t) (all_roots a.heaps)
  task_weighs t = omega (arith, forests_weigh (of_task t), own_tasks t a.trees (omega (arith, a.placed)), own_tasks t a.heaps (omega (arith, a.placed)))

  pub held_once : (t : ℕ) → weigh_all (of_task t) (all_roots (all_forests a)) ≤ 1
  held_once t = omega (arith, task_weighs t, a.parts.once t, all_weigh (at_place t))

  pub heap_once : (h t : ℕ) → forest_weight (of_task t) (get_or (all_forests a) h none) ≤ 1
  heap_once h t = omega (arith, held_once t, weigh-le-all (of_task t) (all_forests a) h)

  -- the nodes may be lent as a slice
  module _ {lent : List Node} (e : lent ≡ nodes) where
    pub small_lent : length lent < 2 ^ 16
    small_lent = omega (arith, ap length e, small)

    pub parts_lent : (h : ℕ) → h < length a.heaps → Parts lent (root (get_or a.heaps h none) ∷ (all_roots a.trees ++ (all_roots (set a.heaps h none) ++ all_roots a.idles)))
    parts_lent h within =
        subst (λ ns. Parts ns (root (get_or a.heaps h none) ∷ (all_roots a.trees ++ (all_roots (set a.heaps h none) ++ all_roots a.idles)))) (sym e)
        (heap_apart a.trees a.heaps a.idles h within a.parts)

  -- ---- a task's node

  module _ (t : ℕ) (within : t < length nodes) where
    in_all : weigh_all (at_place t) (all_roots a.trees) + (weigh_all (at_place t) (all_roots a.heaps) + weigh_all (at_place t) (all_roots a.idles)) ≡ 1
    in_all = omega (arith, a.filled t within, all_weigh (at_place t))

    -- a node that isn't idle is in some heap
    pub in_heaps : (node_at nodes t).rank ≢ idle → 1 ≤ weigh_all (at_place t) (all_roots a.trees) + weigh_all (at_place t) (all_roots a.heaps)
    in_heaps busy =
        ⊎_elim
        (λ there. absurd (busy (idle_rank nodes t (get_or a.idles t none) (own_idle t a.idles a.idles_are) (tree_stands nodes a.idles t idles_stand) (omega (arith, there, idle_weight t a.idles a.idles_are)))))
        (λ nowhere_idle. omega (arith, in_all, nowhere_idle))
        (cases_lt 0 (weigh_all (at_place t) (all_roots a.idles)))

    -- the heap, or the tree of the main heap, that a node is in
    pub node_there : 1 ≤ weigh_all (at_place t) (all_roots a.trees) + weigh_all (at_place t) (all_roots a.heaps) → HasNode nodes t
    node_there has =
        ⊎_elim
        (λ in_main.
        let k = some_heap (at_place t) a.trees (omega (arith, in_main)) in
        record {
          heap = get_or a.trees k.0 none;
          others = all_roots (set a.trees k.0 none) ++ (all_roots a.heaps ++ all_roots a.idles);
          has = k.2;
          rises = tree_rises k.0 (get_or a.trees k.0 none) (tree_at a.trees k.0 a.main_is.by_rank);
          small = small;
          parts = tree_out a.trees k.0 k.1 (all_roots a.heaps ++ all_roots a.idles) a.parts;
        })
        (λ not_main.
        let k = some_heap (at_place t) a.heaps (omega (arith, has, not_main)) in
        record {
          heap = get_or a.heaps k.0 none;
          others = all_roots a.trees ++ (all_roots (set a.heaps k.0 none) ++ all_roots a.idles);
          has = k.2;
          rises = rises_in a.heaps k.0 a.rise;
          small = small;
          parts = heap_apart a.trees a.heaps a.idles k.0 k.1 a.parts;
        })
        (cases_lt 0 (weigh_all (at_place t) (all_roots a.trees)))

    busy_in : 1 ≤ weigh_all (at_place t) (all_roots a.trees) + weigh_all (at_place t) (all_roots a.heaps) → (node_at nodes t).rank ≢ idle
    busy_in has is =
        let n = node_there has in
        not_so_high nodes t n.heap n.others small n.parts n.rises n.has (omega (arith, is))

  -- a node that is in heaps is there
  pub node_low : (t : ℕ) → 1 ≤ weigh_all (at_place t) (all_roots a.trees) + weigh_all (at_place t) (all_roots a.heaps) → t < length nodes
  node_low t has =
      ⊎_elim
      (λ in_main.
      let k = some_heap (at_place t) a.trees (omega (arith, in_main)) in
      node_within nodes nowhere t (get_or a.trees k.0 none) (tree_stands nodes a.trees k.0 trees_stand) k.2)
      (λ not_main.
      let k = some_heap (at_place t) a.heaps (omega (arith, has, not_main)) in
      node_within nodes nowhere t (get_or a.heaps k.0 none) (tree_stands nodes a.heaps k.0 heaps_stand) k.2)
      (cases_lt 0 (weigh_all (at_place t) (all_roots a.trees)))

  -- ---- the view

  module _ {now : Heaps} (seen : ◌≡◌ {A = Heaps} (record { main = main_at nodes main; lists = lists_at nodes heads; spare = room; tasks = length nodes }) now) where
    pub now_main : now.main ≡ keys (side_by_side a.trees)
    now_main = ap (λ (n : Heaps). n.main) (sym seen) ∙ main_is_keys

    pub now_lists : now.lists ≡ map keys a.heaps
    now_lists = ap (λ (n : Heaps). n.lists) (sym seen) ∙ lists_are

    pub now_spare : now.spare ≡ room
    now_spare = ap (λ (n : Heaps). n.spare) (sym seen)

    pub now_tasks : now.tasks ≡ length nodes
    now_tasks = ap (λ (n : Heaps). n.tasks) (sym seen)

    pub list_is : (h : ℕ) → list_of now h ≡ keys (get_or a.heaps h none)
    list_is h = ap (λ l. get_or l h fin.empty) now_lists ∙ get_or-map_at keys a.heaps h none

    pub all_is : (h : ℕ) → get_or (all_lists now) h fin.empty ≡ keys (get_or (all_forests a) h none)
    all_is zero = now_main
    all_is (suc h) = list_is h

    pub as_many : length now.lists ≡ length a.heaps
    as_many = ap length now_lists ∙ length-map_at keys a.heaps

    pub heads_long : length heads ≡ length now.lists
    heads_long = ap length a.heads_are ∙ length-map_at head a.heaps ∙ sym as_many

    -- the index that names heap h is below the length of the heads
    pub name_within : {h index long : ℕ} → index ≡ h → long ≡ length heads → h < length now.lists → index < long
    name_within is whole within = omega (arith, is, whole, within, heads_long)

    pub len_is : (h : ℕ) → fin.len (list_of now h) ≡ size (get_or a.heaps h none)
    len_is h = ap fin.len (list_is h) ∙ len-keys (get_or a.heaps h none) (λ t. heap_once (suc h) t)

    pub main_len : fin.len now.main ≡ weigh_all one_each (all_roots a.trees)
    main_len = ap fin.len now_main ∙ len-keys (side_by_side a.trees) (λ t. heap_once zero t) ∙ side_by_side-weight one_each a.trees

    -- ---- holds

    pub weigh_from_held : (t : ℕ) → IsHeld (all_lists now) t → 1 ≤ weigh_all (of_task t) (all_roots (all_forests a))
    weigh_from_held t h =
        let c : fin.contains (keys (get_or (all_forests a) h.list none)) h.key ≡ true = ap (λ s. fin.contains s h.key) (sym (all_is h.list)) ∙ h.has in
        omega (
          arith,
          weigh_from_contains (get_or (all_forests a) h.list none) h.key c,
          key-le-task h.key (get_or (all_forests a) h.list none),
          weigh-le-all (of_task t) (all_forests a) h.list,
          ap (λ x. forest_weight (of_task x) (get_or (all_forests a) h.list none)) h.of_task,
        )

    pub held_from_weigh : (t : ℕ) → 1 ≤ weigh_all (of_task t) (all_roots (all_forests a)) → IsHeld (all_lists now) t
    held_from_weigh t h =
        let f = some_heap (of_task t) (all_forests a) h in
        let k = key_of_task t (get_or (all_forests a) f.0 none) f.2 in
        record {
          list = f.0;
          key = k.0;
          listed = omega (arith, f.1, as_many);
          has = ap (λ s. fin.contains s k.0) (all_is f.0) ∙ contains_from_weigh (get_or (all_forests a) f.0 none) k.0 k.1;
          of_task = k.2;
        }

    pub held_from_node : (t : ℕ) → t < length nodes → (node_at nodes t).rank ≢ idle → IsHeld (all_lists now) t
    held_from_node t within busy = held_from_weigh t (omega (arith, in_heaps t within busy, task_weighs t))

    pub node_from_held : (t : ℕ) → IsHeld (all_lists now) t → (t < length nodes) × ((node_at nodes t).rank ≢ idle)
    node_from_held t h =
        let w : 1 ≤ weigh_all (at_place t) (all_roots a.trees) + weigh_all (at_place t) (all_roots a.heaps) = omega (arith, weigh_from_held t h, task_weighs t) in
        let within : t < length nodes = node_low t w in
        (within, busy_in t within w)

    -- ---- no task has two keys

    of_key_in : (i : ℕ) (p : Priority) → fin.contains (get_or (all_lists now) i fin.empty) p ≡ true → 1 ≤ forest_weight (of_key p) (get_or (all_forests a) i none)
    of_key_in i p has = weigh_from_contains (get_or (all_forests a) i none) p (ap (λ s. fin.contains s p) (sym (all_is i)) ∙ has)

    one_key : (i : ℕ) (p q : Priority) → fin.contains (get_or (all_lists now) i fin.empty) p ≡ true → fin.contains (get_or (all_lists now) i fin.empty) q ≡ true → p.task ≡ q.task → p ≡ q
    one_key i p q hp hq task =
        elim (eq_by_cmp key_cmp p q) as (λ b. eq_by_cmp key_cmp p q ≡ b → p ≡ q) [
          | true ↦ λ e. tied_keys p q e
          | false ↦ λ e. absurd (omega (
            arith,
            two-le-task p q (get_or (all_forests a) i none) task e,
            of_key_in i p hp,
            of_key_in i q hq,
            heap_once i p.task,
          ))
        ] refl

    one_list : (i j : ℕ) (p q : Priority) → fin.contains (get_or (all_lists now) i fin.empty) p ≡ true → fin.contains (get_or (all_lists now) j fin.empty) q ≡ true → p.task ≡ q.task → i ≢ j → ⊥
    one_list i j p q hp hq task differ =
        let second : 1 ≤ forest_weight (of_key q) (get_or (all_forests a) j none) = of_key_in j q hq in
        let listed : j < length (all_forests a) =
        ⊎_elim (λ lt. lt) (λ ge. absurd (omega (arith, second, ap (forest_weight (of_key q)) (get_or_past (all_forests a) j none ge)))) (cases_lt j (length (all_forests a))) in
        absurd (omega (
          arith,
          of_key_in i p hp,
          second,
          key-le-task p (get_or (all_forests a) i none),
          key-le-task q (get_or (all_forests a) j none),
          ap (λ t. forest_weight (of_task t) (get_or (all_forests a) j none)) task,
          two-le-all (of_task p.task) (all_forests a) i j differ listed,
          held_once p.task,
        ))

    pub each_task_once : EachTaskOnce (all_lists now)
    each_task_once i j p q hp hq task =
        ⊎_elim
        (λ e. (e, one_key i p q hp (ap (λ k. fin.contains (get_or (all_lists now) k fin.empty) q) e ∙ hq) task))
        (λ ne. absurd (one_list i j p q hp hq task ne))
        (cases_eq i j)

    -- ---- heap h and its link

    module _ {h index link : ℕ} (is : index ≡ h) (within : h < length now.lists) (read : link ≡ get_or heads index link) where
      pub heap_in : h < length a.heaps
      heap_in = omega (arith, within, as_many)

      pub link_is : link ≡ head (get_or a.heaps h none)
      link_is = some_head nodes heads a.heaps h link a.heads_are heap_in (read ∙ ap (λ x. get_or heads x link) is)

      abbrev pub has_heap : {lent : List Node} → lent ≡ nodes → HasHeap lent link
      has_heap e = record {
        heap = get_or a.heaps h none;
        others = all_roots a.trees ++ (all_roots (set a.heaps h none) ++ all_roots a.idles);
        heap_is = link_is;
        rises = rises_in a.heaps h a.rise;
        small = small_lent e;
        parts = parts_lent e h heap_in;
      }

      pub no_keys : link ≡ nowhere → list_of now h ≡ fin.empty
      no_keys e = list_is h ∙ ap keys (none_from_link nodes nowhere link (get_or a.heaps h none) small (tree_stands nodes a.heaps h heaps_stand) link_is e)

      -- ---- least

      module _ {lent : List Node} (e : lent ≡ nodes) {at : ℕ} {before after : Counts} (least : (can : HasHeap lent link) → IsLeastRoot can.heap at before after) where
        abbrev pub least_of : IsLeastRoot (get_or a.heaps h none) at before after
        least_of = least (has_heap e)

        pub least_node : IsRootNode nodes at least_of.key least_of.rank least_of.kids
        least_node = root_stands nodes nowhere at least_of.key least_of.rank least_of.kids (get_or a.heaps h none) (tree_stands nodes a.heaps h heaps_stand) least_of.has

        pub least_key : {node : Node} → node ≡ get_or nodes at node → node.key ≡ least_of.key
        least_key {node} found = ap (λ (n : Node). n.key) (get_or_read nodes at node least_node.within found no_node) ∙ least_node.key_is

        pub is_first : {node : Node} → node ≡ get_or nodes at node → IsFirst (list_of now h) node.key
        is_first found = subst (λ k. IsFirst (list_of now h) k) (sym (least_key found)) (subst (λ s. IsFirst s least_of.key) (sym (list_is h)) (
          contains_from_weigh (get_or a.heaps h none) least_of.key
              (omega (arith, root_weighs (of_key least_of.key) at least_of.key least_of.rank least_of.kids (get_or a.heaps h none) least_of.has, of_key-self least_of.key at)),
          λ q c. below_in least_of.key q (get_or a.heaps h none) least_of.least (weigh_from_contains (get_or a.heaps h none) q c),
        ))

        -- one comparison for each root but one
        roots_few : 1 ≤ roots (get_or a.heaps h none) → roots (get_or a.heaps h none) ≤ digits (size (get_or a.heaps h none))
        roots_few some =
            let n : roots (get_or a.heaps h none) ≡ (roots (get_or a.heaps h none) - 1) + 1 = omega arith in
            omega (
              arith,
              below-digits (roots (get_or a.heaps h none) - 1) (size (get_or a.heaps h none))
                  (roots_paid (get_or a.heaps h none) (rises_in a.heaps h a.rise) (roots (get_or a.heaps h none) - 1) n),
            )

        pub least_counted : Compares (digits (fin.len (list_of now h))) before after
        least_counted =
            compares_within (omega (arith, least_of.made_few, roots_few (omega (arith, least_of.made_few)), ap digits (len_is h))) least_of.counted
