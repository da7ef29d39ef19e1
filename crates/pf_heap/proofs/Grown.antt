-- The nodes of an arena grow: those that come are idle.
use Rattle.std.proofs.Common.{◌≡◌, ℕ, zero, suc, ◌+◌, ◌-◌, ◌<◌, ◌≤◌, List, [], ◌∷◌, ◌++◌, length, get_or, refl, sym, ap, ◌∙◌, subst, arith, ⊎_elim, length-append, Result, Ok, Err}
use Rattle.std.specs.Prelude.{replicate, OnOk, OnErr}
use Rattle.std.proofs.Math.ListN.{get_or-append}
use Rattle.std.proofs.Math.Seq.{get_or-append_right}
use Rattle.std.proofs.lemmas.Bool.{cases_lt}
use Rattle.std.proofs.lemmas.List.{get_or_past, get_or-replicate, length-replicate}
use Rattle.pf_weight.specs.declared.task.TheConstants.{LARGEST_TASK}
use Rattle.pf_order.specs.Priority.{Priority}
use Rattle.pf_heap.specs.declared.node.Node.{Node}
use Rattle.pf_heap.specs.declared.table.Roots.{Roots}
use Rattle.pf_heap.specs.Forest.{Forest, none, tree, nowhere, forest_weight, same, one_each, at_place}
use Rattle.pf_heap.specs.Memory.{no_node, node_at, idle_node, Stands, all_roots, weigh_all, StandAll}
use Rattle.pf_heap.specs.Keys.{Heaps}
use Rattle.pf_heap.specs.View.{lists_at, main_at}
use Rattle.pf_heap.specs.Invariant.{IsArena, AreIdle, all_parts}
use Rattle.pf_heap.proofs.Forests.{same-self}
use Rattle.pf_heap.proofs.Tables.{stand_append}
use Rattle.pf_heap.proofs.Takes.{idle_tree}
use Rattle.pf_heap.proofs.Lists.{idle_weight}
use Rattle.pf_heap.proofs.Whole.{trees_stand, heaps_stand, idles_stand, all_weigh, lists_are, main_is_keys, node_low, now_main, now_lists, now_spare}
use Rattle.pf_heap.proofs.Changes.{grouped}

-- ---- more nodes after those that there are

stands-longer : (nodes more : List Node) (up : ℕ) (f : Forest) → Stands nodes up f → Stands (nodes ++ more) up f
stands-longer nodes more up none s = tt
stands-longer nodes more up (tree at key rank kids rest) s = (
  omega (arith, s.0, length-append nodes more),
  get_or-append nodes more no_node at s.0 ∙ s.1,
  stands-longer nodes more at kids s.2,
  stands-longer nodes more up rest s.3,
)

stand_all-longer : (nodes more : List Node) (fs : List Forest) → StandAll nodes (all_roots fs) → StandAll (nodes ++ more) (all_roots fs)
stand_all-longer nodes more [] s = tt
stand_all-longer nodes more (f ∷ fs) s = (stands-longer nodes more nowhere f s.0, stand_all-longer nodes more fs s.1)

-- ---- the idle ones of them

-- n idle nodes from place i on
abbrev pub idles_from : ℕ → ℕ → Priority → List Forest
idles_from i zero key = []
idles_from i (suc n) key = idle_tree i key ∷ idles_from (suc i) n key

idles_from-idle : (i n : ℕ) (key : Priority) → AreIdle i (idles_from i n key)
idles_from-idle i zero key = tt
idles_from-idle i (suc n) key = ((refl, refl, refl, refl), idles_from-idle (suc i) n key)

length-idles_from : (i n : ℕ) (key : Priority) → length (idles_from i n key) ≡ n
length-idles_from i zero key = refl
length-idles_from i (suc n) key = ap suc (length-idles_from (suc i) n key)

idles_from-at : (i n k : ℕ) (key : Priority) → k < n → get_or (idles_from i n key) k none ≡ idle_tree (i + k) key
idles_from-at i zero k key h = absurd (omega (arith, h))
idles_from-at i (suc n) zero key h = ap (λ at. idle_tree at key) (let e : i ≡ i + 0 = omega arith in e)
idles_from-at i (suc n) (suc k) key h =
    idles_from-at (suc i) n k key (omega (arith, h)) ∙ ap (λ at. idle_tree at key) (let e : suc i + k ≡ i + suc k = omega arith in e)

idles_from-stand : (nodes : List Node) (i n : ℕ) (key : Priority) → ((j : ℕ) → i ≤ j → j < i + n → (j < length nodes) × (node_at nodes j ≡ idle_node key)) →
    StandAll nodes (all_roots (idles_from i n key))
idles_from-stand nodes i zero key h = tt
idles_from-stand nodes i (suc n) key h =
    let here = h i (omega arith) (omega arith) in
    ((here.0, here.1, tt, tt), idles_from-stand nodes (suc i) n key (λ j low high. h j (omega (arith, low)) (omega (arith, high))))

-- ---- two lists of forests in one

are_idle-append : (i : ℕ) (fs gs : List Forest) → AreIdle i fs → AreIdle (i + length fs) gs → AreIdle i (fs ++ gs)
are_idle-append i [] gs h t = subst (λ k. AreIdle k gs) (let e : i + 0 ≡ i = omega arith in e) t
are_idle-append i (f ∷ fs) gs h t =
    (h.0, are_idle-append (suc i) fs gs h.1 (subst (λ k. AreIdle k gs) (let e : i + suc (length fs) ≡ suc i + length fs = omega arith in e) t))

stand_all-joined : (nodes : List Node) (fs gs : List Forest) → StandAll nodes (all_roots fs) → StandAll nodes (all_roots gs) → StandAll nodes (all_roots (fs ++ gs))
stand_all-joined nodes [] gs s t = t
stand_all-joined nodes (f ∷ fs) gs s t = (s.0, stand_all-joined nodes fs gs s.1 t)

weigh_all-joined : (w : ℕ → Priority → ℕ) (fs gs : List Forest) → weigh_all w (all_roots (fs ++ gs)) ≡ weigh_all w (all_roots fs) + weigh_all w (all_roots gs)
weigh_all-joined w [] gs = omega arith
weigh_all-joined w (f ∷ fs) gs = omega (arith, weigh_all-joined w fs gs)

-- ---- the arena

module _ {nodes : List Node} {heads : List ℕ} {main : Roots} {room : ℕ} (a : IsArena nodes heads main room) (n : ℕ) (key : Priority) (few : length nodes + n ≤ LARGEST_TASK + 1) where
  abbrev pub longer : List Node
  longer = nodes ++ replicate n (idle_node key)

  abbrev pub more_idles : List Forest
  more_idles = a.idles ++ idles_from (length nodes) n key

  pub length-longer : length longer ≡ length nodes + n
  length-longer = length-append nodes (replicate n (idle_node key)) ∙ ap (λ m. length nodes + m) (length-replicate n (idle_node key))

  length-more : length more_idles ≡ length nodes + n
  length-more = omega (arith, length-append a.idles (idles_from (length nodes) n key), length-idles_from (length nodes) n key, a.as_many)

  more_are_idle : AreIdle 0 more_idles
  more_are_idle =
      are_idle-append 0 a.idles (idles_from (length nodes) n key) a.idles_are
      (subst (λ i. AreIdle i (idles_from (length nodes) n key)) (let e : length nodes ≡ 0 + length a.idles = omega (arith, a.as_many) in e) (idles_from-idle (length nodes) n key))

  new_node : (j : ℕ) → length nodes ≤ j → j < length nodes + n → (j < length longer) × (node_at longer j ≡ idle_node key)
  new_node j low high = (
    omega (arith, high, length-longer),
    get_or-append_right nodes (replicate n (idle_node key)) j no_node low ∙ get_or-replicate n (j - length nodes) (idle_node key) no_node (omega (arith, low, high)),
  )

  more_stand : StandAll longer (all_roots more_idles)
  more_stand =
      stand_all-joined longer a.idles (idles_from (length nodes) n key) (stand_all-longer nodes (replicate n (idle_node key)) a.idles (idles_stand a))
      (idles_from-stand longer (length nodes) n key new_node)

  -- ---- which nodes are idle then

  idle_before : (i : ℕ) → i < length nodes → weigh_all (at_place i) (all_roots more_idles) ≡ weigh_all (at_place i) (all_roots a.idles)
  idle_before i low =
      idle_weight i more_idles more_are_idle
      ∙ ap (forest_weight (at_place i)) (get_or-append a.idles (idles_from (length nodes) n key) none i (omega (arith, low, a.as_many)))
      ∙ sym (idle_weight i a.idles a.idles_are)

  idle_then : (i : ℕ) → length nodes ≤ i → i < length nodes + n → weigh_all (at_place i) (all_roots more_idles) ≡ 1
  idle_then i low high =
      let k : length nodes + (i - length a.idles) ≡ i = omega (arith, low, a.as_many) in
      let f : get_or more_idles i none ≡ idle_tree i key =
      get_or-append_right a.idles (idles_from (length nodes) n key) i none (omega (arith, low, a.as_many))
      ∙ idles_from-at (length nodes) n (i - length a.idles) key (omega (arith, low, high, a.as_many))
      ∙ ap (λ at. idle_tree at key) k in
      omega (arith, idle_weight i more_idles more_are_idle, ap (forest_weight (at_place i)) f, same-self i)

  idle_past : (i : ℕ) → length nodes + n ≤ i → weigh_all (at_place i) (all_roots more_idles) ≡ 0
  idle_past i past =
      idle_weight i more_idles more_are_idle ∙ ap (forest_weight (at_place i)) (get_or_past more_idles i none (omega (arith, past, length-more)))

  unused : (i : ℕ) → length nodes ≤ i → weigh_all (at_place i) (all_roots a.trees) + weigh_all (at_place i) (all_roots a.heaps) ≡ 0
  unused i past =
      ⊎_elim
      (λ used. absurd (omega (arith, past, node_low a i (omega (arith, used)))))
      (λ none_there. omega (arith, none_there))
      (cases_lt 0 (weigh_all (at_place i) (all_roots a.trees) + weigh_all (at_place i) (all_roots a.heaps)))

  more_filled : (i : ℕ) → i < length nodes + n → weigh_all (at_place i) (all_parts a.trees a.heaps more_idles) ≡ 1
  more_filled i high =
      ⊎_elim
      (λ before. omega (arith, a.filled i before, all_weigh a (at_place i), grouped a (at_place i) a.trees a.heaps more_idles, idle_before i before))
      (λ low. omega (arith, grouped a (at_place i) a.trees a.heaps more_idles, idle_then i low high, unused i low))
      (cases_lt i (length nodes))

  more_once : (i : ℕ) → weigh_all (at_place i) (all_parts a.trees a.heaps more_idles) ≤ 1
  more_once i =
      ⊎_elim
      (λ high. omega (arith, more_filled i high))
      (λ past. omega (arith, grouped a (at_place i) a.trees a.heaps more_idles, idle_past i past, unused i (omega (arith, past))))
      (cases_lt i (length nodes + n))

  -- ---- what there is then

  pub arena_longer : IsArena longer heads main room
  arena_longer = record {
    trees = a.trees;
    heaps = a.heaps;
    idles = more_idles;
    main_is = a.main_is;
    heads_are = a.heads_are;
    rise = a.rise;
    idles_are = more_are_idle;
    few = omega (arith, few, length-longer);
    as_many = length-more ∙ sym length-longer;
    parts = record {
      stand = stand_append longer (all_roots a.trees) (all_roots a.heaps ++ all_roots more_idles) (stand_all-longer nodes (replicate n (idle_node key)) a.trees (trees_stand a))
          (stand_append longer (all_roots a.heaps) (all_roots more_idles) (stand_all-longer nodes (replicate n (idle_node key)) a.heaps (heaps_stand a)) more_stand);
      once = more_once;
    };
    filled = λ i within. more_filled i (omega (arith, within, length-longer));
    placed = a.placed;
    room_few = omega (arith, a.room_few, weigh_all-joined one_each a.idles (idles_from (length nodes) n key));
  }

  module _ {grown : List Node} (e : grown ≡ longer) where
    pub arena_grown : IsArena grown heads main room
    arena_grown = subst (λ ns. IsArena ns heads main room) (sym e) arena_longer

    pub grown_view : {now : Heaps} {tasks : ℕ} → ◌≡◌ {A = Heaps} (record { main = main_at nodes main; lists = lists_at nodes heads; spare = room; tasks = length nodes }) now →
        length nodes + n ≡ tasks → ◌≡◌ {A = Heaps} (record { main = main_at grown main; lists = lists_at grown heads; spare = room; tasks = length grown }) (record now { tasks = tasks })
    unfolding arena_longer
    grown_view {now} {tasks} seen many =
        (λ i. record { main = main_at (e i) main; lists = lists_at (e i) heads; spare = room; tasks = length (e i) })
        ∙ (λ i. record {
          main = (main_is_keys arena_longer ∙ sym (now_main a seen)) i;
          lists = (lists_are arena_longer ∙ sym (now_lists a seen)) i;
          spare = sym (now_spare a seen) i;
          tasks = (length-longer ∙ many) i;
        })

  -- the nodes have grown, or are as before
  pub arena_either : {A E : Type 0} (r : Result A E) {grown : List Node} → OnOk r (grown ≡ longer) → OnErr r (grown ≡ nodes) → IsArena grown heads main room
  arena_either (Ok x) grew same = arena_grown grew
  arena_either (Err x) grew same = subst (λ ns. IsArena ns heads main room) (sym same) a
