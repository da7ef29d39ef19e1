-- An arena after a node was taken out of its heap.
use Rattle.std.proofs.Common.{◌≡◌, ℕ, zero, suc, ◌+◌, ◌*◌, ◌<◌, ◌≤◌, List, ◌∷◌, ◌++◌, length, get_or, set, refl, sym, ap, ◌∙◌, subst, arith}
use Rattle.std.proofs.lemmas.List.{map-set}
use Rattle.std.proofs.Math.ListN.{length-set}
use Rattle.std.specs.FinSet as fin
use Rattle.pf_order.specs.Priority.{Priority}
use Rattle.pf_order.specs.Counts.{Counts, Compares}
use Rattle.pf_heap.specs.declared.node.Node.{Node}
use Rattle.pf_heap.specs.declared.table.Roots.{Roots}
use Rattle.pf_heap.specs.Forest.{Forest, none, head, forest_weight, at_place}
use Rattle.pf_heap.specs.Memory.{node_at, root, all_roots, weigh_all, Parts}
use Rattle.pf_heap.specs.Table.{IsTable, HasTable}
use Rattle.pf_heap.specs.Taking.{IsTaken, IsFirstTaken}
use Rattle.pf_heap.specs.Keys.{Keys, Heaps, list_of, with_list, IsFirst, other_keys}
use Rattle.pf_heap.specs.View.{keys, lists_at, side_by_side, main_at}
use Rattle.pf_heap.specs.Digits.{digits}
use Rattle.pf_heap.specs.Invariant.{IsArena, all_parts, misplaced}
use Rattle.pf_order.proofs.Comparing.{compares_within}
use Rattle.pf_heap.proofs.Forests.{same-self, equal_from_same}
use Rattle.pf_heap.proofs.Sets.{keys_remove, keys_without}
use Rattle.pf_heap.proofs.Tables.{weigh_all-put}
use Rattle.pf_heap.proofs.Takes.{idle_tree}
use Rattle.pf_heap.proofs.Lists.{all_rise-set, side_by_side-weight, own_idle, put_idle, idle_weight}
use Rattle.pf_heap.proofs.Room.{room_back}
use Rattle.pf_heap.proofs.Whole.{all_weigh, lists_are, main_is_keys, heap_once, small_lent, now_main, now_lists, now_spare, now_tasks, list_is, main_len, node_low}
use Rattle.pf_heap.proofs.Changes.{IsArenaAfter, grouped, heap_back, idle_in, not_idle, rebuilt}
use Rattle.pf_heap.proofs.Holders.{main_first}

-- ---- a node was taken out of the main heap

module _ {nodes : List Node} {heads : List ℕ} {main : Roots} {room : ℕ} (a : IsArena nodes heads main room) {now : Heaps}
    (seen : ◌≡◌ {A = Heaps} (record { main = main_at nodes main; lists = lists_at nodes heads; spare = room; tasks = length nodes }) now) where
  abbrev pub has_main : {lent : List Node} → lent ≡ nodes → HasTable lent main
  has_main {lent} e = record {
    trees = a.trees;
    others = all_roots a.heaps ++ all_roots a.idles;
    table_is = a.main_is;
    small = small_lent a e;
    parts = subst (λ ns. Parts ns (all_parts a.trees a.heaps a.idles)) (sym e) a.parts;
  }

  module _ {mid : List Node} {table : Roots} {at : ℕ} {key : Priority} (left : List Forest) (table_is : IsTable table left)
      (parts : Parts mid (root (idle_tree at key) ∷ (all_roots left ++ (all_roots a.heaps ++ all_roots a.idles))))
      (kept : (w : ℕ → Priority → ℕ) → w at key + weigh_all w (all_roots left) ≡ weigh_all w (all_roots a.trees)) (long : length mid ≡ length nodes) where
    taken_here : 1 ≤ weigh_all (at_place at) (all_roots a.trees)
    taken_here = omega (arith, kept (at_place at), same-self at)

    pub taken_low : at < length nodes
    taken_low = node_low a at (omega (arith, taken_here))

    pub taken_task : key.task ≡ at
    taken_task = equal_from_same key.task at (omega (arith, kept misplaced, a.placed))

    none_idle : get_or a.idles at none ≡ none
    none_idle = not_idle at (get_or a.idles at none) (own_idle at a.idles a.idles_are)
        (omega (arith, idle_weight at a.idles a.idles_are, a.parts.once at, all_weigh a (at_place at), taken_here))

    taken_arena : IsArena mid heads table (room + 1)
    taken_arena = rebuilt a left a.heaps (set a.idles at (idle_tree at key)) (long) table_is a.heads_are a.rise
        (put_idle at a.idles (idle_tree at key) a.idles_are (refl, refl, refl, refl))
        (length-set a.idles at (idle_tree at key))
        (idle_in left a.heaps a.idles at key (omega (arith, taken_low, a.as_many)) none_idle parts)
        (λ i. omega (
          arith,
          all_weigh a (at_place i),
          grouped a (at_place i) left a.heaps (set a.idles at (idle_tree at key)),
          kept (at_place i),
          weigh_all-put (at_place i) a.idles at (idle_tree at key) (omega (arith, taken_low, a.as_many)),
          ap (λ g. forest_weight (at_place i) g) none_idle,
        ))
        (omega (arith, a.placed, kept misplaced))
        (room_back at key a.idles (omega (arith, taken_low, a.as_many)) none_idle a.room_few)

    pub main_without : (left_keys : Keys) → keys (side_by_side left) ≡ left_keys → {made : ℕ} {before after : Counts} → Compares made before after →
        IsArenaAfter (mid) heads table (room + 1)
        (record now { main = left_keys; spare = now.spare + 1 }) made before after
    unfolding taken_arena rebuilt
    main_without left_keys is counted =
        let lists : lists_at (mid) heads ≡ now.lists = lists_are taken_arena ∙ sym (now_lists a seen) in
        record {
          arena = taken_arena;
          view = λ i. record {
            main = (main_is_keys taken_arena ∙ is) i;
            lists = lists i;
            spare = sym (now_spare a seen) i + 1;
            tasks = (long ∙ sym (now_tasks a seen)) i;
          };
          counted = counted;
        }

    pub main_removed : keys (side_by_side left) ≡ fin.remove now.main key
    main_removed =
        keys_remove (side_by_side left) (side_by_side a.trees) at key (λ t. heap_once a zero t)
        (λ w. omega (arith, side_by_side-weight w left, side_by_side-weight w a.trees, kept w))
        ∙ ap (λ s. fin.remove s key) (sym (now_main a seen))

    pub main_others : keys (side_by_side left) ≡ other_keys now.main at
    main_others =
        keys_without (side_by_side left) (side_by_side a.trees) key at taken_task (λ t. heap_once a zero t)
        (λ v. omega (arith, side_by_side-weight (λ _ k. v k) left, side_by_side-weight (λ _ k. v k) a.trees, kept (λ _ k. v k)))
        ∙ ap (λ s. other_keys s at) (sym (now_main a seen))

  -- ---- a node was taken out of a list

  module _ {h index : ℕ} (is : index ≡ h) (listed : h < length a.heaps) {mid : List Node} {at link : ℕ} {before after : Counts}
      (d : IsTaken mid (get_or a.heaps h none) (all_roots a.trees ++ (all_roots (set a.heaps h none) ++ all_roots a.idles)) at link before after) (long : length mid ≡ length nodes) where
    left_weighs : (w : ℕ → Priority → ℕ) → w at d.key + weigh_all w (all_roots (set a.heaps h d.left)) ≡ weigh_all w (all_roots a.heaps)
    left_weighs w = omega (arith, d.kept w, weigh_all-put w a.heaps h d.left listed)

    in_lists : 1 ≤ weigh_all (at_place at) (all_roots a.heaps)
    in_lists = omega (arith, left_weighs (at_place at), same-self at)

    pub out_low : at < length nodes
    out_low = node_low a at (omega (arith, in_lists))

    pub out_task : d.key.task ≡ at
    out_task = equal_from_same d.key.task at (omega (arith, left_weighs misplaced, a.placed))

    out_idle : get_or a.idles at none ≡ none
    out_idle = not_idle at (get_or a.idles at none) (own_idle at a.idles a.idles_are)
        (omega (arith, idle_weight at a.idles a.idles_are, a.parts.once at, all_weigh a (at_place at), in_lists))

    out_parts : Parts mid (root (idle_tree at d.key) ∷ all_parts a.trees (set a.heaps h d.left) a.idles)
    out_parts =
        let p : Parts mid (root d.left ∷ (all_roots a.trees ++ (all_roots (set a.heaps h none) ++ all_roots a.idles))) =
        record { stand = d.parts.stand.1; once = λ i. omega (arith, d.parts.once i) } in
        let b = heap_back a.trees a.heaps a.idles h d.left listed p in
        record {
          stand = (d.parts.stand.0, b.stand);
          once = λ i. omega (
            arith,
            d.parts.once i,
            grouped a (at_place i) a.trees (set a.heaps h d.left) a.idles,
            grouped a (at_place i) a.trees (set a.heaps h none) a.idles,
            weigh_all-put (at_place i) a.heaps h d.left listed,
            weigh_all-put (at_place i) a.heaps h none listed,
          );
        }

    out_arena : IsArena mid (set heads h link) main (room + 1)
    out_arena = rebuilt a a.trees (set a.heaps h d.left) (set a.idles at (idle_tree at d.key)) (long) a.main_is
        ((λ i. set (a.heads_are i) h (d.link_is i)) ∙ sym (map-set head a.heaps h d.left))
        (all_rise-set a.heaps h d.left a.rise d.rises)
        (put_idle at a.idles (idle_tree at d.key) a.idles_are (refl, refl, refl, refl))
        (length-set a.idles at (idle_tree at d.key))
        (idle_in a.trees (set a.heaps h d.left) a.idles at d.key (omega (arith, out_low, a.as_many)) out_idle out_parts)
        (λ i. omega (
          arith,
          all_weigh a (at_place i),
          grouped a (at_place i) a.trees (set a.heaps h d.left) (set a.idles at (idle_tree at d.key)),
          left_weighs (at_place i),
          weigh_all-put (at_place i) a.idles at (idle_tree at d.key) (omega (arith, out_low, a.as_many)),
          ap (λ g. forest_weight (at_place i) g) out_idle,
        ))
        (omega (arith, a.placed, left_weighs misplaced))
        (room_back at d.key a.idles (omega (arith, out_low, a.as_many)) out_idle a.room_few)

    pub list_without : (left_keys : Keys) → keys d.left ≡ left_keys → {made : ℕ} {start : Counts} → Compares made start after →
        IsArenaAfter (mid) (set heads h link) main (room + 1)
        (record (with_list now h left_keys) { spare = now.spare + 1 }) made start after
    unfolding out_arena rebuilt
    list_without left_keys e counted =
        let lists : lists_at (mid) (set heads h link) ≡ set now.lists h left_keys =
        lists_are out_arena ∙ map-set keys a.heaps h d.left ∙ (λ i. set (sym (now_lists a seen) i) h (e i)) in
        record {
          arena = out_arena;
          view = λ i. record {
            main = (main_is_keys out_arena ∙ sym (now_main a seen)) i;
            lists = lists i;
            spare = sym (now_spare a seen) i + 1;
            tasks = (long ∙ sym (now_tasks a seen)) i;
          };
          counted = counted;
        }

    pub list_removed : keys d.left ≡ fin.remove (list_of now h) d.key
    list_removed =
        keys_remove d.left (get_or a.heaps h none) at d.key (λ t. heap_once a (suc h) t) d.kept
        ∙ ap (λ s. fin.remove s d.key) (sym (list_is a seen h))

    pub list_others : keys d.left ≡ other_keys (list_of now h) at
    list_others =
        keys_without d.left (get_or a.heaps h none) d.key at out_task (λ t. heap_once a (suc h) t) (λ v. d.kept (λ _ k. v k))
        ∙ ap (λ s. other_keys s at) (sym (list_is a seen h))

-- ---- the first key is taken out of the main heap

module _ {nodes : List Node} {heads : List ℕ} {main : Roots} {room : ℕ} (a : IsArena nodes heads main room) {now : Heaps}
    (seen : ◌≡◌ {A = Heaps} (record { main = main_at nodes main; lists = lists_at nodes heads; spare = room; tasks = length nodes }) now)
    {mid : List Node} {table : Roots} {at : ℕ} {before after : Counts}
    (d : IsFirstTaken mid table a.trees (all_roots a.heaps ++ all_roots a.idles) at before after) (long : length mid ≡ length nodes) where
  pub main_popped : IsArenaAfter mid heads table (room + 1) (record now { main = fin.remove now.main d.key; spare = now.spare + 1 }) (2 * digits (fin.len now.main)) before after
  main_popped =
      main_without a seen d.left d.table_is d.parts d.kept long (fin.remove now.main d.key) (main_removed a seen d.left d.table_is d.parts d.kept long)
      (compares_within (omega (arith, ap digits (main_len a seen))) d.counted)

  pub popped_first : IsFirst now.main d.key
  popped_first = main_first a seen d.key at d.left d.first d.kept

  pub popped_low : at < length mid
  popped_low = d.parts.stand.0.0

  pub popped_key : (node_at mid at).key ≡ d.key
  popped_key = ap (λ (n : Node). n.key) d.parts.stand.0.1
