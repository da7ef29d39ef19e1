-- An arena after a list went into the main heap, or into another list.
use Rattle.std.proofs.Common.{◌≡◌, ◌≢◌, ℕ, ◌+◌, ◌<◌, List, ◌∷◌, ◌++◌, map, length, get_or, set, refl, sym, ap, ◌∙◌, subst, arith, get_or-set_other}
use Rattle.std.proofs.lemmas.List.{map-set}
use Rattle.std.proofs.Math.ListN.{length-set}
use Rattle.std.specs.FinSet as fin
use Rattle.pf_order.specs.Priority.{Priority}
use Rattle.pf_order.specs.Counts.{Counts, Compares}
use Rattle.pf_heap.specs.declared.node.Node.{Node}
use Rattle.pf_heap.specs.declared.table.Roots.{Roots}
use Rattle.pf_heap.specs.Forest.{Forest, none, nowhere, head, forest_weight, one_each, at_place, size, Rises}
use Rattle.pf_heap.specs.Memory.{Stands, root, all_roots, weigh_all, Parts}
use Rattle.pf_heap.specs.Table.{HasListAndTable, IsInTable}
use Rattle.pf_heap.specs.Taking.{HasTwoHeaps}
use Rattle.pf_heap.specs.Keys.{Keys, Heaps, list_of, with_list}
use Rattle.pf_heap.specs.View.{keys, lists_at, side_by_side, main_at}
use Rattle.pf_heap.specs.Digits.{digits}
use Rattle.pf_heap.specs.Invariant.{IsArena, misplaced}
use Rattle.pf_order.proofs.Comparing.{compares_within}
use Rattle.std.specs.Int.Count.{ones}
use Rattle.pf_heap.proofs.Counting.{count_by_size, roots_of_list, carried-le-digits}
use Rattle.pf_heap.proofs.Sets.{keys_union}
use Rattle.pf_heap.proofs.Tables.{weigh_all-put}
use Rattle.pf_heap.proofs.Takes.{few_roots, trees_from_rises}
use Rattle.pf_heap.proofs.Lists.{rises_in, all_rise-set, side_by_side-weight}
use Rattle.pf_heap.proofs.Whole.{heap_apart, all_weigh, lists_are, main_is_keys, small_lent, parts_lent, now_main, now_lists, now_spare, now_tasks, list_is, len_is, main_len, heap_in, link_is}
use Rattle.pf_heap.proofs.Changes.{IsArenaAfter, grouped, heap_back, rebuilt}

-- ---- the main heap takes a list in

module _ {nodes : List Node} {heads : List ℕ} {main : Roots} {room : ℕ} (a : IsArena nodes heads main room) {now : Heaps}
    (seen : ◌≡◌ {A = Heaps} (record { main = main_at nodes main; lists = lists_at nodes heads; spare = room; tasks = length nodes }) now) where
  module _ {from index link : ℕ} (is : index ≡ from) (within : from < length now.lists) (read : link ≡ get_or heads index link) where
    pub from_in : from < length a.heaps
    from_in = heap_in a seen is within read

    abbrev pub main_and_list : {lent : List Node} → lent ≡ nodes → HasListAndTable lent main link
    main_and_list {lent} e =
        let p = parts_lent a e from from_in in
        record {
          up = nowhere;
          list = get_or a.heaps from none;
          trees = a.trees;
          others = all_roots (set a.heaps from none) ++ all_roots a.idles;
          link_is = link_is a seen is within read;
          are_trees = trees_from_rises 0 (get_or a.heaps from none) (rises_in a.heaps from a.rise);
          few = few_roots (get_or a.heaps from none) (all_roots a.trees ++ (all_roots (set a.heaps from none) ++ all_roots a.idles)) (small_lent a e) p (rises_in a.heaps from a.rise);
          table_is = a.main_is;
          small = small_lent a e;
          parts = p;
        }

    module _ {new : List Node} {table : Roots} {before after : Counts}
        (d : IsInTable new table (get_or a.heaps from none) a.trees (all_roots (set a.heaps from none) ++ all_roots a.idles) before after) (long : length new ≡ length nodes) where
      emptied : (w : ℕ → Priority → ℕ) → weigh_all w (all_roots (set a.heaps from none)) + forest_weight w (get_or a.heaps from none) ≡ weigh_all w (all_roots a.heaps)
      emptied w = omega (arith, weigh_all-put w a.heaps from none from_in)

      joined_arena : IsArena new (set heads from nowhere) table room
      joined_arena = rebuilt a d.now (set a.heaps from none) a.idles long d.table_is
          (ap (λ l. set l from nowhere) a.heads_are ∙ sym (map-set head a.heaps from none))
          (all_rise-set a.heaps from none a.rise tt) a.idles_are refl d.parts
          (λ i. omega (
            arith,
            all_weigh a (at_place i),
            grouped a (at_place i) d.now (set a.heaps from none) a.idles,
            d.kept (at_place i),
            emptied (at_place i),
          ))
          (omega (arith, a.placed, d.kept misplaced, emptied misplaced))
          a.room_few

      pub main_joined : IsArenaAfter new (set heads from nowhere) table room
          (record (with_list now from fin.empty) { main = fin.union now.main (list_of now from) }) (digits (fin.len now.main + fin.len (list_of now from))) before after
      unfolding joined_arena rebuilt
      main_joined =
          let whole : keys (side_by_side d.now) ≡ fin.union now.main (list_of now from) =
          keys_union (side_by_side d.now) (side_by_side a.trees) (get_or a.heaps from none)
          (λ w. omega (arith, side_by_side-weight w d.now, side_by_side-weight w a.trees, d.kept w))
          ∙ (λ k. fin.union (sym (now_main a seen) k) (sym (list_is a seen from) k)) in
          let lists : lists_at new (set heads from nowhere) ≡ set now.lists from fin.empty =
          lists_are joined_arena ∙ map-set keys a.heaps from none ∙ ap (λ l. set l from fin.empty) (sym (now_lists a seen)) in
          let sizes : digits (fin.len now.main + fin.len (list_of now from)) ≡ digits (weigh_all one_each (all_roots a.trees) + size (get_or a.heaps from none)) =
          λ i. digits (main_len a seen i + len_is a seen from i) in
          record {
            arena = joined_arena;
            view = λ i. record { main = (main_is_keys joined_arena ∙ whole) i; lists = lists i; spare = sym (now_spare a seen) i; tasks = (long ∙ sym (now_tasks a seen)) i };
            counted = compares_within
                (omega (
                  arith,
                  sizes,
                  carried-le-digits d.made (weigh_all one_each (all_roots a.trees)) (size (get_or a.heaps from none)) (weigh_all one_each (all_roots a.trees) + size (get_or a.heaps from none))
                      (omega (
                        arith,
                        d.made_is,
                        count_by_size a.trees a.main_is.by_rank,
                        count_by_size d.now d.table_is.by_rank,
                        d.kept one_each,
                        ap ones (let e : weigh_all one_each (all_roots d.now) ≡ weigh_all one_each (all_roots a.trees) + size (get_or a.heaps from none) = omega (arith, d.kept one_each) in e),
                        roots_of_list (get_or a.heaps from none) 0 (rises_in a.heaps from a.rise),
                      ))
                      (omega arith),
                ))
                d.counted;
          }

-- ---- two lists are merged

module _ {nodes : List Node} {heads : List ℕ} {main : Roots} {room : ℕ} (a : IsArena nodes heads main room) {now : Heaps}
    (seen : ◌≡◌ {A = Heaps} (record { main = main_at nodes main; lists = lists_at nodes heads; spare = room; tasks = length nodes }) now)
    {into from i j first second : ℕ} (i_is : i ≡ into) (j_is : j ≡ from) (into_in : into < length now.lists) (from_in : from < length now.lists) (differ : into ≢ from)
    (first_read : first ≡ get_or heads i first) (second_read : second ≡ get_or heads j second) where
  pub in_rest : into < length (set a.heaps from none)
  in_rest = omega (arith, heap_in a seen i_is into_in first_read, length-set a.heaps from none)

  pub other_kept : get_or (set a.heaps from none) into none ≡ get_or a.heaps into none
  other_kept = get_or-set_other a.heaps from into none none differ

  pub both_apart : {lent : List Node} → lent ≡ nodes →
      Parts lent (root (get_or a.heaps into none) ∷ root (get_or a.heaps from none) ∷ (all_roots a.trees ++ (all_roots (set (set a.heaps from none) into none) ++ all_roots a.idles)))
  both_apart {lent} e =
      let p = parts_lent a e from (heap_in a seen j_is from_in second_read) in
      let q = heap_apart a.trees (set a.heaps from none) a.idles into in_rest (record { stand = p.stand.1; once = λ k. omega (arith, p.once k) }) in
      record {
        stand = (subst (λ f. Stands lent nowhere f) other_kept q.stand.0, (p.stand.0, q.stand.1));
        once = λ k. omega (
          arith,
          p.once k,
          grouped a (at_place k) a.trees (set a.heaps from none) a.idles,
          grouped a (at_place k) a.trees (set (set a.heaps from none) into none) a.idles,
          weigh_all-put (at_place k) (set a.heaps from none) into none in_rest,
          ap (λ f. forest_weight (at_place k) f) other_kept,
        );
      }

  abbrev pub meld_heaps : {lent : List Node} → lent ≡ nodes → HasTwoHeaps lent first second
  meld_heaps {lent} e = record {
    first = get_or a.heaps into none;
    second = get_or a.heaps from none;
    others = all_roots a.trees ++ (all_roots (set (set a.heaps from none) into none) ++ all_roots a.idles);
    first_is = link_is a seen i_is into_in first_read;
    second_is = link_is a seen j_is from_in second_read;
    first_rises = rises_in a.heaps into a.rise;
    second_rises = rises_in a.heaps from a.rise;
    small = small_lent a e;
    parts = both_apart e;
  }

  -- the heap that both are: heap `into` then, and the other one is empty
  module _ {new : List Node} {link : ℕ} (heap : Forest) (link_is_head : link ≡ head heap) (rises : Rises 0 heap)
      (parts : Parts new (root heap ∷ (all_roots a.trees ++ (all_roots (set (set a.heaps from none) into none) ++ all_roots a.idles))))
      (kept : (w : ℕ → Priority → ℕ) → forest_weight w heap ≡ forest_weight w (get_or a.heaps into none) + forest_weight w (get_or a.heaps from none)) (long : length new ≡ length nodes) where
    both_weigh : (w : ℕ → Priority → ℕ) → weigh_all w (all_roots (set (set a.heaps from none) into heap)) ≡ weigh_all w (all_roots a.heaps)
    both_weigh w =
        omega (
          arith,
          kept w,
          weigh_all-put w a.heaps from none (heap_in a seen j_is from_in second_read),
          weigh_all-put w (set a.heaps from none) into heap in_rest,
          ap (λ f. forest_weight w f) other_kept,
        )

    melded_arena : IsArena new (set (set heads from nowhere) into link) main room
    melded_arena = rebuilt a a.trees (set (set a.heaps from none) into heap) a.idles long a.main_is
        (ap (λ l. set (set l from nowhere) into link) a.heads_are
        ∙ ap (λ x. set (set (map head a.heaps) from nowhere) into x) link_is_head
        ∙ ap (λ l. set l into (head heap)) (sym (map-set head a.heaps from none))
        ∙ sym (map-set head (set a.heaps from none) into heap))
        (all_rise-set (set a.heaps from none) into heap (all_rise-set a.heaps from none a.rise tt) rises)
        a.idles_are refl
        (heap_back a.trees (set a.heaps from none) a.idles into heap in_rest parts)
        (λ k. omega (arith, all_weigh a (at_place k), grouped a (at_place k) a.trees (set (set a.heaps from none) into heap) a.idles, both_weigh (at_place k)))
        (omega (arith, a.placed, both_weigh misplaced))
        a.room_few

    pub melded : {made : ℕ} {before after : Counts} (whole : Keys) → keys heap ≡ whole → Compares made before after →
        IsArenaAfter new (set (set heads from nowhere) into link) main room (with_list (with_list now from fin.empty) into whole) made before after
    unfolding melded_arena rebuilt
    melded whole is counted =
        let lists : lists_at new (set (set heads from nowhere) into link) ≡ set (set now.lists from fin.empty) into whole =
        lists_are melded_arena
        ∙ map-set keys (set a.heaps from none) into heap
        ∙ ap (λ l. set l into (keys heap)) (map-set keys a.heaps from none)
        ∙ ap (λ l. set (set l from fin.empty) into (keys heap)) (sym (now_lists a seen))
        ∙ ap (λ k. set (set now.lists from fin.empty) into k) is in
        record {
          arena = melded_arena;
          view = λ k. record { main = (main_is_keys melded_arena ∙ sym (now_main a seen)) k; lists = lists k; spare = sym (now_spare a seen) k; tasks = (long ∙ sym (now_tasks a seen)) k };
          counted = counted;
        }

  -- both lists' keys
  pub both_keys : (heap : Forest) → ((w : ℕ → Priority → ℕ) → forest_weight w heap ≡ forest_weight w (get_or a.heaps into none) + forest_weight w (get_or a.heaps from none)) →
      keys heap ≡ fin.union (list_of now into) (list_of now from)
  both_keys heap kept =
      keys_union heap (get_or a.heaps into none) (get_or a.heaps from none) kept ∙ (λ k. fin.union (sym (list_is a seen into) k) (sym (list_is a seen from) k))

  pub both_digits : digits (size (get_or a.heaps into none) + size (get_or a.heaps from none)) ≡ digits (fin.len (list_of now into) + fin.len (list_of now from))
  both_digits = λ k. digits (sym (len_is a seen into) k + sym (len_is a seen from) k)
