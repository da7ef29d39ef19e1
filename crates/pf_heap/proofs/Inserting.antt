-- An arena after an insert.
use Rattle.std.proofs.Common.{◌≡◌, ℕ, ◌+◌, ◌-◌, ◌<◌, ◌≤◌, inl, inr, List, ◌∷◌, ◌++◌, length, get_or, set, refl, sym, ap, ◌∙◌, subst, arith, ⊎_elim}
use Rattle.std.proofs.lemmas.Bool.{cases_lt}
use Rattle.std.proofs.lemmas.List.{map-set}
use Rattle.std.proofs.Math.ListN.{length-set}
use Rattle.std.specs.FinSet as fin
use Rattle.pf_order.specs.Priority.{Priority}
use Rattle.pf_order.specs.Counts.{Counts}
use Rattle.pf_heap.specs.declared.node.Node.{Node}
use Rattle.pf_heap.specs.declared.table.Roots.{Roots}
use Rattle.pf_heap.specs.Forest.{none, single, head, forest_weight, same, at_place, size}
use Rattle.pf_heap.specs.Memory.{root, all_roots, weigh_all, Parts}
use Rattle.pf_heap.specs.Steps.{HasNodeAndList, IsAddedTo}
use Rattle.pf_heap.specs.Keys.{Heaps, list_of, with_list, all_lists, IsHeld}
use Rattle.pf_heap.specs.View.{keys, lists_at, main_at}
use Rattle.pf_heap.specs.Digits.{digits}
use Rattle.pf_heap.specs.Invariant.{IsArena, all_parts, misplaced}
use Rattle.pf_order.proofs.Comparing.{compares_within}
use Rattle.pf_heap.proofs.Forests.{same-self, same-le, equal_from_same}
use Rattle.pf_heap.proofs.Digits.{paid-le-digits}
use Rattle.pf_heap.proofs.Sets.{keys_insert}
use Rattle.pf_heap.proofs.Tables.{weigh_all-append, weigh_all-put}
use Rattle.pf_heap.proofs.Lists.{rises_in, all_rise-set, own_idle, put_idle, idle_weight}
use Rattle.pf_heap.proofs.Room.{room_used}
use Rattle.pf_heap.proofs.Whole.{heap_apart, small, all_weigh, lists_are, main_is_keys, task_weighs, now_main, now_lists, now_spare, now_tasks, list_is, len_is, held_from_weigh, heap_in, link_is}
use Rattle.pf_heap.proofs.Changes.{IsArenaAfter, fresh, grouped, heap_back, idle_elsewhere, idle_out, rebuilt}

-- ---- insert

module _ {nodes : List Node} {heads : List ℕ} {main : Roots} {room : ℕ} (a : IsArena nodes heads main room) {now : Heaps}
    (seen : ◌≡◌ {A = Heaps} (record { main = main_at nodes main; lists = lists_at nodes heads; spare = room; tasks = length nodes }) now) where
  module _ {h index link : ℕ} (key : Priority) (is : index ≡ h) (within : h < length now.lists) (read : link ≡ get_or heads index link)
      (low : key.task < now.tasks) (absent : IsHeld (all_lists now) key.task → ⊥) (some : 1 ≤ now.spare) where
    pub task_low : key.task < length nodes
    task_low = omega (arith, low, now_tasks a seen)

    pub unheld : weigh_all (at_place key.task) (all_roots a.trees) + weigh_all (at_place key.task) (all_roots a.heaps) ≡ 0
    unheld = ⊎_elim (λ lt. absurd (absent (held_from_weigh a seen key.task (omega (arith, lt, task_weighs a key.task))))) (λ le. omega (arith, le))
        (cases_lt 0 (weigh_all (at_place key.task) (all_roots a.trees) + weigh_all (at_place key.task) (all_roots a.heaps)))

    pub h_in : h < length a.heaps
    h_in = heap_in a seen is within read

    pub settled : Parts (set nodes key.task (fresh key)) (root (single key.task key) ∷ all_parts a.trees a.heaps (set a.idles key.task none))
    settled = idle_out a.trees a.heaps a.idles key.task key a.idles_are task_low (omega (arith, task_low, a.as_many)) a.parts unheld

    abbrev pub insert_heaps : {lent : List Node} {at : ℕ} → lent ≡ set nodes key.task (fresh key) → at ≡ key.task → HasNodeAndList lent at link
    insert_heaps {lent} {at} e at_is = record {
      added = single key.task key;
      list = get_or a.heaps h none;
      others = all_roots a.trees ++ (all_roots (set a.heaps h none) ++ all_roots (set a.idles key.task none));
      added_is = at_is;
      list_is = link_is a seen is within read;
      is_tree = (refl, refl);
      full = omega arith;
      rises = rises_in a.heaps h a.rise;
      small = omega (arith, ap length e, length-set nodes key.task (fresh key), small a);
      parts =
          let p = heap_apart a.trees a.heaps (set a.idles key.task none) h h_in (record { stand = settled.stand.1; once = λ i. omega (arith, settled.once i) }) in
          subst (λ ns. Parts ns (root (single key.task key) ∷ root (get_or a.heaps h none) ∷ (all_roots a.trees ++ (all_roots (set a.heaps h none) ++ all_roots (set a.idles key.task none))))) (sym e)
          (record {
            stand = (settled.stand.0, p.stand);
            once = λ i. omega (
              arith,
              settled.once i,
              weigh_all-append (at_place i) (all_roots a.trees) (all_roots a.heaps ++ all_roots (set a.idles key.task none)),
              weigh_all-append (at_place i) (all_roots a.heaps) (all_roots (set a.idles key.task none)),
              weigh_all-append (at_place i) (all_roots a.trees) (all_roots (set a.heaps h none) ++ all_roots (set a.idles key.task none)),
              weigh_all-append (at_place i) (all_roots (set a.heaps h none)) (all_roots (set a.idles key.task none)),
              weigh_all-put (at_place i) a.heaps h none h_in,
            );
          });
    }

    module _ {new : List Node} {result : ℕ} {before after : Counts} (m : IsAddedTo new (single key.task key) (get_or a.heaps h none)
        (all_roots a.trees ++ (all_roots (set a.heaps h none) ++ all_roots (set a.idles key.task none))) result before after) (long : length new ≡ length nodes) where
      inserted_weighs : (w : ℕ → Priority → ℕ) → weigh_all w (all_roots (set a.heaps h m.heap)) ≡ weigh_all w (all_roots a.heaps) + w key.task key
      inserted_weighs w = omega (arith, m.kept w, weigh_all-put w a.heaps h m.heap h_in)

      was_idle : (i : ℕ) → weigh_all (at_place i) (all_roots (set a.idles key.task none)) + same i key.task ≡ weigh_all (at_place i) (all_roots a.idles)
      was_idle i =
          let p = weigh_all-put (at_place i) a.idles key.task none (omega (arith, task_low, a.as_many)) in
          ⊎_elim
          (λ here.
          let e = equal_from_same i key.task (omega (arith, here)) in
          let one : forest_weight (at_place key.task) (get_or a.idles key.task none) ≡ 1 =
          omega (arith, idle_weight key.task a.idles a.idles_are, a.filled key.task task_low, all_weigh a (at_place key.task), unheld) in
          omega (arith, p, one, ap (λ x. forest_weight (at_place x) (get_or a.idles key.task none)) e, same-le i key.task, here))
          (λ other.
          let none_there : forest_weight (at_place i) (get_or a.idles key.task none) ≡ 0 = idle_elsewhere i key.task (get_or a.idles key.task none) (own_idle key.task a.idles a.idles_are) (omega (arith, other)) in
          omega (arith, p, none_there, other))
          (cases_lt 0 (same i key.task))

      inserted_arena : IsArena new (set heads h result) main (room - 1)
      inserted_arena = rebuilt a a.trees (set a.heaps h m.heap) (set a.idles key.task none) long a.main_is
          ((λ i. set (a.heads_are i) h (m.heap_is i)) ∙ sym (map-set head a.heaps h m.heap))
          (all_rise-set a.heaps h m.heap a.rise m.rises)
          (put_idle key.task a.idles none a.idles_are tt)
          (length-set a.idles key.task none)
          (heap_back a.trees a.heaps (set a.idles key.task none) h m.heap h_in m.parts)
          (λ i. omega (
            arith,
            all_weigh a (at_place i),
            grouped a (at_place i) a.trees (set a.heaps h m.heap) (set a.idles key.task none),
            inserted_weighs (at_place i),
            was_idle i,
          ))
          (omega (arith, a.placed, inserted_weighs misplaced, same-self key.task))
          (room_used key.task a.idles a.idles_are (omega (arith, task_low, a.as_many)) a.room_few)

      pub inserted : IsArenaAfter new (set heads h result) main (room - 1)
          (record (with_list now h (fin.insert (list_of now h) key)) { spare = now.spare - 1 }) (digits (fin.len (list_of now h) + 1)) before after
      unfolding inserted_arena rebuilt
      inserted =
          let u : keys m.heap ≡ fin.insert (list_of now h) key =
          keys_insert m.heap (get_or a.heaps h none) key.task key (λ w. omega (arith, m.kept w))
          ∙ ap (λ k. fin.insert k key) (sym (list_is a seen h)) in
          let lists : lists_at new (set heads h result) ≡ set now.lists h (fin.insert (list_of now h) key) =
          lists_are inserted_arena
          ∙ map-set keys a.heaps h m.heap
          ∙ ap (λ l. set l h (keys m.heap)) (sym (now_lists a seen))
          ∙ ap (λ k. set now.lists h k) u in
          let same_main : main_at new main ≡ now.main = main_is_keys inserted_arena ∙ sym (now_main a seen) in
          let sizes : digits (fin.len (list_of now h) + 1) ≡ digits (size (get_or a.heaps h none) + 1) = λ i. digits (len_is a seen h i + 1) in
          record {
            arena = inserted_arena;
            view = λ i. record { main = same_main i; lists = lists i; spare = sym (now_spare a seen) i - 1; tasks = (long ∙ sym (now_tasks a seen)) i };
            counted = compares_within
                (omega (arith, sizes, paid-le-digits m.made (size (get_or a.heaps h none) + 1) (⊎_elim (λ z. inl z) (λ z. inr (omega (arith, z))) m.made_paid)))
                m.counted;
          }
