-- The worked examples of heaps: each heap's keys are listed, and come out as they are listed.
use Rattle.std.proofs.Common.{◌≡◌, ◌≢◌, ℕ, zero, suc, ◌<◌, true, [], ◌∷◌, get_or, refl, sym, ap, ◌∙◌, arith}
use Rattle.std.specs.FinSet as set
use Rattle.pf_window.specs.Window.{deadline_of, bit_of}
use Rattle.pf_window.specs.Group.{group_of}
use Rattle.pf_order.specs.Priority.{Priority, priority_cmp}
use Rattle.pf_heap.specs.Keys.{IsHeld, list_of, all_lists, other_keys}
use Rattle.pf_calendar.proofs.Sets.{has_none}
use Rattle.pf_laws.specs.Examples.Order.{key_a, key_b, key_c, key_e, key_f}
use Rattle.pf_laws.specs.Examples.Heaps.{melded, popped, removed, gathered, fifteen, WorkedHeaps}
use Rattle.pf_laws.proofs.ExamplesLemmas.Sets.{same_keys, union_listed, others_listed, other_tasks, only_of_task, contains-listed, rest_listed, come_out, come_out_of}

-- what heap 0 holds after each step
melded_is : list_of melded 0 ≡ set.from_list (key_c ∷ key_f ∷ key_e ∷ key_b ∷ key_a ∷ [])
unfolding deadline_of bit_of group_of priority_cmp
melded_is =
    union_listed (key_f ∷ key_e ∷ key_a ∷ []) (key_c ∷ key_b ∷ [])
    ∙ same_keys (key_f ∷ key_e ∷ key_a ∷ key_c ∷ key_b ∷ []) (key_c ∷ key_f ∷ key_e ∷ key_b ∷ key_a ∷ []) refl refl

popped_is : list_of popped 0 ≡ set.from_list (key_f ∷ key_e ∷ key_b ∷ key_a ∷ [])
unfolding deadline_of bit_of group_of priority_cmp
popped_is = ap (λ s. set.remove s key_c) melded_is ∙ rest_listed key_c (key_f ∷ key_e ∷ key_b ∷ key_a ∷ []) refl

removed_is : list_of removed 0 ≡ set.from_list (key_f ∷ key_b ∷ key_a ∷ [])
removed_is = ap (λ s. other_keys s 4) popped_is ∙ others_listed (key_f ∷ key_e ∷ key_b ∷ key_a ∷ []) 4

-- no key of task 4 is left
none_listed : (i : ℕ) (q : Priority) → i < 3 → set.contains (get_or (all_lists removed) i set.empty) q ≡ true → q.task ≢ 4
none_listed zero q within has = absurd (has_none q has)
none_listed (suc zero) q within has = other_tasks (list_of popped 0) 4 q has
none_listed (suc (suc zero)) q within has = absurd (has_none q has)
none_listed (suc (suc (suc i))) q within has = absurd (omega arith)

-- what the main heap holds at last
gathered_is : gathered.main ≡ set.from_list (key_f ∷ key_b ∷ key_a ∷ [])
gathered_is = ap (λ s. set.union set.empty s) removed_is ∙ union_listed [] (key_f ∷ key_b ∷ key_a ∷ [])

pub worked_heaps : WorkedHeaps
unfolding deadline_of bit_of group_of priority_cmp
worked_heaps =
    let first_melded = come_out_of (list_of melded 0) (key_c ∷ key_f ∷ key_e ∷ key_b ∷ key_a ∷ []) melded_is refl in
    record {
      first_filled = come_out (key_f ∷ key_e ∷ key_a ∷ []) refl;
      second_filled = come_out (key_c ∷ key_b ∷ []) refl;
      no_room = refl;
      first_melded = first_melded;
      second_melded = refl;
      least = first_melded.0;
      first_popped = come_out_of (list_of popped 0) (key_f ∷ key_e ∷ key_b ∷ key_a ∷ []) popped_is refl;
      has_e = ap (λ s. set.contains s key_e) popped_is ∙ contains-listed (key_f ∷ key_e ∷ key_b ∷ key_a ∷ []) key_e;
      e_of_task = refl;
      only_e = λ k has. only_of_task 4 key_e (key_f ∷ key_e ∷ key_b ∷ key_a ∷ []) refl k (sym (ap (λ s. set.contains s k) popped_is) ∙ has);
      first_removed = come_out_of (list_of removed 0) (key_f ∷ key_b ∷ key_a ∷ []) removed_is refl;
      none_left = other_tasks (list_of popped 0) 4;
      not_held = λ (held : IsHeld (all_lists removed) 4). none_listed held.list held.key held.listed held.has held.of_task;
      main_empty = refl;
      main_melded = come_out_of gathered.main (key_f ∷ key_b ∷ key_a ∷ []) gathered_is refl;
      all_melded = refl;
      by_task = come_out fifteen refl;
    }
