-- The first arena, and empty heaps more.
use Rattle.std.proofs.Common.{◌≡◌, ℕ, zero, suc, List, [], ◌∷◌, ◌++◌, map, length, refl, sym, ap, ◌∙◌, subst, arith}
use Rattle.std.specs.Prelude.{replicate}
use Rattle.std.proofs.lemmas.List.{map-append}
use Rattle.std.specs.FinSet as fin
use Rattle.pf_heap.specs.declared.node.Node.{Node}
use Rattle.pf_heap.specs.declared.table.Roots.{Roots}
use Rattle.pf_heap.specs.Forest.{Forest, none, nowhere, head, at_place}
use Rattle.pf_heap.specs.Memory.{all_roots}
use Rattle.pf_heap.specs.Keys.{Heaps}
use Rattle.pf_heap.specs.View.{keys, lists_at, main_at}
use Rattle.pf_heap.specs.Invariant.{IsArena, misplaced}
use Rattle.pf_heap.proofs.Tables.{weigh_all-append, stand_append}
use Rattle.pf_heap.proofs.Takes.{empty_table, no_trees, empty_is, none_weigh, none_stand}
use Rattle.pf_heap.proofs.Lists.{all_rise-more, weigh_all-more, stand_all-more}
use Rattle.pf_heap.proofs.Whole.{trees_stand, heaps_stand, idles_stand, all_weigh, lists_are, main_is_keys, now_lists, now_spare, now_tasks}
use Rattle.pf_heap.proofs.Changes.{grouped, rebuilt}

-- ---- the first arena

pub arena_begun : IsArena [] [] empty_table 0
arena_begun = record {
  trees = no_trees;
  heaps = [];
  idles = [];
  main_is = empty_is;
  heads_are = refl;
  rise = tt;
  idles_are = tt;
  few = omega arith;
  as_many = refl;
  parts = record {
    stand = stand_append [] (all_roots no_trees) [] (none_stand [] 16) tt;
    once = λ i. omega (arith, weigh_all-append (at_place i) (all_roots no_trees) [], none_weigh (at_place i) 16);
  };
  filled = λ i h. absurd (omega (arith, h));
  placed = omega (arith, none_weigh misplaced 16);
  room_few = omega arith;
}

pub begun_in : {nodes : List Node} {heads : List ℕ} {main : Roots} → nodes ≡ [] → heads ≡ [] → main ≡ empty_table → IsArena nodes heads main 0
begun_in e f g = subst (λ (l : List Node × List ℕ × Roots). IsArena l.0 l.1 l.2 0) (λ i. (sym e i, sym f i, sym g i)) arena_begun

pub begun_view : {nodes : List Node} {heads : List ℕ} {main : Roots} → nodes ≡ [] → heads ≡ [] → main ≡ empty_table →
    ◌≡◌ {A = Heaps} (record { main = main_at nodes main; lists = lists_at nodes heads; spare = 0; tasks = length nodes }) (record { main = fin.empty; lists = []; spare = 0; tasks = 0 })
unfolding lists_at arena_begun
begun_view e f g =
    (λ i. record { main = main_at (e i) (g i); lists = lists_at (e i) (f i); spare = 0; tasks = length (e i) })
    ∙ (λ i. record { main = main_is_keys arena_begun i; lists = []; spare = 0; tasks = 0 })

-- ---- empty heaps more

map_none : {X : Type 0} (f : Forest → X) (n : ℕ) → map f (replicate n none) ≡ replicate n (f none)
map_none f zero = refl
map_none f (suc n) = ap (λ l. f none ∷ l) (map_none f n)

module _ {nodes : List Node} {heads : List ℕ} {main : Roots} {room : ℕ} (a : IsArena nodes heads main room) (n : ℕ) {more : List ℕ} (e : more ≡ heads ++ replicate n nowhere) where
  pub heaps_added : IsArena nodes more main room
  heaps_added = rebuilt a a.trees (a.heaps ++ replicate n none) a.idles refl a.main_is
      (e ∙ (λ i. a.heads_are i ++ sym (map_none head n) i) ∙ sym (map-append head a.heaps (replicate n none)))
      (all_rise-more a.heaps n a.rise) a.idles_are refl
      (record {
        stand = stand_append nodes (all_roots a.trees) (all_roots (a.heaps ++ replicate n none) ++ all_roots a.idles) (trees_stand a)
            (stand_append nodes (all_roots (a.heaps ++ replicate n none)) (all_roots a.idles) (stand_all-more nodes a.heaps n (heaps_stand a)) (idles_stand a));
        once = λ i. omega (arith, a.parts.once i, all_weigh a (at_place i), grouped a (at_place i) a.trees (a.heaps ++ replicate n none) a.idles, weigh_all-more (at_place i) a.heaps n);
      })
      (λ i. omega (arith, all_weigh a (at_place i), grouped a (at_place i) a.trees (a.heaps ++ replicate n none) a.idles, weigh_all-more (at_place i) a.heaps n))
      (omega (arith, a.placed, weigh_all-more misplaced a.heaps n))
      a.room_few

  pub heaps_added_view : {now : Heaps} → ◌≡◌ {A = Heaps} (record { main = main_at nodes main; lists = lists_at nodes heads; spare = room; tasks = length nodes }) now →
      ◌≡◌ {A = Heaps} (record { main = main_at nodes main; lists = lists_at nodes more; spare = room; tasks = length nodes }) (record now { lists = now.lists ++ replicate n fin.empty })
  unfolding heaps_added rebuilt
  heaps_added_view {now} seen =
      let l : lists_at nodes more ≡ now.lists ++ replicate n fin.empty =
      lists_are heaps_added ∙ map-append keys a.heaps (replicate n none) ∙ (λ i. sym (now_lists a seen) i ++ map_none keys n i) in
      λ i. record { main = ap (λ (x : Heaps). x.main) seen i; lists = l i; spare = sym (now_spare a seen) i; tasks = sym (now_tasks a seen) i }
