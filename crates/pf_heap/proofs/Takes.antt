-- Merging two lists, and taking a node out of a list.
use Rattle.std.proofs.Common.{◌≡◌, ℕ, zero, suc, ◌+◌, ◌-◌, ◌^◌, ◌<◌, ◌≤◌, ◌⊎◌, inl, inr, List, ◌∷◌, ◌++◌, length, get_or, set, refl, sym, ap, ◌∙◌, subst, arith, ⊎_elim, get_or-set_same}
use Rattle.std.specs.Prelude.{replicate}
use Rattle.std.specs.Int.Count.{ones}
use Rattle.std.proofs.Math.ListN.{length-set}
use Rattle.std.proofs.Math.Pow.{pow_mono}
use Rattle.std.proofs.lemmas.Bool.{cases_lt}
use Rattle.pf_order.specs.Priority.{Priority}
use Rattle.pf_order.specs.Counts.{Counts}
use Rattle.pf_heap.specs.declared.node.Node.{Node}
use Rattle.pf_heap.specs.declared.table.Roots.{Roots}
use Rattle.pf_heap.specs.Forest.{Forest, none, tree, single, nowhere, idle, same, at_place, one_each, size, roots, Falls, Rises, AreTrees}
use Rattle.pf_heap.specs.Memory.{no_node, node_at, Part, root, all_roots, weigh_all, StandAll, Parts, nodes_idle}
use Rattle.pf_heap.specs.Pops.{HasHeapAndRoot, IsParted}
use Rattle.pf_heap.specs.Split.{HasTreeOf, IsSplit}
use Rattle.pf_heap.specs.Table.{tree_count, AreByRank, IsTable, HasListAndTable, IsInTable, HasTable, IsListed}
use Rattle.pf_heap.specs.Taking.{HasTwoHeaps, IsMerged, CanTake, IsTaken}
use Rattle.pf_order.proofs.Comparing.{compares_within, compares_both}
use Rattle.pf_heap.proofs.Forests.{same-self, same-le, equal_from_same}
use Rattle.pf_heap.proofs.Standing.{stand_all-set}
use Rattle.pf_heap.proofs.Weights.{sizes-le-length}
use Rattle.pf_heap.proofs.Digits.{digits-mono}
use Rattle.pf_heap.proofs.Pops.{roots_paid, root_falls}
use Rattle.pf_heap.proofs.Counting.{count_by_size, roots_of_list, carried-le-digits}
use Rattle.pf_heap.proofs.Tables.{weigh_all-append, stand_append}
use Rattle.pf_heap.proofs.AddedTrees.{in_front}

-- ---- a node that is alone

abbrev pub idle_tree : ℕ → Priority → Forest
idle_tree t key = tree t key idle none none

-- a write to a node that is alone, or in no part
pub alone_parts : (nodes : List Node) (t : ℕ) (n : Node) (key : Priority) (rank : ℕ) (ps : List Part) → t < length nodes → weigh_all (at_place t) ps ≡ 0 →
    n ≡ record { key = key; parent = nowhere; child = nowhere; sibling = nowhere; rank = rank } → ((i : ℕ) → weigh_all (at_place i) ps ≤ 1) → StandAll nodes ps →
    Parts (set nodes t n) (root (tree t key rank none none) ∷ ps)
alone_parts nodes t n key rank ps within unused is once stand = record {
  stand = (
    (omega (arith, within, length-set nodes t n), get_or-set_same nodes t n no_node within ∙ is, tt, tt),
    stand_all-set nodes t n ps unused stand,
  );
  once = λ i. ⊎_elim
      (λ here. omega (arith, same-le i t, unused, ap (λ x. weigh_all (at_place x) ps) (equal_from_same i t (omega (arith, here)))))
      (λ other. omega (arith, other, once i))
      (cases_lt 0 (same i t));
}

-- a node that stands alone becomes idle
pub made_idle : (nodes : List Node) (t : ℕ) (key : Priority) (ps : List Part) → Parts nodes (root (single t key) ∷ ps) →
    Parts (set nodes t (record (node_at nodes t) { rank = idle })) (root (idle_tree t key) ∷ ps)
made_idle nodes t key ps parts =
    alone_parts nodes t (record (node_at nodes t) { rank = idle }) key idle ps parts.stand.0.0 (omega (arith, parts.once t, same-self t))
    (ap (λ (n : Node). record n { rank = idle }) parts.stand.0.1) (λ i. omega (arith, parts.once i)) parts.stand.1

-- ---- an empty table

abbrev pub empty_table : Roots
empty_table = record { trees = replicate 16 nowhere; ranks = 0 }

abbrev pub no_trees : List Forest
no_trees = replicate 16 none

none_at : (n k : ℕ) → get_or (replicate n none) k none ≡ none
none_at zero k = refl
none_at (suc n) zero = refl
none_at (suc n) (suc k) = none_at n k

none_by_rank : (n r : ℕ) → AreByRank r (replicate n none)
none_by_rank zero r = tt
none_by_rank (suc n) r = (tt, none_by_rank n (r + 1))

pub none_weigh : (w : ℕ → Priority → ℕ) (n : ℕ) → weigh_all w (all_roots (replicate n none)) ≡ 0
none_weigh w zero = refl
none_weigh w (suc n) = omega (arith, none_weigh w n)

pub none_stand : (nodes : List Node) (n : ℕ) → StandAll nodes (all_roots (replicate n none))
none_stand nodes zero = tt
none_stand nodes (suc n) = (tt, none_stand nodes n)

pub empty_is : IsTable empty_table no_trees
empty_is = record {
  places = refl;
  long = refl;
  by_rank = none_by_rank 16 0;
  ranks = refl;
  links = λ r h. absurd (h (none_at 16 r));
}

few_or_more : (n : ℕ) → (n ≤ 16) ⊎ (17 ≤ n)
few_or_more n = ⊎_elim (λ lt. inl (omega (arith, lt))) (λ ge. inr (omega (arith, ge))) (cases_lt n 17)

-- a list's roots are no more than there are ranks
pub few_roots : {nodes : List Node} (f : Forest) (others : List Part) → length nodes < 2 ^ 16 → Parts nodes (root f ∷ others) → Rises 0 f → roots f ≤ 16
few_roots {nodes} f others small parts rises =
    ⊎_elim
    (λ le. le)
    (λ more.
    let e : roots f ≡ (roots f - 1) + 1 = omega (arith, more) in
    let n : 16 ≤ roots f - 1 = omega (arith, more) in
    absurd (omega (arith, roots_paid f rises (roots f - 1) e, pow_mono n, sizes-le-length nodes (root f ∷ others) parts, small)))
    (few_or_more (roots f))

pub trees_from_rises : (r : ℕ) (f : Forest) → Rises r f → AreTrees f
trees_from_rises r none h = tt
trees_from_rises r (tree at key rank kids rest) h = (h.1, trees_from_rises (rank + 1) rest h.2)

pub trees_from_falls : (p : Priority) (r : ℕ) (f : Forest) → Falls p r f → AreTrees f
trees_from_falls p r none h = tt
trees_from_falls p r (tree at key rank kids rest) h = (h.2, trees_from_falls p rank rest h.3)

-- ---- merging

module _ {nodes : List Node} {x y : ℕ} (can : HasTwoHeaps nodes x y) where
  abbrev pub first_list : {table : Roots} → table ≡ empty_table → HasListAndTable nodes table x
  first_list {table} e = record {
    up = nowhere;
    list = can.first;
    trees = no_trees;
    others = root can.second ∷ can.others;
    link_is = can.first_is;
    are_trees = trees_from_rises 0 can.first can.first_rises;
    few = few_roots can.first (root can.second ∷ can.others) can.small can.parts can.first_rises;
    table_is = subst (λ (r : Roots). IsTable r no_trees) (sym e) empty_is;
    small = can.small;
    parts = record {
      stand = (can.parts.stand.0, stand_append nodes (all_roots no_trees) (root can.second ∷ can.others) (none_stand nodes 16) can.parts.stand.1);
      once = λ i. omega (arith, can.parts.once i, weigh_all-append (at_place i) (all_roots no_trees) (root can.second ∷ can.others), none_weigh (at_place i) 16);
    };
  }

  module _ {mid : List Node} {table : Roots} {before between : Counts} (d : IsInTable mid table can.first no_trees (root can.second ∷ can.others) before between) where
    pub second_parts : Parts mid (root can.second ∷ (all_roots d.now ++ can.others))
    second_parts = in_front mid (root can.second) (all_roots d.now) can.others d.parts

    abbrev pub second_list : HasListAndTable mid table y
    second_list = record {
      up = nowhere;
      list = can.second;
      trees = d.now;
      others = can.others;
      link_is = can.second_is;
      are_trees = trees_from_rises 0 can.second can.second_rises;
      few = few_roots can.second (all_roots d.now ++ can.others) d.small second_parts can.second_rises;
      table_is = d.table_is;
      small = d.small;
      parts = second_parts;
    }

    module _ {end : List Node} {full : Roots} {after : Counts} (e : IsInTable end full can.second d.now can.others between after) where
      abbrev pub both_in : HasTable end full
      both_in = record { trees = e.now; others = can.others; table_is = e.table_is; small = e.small; parts = e.parts }

      pub merged : {new : List Node} {link : ℕ} → IsListed new e.now can.others link → IsMerged new can.first can.second can.others link before after
      merged {new} {link} l =
          let w1 : size can.first + weigh_all one_each (all_roots no_trees) ≡ weigh_all one_each (all_roots d.now) = sym (d.kept one_each) in
          let whole : weigh_all one_each (all_roots e.now) ≡ size can.first + size can.second = omega (arith, e.kept one_each, w1, none_weigh one_each 16) in
          let none_there : tree_count no_trees ≡ 0 = refl in
          record {
            heap = l.list;
            heap_is = l.list_is;
            rises = l.rises;
            parts = l.parts;
            kept = λ w. omega (arith, l.kept w, e.kept w, d.kept w, none_weigh w 16);
            counted = compares_within
                (carried-le-digits (d.made + e.made) (size can.first) (size can.second) (size can.first + size can.second)
                (omega (
                  arith,
                  d.made_is,
                  e.made_is,
                  none_there,
                  count_by_size e.now e.table_is.by_rank,
                  ap ones whole,
                  roots_of_list can.first 0 can.first_rises,
                  roots_of_list can.second 0 can.second_rises,
                ))
                (omega arith))
                (compares_both d.counted e.counted);
          }

-- ---- out of a list

module _ {nodes : List Node} {link top at : ℕ} (can : CanTake nodes link top at) where
  abbrev pub its_root : HasHeapAndRoot nodes link top
  its_root = record {
    heap = can.heap;
    others = can.others;
    key = can.key;
    rank = can.rank;
    kids = can.kids;
    heap_is = can.heap_is;
    has = can.has_root;
    rises = can.rises;
    small = can.small;
    parts = can.parts;
  }

  module _ {mid : List Node} {rest : ℕ} (p : IsParted mid can.heap can.others top can.key can.rank can.kids rest) (mid_small : length mid < 2 ^ 16) where
    abbrev pub its_tree : HasTreeOf mid top at
    its_tree = record {
      key = can.key;
      rank = can.rank;
      kids = can.kids;
      others = root p.stay ∷ can.others;
      falls = root_falls 0 top can.key can.rank can.kids can.heap can.rises can.has_root;
      has = can.has;
      small = mid_small;
      parts = record { stand = (p.parts.stand.1.0, (p.parts.stand.0, p.parts.stand.1.1)); once = λ i. omega (arith, p.parts.once i) };
    }

    module _ {split : List Node} {halves : ℕ} (s : IsSplit split at (tree top can.key can.rank can.kids none) (root p.stay ∷ can.others) halves) where
      abbrev pub rest_and_halves : HasTwoHeaps split rest halves
      rest_and_halves = record {
        first = p.stay;
        second = s.halves;
        others = root (single at s.key) ∷ can.others;
        first_is = p.stay_is;
        second_is = s.link_is;
        first_rises = p.rises;
        second_rises = s.rises;
        small = s.small;
        parts = record { stand = (s.parts.stand.1.1.0, (s.parts.stand.1.0, (s.parts.stand.0, s.parts.stand.1.1.1))); once = λ i. omega (arith, s.parts.once i) };
      }

      pub taken_within : {new : List Node} {result : ℕ} {before after : Counts} → IsMerged new p.stay s.halves (root (single at s.key) ∷ can.others) result before after → at < length new
      taken_within m = m.parts.stand.1.0.0

      pub taken : {new end : List Node} {result : ℕ} {before after : Counts} →
          IsMerged new p.stay s.halves (root (single at s.key) ∷ can.others) result before after → end ≡ nodes_idle new at → IsTaken end can.heap can.others at result before after
      taken {new} {end} {result} m written = record {
        key = s.key;
        left = m.heap;
        link_is = m.heap_is;
        rises = m.rises;
        parts = subst (λ ns. Parts ns (root (idle_tree at s.key) ∷ root m.heap ∷ can.others)) (sym written)
            (made_idle new at s.key (root m.heap ∷ can.others)
            (record { stand = (m.parts.stand.1.0, (m.parts.stand.0, m.parts.stand.1.1)); once = λ i. omega (arith, m.parts.once i) }));
        kept = λ w. omega (arith, m.kept w, s.kept w, p.kept w);
        counted = compares_within (digits-mono (size p.stay + size s.halves) (size can.heap) (omega (arith, s.kept one_each, p.kept one_each))) m.counted;
      }
