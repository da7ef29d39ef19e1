-- Taking a node out of a table, and the first one.
use Rattle.std.proofs.Common.{◌≡◌, ◌≢◌, ℕ, zero, suc, ◌+◌, ◌-◌, ◌*◌, ◌^◌, ◌<◌, ◌≤◌, ◌⊎◌, inl, inr, List, ◌∷◌, ◌++◌, length, get_or, set, refl, sym, ap, ◌∙◌, subst, arith, ⊎_elim, get_or-set_same, get_or-set_other}
use Rattle.std.specs.Int.Count.{ones, ones-ones}
use Rattle.std.proofs.lemmas.Nat.{ones-le}
use Rattle.std.proofs.Math.ListN.{length-set}
use Rattle.std.proofs.lemmas.Bool.{cases_lt, cases_eq}
use Rattle.pf_order.specs.Priority.{Priority}
use Rattle.pf_order.specs.Counts.{Counts}
use Rattle.pf_heap.specs.declared.node.Node.{Node}
use Rattle.pf_heap.specs.declared.table.Roots.{Roots}
use Rattle.pf_heap.specs.Digits.{digits}
use Rattle.pf_heap.specs.Forest.{Forest, none, tree, single, nowhere, head, forest_weight, one_each, size, some, Falls, IsTreeOrNone}
use Rattle.pf_heap.specs.Memory.{no_node, node_at, Part, root, all_roots, weigh_all, Parts, nodes_alone, nodes_idle}
use Rattle.pf_heap.specs.Split.{HasTreeOf, IsSplit}
use Rattle.pf_heap.specs.Table.{mask_of, AreByRank, IsTable, HasListAndTable, IsInTable, HasTable, IsFirstRoot}
use Rattle.pf_heap.specs.Taking.{CanTakeFrom, IsTakenFrom, IsFirstTaken}
use Rattle.pf_order.proofs.Comparing.{compares_within, compares_both}
use Rattle.pf_heap.proofs.Forests.{same-self, size_from_falls}
use Rattle.pf_heap.proofs.Standing.{stands-set, stand_all-set}
use Rattle.pf_heap.proofs.Digits.{below-digits}
use Rattle.pf_heap.proofs.Counting.{count_by_size, roots_of_list, roots_of_kids, carried-le-digits}
use Rattle.pf_heap.proofs.Tables.{weigh_all-put, tree_out, tree_at, trees_put, mask-put, some_from_tree}
use Rattle.pf_heap.proofs.AddedTrees.{behind, in_front}
use Rattle.pf_heap.proofs.Takes.{few_roots, idle_tree, made_idle, trees_from_falls, trees_from_rises}

-- ---- out of a table

-- the table without the tree of this rank
module _ {table : Roots} {trees : List Forest} (t : IsTable table trees) {rank : ℕ} (there : get_or trees rank none ≢ none) (low : rank < 16) where
  one_there : some (get_or trees rank none) ≡ 1
  one_there = some_from_tree (get_or trees rank none) there

  bit_gone : mask_of (set trees rank none) + 2 ^ rank ≡ mask_of trees
  bit_gone =
      let p = mask-put trees rank none (omega (arith, low, t.long)) in
      let e : some (get_or trees rank none) * 2 ^ rank ≡ 2 ^ rank = ap (λ n. n * 2 ^ rank) one_there ∙ omega arith in
      omega (arith, p, e)

  pub bit_within : 2 ^ rank ≤ table.ranks
  bit_within = omega (arith, bit_gone, t.ranks)

  pub without_tree : {less : Roots} → less ≡ record table { ranks = table.ranks - 2 ^ rank } → IsTable less (set trees rank none)
  without_tree {less} is = subst (λ (r : Roots). IsTable r (set trees rank none)) (sym is) (record {
    places = t.places;
    long = length-set trees rank none ∙ t.long;
    by_rank = trees_put trees rank none t.by_rank tt;
    ranks = omega (arith, bit_gone, t.ranks);
    links = λ r h. ⊎_elim
        (λ e. absurd (h (ap (λ x. get_or (set trees rank none) x none) e ∙ get_or-set_same trees rank none none (omega (arith, low, t.long)))))
        (λ differ.
        let same_tree : get_or (set trees rank none) r none ≡ get_or trees r none = get_or-set_other trees rank r none none differ in
        t.links r (λ e. h (same_tree ∙ e)) ∙ ap head (sym same_tree))
        (cases_eq r rank);
  })

tree_is_some : (f : Forest) (at : ℕ) (key : Priority) (rank : ℕ) (kids : Forest) → f ≡ tree at key rank kids none → f ≢ none
tree_is_some f at key rank kids is e = absurd (omega (arith, ap some (sym is ∙ e)))

pub falls_there : (trees : List Forest) (rank at : ℕ) (key : Priority) (kids : Forest) → AreByRank 0 trees → get_or trees rank none ≡ tree at key rank kids none → Falls key rank kids
falls_there trees rank at key kids by_rank is = (subst (λ f. IsTreeOrNone rank f) is (tree_at trees rank by_rank)).1

module _ {nodes : List Node} {table : Roots} {rank top at : ℕ} (low : rank < 16) (can : CanTakeFrom nodes table rank top at) where
  pub table_there : get_or can.trees rank none ≢ none
  table_there = tree_is_some (get_or can.trees rank none) top can.key rank can.kids can.tree_is

  abbrev pub table_tree : HasTreeOf nodes top at
  table_tree = record {
    key = can.key;
    rank = rank;
    kids = can.kids;
    others = all_roots (set can.trees rank none) ++ can.others;
    falls = falls_there can.trees rank top can.key can.kids can.table_is.by_rank can.tree_is;
    has = can.has;
    small = can.small;
    parts = subst (λ f. Parts nodes (root f ∷ (all_roots (set can.trees rank none) ++ can.others))) can.tree_is (tree_out can.trees rank can.place can.others can.parts);
  }

  pub enough_bits : 2 ^ rank ≤ table.ranks
  enough_bits = bit_within can.table_is table_there low

  module _ {mid : List Node} {halves : ℕ} (s : IsSplit mid at (tree top can.key rank can.kids none) (all_roots (set can.trees rank none) ++ can.others) halves)
      {less : Roots} (less_is : less ≡ record table { ranks = table.ranks - 2 ^ rank }) where
    abbrev pub halves_list : HasListAndTable mid less halves
    halves_list =
        let swapped : Parts mid (root s.halves ∷ root (single at s.key) ∷ (all_roots (set can.trees rank none) ++ can.others)) =
        record { stand = (s.parts.stand.1.0, (s.parts.stand.0, s.parts.stand.1.1)); once = λ i. omega (arith, s.parts.once i) } in
        let p : Parts mid (root s.halves ∷ (all_roots (set can.trees rank none) ++ (root (single at s.key) ∷ can.others))) =
        behind mid (root s.halves) (root (single at s.key)) (all_roots (set can.trees rank none)) can.others swapped in
        record {
          up = nowhere;
          list = s.halves;
          trees = set can.trees rank none;
          others = root (single at s.key) ∷ can.others;
          link_is = s.link_is;
          are_trees = trees_from_rises 0 s.halves s.rises;
          few = few_roots s.halves (all_roots (set can.trees rank none) ++ (root (single at s.key) ∷ can.others)) s.small p s.rises;
          table_is = without_tree can.table_is table_there low less_is;
          small = s.small;
          parts = p;
        }

    pub from_within : {new : List Node} {full : Roots} {before after : Counts} → IsInTable new full s.halves (set can.trees rank none) (root (single at s.key) ∷ can.others) before after → at < length new
    from_within {new} d = (in_front new (root (single at s.key)) (all_roots d.now) can.others d.parts).stand.0.0

    pub taken_from : {new end : List Node} {full : Roots} {before after : Counts} →
        IsInTable new full s.halves (set can.trees rank none) (root (single at s.key) ∷ can.others) before after → end ≡ nodes_idle new at → IsTakenFrom end full can.trees can.others at before after
    taken_from {new} {end} {full} d written =
        let out : (w : ℕ → Priority → ℕ) → weigh_all w (all_roots (set can.trees rank none)) + forest_weight w (tree top can.key rank can.kids none) ≡ weigh_all w (all_roots can.trees) =
        λ w. omega (arith, weigh_all-put w can.trees rank none can.place, ap (λ f. forest_weight w f) can.tree_is) in
        let a : ℕ = weigh_all one_each (all_roots (set can.trees rank none)) in
        let whole : weigh_all one_each (all_roots d.now) ≡ weigh_all one_each (all_roots (set can.trees rank none)) + size s.halves = omega (arith, d.kept one_each) in
        record {
          key = s.key;
          left = d.now;
          table_is = d.table_is;
          parts = subst (λ ns. Parts ns (root (idle_tree at s.key) ∷ (all_roots d.now ++ can.others))) (sym written)
              (made_idle new at s.key (all_roots d.now ++ can.others) (in_front new (root (single at s.key)) (all_roots d.now) can.others d.parts));
          kept = λ w. omega (arith, d.kept w, s.kept w, out w);
          counted = compares_within
              (carried-le-digits d.made (weigh_all one_each (all_roots (set can.trees rank none))) (size s.halves) (weigh_all one_each (all_roots can.trees))
              (omega (
                arith,
                d.made_is,
                count_by_size d.now d.table_is.by_rank,
                ap ones whole,
                count_by_size (set can.trees rank none) (trees_put can.trees rank none can.table_is.by_rank tt),
                roots_of_list s.halves 0 s.rises,
              ))
              (omega (arith, s.kept one_each, out one_each)))
              d.counted;
        }

-- ---- the first one out of a table

pub strip_parts : (nodes : List Node) (at : ℕ) (key : Priority) (rank : ℕ) (kids : Forest) (ps : List Part) →
    Parts nodes (root (tree at key rank kids none) ∷ ps) → Parts (nodes_alone nodes at) ((at, kids) ∷ root (single at key) ∷ ps)
strip_parts nodes at key rank kids ps parts =
    let s = parts.stand.0 in
    let v : Node = record (node_at nodes at) { parent = nowhere; sibling = nowhere; child = nowhere; rank = 0 } in
    let o = parts.once at in
    let e = same-self at in
    record {
      stand = (
        stands-set nodes at v at kids (omega (arith, o)) s.2,
        (
          (
            omega (arith, s.0, length-set nodes at v),
            get_or-set_same nodes at v no_node s.0 ∙ ap (λ (n : Node). record n { parent = nowhere; sibling = nowhere; child = nowhere; rank = 0 }) s.1,
            tt,
            tt,
          ),
          stand_all-set nodes at v ps (omega (arith, o)) parts.stand.1,
        ),
      );
      once = λ i. omega (arith, parts.once i);
    }

zero_or_more : (n : ℕ) → (n ≡ 0) ⊎ (1 ≤ n)
zero_or_more zero = inl refl
zero_or_more (suc n) = inr (omega arith)

ones-le-digits : (n : ℕ) → ones n ≤ digits n
ones-le-digits zero = omega (arith, ones-ones 0)
ones-le-digits (suc n) =
    ⊎_elim
    (λ none_set. omega (arith, none_set))
    (λ some_set.
    ⊎_elim
    (λ small. absurd (omega (arith, ones-le (ones (suc n) - 1) (suc n) small, some_set)))
    (λ large. omega (arith, below-digits (ones (suc n) - 1) (suc n) large, some_set))
    (cases_lt (suc n) (2 ^ (ones (suc n) - 1))))
    (zero_or_more (ones (suc n)))

-- the rank that was read is the root's
pub without_rank : (table : Roots) {less : Roots} {r s : ℕ} → r ≡ s → less ≡ record table { ranks = table.ranks - 2 ^ r } → less ≡ record table { ranks = table.ranks - 2 ^ s }
without_rank table e is = is ∙ ap (λ x. record table { ranks = table.ranks - 2 ^ x }) e

module _ {nodes : List Node} {table : Roots} {at : ℕ} {before between : Counts} (can : HasTable nodes table) (f : IsFirstRoot can.trees at before between) where
  pub first_low : f.rank < 16
  first_low = omega (arith, f.place, can.table_is.long)

  pub first_there : get_or can.trees f.rank none ≢ none
  first_there = tree_is_some (get_or can.trees f.rank none) at f.key f.rank f.kids f.tree_is

  pub first_out : Parts nodes (root (tree at f.key f.rank f.kids none) ∷ (all_roots (set can.trees f.rank none) ++ can.others))
  first_out = subst (λ g. Parts nodes (root g ∷ (all_roots (set can.trees f.rank none) ++ can.others))) f.tree_is (tree_out can.trees f.rank f.place can.others can.parts)

  pub first_within : at < length nodes
  first_within = first_out.stand.0.0

  pub first_node : node_at nodes at ≡ record { key = f.key; parent = nowhere; child = head f.kids; sibling = nowhere; rank = f.rank }
  first_node = first_out.stand.0.1

  pub first_falls : Falls f.key f.rank f.kids
  first_falls = falls_there can.trees f.rank at f.key f.kids can.table_is.by_rank f.tree_is

  pub first_bits : 2 ^ f.rank ≤ table.ranks
  first_bits = bit_within can.table_is first_there first_low

  module _ {mid : List Node} (written : mid ≡ nodes_alone nodes at) (mid_small : length mid < 2 ^ 16) {less : Roots} (less_is : less ≡ record table { ranks = table.ranks - 2 ^ f.rank })
      {child : ℕ} (child_is : child ≡ head f.kids) where
    abbrev pub kids_list : HasListAndTable mid less child
    kids_list =
        let p : Parts mid ((at, f.kids) ∷ root (single at f.key) ∷ (all_roots (set can.trees f.rank none) ++ can.others)) =
        subst (λ ns. Parts ns ((at, f.kids) ∷ root (single at f.key) ∷ (all_roots (set can.trees f.rank none) ++ can.others))) (sym written)
        (strip_parts nodes at f.key f.rank f.kids (all_roots (set can.trees f.rank none) ++ can.others) first_out) in
        record {
          up = at;
          list = f.kids;
          trees = set can.trees f.rank none;
          others = root (single at f.key) ∷ can.others;
          link_is = child_is;
          are_trees = trees_from_falls f.key f.rank f.kids first_falls;
          few = omega (arith, roots_of_kids f.key f.rank f.kids first_falls, first_low);
          table_is = without_tree can.table_is first_there first_low less_is;
          small = mid_small;
          parts = behind mid (at, f.kids) (root (single at f.key)) (all_roots (set can.trees f.rank none)) can.others p;
        }

    pub kids_within : {new : List Node} {full : Roots} {after : Counts} → IsInTable new full f.kids (set can.trees f.rank none) (root (single at f.key) ∷ can.others) between after → at < length new
    kids_within {new} d = (in_front new (root (single at f.key)) (all_roots d.now) can.others d.parts).stand.0.0

    pub first_taken : {new end : List Node} {full : Roots} {after : Counts} →
        IsInTable new full f.kids (set can.trees f.rank none) (root (single at f.key) ∷ can.others) between after → end ≡ nodes_idle new at → IsFirstTaken end full can.trees can.others at before after
    first_taken {new} {end} {full} d written =
        let out : (w : ℕ → Priority → ℕ) → weigh_all w (all_roots (set can.trees f.rank none)) + forest_weight w (tree at f.key f.rank f.kids none) ≡ weigh_all w (all_roots can.trees) =
        λ w. omega (arith, weigh_all-put w can.trees f.rank none f.place, ap (λ g. forest_weight w g) f.tree_is) in
        let a : ℕ = weigh_all one_each (all_roots (set can.trees f.rank none)) in
        let k : ℕ = weigh_all one_each (all_roots can.trees) in
        let whole : weigh_all one_each (all_roots d.now) ≡ weigh_all one_each (all_roots (set can.trees f.rank none)) + size f.kids = omega (arith, d.kept one_each) in
        let kids_size : size f.kids ≡ 2 ^ f.rank - 1 = omega (arith, size_from_falls f.key f.rank f.kids first_falls) in
        let kids_ones : ones (size f.kids) ≡ f.rank = ap ones kids_size ∙ ones-ones f.rank in
        let second : d.made ≤ digits (weigh_all one_each (all_roots can.trees)) =
        carried-le-digits d.made (weigh_all one_each (all_roots (set can.trees f.rank none))) (size f.kids) (weigh_all one_each (all_roots can.trees))
        (omega (
          arith,
          d.made_is,
          count_by_size d.now d.table_is.by_rank,
          ap ones whole,
          count_by_size (set can.trees f.rank none) (trees_put can.trees f.rank none can.table_is.by_rank tt),
          roots_of_kids f.key f.rank f.kids first_falls,
          kids_ones,
        ))
        (omega (arith, out one_each)) in
        record {
          key = f.key;
          left = d.now;
          table_is = d.table_is;
          parts = subst (λ ns. Parts ns (root (idle_tree at f.key) ∷ (all_roots d.now ++ can.others))) (sym written)
              (made_idle new at f.key (all_roots d.now ++ can.others) (in_front new (root (single at f.key)) (all_roots d.now) can.others d.parts));
          kept = λ w. omega (arith, d.kept w, out w);
          first = f.first;
          counted = compares_within
              (omega (arith, f.made_few, second, count_by_size can.trees can.table_is.by_rank, ones-le-digits (weigh_all one_each (all_roots can.trees))))
              (compares_both f.counted d.counted);
        }
