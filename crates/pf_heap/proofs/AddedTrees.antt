-- A tree, and a list of trees, that are added to a table.
use Rattle.std.proofs.Common.{◌≡◌, ◌≢◌, ℕ, ◌+◌, ◌*◌, ◌^◌, ◌<◌, ◌≤◌, List, ◌∷◌, ◌++◌, length, get_or, set, refl, sym, ap, ◌∙◌, subst, arith, ⊎_elim, get_or-set_same, get_or-set_other}
use Rattle.std.proofs.Math.ListN.{length-set}
use Rattle.std.proofs.Math.Pow.{pow_mono}
use Rattle.std.proofs.lemmas.Bool.{cases_lt, cases_eq}
use Rattle.std.specs.Int.{bit_at}
use Rattle.pf_order.specs.Priority.{Priority}
use Rattle.pf_order.specs.Counts.{Counts, Compares}
use Rattle.pf_heap.specs.declared.node.Node.{Node}
use Rattle.pf_heap.specs.declared.table.Roots.{Roots}
use Rattle.pf_heap.specs.Forest.{Forest, none, tree, nowhere, head, forest_weight, one_each, at_place, size, roots, some, IsTreeOrNone, AreTrees}
use Rattle.pf_heap.specs.Memory.{node_at, Part, root, all_roots, weigh_all, Parts, nodes_with_sibling, AreJoined}
use Rattle.pf_heap.specs.Steps.{IsJoined}
use Rattle.pf_heap.specs.Table.{AreByRank, IsTable, HasTreeAndTable, IsCarriedTo, IsInTable, HasListAndTable, IsAddingAll}
use Rattle.pf_order.proofs.Comparing.{compares_none, compares_both}
use Rattle.pf_heap.proofs.Forests.{size_from_falls}
use Rattle.pf_heap.proofs.Standing.{none_from_link, head_within, head_somewhere, cut_parts}
use Rattle.pf_heap.proofs.Steps.{two_joined}
use Rattle.pf_heap.proofs.Carries.{tree_node}
use Rattle.pf_heap.proofs.Weights.{sizes-le-length}
use Rattle.pf_heap.proofs.Tables.{bit_none, bit_some, count-put, joined_somewhere, mask_is_size, no_roots, roots_of_tree, size_of_tree, some_from_tree, stand_append, stand_back, stand_front, tree_at, tree_in, tree_out, trees_put, weigh_all-append, weigh_all-put, with_front}

-- ---- a tree is carried through a table

pub carried_begun : (nodes : List Node) (table : Roots) (rank at : ℕ) (counts : Counts) (can : HasTreeAndTable nodes table rank at) →
    IsCarriedTo nodes rank can.added can.trees can.others at counts counts
carried_begun nodes table rank at counts can = record {
  carry = can.added;
  now = can.trees;
  carry_is = can.added_is;
  some_tree = can.some_tree;
  is_tree = can.is_tree;
  long = refl;
  by_rank = can.table_is.by_rank;
  higher = λ r h. refl;
  left = λ r h. refl;
  small = can.small;
  parts = can.parts;
  kept = λ w. refl;
  made = 0;
  made_is = omega arith;
  counted = compares_none _;
}

module _ {nodes : List Node} {table : Roots} {rank : ℕ} {added : Forest} {trees : List Forest} {others : List Part} {link : ℕ} {before between : Counts}
    (t : IsTable table trees) (m : IsCarriedTo nodes rank added trees others link before between) where
  now_long : length m.now ≡ 16
  now_long = m.long ∙ t.long

  -- no tree has so many nodes
  pub carried_low : rank < 16
  carried_low =
      ⊎_elim
      (λ lt. lt)
      (λ ge.
      let one : some m.carry ≡ 1 = some_from_tree m.carry (λ e. m.some_tree (m.carry_is ∙ ap head e)) in
      let full : size m.carry ≡ 2 ^ rank = size_of_tree rank m.carry m.is_tree ∙ ap (λ x. x * 2 ^ rank) one ∙ omega arith in
      absurd (omega (arith, pow_mono ge, full, sizes-le-length nodes (root m.carry ∷ (all_roots m.now ++ others)) m.parts, m.small)))
      (cases_lt rank 16)

  pub carried_node : (link < length nodes) × ((node_at nodes link).rank ≡ rank)
  carried_node = tree_node nodes rank link m.carry m.carry_is m.some_tree m.is_tree m.parts.stand.0

  -- the table has no tree of this rank
  module _ (low : rank < 16) (vacant : bit_at table.ranks rank ≢ 1) where
    empty_now : get_or m.now rank none ≡ none
    empty_now =
        m.higher rank (omega arith) ∙ bit_none trees rank (λ e. vacant (ap (λ x. bit_at x rank) t.ranks ∙ e))

    carried_links : (r : ℕ) → get_or (set m.now rank m.carry) r none ≢ none → get_or (set table.trees rank link) r nowhere ≡ head (get_or (set m.now rank m.carry) r none)
    carried_links r some_there =
        ⊎_elim
        (λ e. subst (λ x. get_or (set table.trees rank link) x nowhere ≡ head (get_or (set m.now rank m.carry) x none)) (sym e)
        (get_or-set_same table.trees rank link nowhere (omega (arith, low, t.places)) ∙ m.carry_is
        ∙ ap head (sym (get_or-set_same m.now rank m.carry none (omega (arith, low, now_long))))))
        (λ differ.
        let same_tree : get_or (set m.now rank m.carry) r none ≡ get_or m.now r none = get_or-set_other m.now rank r m.carry none differ in
        let there : get_or m.now r none ≢ none = λ e. some_there (same_tree ∙ e) in
        let old : get_or m.now r none ≡ get_or trees r none = m.left r there in
        get_or-set_other table.trees rank r link nowhere differ ∙ t.links r (λ e. there (old ∙ e)) ∙ ap head (sym old ∙ sym same_tree))
        (cases_eq r rank)

    pub carried_in : (from : ℕ) (ranks : ℕ) → IsTreeOrNone from added → some added ≡ 1 → ranks ≡ table.ranks + 2 ^ from →
        IsInTable nodes (record { trees = set table.trees rank link; ranks = ranks }) added trees others before between
    carried_in from ranks is_tree one ranks_are =
        let within : rank < length m.now = omega (arith, low, now_long) in
        let by_rank : AreByRank 0 (set m.now rank m.carry) = trees_put m.now rank m.carry m.by_rank m.is_tree in
        let kept : (w : ℕ → Priority → ℕ) → weigh_all w (all_roots (set m.now rank m.carry)) ≡ forest_weight w added + weigh_all w (all_roots trees) =
        λ w. omega (arith, m.kept w, weigh_all-put w m.now rank m.carry within, ap (λ f. forest_weight w f) empty_now) in
        let one_carry : some m.carry ≡ 1 = some_from_tree m.carry (λ e. m.some_tree (m.carry_is ∙ ap head e)) in
        let full : size added ≡ 2 ^ from = size_of_tree from added is_tree ∙ ap (λ x. x * 2 ^ from) one ∙ omega arith in
        record {
          now = set m.now rank m.carry;
          table_is = record {
            places = length-set table.trees rank link ∙ t.places;
            long = length-set m.now rank m.carry ∙ now_long;
            by_rank = by_rank;
            ranks = omega (arith, ranks_are, t.ranks, mask_is_size (set m.now rank m.carry) by_rank, mask_is_size trees t.by_rank, kept one_each, full);
            links = carried_links;
          };
          small = m.small;
          parts = tree_in m.now rank within others m.carry empty_now m.parts;
          kept = kept;
          made = m.made;
          made_is = omega (arith, m.made_is, count-put m.now rank m.carry within, one_carry, ap some empty_now, roots_of_tree from added is_tree one);
          counted = m.counted;
        }

  -- the table has one, which is joined with the carried one
  module _ (low : rank < 16) (taken : bit_at table.ranks rank ≡ 1) where
    old_some : get_or trees rank none ≢ none
    old_some = bit_some trees rank (ap (λ x. bit_at x rank) (sym t.ranks) ∙ taken)

    now_is : get_or m.now rank none ≡ get_or trees rank none
    now_is = m.higher rank (omega arith)

    link_at : get_or table.trees rank nowhere ≡ head (get_or m.now rank none)
    link_at = t.links rank old_some ∙ ap head (sym now_is)

    pub apart : Parts nodes (root (get_or m.now rank none) ∷ root m.carry ∷ (all_roots (set m.now rank none) ++ others))
    apart =
        let out = tree_out m.now rank (omega (arith, low, now_long)) others (with_front nodes (root m.carry) (all_roots m.now ++ others) m.parts) in
        record {
          stand = (out.stand.0, (m.parts.stand.0, out.stand.1));
          once = λ i. omega (
            arith,
            m.parts.once i,
            weigh_all-append (at_place i) (all_roots m.now) others,
            weigh_all-append (at_place i) (all_roots (set m.now rank none)) others,
            weigh_all-put (at_place i) m.now rank none (omega (arith, low, now_long)),
          );
        }

    pub there_node : (x : ℕ) → x ≡ get_or table.trees rank nowhere → (x ≢ nowhere) × (x < length nodes) × ((node_at nodes x).rank ≡ rank)
    there_node x is =
        let somewhere : x ≢ nowhere = λ e. absurd (omega (
          arith,
          is,
          link_at,
          e,
          head_somewhere nodes nowhere (get_or m.now rank none) m.small apart.stand.0 (λ z. old_some (sym now_is ∙ z)),
        )) in
        let n = tree_node nodes rank x (get_or m.now rank none) (is ∙ link_at) somewhere (tree_at m.now rank m.by_rank) apart.stand.0 in
        (somewhere, n.0, n.1)

    pub carried_on : {new : List Node} {x result : ℕ} {after : Counts} → x ≡ get_or table.trees rank nowhere → AreJoined nodes new x link result → Compares 1 between after →
        length new < 2 ^ 16 → IsCarriedTo new (rank + 1) added trees others result before after
    carried_on {new} {x} {result} {after} is joined counted small =
        let within : rank < length m.now = omega (arith, low, now_long) in
        let d : IsJoined new rank (get_or m.now rank none) m.carry (all_roots (set m.now rank none) ++ others) result =
        two_joined nodes new rank x link result (get_or m.now rank none) m.carry (all_roots (set m.now rank none) ++ others) (is ∙ link_at) m.carry_is
        (tree_at m.now rank m.by_rank) m.is_tree apart (there_node x is).0 m.some_tree joined in
        let one : some (get_or m.now rank none) ≡ 1 = some_from_tree (get_or m.now rank none) (λ z. old_some (sym now_is ∙ z)) in
        record {
          carry = d.whole;
          now = set m.now rank none;
          carry_is = d.whole_is;
          some_tree = λ e. absurd (joined_somewhere nodes new x link result (there_node x is).0 m.some_tree joined e);
          is_tree = d.is_tree;
          long = length-set m.now rank none ∙ m.long;
          by_rank = trees_put m.now rank none m.by_rank tt;
          higher = λ r h. get_or-set_other m.now rank r none none (λ e. absurd (omega (arith, h, e))) ∙ m.higher r (omega (arith, h));
          left = λ r there. ⊎_elim
              (λ e. absurd (there (ap (λ y. get_or (set m.now rank none) y none) e ∙ get_or-set_same m.now rank none none within)))
              (λ differ.
              let same_tree : get_or (set m.now rank none) r none ≡ get_or m.now r none = get_or-set_other m.now rank r none none differ in
              same_tree ∙ m.left r (λ e. there (same_tree ∙ e)))
              (cases_eq r rank);
          small = small;
          parts = d.parts;
          kept = λ w. omega (arith, d.kept w, m.kept w, weigh_all-put w m.now rank none within);
          made = m.made + 1;
          made_is = omega (arith, m.made_is, count-put m.now rank none within, one);
          counted = compares_both m.counted counted;
        }

-- ---- all trees of a list are added

-- a part goes after the trees, and back in front of them
pub behind : (nodes : List Node) (p q : Part) (fs : List Part) (others : List Part) → Parts nodes (p ∷ q ∷ (fs ++ others)) → Parts nodes (p ∷ (fs ++ (q ∷ others)))
behind nodes p q fs others parts = record {
  stand = (parts.stand.0, stand_append nodes fs (q ∷ others) (stand_front nodes fs others parts.stand.1.1) (parts.stand.1.0, stand_back nodes fs others parts.stand.1.1));
  once = λ i. omega (arith, parts.once i, weigh_all-append (at_place i) fs others, weigh_all-append (at_place i) fs (q ∷ others));
}

pub in_front : (nodes : List Node) (q : Part) (fs : List Part) (others : List Part) → Parts nodes (fs ++ (q ∷ others)) → Parts nodes (q ∷ (fs ++ others))
in_front nodes q fs others parts =
    let b = stand_back nodes fs (q ∷ others) parts.stand in
    record {
      stand = (b.0, stand_append nodes fs others (stand_front nodes fs (q ∷ others) parts.stand) b.1);
      once = λ i. omega (arith, parts.once i, weigh_all-append (at_place i) fs others, weigh_all-append (at_place i) fs (q ∷ others));
    }

pub adding_begun : (nodes : List Node) (table : Roots) (link : ℕ) (counts : Counts) (can : HasListAndTable nodes table link) →
    IsAddingAll nodes table can.up can.list can.trees can.others link 0 counts counts
adding_begun nodes table link counts can = record {
  rest = can.list;
  now = can.trees;
  rest_is = can.link_is;
  are_trees = can.are_trees;
  few = omega (arith, can.few);
  table_is = can.table_is;
  small = can.small;
  parts = can.parts;
  kept = λ w. refl;
  made = 0;
  made_is = omega arith;
  counted = compares_none _;
}

-- the first tree of what is left of a list
pub record IsNext (nodes : List Node) (rest : Forest) (link : ℕ) (node : Node) : Type 0 where
  pub key : Priority
  pub kids : Forest
  pub behind_it : Forest
  pub rest_is : rest ≡ tree link key node.rank kids behind_it
  pub next_is : node.sibling ≡ head behind_it
  pub low : node.rank < 16

next_tree : (nodes : List Node) (up link : ℕ) (node : Node) (rest : Forest) (others : List Part) → link ≡ head rest → link ≢ nowhere → node ≡ node_at nodes link → length nodes < 2 ^ 16 →
    AreTrees rest → Parts nodes ((up, rest) ∷ others) → IsNext nodes rest link node
next_tree nodes up link node none others is some read small are parts = absurd (some is)
next_tree nodes up link node (tree at key rank kids behind_it) others is some read small are parts =
    let s = parts.stand.0 in
    let n : node ≡ record { key = key; parent = up; child = head kids; sibling = head behind_it; rank = rank } = read ∙ ap (λ z. node_at nodes z) is ∙ s.1 in
    let r : node.rank ≡ rank = ap (λ (x : Node). x.rank) n in
    record {
      key = key;
      kids = kids;
      behind_it = behind_it;
      rest_is = λ i. tree (sym is i) key (sym r i) kids behind_it;
      next_is = ap (λ (x : Node). x.sibling) n;
      low = ⊎_elim (λ lt. lt)
          (λ ge. absurd (omega (arith, r, pow_mono ge, ap (λ x. 2 ^ x) r, size_from_falls key rank kids are.0, sizes-le-length nodes ((up, tree at key rank kids behind_it) ∷ others) parts, small)))
          (cases_lt node.rank 16);
    }

module _ {nodes : List Node} {table : Roots} {up : ℕ} {list : Forest} {trees : List Forest} {others : List Part} {link steps : ℕ} {before between : Counts}
    (m : IsAddingAll nodes table up list trees others link steps before between) where
  pub adding_within : link ≢ nowhere → link < length nodes
  adding_within some = head_within nodes up m.rest link m.parts.stand.0 m.rest_is some

  added_by : m.rest ≡ none → IsInTable nodes table list trees others before between
  added_by done = record {
    now = m.now;
    table_is = m.table_is;
    small = m.small;
    parts = with_front nodes (up, m.rest) (all_roots m.now ++ others) m.parts;
    kept = λ w. omega (arith, m.kept w, ap (λ f. forest_weight w f) done);
    made = m.made;
    made_is = omega (arith, m.made_is, ap roots done);
    counted = m.counted;
  }

  pub added_out : link ≡ nowhere → IsInTable nodes table list trees others before between
  added_out out = added_by (none_from_link nodes up link m.rest m.small m.parts.stand.0 m.rest_is out)

  pub added_all : 16 ≤ steps → IsInTable nodes table list trees others before between
  added_all all = added_by (no_roots m.rest (omega (arith, m.few, all)))

  module _ {node : Node} (some_link : link ≢ nowhere) (read : node ≡ node_at nodes link) where
    pub next : IsNext nodes m.rest link node
    next = next_tree nodes up link node m.rest (all_roots m.now ++ others) m.rest_is some_link read m.small m.are_trees m.parts

    module _ {mid : List Node} (written : mid ≡ nodes_with_sibling nodes link nowhere) (mid_small : length mid < 2 ^ 16) (n : IsNext nodes m.rest link node) where
      rest_parts : Parts nodes ((up, tree link n.key node.rank n.kids n.behind_it) ∷ (all_roots m.now ++ others))
      rest_parts = subst (λ f. Parts nodes ((up, f) ∷ (all_roots m.now ++ others))) n.rest_is m.parts

      rest_trees : AreTrees (tree link n.key node.rank n.kids n.behind_it)
      rest_trees = subst (λ f. AreTrees f) n.rest_is m.are_trees

      cut_off : Parts mid (root (tree link n.key node.rank n.kids none) ∷ (up, n.behind_it) ∷ (all_roots m.now ++ others))
      cut_off =
          subst (λ ns. Parts ns (root (tree link n.key node.rank n.kids none) ∷ (up, n.behind_it) ∷ (all_roots m.now ++ others))) (sym written)
          (cut_parts nodes up link n.key node.rank n.kids n.behind_it (all_roots m.now ++ others) rest_parts)

      pub first_and_table : HasTreeAndTable mid table node.rank link
      first_and_table = record {
        added = tree link n.key node.rank n.kids none;
        trees = m.now;
        others = (up, n.behind_it) ∷ others;
        added_is = refl;
        some_tree = some_link;
        is_tree = (refl, rest_trees.0);
        table_is = m.table_is;
        small = mid_small;
        parts = behind mid (root (tree link n.key node.rank n.kids none)) (up, n.behind_it) (all_roots m.now) others cut_off;
      }

      pub added_on : {new : List Node} {fuller : Roots} {after : Counts} →
          ((can : HasTreeAndTable mid table node.rank link) → IsInTable new fuller can.added can.trees can.others between after) →
          IsAddingAll new fuller up list trees others node.sibling (steps + 1) before after
      unfolding first_and_table
      added_on {new} adds =
          let d = adds first_and_table in
          record {
            rest = n.behind_it;
            now = d.now;
            rest_is = n.next_is;
            are_trees = rest_trees.1;
            few = omega (arith, m.few, ap roots n.rest_is);
            table_is = d.table_is;
            small = d.small;
            parts = in_front new (up, n.behind_it) (all_roots d.now) others d.parts;
            kept = λ w. omega (arith, d.kept w, m.kept w, ap (λ f. forest_weight w f) n.rest_is);
            made = m.made + d.made;
            made_is = omega (arith, d.made_is, m.made_is, ap roots n.rest_is);
            counted = compares_both m.counted d.counted;
          }
