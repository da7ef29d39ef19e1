-- Splitting a tree until a node stands alone.
use Rattle.std.proofs.Common.{◌≡◌, ◌≢◌, ℕ, ◌+◌, ◌-◌, ◌^◌, ◌<◌, ◌≤◌, List, ◌∷◌, length, set, refl, sym, ap, ◌∙◌, subst, arith, ⊎_elim, get_or-set_same, get_or-set_other}
use Rattle.std.proofs.Math.ListN.{length-set}
use Rattle.std.proofs.lemmas.Bool.{cases_lt}
use Rattle.pf_order.specs.Priority.{Priority}
use Rattle.pf_heap.specs.declared.node.Node.{Node}
use Rattle.pf_heap.specs.Forest.{Forest, none, tree, single, nowhere, head, forest_weight, same, at_place, Falls}
use Rattle.pf_heap.specs.Memory.{no_node, node_at, Stands, Part, root, Parts, nodes_with_sibling, nodes_without_child}
use Rattle.pf_heap.specs.Split.{HasNode, IsTop, HasTreeOf, HasHalves, IsHalved, IsSplitting, IsSplit}
use Rattle.pf_heap.proofs.Forests.{same-self, equal_from_same}
use Rattle.pf_heap.proofs.Standing.{stands-set, stand_all-set, push_parts}
use Rattle.pf_heap.proofs.Parents.{inner_parent}

-- ---- the first child is cut off

pub unlink_parts : (nodes : List Node) (a b : ℕ) (ka kb : Priority) (ra rb : ℕ) (fa fb : Forest) (ps : List Part) → ra ≡ rb + 1 →
    Parts nodes (root (tree a ka ra (tree b kb rb fb fa) none) ∷ ps) →
    Parts (nodes_without_child nodes a b) (root (tree a ka rb fa none) ∷ root (tree b kb rb fb none) ∷ ps)
unlink_parts nodes a b ka kb ra rb fa fb ps higher parts =
    let sa = parts.stand.0 in
    let sb = sa.2 in
    let oa = parts.once a in
    let ob = parts.once b in
    let ia = same-self a in
    let ib = same-self b in
    let differ : a ≢ b = λ e. absurd (omega (arith, ob, ib, ap (λ x. same b x) e)) in
    let w : Node = record (node_at nodes a) { child = (node_at nodes b).sibling; rank = (node_at nodes a).rank - 1 } in
    let mid : List Node = set nodes a w in
    let v : Node = record (node_at mid b) { parent = nowhere; sibling = nowhere } in
    let la : length (set nodes a w) ≡ length nodes = length-set nodes a w in
    let lb : length (set mid b v) ≡ length mid = length-set mid b v in
    let wa : Node = record { key = ka; parent = nowhere; child = head fa; sibling = nowhere; rank = rb } in
    let lower : ra - 1 ≡ rb = omega arith in
    let is_w : w ≡ wa = (λ i. record (sa.1 i) { child = (sb.1 i).sibling; rank = (sa.1 i).rank - 1 }) ∙ (λ i. record { key = ka; parent = nowhere; child = head fa; sibling = nowhere; rank = lower i }) in
    let untouched : node_at mid b ≡ node_at nodes b = get_or-set_other nodes a b w no_node (λ e. differ (sym e)) in
    let both : (up : ℕ) (f : Forest) → forest_weight (at_place a) f ≡ 0 → forest_weight (at_place b) f ≡ 0 → Stands nodes up f → Stands (set mid b v) up f =
    λ up f not_a not_b t. stands-set mid b v up f not_b (stands-set nodes a w up f not_a t) in
    record {
      stand = (
        (
          omega (arith, sa.0, la, lb),
          get_or-set_other mid b a v no_node differ ∙ get_or-set_same nodes a w no_node sa.0 ∙ is_w,
          both a fa (omega (arith, oa)) (omega (arith, ob)) sb.3,
          tt,
        ),
        (
          (
            omega (arith, sb.0, la, lb),
            get_or-set_same mid b v no_node (omega (arith, sb.0, la)) ∙ ap (λ (n : Node). record n { parent = nowhere; sibling = nowhere }) (untouched ∙ sb.1),
            both b fb (omega (arith, oa)) (omega (arith, ob)) sb.2,
            tt,
          ),
          stand_all-set mid b v ps (omega (arith, ob)) (stand_all-set nodes a w ps (omega (arith, oa)) parts.stand.1),
        ),
      );
      once = λ i. omega (arith, parts.once i);
    }

-- ---- the half with the node

module _ {nodes : List Node} {x y at link : ℕ} (can : HasHalves nodes x y at link) where
  abbrev first : Forest
  first = tree x can.first_key can.rank can.first_kids none

  abbrev second : Forest
  second = tree y can.second_key can.rank can.second_kids none

  pub half_node : HasNode nodes at
  half_node =
      ⊎_elim
      (λ here. record {
        heap = first;
        others = root second ∷ root can.halves ∷ can.others;
        has = omega (arith, here);
        rises = (omega arith, can.first_falls, tt);
        small = can.small;
        parts = can.parts;
      })
      (λ there. record {
        heap = second;
        others = root first ∷ root can.halves ∷ can.others;
        has = omega (arith, there, can.has);
        rises = (omega arith, can.second_falls, tt);
        small = can.small;
        parts = record { stand = (can.parts.stand.1.0, (can.parts.stand.0, can.parts.stand.1.1)); once = λ i. omega (arith, can.parts.once i) };
      })
      (cases_lt 0 (forest_weight (at_place at) first))

  pub first_within : x < length nodes
  first_within = can.parts.stand.0.0

  pub second_within : y < length nodes
  second_within = can.parts.stand.1.0.0

  module _ {top : ℕ} (t : IsTop nodes at top) where
    -- the root above is the second one: it isn't in the first tree
    pub in_second : top ≡ y → 1 ≤ forest_weight (at_place at) second
    in_second is =
        ⊎_elim
        (λ here. absurd (omega (
          arith,
          t.above first can.parts.stand.0 here,
          ap (λ z. forest_weight (at_place z) first) is,
          can.parts.once y,
          same-self y,
        )))
        (λ there. omega (arith, there, can.has))
        (cases_lt 0 (forest_weight (at_place at) first))

    -- it isn't: the node isn't in the second tree, where the root alone has no parent
    pub in_first : top ≢ y → 1 ≤ forest_weight (at_place at) first
    in_first differ =
        ⊎_elim
        (λ there.
        let above : 1 ≤ forest_weight (at_place top) second = t.above second can.parts.stand.1.0 there in
        ⊎_elim
        (λ hit. absurd (differ (equal_from_same top y (omega (arith, hit)))))
        (λ miss. absurd (omega (
          arith,
          t.no_parent,
          inner_parent nodes y top can.second_kids can.small (omega (arith, second_within, can.small)) can.parts.stand.1.0.2 (omega (arith, above, miss)),
        )))
        (cases_lt 0 (same top y)))
        (λ none_there. omega (arith, none_there, can.has))
        (cases_lt 0 (forest_weight (at_place at) second))

  module _ {new : List Node} where
    pub second_kept : 1 ≤ forest_weight (at_place at) second → new ≡ nodes_with_sibling nodes x link → IsHalved new x y at can y x
    second_kept has written = record {
      key = can.second_key;
      kids = can.second_kids;
      halves = tree x can.first_key can.rank can.first_kids can.halves;
      falls = can.second_falls;
      has = has;
      link_is = refl;
      rises = (omega arith, can.first_falls, can.rises);
      parts =
          let p : Parts nodes (root first ∷ root can.halves ∷ root second ∷ can.others) =
          record { stand = (can.parts.stand.0, (can.parts.stand.1.1.0, (can.parts.stand.1.0, can.parts.stand.1.1.1))); once = λ i. omega (arith, can.parts.once i) } in
          let q = push_parts nodes nowhere x can.first_key can.rank can.first_kids can.halves (root second ∷ can.others) p in
          subst (λ ns. Parts ns (root second ∷ root (tree x can.first_key can.rank can.first_kids can.halves) ∷ can.others))
          (sym (written ∙ ap (λ z. nodes_with_sibling nodes x z) can.link_is))
          (record { stand = (q.stand.1.0, (q.stand.0, q.stand.1.1)); once = λ i. omega (arith, q.once i) });
      kept = λ w. omega arith;
    }

    pub first_kept : 1 ≤ forest_weight (at_place at) first → new ≡ nodes_with_sibling nodes y link → IsHalved new x y at can x y
    first_kept has written = record {
      key = can.first_key;
      kids = can.first_kids;
      halves = tree y can.second_key can.rank can.second_kids can.halves;
      falls = can.first_falls;
      has = has;
      link_is = refl;
      rises = (omega arith, can.second_falls, can.rises);
      parts =
          let p : Parts nodes (root second ∷ root can.halves ∷ root first ∷ can.others) =
          record { stand = (can.parts.stand.1.0, (can.parts.stand.1.1.0, (can.parts.stand.0, can.parts.stand.1.1.1))); once = λ i. omega (arith, can.parts.once i) } in
          let q = push_parts nodes nowhere y can.second_key can.rank can.second_kids can.halves (root first ∷ can.others) p in
          subst (λ ns. Parts ns (root first ∷ root (tree y can.second_key can.rank can.second_kids can.halves) ∷ can.others))
          (sym (written ∙ ap (λ z. nodes_with_sibling nodes y z) can.link_is))
          (record { stand = (q.stand.1.0, (q.stand.0, q.stand.1.1)); once = λ i. omega (arith, q.once i) });
      kept = λ w. omega arith;
    }

-- ---- one half after another

pub split_begun : (nodes : List Node) (top at : ℕ) (can : HasTreeOf nodes top at) → IsSplitting nodes can.rank at (tree top can.key can.rank can.kids none) can.others top nowhere
split_begun nodes top at can = record {
  key = can.key;
  kids = can.kids;
  halves = none;
  falls = can.falls;
  has = can.has;
  link_is = refl;
  rises = tt;
  parts = record { stand = (can.parts.stand.0, (tt, can.parts.stand.1)); once = λ i. omega (arith, can.parts.once i) };
  kept = λ w. omega arith;
}

pub split_begun_at : (nodes : List Node) (top at : ℕ) (can : HasTreeOf nodes top at) (rank : ℕ) → rank + 0 ≡ can.rank →
    IsSplitting nodes rank at (tree top can.key can.rank can.kids none) can.others top nowhere
split_begun_at nodes top at can rank e =
    subst (λ r. IsSplitting nodes r at (tree top can.key can.rank can.kids none) can.others top nowhere) (let f : can.rank ≡ rank = omega (arith, e) in f) (split_begun nodes top at can)

pub root_within : {nodes : List Node} {top at : ℕ} → HasTreeOf nodes top at → top < length nodes
root_within can = can.parts.stand.0.0

pub root_rank : {nodes : List Node} {top at : ℕ} (can : HasTreeOf nodes top at) → (node_at nodes top).rank ≡ can.rank
root_rank can = ap (λ (n : Node). n.rank) can.parts.stand.0.1

-- the first of the children that there are
pub record HasChild (kids : Forest) (rank child : ℕ) : Type 0 where
  pub key : Priority
  pub below : Forest
  pub rest : Forest
  pub kids_is : kids ≡ tree child key rank below rest

first_child : (p : Priority) (rank child : ℕ) (kids : Forest) → Falls p (rank + 1) kids → child ≡ head kids → HasChild kids rank child
first_child p rank child none falls is = absurd (omega (arith, falls))
first_child p rank child (tree c k r f rest) falls is =
    let same_rank : r ≡ rank = omega (arith, falls.0) in
    record { key = k; below = f; rest = rest; kids_is = λ i. tree (sym is i) k (same_rank i) f rest }

module _ {nodes : List Node} (rank : ℕ) {at : ℕ} {whole : Forest} {others : List Part} {half link : ℕ} (m : IsSplitting nodes (rank + 1) at whole others half link) where
  pub half_within : half < length nodes
  half_within = m.parts.stand.0.0

  pub half_rank : (node_at nodes half).rank ≡ rank + 1
  half_rank = ap (λ (n : Node). n.rank) m.parts.stand.0.1

  module _ {child : ℕ} (child_is : child ≡ (node_at nodes half).child) where
    pub child_of : HasChild m.kids rank child
    child_of = first_child m.key rank child m.kids m.falls (child_is ∙ ap (λ (n : Node). n.child) m.parts.stand.0.1)

    module _ (c : HasChild m.kids rank child) where
      whole_parts : Parts nodes (root (tree half m.key (rank + 1) (tree child c.key rank c.below c.rest) none) ∷ root m.halves ∷ others)
      whole_parts = subst (λ f. Parts nodes (root (tree half m.key (rank + 1) f none) ∷ root m.halves ∷ others)) c.kids_is m.parts

      falls_all : Falls m.key (rank + 1) (tree child c.key rank c.below c.rest)
      falls_all = subst (λ f. Falls m.key (rank + 1) f) c.kids_is m.falls

      pub child_within : child < length nodes
      child_within = whole_parts.stand.0.2.0

      pub child_differs : half ≢ child
      child_differs e = absurd (omega (arith, whole_parts.once child, same-self child, ap (λ z. same child z) e))

      pub halves_of : {mid : List Node} → mid ≡ nodes_without_child nodes half child → length mid < 2 ^ 16 → HasHalves mid half child at link
      halves_of {mid} written small = record {
        first_key = m.key;
        second_key = c.key;
        rank = rank;
        first_kids = c.rest;
        second_kids = c.below;
        halves = m.halves;
        others = others;
        first_falls = falls_all.3;
        second_falls = falls_all.2;
        has = omega (arith, m.has, ap (λ f. forest_weight (at_place at) f) c.kids_is);
        link_is = m.link_is;
        rises = m.rises;
        small = small;
        parts = subst (λ ns. Parts ns (root (tree half m.key rank c.rest none) ∷ root (tree child c.key rank c.below none) ∷ root m.halves ∷ others)) (sym written)
            (unlink_parts nodes half child m.key c.key (rank + 1) rank c.rest c.below (root m.halves ∷ others) refl whole_parts);
      }

      pub split_on : {mid new : List Node} {kept rest : ℕ} (written : mid ≡ nodes_without_child nodes half child) (small : length mid < 2 ^ 16) →
          ((can : HasHalves mid half child at link) → IsHalved new half child at can kept rest) → IsSplitting new rank at whole others kept rest
      unfolding halves_of
      split_on {mid} {new} {kept} {rest} written small halves =
          let h = halves (halves_of written small) in
          record {
            key = h.key;
            kids = h.kids;
            halves = h.halves;
            falls = h.falls;
            has = h.has;
            link_is = h.link_is;
            rises = h.rises;
            parts = h.parts;
            kept = λ w. omega (arith, h.kept w, m.kept w, ap (λ f. forest_weight w f) c.kids_is);
          }

-- a tree of rank 0 is the node
no_kids : (p : Priority) (kids : Forest) → Falls p 0 kids → kids ≡ none
no_kids p none falls = refl
no_kids p (tree c k r f rest) falls = absurd (omega (arith, falls.0))

pub split_done : {nodes : List Node} {at : ℕ} {whole : Forest} {others : List Part} {half link : ℕ} → length nodes < 2 ^ 16 →
    IsSplitting nodes 0 at whole others half link → IsSplit nodes at whole others link
split_done {nodes} {at} {whole} {others} {half} {link} small m =
    let alone = no_kids m.key m.kids m.falls in
    let is : half ≡ at = sym (equal_from_same at half (omega (arith, m.has, ap (λ f. forest_weight (at_place at) f) alone))) in
    let t : tree half m.key 0 m.kids none ≡ single at m.key = λ i. tree (is i) m.key 0 (alone i) none in
    record {
      key = m.key;
      halves = m.halves;
      link_is = m.link_is;
      rises = m.rises;
      small = small;
      parts = subst (λ f. Parts nodes (root f ∷ root m.halves ∷ others)) t m.parts;
      kept = λ w. omega (arith, m.kept w, ap (λ f. forest_weight w f) t);
    }
