-- Linking two trees, and cutting the first one off a list, each a write or two.
use Rattle.std.proofs.Common.{◌≡◌, ◌≢◌, ℕ, ◌+◌, ◌^◌, ◌<◌, List, ◌∷◌, length, set, refl, sym, ap, ◌∙◌, subst, arith, get_or-set_same, get_or-set_other, ⊎_elim}
use Rattle.std.proofs.Math.ListN.{length-set}
use Rattle.pf_order.specs.Priority.{Priority, precedes}
use Rattle.pf_heap.specs.declared.node.Node.{Node}
use Rattle.pf_heap.specs.Forest.{Forest, none, tree, nowhere, head, forest_weight, at_place, IsBelow, Falls, Rises, IsTreeOrNone}
use Rattle.pf_heap.specs.Memory.{no_node, node_at, Stands, Part, root, Parts, nodes_with_sibling, nodes_with_child, AreJoined}
use Rattle.pf_heap.specs.Steps.{IsCut, IsJoined}
use Rattle.pf_heap.proofs.Forests.{same-self, below_from_precedes}
use Rattle.pf_heap.proofs.Standing.{elsewhere, stands-set, stand_all-set, cut_parts}

-- ---- linking

pub link_parts : (nodes : List Node) (a b : ℕ) (ka kb : Priority) (ra rb : ℕ) (fa fb : Forest) (ps : List Part) →
    Parts nodes (root (tree a ka ra fa none) ∷ root (tree b kb rb fb none) ∷ ps) →
    Parts (nodes_with_child nodes a b) (root (tree a ka (ra + 1) (tree b kb rb fb fa) none) ∷ ps)
link_parts nodes a b ka kb ra rb fa fb ps parts =
    let sa = parts.stand.0 in
    let sb = parts.stand.1.0 in
    let differ : a ≢ b = elsewhere a b 0 (omega (arith, parts.once b, same-self b)) in
    let v : Node = record (node_at nodes b) { parent = a; sibling = (node_at nodes a).child } in
    let w : Node = record (node_at (set nodes b v) a) { child = b; rank = (node_at (set nodes b v) a).rank + 1 } in
    let untouched : node_at (set nodes b v) a ≡ node_at nodes a = get_or-set_other nodes b a v no_node differ in
    let la : length (set nodes b v) ≡ length nodes = length-set nodes b v in
    let lb : length (set (set nodes b v) a w) ≡ length (set nodes b v) = length-set (set nodes b v) a w in
    let va : Node = record { key = ka; parent = nowhere; child = b; sibling = nowhere; rank = ra + 1 } in
    let vb : Node = record { key = kb; parent = a; child = head fb; sibling = head fa; rank = rb } in
    let is_w : w ≡ va = ap (λ (n : Node). record n { child = b; rank = n.rank + 1 }) (untouched ∙ sa.1) in
    let is_v : v ≡ vb = λ i. record (sb.1 i) { parent = a; sibling = (sa.1 i).child } in
    let both : (up : ℕ) (f : Forest) → forest_weight (at_place a) f ≡ 0 → forest_weight (at_place b) f ≡ 0 → Stands nodes up f → Stands (set (set nodes b v) a w) up f =
    λ up f not_a not_b s. stands-set (set nodes b v) a w up f not_a (stands-set nodes b v up f not_b s) in
    let oa = parts.once a in
    let ob = parts.once b in
    let ia = same-self a in
    let ib = same-self b in
    record {
      stand = (
        (
          omega arith,
          get_or-set_same (set nodes b v) a w no_node (omega arith) ∙ is_w,
          (
            omega arith,
            get_or-set_other (set nodes b v) a b w no_node (λ e. differ (sym e)) ∙ get_or-set_same nodes b v no_node sb.0 ∙ is_v,
            both b fb (omega (arith, oa)) (omega (arith, ob)) sb.2,
            both a fa (omega (arith, oa)) (omega (arith, ob)) sa.2,
          ),
          tt,
        ),
        stand_all-set (set nodes b v) a w ps (omega (arith, oa)) (stand_all-set nodes b v ps (omega (arith, ob)) parts.stand.1.1),
      );
      once = λ i. omega (arith, parts.once i);
    }

swap_parts : (nodes : List Node) (p q : Part) (ps : List Part) → Parts nodes (p ∷ q ∷ ps) → Parts nodes (q ∷ p ∷ ps)
swap_parts nodes p q ps parts = record {
  stand = (parts.stand.1.0, (parts.stand.0, parts.stand.1.1));
  once = λ i. omega (arith, parts.once i);
}

-- ---- two trees of one rank

joined_is : (old new : List Node) (rank a b result : ℕ) (ka kb : Priority) (ra rb : ℕ) (fa fb : Forest) (others : List Part) →
    ra ≡ rank → Falls ka ra fa → rb ≡ rank → Falls kb rb fb →
    Parts old (root (tree a ka ra fa none) ∷ root (tree b kb rb fb none) ∷ others) →
    result ≡ a → IsBelow ka kb → new ≡ nodes_with_child old a b →
    IsJoined new rank (tree a ka ra fa none) (tree b kb rb fb none) others result
joined_is old new rank a b result ka kb ra rb fa fb others rank_a falls_a rank_b falls_b parts is below written = record {
  whole = tree a ka (ra + 1) (tree b kb rb fb fa) none;
  whole_is = is;
  is_tree = (omega arith, (omega arith, below, falls_b, subst (λ r. Falls ka r fa) (omega arith) falls_a));
  parts = subst (λ ns. Parts ns (root (tree a ka (ra + 1) (tree b kb rb fb fa) none) ∷ others)) (sym written) (link_parts old a b ka kb ra rb fa fb others parts);
  kept = λ w. omega arith;
}

swap_joined : (new : List Node) (rank : ℕ) (p q : Forest) (others : List Part) (c : ℕ) → IsJoined new rank p q others c → IsJoined new rank q p others c
swap_joined new rank p q others c d = record {
  whole = d.whole;
  whole_is = d.whole_is;
  is_tree = d.is_tree;
  parts = d.parts;
  kept = λ w. omega (arith, d.kept w);
}

pub two_joined : (old new : List Node) (rank x y result : ℕ) (first second : Forest) (others : List Part) →
    x ≡ head first → y ≡ head second → IsTreeOrNone rank first → IsTreeOrNone rank second →
    Parts old (root first ∷ root second ∷ others) → x ≢ nowhere → y ≢ nowhere →
    AreJoined old new x y result → IsJoined new rank first second others result
two_joined old new rank x y result none second others x_is y_is tx ty parts some_x some_y joined = absurd (some_x x_is)
two_joined old new rank x y result (tree a ka ra fa (tree a' ka' ra' fa' na')) second others x_is y_is tx ty parts some_x some_y joined = absurd tx
two_joined old new rank x y result (tree a ka ra fa none) none others x_is y_is tx ty parts some_x some_y joined = absurd (some_y y_is)
two_joined old new rank x y result (tree a ka ra fa none) (tree b kb rb fb (tree b' kb' rb' fb' nb')) others x_is y_is tx ty parts some_x some_y joined = absurd ty
two_joined old new rank x y result (tree a ka ra fa none) (tree b kb rb fb none) others x_is y_is tx ty parts some_x some_y joined =
    let sa = parts.stand.0 in
    let sb = parts.stand.1.0 in
    let at_a : AreJoined old new a y result = subst (λ z. AreJoined old new z y result) x_is joined in
    let at_both : AreJoined old new a b result = subst (λ z. AreJoined old new a z result) y_is at_a in
    let test : precedes (node_at old b).key (node_at old a).key ≡ precedes kb ka = λ i. precedes (sb.1 i).key (sa.1 i).key in
    ⊎_elim
    (λ h. joined_is old new rank a b result ka kb ra rb fa fb others tx.0 tx.1 ty.0 ty.1 parts h.0 (sym test ∙ h.1) h.2)
    (λ h. swap_joined new rank _ _ others result
    (joined_is old new rank b a result kb ka rb ra fb fa others ty.0 ty.1 tx.0 tx.1
    (swap_parts old _ _ others parts) h.0 (below_from_precedes kb ka (sym test ∙ h.1)) h.2))
    at_both

-- ---- cutting

pub is_uncut : (nodes : List Node) (rank link : ℕ) (list : Forest) (others : List Part) →
    length nodes < 2 ^ 16 → link ≡ head list → Parts nodes (root list ∷ others) → Rises rank list →
    (link ≢ nowhere → (node_at nodes link).rank ≢ rank) → IsCut nodes rank list others nowhere link
is_uncut nodes rank link none others small is parts rises other = record {
  first = none;
  rest = none;
  first_is = refl;
  rest_is = is;
  first_tree = tt;
  rises = tt;
  parts = record { stand = (tt, parts.stand); once = λ i. omega (arith, parts.once i) };
  kept = λ w. refl;
}
is_uncut nodes rank link (tree at key r kids rest) others small is parts rises other =
    let s = parts.stand.0 in
    let r_is : (node_at nodes link).rank ≡ r = ap (λ z. (node_at nodes z).rank) is ∙ ap (λ (n : Node). n.rank) s.1 in
    let differ : r ≢ rank = λ e. other (omega (arith, s.0)) (r_is ∙ e) in
    record {
      first = none;
      rest = tree at key r kids rest;
      first_is = refl;
      rest_is = is;
      first_tree = tt;
      rises = (omega (arith, rises.0), rises.1, rises.2);
      parts = record { stand = (tt, parts.stand); once = λ i. omega (arith, parts.once i) };
      kept = λ w. omega arith;
    }

pub is_cut : (old new : List Node) (rank link next : ℕ) (list : Forest) (others : List Part) →
    link ≡ head list → link ≢ nowhere → (node_at old link).rank ≡ rank → Rises rank list →
    Parts old (root list ∷ others) → new ≡ nodes_with_sibling old link nowhere → next ≡ (node_at old link).sibling →
    IsCut new rank list others link next
is_cut old new rank link next none others is some at_rank rises parts written next_is = absurd (some is)
is_cut old new rank link next (tree at key r kids rest) others is some at_rank rises parts written next_is =
    let s = parts.stand.0 in
    let r_is : (node_at old link).rank ≡ r = ap (λ z. (node_at old z).rank) is ∙ ap (λ (n : Node). n.rank) s.1 in
    let next_at : next ≡ head rest = next_is ∙ ap (λ z. (node_at old z).sibling) is ∙ ap (λ (n : Node). n.sibling) s.1 in
    let r_rank : r ≡ rank = sym r_is ∙ at_rank in
    record {
      first = tree at key r kids none;
      rest = rest;
      first_is = is;
      rest_is = next_at;
      first_tree = (r_rank, rises.1);
      rises = subst (λ z. Rises (z + 1) rest) r_rank rises.2;
      parts = subst (λ ns. Parts ns (root (tree at key r kids none) ∷ root rest ∷ others)) (sym (written ∙ ap (λ z. nodes_with_sibling old z nowhere) is))
          (cut_parts old nowhere at key r kids rest others parts);
      kept = λ w. omega arith;
    }
