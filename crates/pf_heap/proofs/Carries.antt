-- Adding a tree to a list: the carries.
use Rattle.std.proofs.Common.{◌≡◌, ◌≢◌, ℕ, ◌+◌, ◌^◌, ◌<◌, ◌≤◌, inr, List, ◌∷◌, length, refl, sym, ap, ◌∙◌, subst, arith, ⊎_elim}
use Rattle.std.proofs.Math.Pow.{pow_mono}
use Rattle.std.proofs.lemmas.Nat.{pow_pos}
use Rattle.std.proofs.lemmas.Bool.{cases_lt}
use Rattle.pf_order.specs.Priority.{Priority}
use Rattle.pf_order.specs.Counts.{Counts, Compares}
use Rattle.pf_heap.specs.declared.node.Node.{Node}
use Rattle.pf_heap.specs.Forest.{Forest, none, tree, nowhere, head, forest_weight, one_each, size, Rises, IsTreeOrNone}
use Rattle.pf_heap.specs.Memory.{node_at, Stands, Part, root, Parts, nodes_with_sibling, AreJoined}
use Rattle.pf_heap.specs.Steps.{HasRoots, IsCut, IsJoined, IsAddedTo, HasNodeAndList, IsCarrying}
use Rattle.pf_order.proofs.Comparing.{compares_none, compares_within, compares_both}
use Rattle.pf_heap.proofs.Forests.{double, size_from_tree}
use Rattle.pf_heap.proofs.Standing.{none_from_link, head_somewhere, push_parts}
use Rattle.pf_heap.proofs.Steps.{two_joined}
use Rattle.pf_heap.proofs.Weights.{sizes-le-length}

pub carry_begun : (nodes : List Node) (at link : ℕ) (counts : Counts) (can : HasNodeAndList nodes at link) →
    IsCarrying nodes 0 can.added can.list can.others at link counts counts
carry_begun nodes at link counts can = record {
  carry = can.added;
  rest = can.list;
  carry_is = can.added_is;
  rest_is = can.list_is;
  carry_tree = can.is_tree;
  full = can.full;
  rises = can.rises;
  small = can.small;
  parts = can.parts;
  kept = λ w. refl;
  counted = compares_within (omega arith) (compares_none _);
}

-- a tree's root and its rank
pub tree_node : (nodes : List Node) (rank x : ℕ) (f : Forest) → x ≡ head f → x ≢ nowhere → IsTreeOrNone rank f → Stands nodes nowhere f →
    (x < length nodes) × ((node_at nodes x).rank ≡ rank)
tree_node nodes rank x none is some t s = absurd (some is)
tree_node nodes rank x (tree a k r f (tree a' k' r' f' n')) is some t s = absurd t
tree_node nodes rank x (tree a k r f none) is some t s = (
  omega (arith, is, s.0),
  ap (λ z. (node_at nodes z).rank) is ∙ ap (λ (n : Node). n.rank) s.1 ∙ t.0,
)

-- a tree in front of a list of higher ranks
tree_laid : (old new : List Node) (low rank x y : ℕ) (f rest : Forest) (others : List Part) → low ≤ rank → x ≡ head f → x ≢ nowhere → y ≡ head rest → IsTreeOrNone rank f → Rises (rank + 1) rest →
    Parts old (root f ∷ root rest ∷ others) → new ≡ nodes_with_sibling old x y →
    (heap : Forest) × (x ≡ head heap) × Rises low heap × Parts new (root heap ∷ others) × ((w : ℕ → Priority → ℕ) → forest_weight w heap ≡ forest_weight w f + forest_weight w rest)
tree_laid old new low rank x y none rest others le is some next_is t rises parts written = absurd (some is)
tree_laid old new low rank x y (tree a k r f (tree a' k' r' f' n')) rest others le is some next_is t rises parts written = absurd t
tree_laid old new low rank x y (tree a k r f none) rest others le is some next_is t rises parts written = (
  tree a k r f rest,
  is,
  (omega (arith, le, t.0), t.1, subst (λ n. Rises (n + 1) rest) (sym t.0) rises),
  subst (λ ns. Parts ns (root (tree a k r f rest) ∷ others)) (sym (written ∙ (λ i. nodes_with_sibling old (is i) (next_is i))))
      (push_parts old nowhere a k r f rest others parts),
  λ w. omega arith,
)

module _ {nodes : List Node} {rank : ℕ} {x y : Forest} {others : List Part} {carry_link rest_link : ℕ} {before between : Counts}
    (m : IsCarrying nodes rank x y others carry_link rest_link before between) where
  abbrev pub rest_list : HasRoots nodes rest_link
  rest_list = record {
    list = m.rest;
    others = root m.carry ∷ others;
    link_is = m.rest_is;
    small = m.small;
    parts = record { stand = (m.parts.stand.1.0, (m.parts.stand.0, m.parts.stand.1.1)); once = λ i. omega (arith, m.parts.once i) };
  }

  carry_some : m.carry ≢ none
  carry_some e = absurd (omega (arith, m.full, ap size e, pow_pos rank))

  pub carry_somewhere : carry_link ≢ nowhere
  carry_somewhere e = absurd (omega (arith, m.carry_is, e, head_somewhere nodes nowhere m.carry m.small m.parts.stand.0 carry_some))

  -- no tree has so many nodes
  pub carry_low : rank < 16
  carry_low =
      ⊎_elim (λ lt. lt) (λ ge. absurd (omega (arith, pow_mono ge, sizes-le-length nodes _ m.parts, m.small, m.full))) (cases_lt rank 16)

  module _ {mid : List Node} {tree_link left : ℕ} (cuts : (can : HasRoots nodes rest_link) → Rises rank can.list → IsCut mid rank can.list can.others tree_link left)
      (mid_small : length mid < 2 ^ 16) where
    abbrev carry_cut : IsCut mid rank m.rest (root m.carry ∷ others) tree_link left
    carry_cut = cuts rest_list m.rises

    cut_parts : Parts mid (root m.carry ∷ root carry_cut.first ∷ root carry_cut.rest ∷ others)
    cut_parts = let s = carry_cut.parts.stand in record { stand = (s.1.1.0, (s.0, (s.1.0, s.1.1.1))); once = λ i. omega (arith, carry_cut.parts.once i) }

    pub carry_node : (carry_link < length mid) × ((node_at mid carry_link).rank ≡ rank)
    carry_node = tree_node mid rank carry_link m.carry m.carry_is carry_somewhere m.carry_tree cut_parts.stand.0

    pub cut_node : tree_link ≢ nowhere → (tree_link < length mid) × ((node_at mid tree_link).rank ≡ rank)
    cut_node some = tree_node mid rank tree_link carry_cut.first carry_cut.first_is some carry_cut.first_tree cut_parts.stand.1.0

    -- the heap has no tree of this rank
    pub carried_out : {new : List Node} → tree_link ≡ nowhere → new ≡ nodes_with_sibling mid carry_link left → IsAddedTo new x y others carry_link before between
    carried_out {new} missing written =
        let empty : carry_cut.first ≡ none = none_from_link mid nowhere tree_link carry_cut.first mid_small cut_parts.stand.1.0 carry_cut.first_is missing in
        let p : Parts mid (root m.carry ∷ root carry_cut.rest ∷ others) = record { stand = (cut_parts.stand.0, cut_parts.stand.1.1); once = λ i. omega (arith, cut_parts.once i) } in
        let l = tree_laid mid new 0 rank carry_link left m.carry carry_cut.rest others (omega arith) m.carry_is carry_somewhere carry_cut.rest_is m.carry_tree carry_cut.rises p written in
        record {
          heap = l.0;
          heap_is = l.1;
          rises = l.2;
          parts = l.3;
          kept = λ w. omega (arith, l.4 w, m.kept w, carry_cut.kept w, ap (λ f. forest_weight w f) empty);
          made = rank;
          made_paid = inr (omega (arith, m.full, m.kept one_each));
          counted = m.counted;
        }

    -- it has one, which is joined with the carried one
    pub carried_on : {new : List Node} {result : ℕ} {after : Counts} → tree_link ≢ nowhere → AreJoined mid new carry_link tree_link result → Compares 1 between after →
        length new < 2 ^ 16 → IsCarrying new (rank + 1) x y others result left before after
    carried_on {new} {result} {after} some joined counted small =
        let d : IsJoined new rank m.carry carry_cut.first (root carry_cut.rest ∷ others) result =
        two_joined mid new rank carry_link tree_link result m.carry carry_cut.first (root carry_cut.rest ∷ others) m.carry_is carry_cut.first_is
        m.carry_tree carry_cut.first_tree cut_parts carry_somewhere some joined in
        let whole : size carry_cut.first ≡ 2 ^ rank =
        ⊎_elim (λ h. absurd (some (carry_cut.first_is ∙ ap head h))) (λ h. h) (size_from_tree rank carry_cut.first carry_cut.first_tree) in
        record {
          carry = d.whole;
          rest = carry_cut.rest;
          carry_is = d.whole_is;
          rest_is = carry_cut.rest_is;
          carry_tree = d.is_tree;
          full = omega (arith, d.kept one_each, whole, m.full, double rank (rank + 1) refl);
          rises = carry_cut.rises;
          small = small;
          parts = d.parts;
          kept = λ w. omega (arith, d.kept w, carry_cut.kept w, m.kept w);
          counted = compares_within (omega arith) (compares_both m.counted counted);
        }
