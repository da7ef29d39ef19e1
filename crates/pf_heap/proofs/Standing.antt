-- Forests in memory.
use Rattle.std.proofs.Common.{◌≡◌, ◌≢◌, ℕ, ◌+◌, ◌^◌, ◌<◌, List, [], ◌∷◌, length, get_or, set, refl, ap, ◌∙◌, arith, get_or-set_same, get_or-set_other}
use Rattle.std.proofs.Math.ListN.{length-set}
use Rattle.std.proofs.lemmas.List.{get_or_default}
use Rattle.pf_order.specs.Priority.{Priority}
use Rattle.pf_heap.specs.declared.node.Node.{Node}
use Rattle.pf_heap.specs.Forest.{Forest, none, tree, nowhere, head, forest_weight, same, at_place}
use Rattle.pf_heap.specs.Memory.{no_node, node_at, Stands, Part, root, weigh_all, StandAll, Parts, nodes_with_sibling}
use Rattle.pf_heap.proofs.Forests.{same-self}

-- ---- a write to a node that the forest doesn't have

pub elsewhere : (at i : ℕ) (n : ℕ) → same i at + n ≡ 0 → at ≢ i
elsewhere at i n h e = absurd (omega (arith, same-self i, ap (λ x. same i x) e))

pub stands-set : (nodes : List Node) (i : ℕ) (v : Node) (up : ℕ) (f : Forest) → forest_weight (at_place i) f ≡ 0 → Stands nodes up f → Stands (set nodes i v) up f
stands-set nodes i v up none unused s = tt
stands-set nodes i v up (tree at key rank kids rest) unused s = (
  omega (arith, s.0, length-set nodes i v),
  get_or-set_other nodes i at v no_node (elsewhere at i (forest_weight (at_place i) kids + forest_weight (at_place i) rest) (omega (arith, unused))) ∙ s.1,
  stands-set nodes i v at kids (omega (arith, unused)) s.2,
  stands-set nodes i v up rest (omega (arith, unused)) s.3,
)

pub stand_all-set : (nodes : List Node) (i : ℕ) (v : Node) (ps : List Part) → weigh_all (at_place i) ps ≡ 0 → StandAll nodes ps → StandAll (set nodes i v) ps
stand_all-set nodes i v [] unused s = tt
stand_all-set nodes i v (p ∷ ps) unused s =
    (stands-set nodes i v p.0 p.1 (omega (arith, unused)) s.0, stand_all-set nodes i v ps (omega (arith, unused)) s.1)

-- ---- links

pub head_within : (nodes : List Node) (up : ℕ) (f : Forest) (x : ℕ) → Stands nodes up f → x ≡ head f → x ≢ nowhere → x < length nodes
head_within nodes up none x s e some = absurd (some e)
head_within nodes up (tree at key rank kids rest) x s e some = omega (arith, e, s.0)

pub none_from_link : (nodes : List Node) (up link : ℕ) (f : Forest) → length nodes < 2 ^ 16 → Stands nodes up f → link ≡ head f → link ≡ nowhere → f ≡ none
none_from_link nodes up link none small s is e = refl
none_from_link nodes up link (tree at key rank kids rest) small s is e = absurd (omega (arith, s.0))

pub head_somewhere : (nodes : List Node) (up : ℕ) (f : Forest) → length nodes < 2 ^ 16 → Stands nodes up f → f ≢ none → head f < nowhere
head_somewhere nodes up none small s some = absurd (some refl)
head_somewhere nodes up (tree at key rank kids rest) small s some = omega (arith, s.0)

-- a link that was read
pub sibling_at : (nodes : List Node) (i : ℕ) (d : Node) → i < length nodes → (get_or nodes i d).sibling ≡ (node_at nodes i).sibling
sibling_at nodes i d within = ap (λ (n : Node). n.sibling) (get_or_default nodes i d no_node within)

-- ---- what the parts of memory are in no order

-- the places of a front part's first node are in no other part
pub unused_elsewhere : (nodes : List Node) (up at : ℕ) (key : Priority) (rank : ℕ) (kids rest : Forest) (ps : List Part) →
    Parts nodes ((up, tree at key rank kids rest) ∷ ps) →
    (forest_weight (at_place at) kids ≡ 0) × (forest_weight (at_place at) rest ≡ 0) × (weigh_all (at_place at) ps ≡ 0)
unused_elsewhere nodes up at key rank kids rest ps parts =
    (omega (arith, parts.once at, same-self at), omega (arith, parts.once at, same-self at), omega (arith, parts.once at, same-self at))

-- ---- steps

-- the first tree of a list goes to the front of another one
pub turn_parts : (nodes : List Node) (up at : ℕ) (key : Priority) (rank : ℕ) (kids rest turned : Forest) (ps : List Part) →
    Parts nodes ((up, tree at key rank kids rest) ∷ root turned ∷ ps) →
    Parts (nodes_with_sibling nodes at (head turned)) ((up, rest) ∷ root (tree at key rank kids turned) ∷ ps)
turn_parts nodes up at key rank kids rest turned ps parts =
    let s = parts.stand.0 in
    let v : Node = record (node_at nodes at) { parent = nowhere; sibling = head turned } in
    let u = unused_elsewhere nodes up at key rank kids rest (root turned ∷ ps) parts in
    record {
      stand = (
        stands-set nodes at v up rest u.1 s.3,
        (
          (
            omega (arith, s.0, length-set nodes at v),
            get_or-set_same nodes at v no_node s.0 ∙ ap (λ (n : Node). record n { parent = nowhere; sibling = head turned }) s.1,
            stands-set nodes at v at kids u.0 s.2,
            stands-set nodes at v nowhere turned (omega (arith, u.2)) parts.stand.1.0,
          ),
          stand_all-set nodes at v ps (omega (arith, u.2)) parts.stand.1.1,
        ),
      );
      once = λ i. omega (arith, parts.once i);
    }

-- the first tree is cut off
pub cut_parts : (nodes : List Node) (up at : ℕ) (key : Priority) (rank : ℕ) (kids rest : Forest) (ps : List Part) →
    Parts nodes ((up, tree at key rank kids rest) ∷ ps) →
    Parts (nodes_with_sibling nodes at nowhere) (root (tree at key rank kids none) ∷ (up, rest) ∷ ps)
cut_parts nodes up at key rank kids rest ps parts =
    let p = turn_parts nodes up at key rank kids rest none ps (record { stand = (parts.stand.0, (tt, parts.stand.1)); once = λ i. omega (arith, parts.once i) }) in
    record { stand = (p.stand.1.0, (p.stand.0, p.stand.1.1)); once = λ i. omega (arith, p.once i) }

-- a tree is put in front of a list
pub push_parts : (nodes : List Node) (up at : ℕ) (key : Priority) (rank : ℕ) (kids front : Forest) (ps : List Part) →
    Parts nodes ((up, tree at key rank kids none) ∷ root front ∷ ps) →
    Parts (nodes_with_sibling nodes at (head front)) (root (tree at key rank kids front) ∷ ps)
push_parts nodes up at key rank kids front ps parts =
    let p = turn_parts nodes up at key rank kids none front ps parts in
    record { stand = p.stand.1; once = λ i. omega (arith, p.once i) }
