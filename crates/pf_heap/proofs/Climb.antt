-- The way to the root, and a list's roots.
use Rattle.std.proofs.Common.{◌≡◌, ◌≢◌, ℕ, ◌+◌, ◌^◌, ◌<◌, ◌≤◌, inl, inr, List, ◌∷◌, length, refl, sym, ap, ◌∙◌, subst, arith, ⊎_elim}
use Rattle.std.proofs.Math.Pow.{pow_mono}
use Rattle.std.proofs.lemmas.Bool.{cases_lt}
use Rattle.pf_order.specs.Priority.{Priority}
use Rattle.pf_heap.specs.declared.node.Node.{Node}
use Rattle.pf_heap.specs.Forest.{Forest, none, tree, nowhere, head, forest_weight, same, at_place, size, Rises, HasRoot}
use Rattle.pf_heap.specs.Memory.{node_at, Stands, Part, root, Parts}
use Rattle.pf_heap.specs.Pops.{HasHeap}
use Rattle.pf_heap.specs.Split.{IsTop, IsClimbing, IsLooking}
use Rattle.pf_heap.proofs.Forests.{same-self, same-other, equal_from_same, size_from_rises, rises_less}
use Rattle.pf_heap.proofs.Standing.{none_from_link, head_within}
use Rattle.pf_heap.proofs.Weights.{sizes-le-length}
use Rattle.pf_heap.proofs.Parents.{parent_in, parent_stands, parent_stands_in, rank_of_rises, inner_parent}

-- ---- climbing

pub climb_begun : (nodes : List Node) (at : ℕ) → IsClimbing nodes at at 0
climb_begun nodes at = record { above = λ f s h. h; in_tree = λ b f p s h. h; high = omega arith }

pub climb_step : (nodes : List Node) (at now steps : ℕ) (heap : Forest) → Rises 0 heap → Stands nodes nowhere heap → 1 ≤ forest_weight (at_place at) heap →
    (node_at nodes now).parent ≢ nowhere → IsClimbing nodes at now steps → IsClimbing nodes at (node_at nodes now).parent (steps + 1)
climb_step nodes at now steps heap rises s has some t = record {
  above = λ f sf h. parent_stands_in nodes now f sf (t.above f sf h) some;
  in_tree = λ b f top sf h.
      let not_top : same now b ≡ 0 = same-other now b (λ e. some (ap (λ x. (node_at nodes x).parent) e ∙ top)) in
      ⊎_elim
      (λ e. omega (arith, same-self b, ap (λ x. same x b) e))
      (λ m. omega (arith, m))
      (parent_stands nodes b now f sf (omega (arith, t.in_tree b f top sf h, not_top)));
  high = omega (arith, t.high, (parent_in nodes 0 now heap rises s (t.above heap s has) some).1);
}

pub not_so_high : (nodes : List Node) (now : ℕ) (heap : Forest) (others : List Part) → length nodes < 2 ^ 16 → Parts nodes (root heap ∷ others) → Rises 0 heap →
    1 ≤ forest_weight (at_place now) heap → 16 ≤ (node_at nodes now).rank → ⊥
not_so_high nodes now heap others small parts rises has high =
    absurd (omega (arith, pow_mono high, rank_of_rises nodes 0 now heap rises parts.stand.0 has, sizes-le-length nodes (root heap ∷ others) parts))

-- ---- looking for a root

pub look_begun : (nodes : List Node) (link at : ℕ) (can : HasHeap nodes link) → IsLooking nodes can.heap at link 0
look_begun nodes link at can = record {
  rest = can.heap;
  rest_is = can.heap_is;
  stands = can.parts.stand.0;
  rises = can.rises;
  smaller = omega arith;
  out = λ h. h;
  into = λ h. h;
}

module _ (nodes : List Node) (heap : Forest) (at link next steps : ℕ) (small : length nodes < 2 ^ 16) (top : (node_at nodes at).parent ≡ nowhere)
    (somewhere : link ≢ nowhere) where
  look_by : link ≢ at → next ≡ (node_at nodes link).sibling → (rest : Forest) → link ≡ head rest → Stands nodes nowhere rest → Rises steps rest → size rest ≤ size heap →
      (1 ≤ forest_weight (at_place at) heap → 1 ≤ forest_weight (at_place at) rest) → (1 ≤ forest_weight (at_place at) rest → 1 ≤ forest_weight (at_place at) heap) →
      IsLooking nodes heap at next (steps + 1)
  look_by differ next_is none is s rises smaller out into = absurd (somewhere is)
  look_by differ next_is (tree i k r f rest) is s rises smaller out into = record {
    rest = rest;
    rest_is = next_is ∙ ap (λ z. (node_at nodes z).sibling) is ∙ ap (λ (n : Node). n.sibling) s.1;
    stands = s.3;
    rises = rises_less (r + 1) (steps + 1) rest (omega (arith, rises.0)) rises.2;
    smaller = omega (arith, smaller);
    out = λ h.
        let whole = out h in
        let not_here : same at i ≡ 0 = same-other at i (λ e. differ (is ∙ sym e)) in
        ⊎_elim
        (λ inside. absurd (omega (arith, top, inner_parent nodes i at f small (omega (arith, s.0)) s.2 (omega (arith, inside)))))
        (λ outside. omega (arith, whole, not_here, outside))
        (cases_lt 0 (forest_weight (at_place at) f));
    into = λ h. into (omega (arith, h));
  }

  pub look_step : link ≢ at → next ≡ (node_at nodes link).sibling → IsLooking nodes heap at link steps → IsLooking nodes heap at next (steps + 1)
  look_step differ next_is t = look_by differ next_is t.rest t.rest_is t.stands t.rises t.smaller t.out t.into

  found_by : link ≡ at → (rest : Forest) → link ≡ head rest → (1 ≤ forest_weight (at_place at) rest → 1 ≤ forest_weight (at_place at) heap) → 1 ≤ forest_weight (at_place at) heap
  found_by here none is into = absurd (somewhere is)
  found_by here (tree i k r f rest) is into = into (omega (arith, same-self i, ap (λ x. same x i) (sym is ∙ here)))

  pub look_found : link ≡ at → IsLooking nodes heap at link steps → 1 ≤ forest_weight (at_place at) heap
  look_found here t = found_by here t.rest t.rest_is t.into

module _ {nodes : List Node} {heap : Forest} {at rest_link steps : ℕ} (t : IsLooking nodes heap at rest_link steps) where
  pub looking_within : rest_link ≢ nowhere → rest_link < length nodes
  looking_within some = head_within nodes nowhere t.rest rest_link t.stands t.rest_is some

  missed_by : t.rest ≡ none → 1 ≤ forest_weight (at_place at) heap → ⊥
  missed_by done h = absurd (omega (arith, t.out h, ap (λ f. forest_weight (at_place at) f) done))

  -- at the end of the roots, and after as many steps as there are ranks
  pub missed_out : length nodes < 2 ^ 16 → rest_link ≡ nowhere → 1 ≤ forest_weight (at_place at) heap → ⊥
  missed_out small out = missed_by (none_from_link nodes nowhere rest_link t.rest small t.stands t.rest_is out)

  pub missed_all : {others : List Part} → 16 ≤ steps → length nodes < 2 ^ 16 → Parts nodes (root heap ∷ others) → 1 ≤ forest_weight (at_place at) heap → ⊥
  missed_all {others} all small parts =
      missed_by
      (⊎_elim (λ h. h) (λ h. absurd (omega (arith, h, pow_mono all, t.smaller, sizes-le-length nodes (root heap ∷ others) parts))) (size_from_rises steps t.rest t.rises))

pub climbed_to : {nodes : List Node} {at steps now : ℕ} (parent : ℕ) → parent ≡ now → IsClimbing nodes at now steps → IsClimbing nodes at parent steps
climbed_to {nodes} {at} {steps} parent e t = subst (λ x. IsClimbing nodes at x steps) (sym e) t

-- ---- the tree of the root above a node

pub record IsTreeOf (top at : ℕ) (f : Forest) : Type 0 where
  pub key : Priority
  pub rank : ℕ
  pub kids : Forest
  pub has_root : HasRoot top key rank kids f
  pub has : 1 ≤ forest_weight (at_place at) (tree top key rank kids none)

pub tree_of : (nodes : List Node) (at top : ℕ) → IsTop nodes at top → length nodes < 2 ^ 16 → (f : Forest) → Stands nodes nowhere f → 1 ≤ forest_weight (at_place at) f → IsTreeOf top at f
tree_of nodes at top t small none s has = absurd (omega (arith, has))
tree_of nodes at top t small (tree b key rank kids rest) s has =
    ⊎_elim
    (λ here.
    let up : (node_at nodes b).parent ≡ nowhere = ap (λ (n : Node). n.parent) s.1 in
    ⊎_elim
    (λ hit.
    let e : top ≡ b = equal_from_same top b (omega (arith, hit)) in
    record {
      key = key;
      rank = rank;
      kids = kids;
      has_root = inl (sym e, refl, refl, refl);
      has = omega (arith, here, ap (λ x. same at x) e);
    })
    (λ miss. absurd (omega (
      arith,
      t.no_parent,
      inner_parent nodes b top kids small (omega (arith, s.0)) s.2 (omega (arith, t.in_tree b kids up s.2 (omega (arith, here)), miss)),
    )))
    (cases_lt 0 (same top b)))
    (λ later.
    let m = tree_of nodes at top t small rest s.3 (omega (arith, has, later)) in
    record { key = m.key; rank = m.rank; kids = m.kids; has_root = inr m.has_root; has = m.has })
    (cases_lt 0 (same at b + forest_weight (at_place at) kids))
