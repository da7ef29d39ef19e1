-- Roots, and the one with the first key.
use Rattle.std.proofs.Common.{◌≡◌, ◌≢◌, ℕ, zero, suc, ◌+◌, ◌-◌, ◌^◌, ◌<◌, ◌≤◌, inl, inr, List, ◌∷◌, length, refl, sym, ap, ◌∙◌, subst, arith, ⊎_elim}
use Rattle.std.proofs.Math.Pow.{pow_mono}
use Rattle.std.proofs.lemmas.Nat.{pow_pos}
use Rattle.pf_order.specs.Priority.{Priority, precedes}
use Rattle.pf_order.specs.Counts.{Counts, Compares}
use Rattle.pf_heap.specs.declared.node.Node.{Node}
use Rattle.pf_heap.specs.Forest.{Forest, none, tree, nowhere, head, forest_weight, same, at_place, size, IsBelow, AllBelow, Falls, Rises, HasRoot, roots}
use Rattle.pf_heap.specs.Memory.{node_at, Stands, Part, root, Parts}
use Rattle.pf_heap.specs.Pops.{IsEarlier, IsSeeking, IsLeastRoot}
use Rattle.pf_order.proofs.Comparing.{compares_none, compares_both}
use Rattle.pf_heap.proofs.Forests.{same-self, double, size_from_falls, size_from_rises, below-trans, below-itself, below_from_precedes, all_below-trans, all_below_from_falls, rises_less}
use Rattle.pf_heap.proofs.Standing.{none_from_link, head_within}
use Rattle.pf_heap.proofs.Weights.{sizes-le-length}

-- ---- roots

-- what holds of ranks from r + d on holds from r on
from_lower : (d n r k : ℕ) → 2 ^ (n + (d + r)) ≤ k + 2 ^ (d + r) → 2 ^ (n + r) ≤ k + 2 ^ r
from_lower zero n r k h =
    let e : 0 + r ≡ r = omega arith in
    omega (arith, h, ap (λ x. 2 ^ (n + x)) e, ap (λ x. 2 ^ x) e)
from_lower (suc d) n r k h =
    let e : suc d + r ≡ (d + r) + 1 = omega arith in
    let f : n + (suc d + r) ≡ (n + (d + r)) + 1 = omega arith in
    from_lower d n r k (omega (arith, h, double (d + r) (suc d + r) e, double (n + (d + r)) (n + (suc d + r)) f))

-- distinct ranks: few roots
roots_of_rises : (r : ℕ) (f : Forest) → Rises r f → 2 ^ (roots f + r) ≤ size f + 2 ^ r
roots_of_rises r none h = omega (arith, ap (λ x. 2 ^ x) (let e : 0 + r ≡ r = omega arith in e))
roots_of_rises r (tree at key rank kids rest) h =
    let e : (rank - r) + r ≡ rank = omega (arith, h.0) in
    let n : ℕ = 1 + roots rest in
    let f : n + ((rank - r) + r) ≡ roots rest + (rank + 1) = omega (arith, h.0) in
    from_lower (rank - r) n r (size (tree at key rank kids rest))
    (omega (
      arith,
      roots_of_rises (rank + 1) rest h.2,
      double rank (rank + 1) refl,
      size_from_falls key rank kids h.1,
      ap (λ x. 2 ^ x) f,
      ap (λ x. 2 ^ x) e,
    ))

-- a heap of k keys has no more roots than k has digits
pub roots_paid : (f : Forest) → Rises 0 f → (n : ℕ) → roots f ≡ n + 1 → 2 ^ n ≤ size f
roots_paid f h n e =
    let p : 2 ^ (roots f + 0) ≡ 2 ^ (n + 1) = ap (λ x. 2 ^ x) (let s : roots f + 0 ≡ n + 1 = omega arith in s) in
    omega (arith, roots_of_rises 0 f h, double n (n + 1) refl, p, pow_pos n)

pub root_used : (i : ℕ) (k : Priority) (r : ℕ) (g f : Forest) → HasRoot i k r g f → 1 ≤ forest_weight (at_place i) f
root_used i k r g none h = absurd h
root_used i k r g (tree at key rank kids rest) h =
    ⊎_elim
    (λ e. omega (arith, same-self i, ap (λ x. same i x) e.0))
    (λ m. omega (arith, root_used i k r g rest m))
    h

-- what memory has of a root
pub record IsRootNode (nodes : List Node) (i : ℕ) (k : Priority) (r : ℕ) (g : Forest) : Type 0 where
  pub within : i < length nodes
  pub key_is : (node_at nodes i).key ≡ k
  pub child_is : (node_at nodes i).child ≡ head g
  pub rank_is : (node_at nodes i).rank ≡ r

pub root_stands : (nodes : List Node) (up i : ℕ) (k : Priority) (r : ℕ) (g f : Forest) → Stands nodes up f → HasRoot i k r g f → IsRootNode nodes i k r g
root_stands nodes up i k r g none s h = absurd h
root_stands nodes up i k r g (tree at key rank kids rest) s h =
    ⊎_elim
    (λ e. record {
      within = omega (arith, s.0, e.0);
      key_is = ap (λ x. (node_at nodes x).key) (sym e.0) ∙ ap (λ (n : Node). n.key) s.1 ∙ e.1;
      child_is = ap (λ x. (node_at nodes x).child) (sym e.0) ∙ ap (λ (n : Node). n.child) s.1 ∙ ap head e.3;
      rank_is = ap (λ x. (node_at nodes x).rank) (sym e.0) ∙ ap (λ (n : Node). n.rank) s.1 ∙ e.2;
    })
    (λ m. root_stands nodes up i k r g rest s.3 m)
    h

pub root_weighs : (w : ℕ → Priority → ℕ) (i : ℕ) (k : Priority) (r : ℕ) (g f : Forest) → HasRoot i k r g f → w i k ≤ forest_weight w f
root_weighs w i k r g none h = absurd h
root_weighs w i k r g (tree at key rank kids rest) h =
    ⊎_elim
    (λ e. let p : w at key ≡ w i k = λ j. w (e.0 j) (e.1 j) in omega (arith, p))
    (λ m. omega (arith, root_weighs w i k r g rest m))
    h

-- ---- the first key

pub seek_begun : (nodes : List Node) (link next : ℕ) (counts : Counts) (heap : Forest) (others : List Part) →
    link ≡ head heap → link ≢ nowhere → Rises 0 heap → Parts nodes (root heap ∷ others) → next ≡ (node_at nodes link).sibling →
    IsSeeking nodes heap link next 0 counts counts
seek_begun nodes link next counts none others is some rises parts next_is = absurd (some is)
seek_begun nodes link next counts (tree at key rank kids rest) others is some rises parts next_is =
    let s = parts.stand.0 in
    record {
      rest = rest;
      rest_is = next_is ∙ ap (λ z. (node_at nodes z).sibling) is ∙ ap (λ (n : Node). n.sibling) s.1;
      stands = s.3;
      rises = rises_less (rank + 1) 0 rest (omega arith) rises.2;
      smaller = omega arith;
      key = key;
      rank = rank;
      kids = kids;
      has = inl (sym is, refl, refl, refl);
      into = λ i k r f h. inr h;
      closes = λ p below all. (below, all_below-trans p key kids below (all_below_from_falls key rank kids rises.1), all);
      made = 0;
      made_few = omega arith;
      counted = compares_none _;
    }

module _ (nodes : List Node) (heap : Forest) (best result link next steps : ℕ) (before between after : Counts)
    (somewhere : link ≢ nowhere) (next_is : next ≡ (node_at nodes link).sibling)
    (stands_all : Stands nodes nowhere heap)
    (earlier : IsEarlier nodes best link result) (one : Compares 1 between after) where
  seek_by : (rest : Forest) (key : Priority) (rank : ℕ) (kids : Forest) → link ≡ head rest → Stands nodes nowhere rest → Rises steps rest → size rest ≤ size heap →
      HasRoot best key rank kids heap →
      ((i : ℕ) (k : Priority) (r : ℕ) (f : Forest) → HasRoot i k r f rest → HasRoot i k r f heap) →
      ((p : Priority) → IsBelow p key → AllBelow p rest → AllBelow p heap) →
      (made : ℕ) → made + (roots rest + 1) ≤ roots heap → Compares made before between →
      IsSeeking nodes heap result next (steps + 1) before after
  seek_by none key rank kids is s rises smaller has into closes made few counted = absurd (somewhere is)
  seek_by (tree at k r f rest) key rank kids is s rises smaller has into closes made few counted =
      let best_node = root_stands nodes nowhere best key rank kids heap stands_all has in
      let link_key : (node_at nodes link).key ≡ k = ap (λ z. (node_at nodes z).key) is ∙ ap (λ (n : Node). n.key) s.1 in
      let test : precedes (node_at nodes link).key (node_at nodes best).key ≡ precedes k key = λ j. precedes (link_key j) (best_node.key_is j) in
      let next_at : next ≡ head rest = next_is ∙ ap (λ z. (node_at nodes z).sibling) is ∙ ap (λ (n : Node). n.sibling) s.1 in
      let later : Rises (steps + 1) rest = rises_less (r + 1) (steps + 1) rest (omega (arith, rises.0)) rises.2 in
      let found : (k' : Priority) (r' : ℕ) (f' : Forest) → HasRoot result k' r' f' heap → ((p : Priority) → IsBelow p k' → AllBelow p rest → AllBelow p heap) →
      IsSeeking nodes heap result next (steps + 1) before after = λ k' r' f' there closes_more. record {
        rest = rest;
        rest_is = next_at;
        stands = s.3;
        rises = later;
        smaller = omega (arith, smaller);
        key = k';
        rank = r';
        kids = f';
        has = there;
        into = λ i k2 r2 f2 m. into i k2 r2 f2 (inr m);
        closes = closes_more;
        made = made + 1;
        made_few = omega (arith, few);
        counted = compares_both counted one;
      } in
      ⊎_elim
      (λ h. found key rank kids (subst (λ z. HasRoot z key rank kids heap) (sym h.0) has) (λ p below all.
      let here = below-trans p key k below (sym test ∙ h.1) in
      closes p below (here, all_below-trans p k f here (all_below_from_falls k r f rises.1), all)))
      (λ h. found k r f (subst (λ z. HasRoot z k r f heap) (sym (h.0 ∙ is)) (into at k r f (inl (refl, refl, refl, refl)))) (λ p below all.
      closes p (below-trans p k key below (below_from_precedes k key (sym test ∙ h.1)))
      (below, all_below-trans p k f below (all_below_from_falls k r f rises.1), all)))
      earlier

  pub seek_step : IsSeeking nodes heap best link steps before between → IsSeeking nodes heap result next (steps + 1) before after
  seek_step t = seek_by t.rest t.key t.rank t.kids t.rest_is t.stands t.rises t.smaller t.has t.into t.closes t.made t.made_few t.counted

module _ {nodes : List Node} {heap : Forest} {best rest_link steps : ℕ} {before after : Counts} (t : IsSeeking nodes heap best rest_link steps before after) where
  pub seeking_within : rest_link ≢ nowhere → rest_link < length nodes
  seeking_within some = head_within nodes nowhere t.rest rest_link t.stands t.rest_is some

  found_by : t.rest ≡ none → IsLeastRoot heap best before after
  found_by done = record {
    key = t.key;
    rank = t.rank;
    kids = t.kids;
    has = t.has;
    least = t.closes t.key (below-itself t.key) (subst (λ f. AllBelow t.key f) (sym done) tt);
    made = t.made;
    made_few = omega (arith, t.made_few);
    counted = t.counted;
  }

  -- at the end of the roots, and after as many steps as there are ranks
  pub found_out : length nodes < 2 ^ 16 → rest_link ≡ nowhere → IsLeastRoot heap best before after
  found_out small out = found_by (none_from_link nodes nowhere rest_link t.rest small t.stands t.rest_is out)

  pub found_all : {others : List Part} → 16 ≤ steps → length nodes < 2 ^ 16 → Parts nodes (root heap ∷ others) → IsLeastRoot heap best before after
  found_all {others} all small parts =
      found_by
      (⊎_elim (λ h. h) (λ h. absurd (omega (arith, h, pow_mono all, t.smaller, sizes-le-length nodes (root heap ∷ others) parts))) (size_from_rises steps t.rest t.rises))

-- ---- a root's children

pub root_falls : (r i : ℕ) (k : Priority) (rk : ℕ) (g f : Forest) → Rises r f → HasRoot i k rk g f → Falls k rk g
root_falls r i k rk g none rises h = absurd h
root_falls r i k rk g (tree at key rank kids rest) rises h =
    ⊎_elim
    (λ e. let P : (j : Priority) (n : ℕ) (x : Forest) → Type 0 = λ j n x. Falls j n x in
    subst (λ x. Falls k rk x) e.3 (subst (λ n. Falls k n kids) e.2 (subst (λ j. Falls j rank kids) e.1 rises.1)))
    (λ m. root_falls (rank + 1) i k rk g rest rises.2 m)
    h
