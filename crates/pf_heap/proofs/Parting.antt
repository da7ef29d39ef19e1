-- Cutting a root out of a heap.
use Rattle.std.proofs.Common.{◌≡◌, ◌≢◌, ℕ, ◌+◌, ◌^◌, ◌<◌, ◌≤◌, inl, inr, List, ◌∷◌, length, set, refl, sym, ap, ◌∙◌, subst, arith, get_or-set_same, get_or-set_other, ⊎_elim}
use Rattle.std.proofs.Math.ListN.{length-set}
use Rattle.std.proofs.Math.Pow.{pow_mono}
use Rattle.pf_order.specs.Priority.{Priority}
use Rattle.pf_heap.specs.declared.node.Node.{Node}
use Rattle.pf_heap.specs.Forest.{Forest, none, tree, nowhere, head, forest_weight, same, at_place, size, Rises, HasRoot}
use Rattle.pf_heap.specs.Memory.{no_node, node_at, Stands, Part, root, Parts, nodes_with_sibling}
use Rattle.pf_heap.specs.Pops.{HasHeapAndRoot, IsRightBefore, IsPassing, IsParted}
use Rattle.pf_heap.proofs.Forests.{same-self, size_from_rises, rises_less}
use Rattle.pf_heap.proofs.Standing.{stands-set, stand_all-set, cut_parts}
use Rattle.pf_heap.proofs.Weights.{sizes-le-length}
use Rattle.pf_heap.proofs.Pops.{root_used, root_stands}

-- ---- the root right before it

pub pass_begun : (nodes : List Node) (link at : ℕ) (can : HasHeapAndRoot nodes link at) → link ≢ at → IsPassing nodes can.heap at can.key can.rank can.kids link 0
pass_begun nodes link at can behind = record {
  rest = can.heap;
  rest_is = can.heap_is;
  has = can.has;
  differ = behind;
  stands = can.parts.stand.0;
  rises = can.rises;
  smaller = omega arith;
  into = λ p h. h;
}

first_within : (nodes : List Node) (now at : ℕ) (key : Priority) (rank : ℕ) (kids f : Forest) → now ≡ head f → HasRoot at key rank kids f → Stands nodes nowhere f → now < length nodes
first_within nodes now at key rank kids none is has s = absurd has
first_within nodes now at key rank kids (tree a k r g rest) is has s = omega (arith, is, s.0)

module _ (nodes : List Node) (heap : Forest) (at : ℕ) (key : Priority) (rank : ℕ) (kids : Forest) (now next steps : ℕ) (next_is : next ≡ (node_at nodes now).sibling) where
  pass_by : (rest : Forest) → now ≡ head rest → HasRoot at key rank kids rest → now ≢ at → Stands nodes nowhere rest → Rises steps rest → size rest ≤ size heap →
      ((p : ℕ) → IsRightBefore p at rest → IsRightBefore p at heap) →
      (next ≡ at → IsRightBefore now at heap) × (next ≢ at → IsPassing nodes heap at key rank kids next (steps + 1))
  pass_by none is has differ s rises smaller into = absurd has
  pass_by (tree a k r g rest) is has differ s rises smaller into =
      let next_at : next ≡ head rest = next_is ∙ ap (λ z. (node_at nodes z).sibling) is ∙ ap (λ (n : Node). n.sibling) s.1 in (
        λ here. into now (inl (is, sym here ∙ next_at)),
        λ there. record {
          rest = rest;
          rest_is = next_at;
          has = ⊎_elim (λ e. absurd (differ (is ∙ e.0))) (λ m. m) has;
          differ = there;
          stands = s.3;
          rises = rises_less (r + 1) (steps + 1) rest (omega (arith, rises.0)) rises.2;
          smaller = omega (arith, smaller);
          into = λ p h. into p (inr h);
        },
      )

  pub found_before : next ≡ at → IsPassing nodes heap at key rank kids now steps → IsRightBefore now at heap
  found_before here t = (pass_by t.rest t.rest_is t.has t.differ t.stands t.rises t.smaller t.into).0 here

  pub pass_step : next ≢ at → IsPassing nodes heap at key rank kids now steps → IsPassing nodes heap at key rank kids next (steps + 1)
  pass_step there t = (pass_by t.rest t.rest_is t.has t.differ t.stands t.rises t.smaller t.into).1 there

module _ {nodes : List Node} {heap : Forest} {at : ℕ} {key : Priority} {rank : ℕ} {kids : Forest} {now steps : ℕ} (t : IsPassing nodes heap at key rank kids now steps) where
  pub passing_within : now < length nodes
  passing_within = first_within nodes now at key rank kids t.rest t.rest_is t.has t.stands

  -- there are no more roots than ranks
  pub not_all_passed : {others : List Part} → 16 ≤ steps → length nodes < 2 ^ 16 → Parts nodes (root heap ∷ others) → ⊥
  not_all_passed {others} all small parts =
      ⊎_elim
      (λ e. omega (arith, root_used at key rank kids t.rest t.has, ap (λ f. forest_weight (at_place at) f) e))
      (λ h. omega (arith, h, pow_mono all, t.smaller, sizes-le-length nodes (root heap ∷ others) parts))
      (size_from_rises steps t.rest t.rises)

-- ---- the root is cut out

head_used : (i : ℕ) (f : Forest) → i ≡ head f → i ≢ nowhere → 1 ≤ forest_weight (at_place i) f
head_used i none is some = absurd (some is)
head_used i (tree a k r g rest) is some = omega (arith, same-self i, ap (λ x. same i x) is)

pub before_used : (p i : ℕ) (f : Forest) → i ≢ nowhere → IsRightBefore p i f → (1 ≤ forest_weight (at_place p) f) × (1 ≤ forest_weight (at_place i) f)
before_used p i none some h = absurd h
before_used p i (tree a k r g rest) some h =
    ⊎_elim
    (λ e. (omega (arith, same-self p, ap (λ x. same p x) e.0), omega (arith, head_used i rest e.1 some)))
    (λ m. let u = before_used p i rest some m in (omega (arith, u.0), omega (arith, u.1)))
    h

-- a forest without one of its roots, which isn't the first
record IsWithout (nodes : List Node) (i : ℕ) (key : Priority) (rank : ℕ) (kids f : Forest) : Type 0 where
  stay : Forest
  head_is : head stay ≡ head f
  rises : (r : ℕ) → Rises r f → Rises r stay
  stands : Stands nodes nowhere stay
  alone : Stands nodes nowhere (tree i key rank kids none)
  kept : (w : ℕ → Priority → ℕ) → forest_weight w stay + forest_weight w (tree i key rank kids none) ≡ forest_weight w f

-- the second of two roots is cut out
second_out : (nodes : List Node) (a b : ℕ) (ka kb : Priority) (ra rb : ℕ) (fa fb rest : Forest) →
    Stands nodes nowhere (tree a ka ra fa (tree b kb rb fb rest)) → ((j : ℕ) → forest_weight (at_place j) (tree a ka ra fa (tree b kb rb fb rest)) ≤ 1) →
    Stands (nodes_with_sibling (nodes_with_sibling nodes b nowhere) a (head rest)) nowhere (tree a ka ra fa rest)
    × Stands (nodes_with_sibling (nodes_with_sibling nodes b nowhere) a (head rest)) nowhere (tree b kb rb fb none)
second_out nodes a b ka kb ra rb fa fb rest s once =
    let sb = s.3 in
    let oa = once a in
    let ob = once b in
    let ia = same-self a in
    let ib = same-self b in
    let differ : a ≢ b = λ e. absurd (omega (arith, ob, ib, ap (λ x. same b x) e)) in
    let v : Node = record (node_at nodes b) { parent = nowhere; sibling = nowhere } in
    let mid : List Node = set nodes b v in
    let w : Node = record (node_at mid a) { parent = nowhere; sibling = head rest } in
    let lb : length (set nodes b v) ≡ length nodes = length-set nodes b v in
    let la : length (set mid a w) ≡ length mid = length-set mid a w in
    let va : Node = record { key = ka; parent = nowhere; child = head fa; sibling = head rest; rank = ra } in
    let is_w : w ≡ va = ap (λ (n : Node). record n { parent = nowhere; sibling = head rest }) (get_or-set_other nodes b a v no_node differ ∙ s.1) in
    let both : (up : ℕ) (f : Forest) → forest_weight (at_place a) f ≡ 0 → forest_weight (at_place b) f ≡ 0 → Stands nodes up f → Stands (set (set nodes b v) a w) up f =
    λ up f not_a not_b t. stands-set (set nodes b v) a w up f not_a (stands-set nodes b v up f not_b t) in (
      (
        omega (arith, s.0, la, lb),
        get_or-set_same mid a w no_node (omega (arith, s.0, lb)) ∙ is_w,
        both a fa (omega (arith, oa)) (omega (arith, ob)) s.2,
        both nowhere rest (omega (arith, oa)) (omega (arith, ob)) sb.3,
      ),
      (
        omega (arith, sb.0, la, lb),
        get_or-set_other mid a b w no_node (λ e. differ (sym e)) ∙ get_or-set_same nodes b v no_node sb.0
            ∙ ap (λ (n : Node). record n { parent = nowhere; sibling = nowhere }) sb.1,
        both b fb (omega (arith, oa)) (omega (arith, ob)) sb.2,
        tt,
      ),
    )

module _ (old : List Node) (p i next : ℕ) (key : Priority) (rank : ℕ) (kids : Forest) (next_is : next ≡ (node_at old i).sibling) (within : i < length old) (somewhere : i ≢ nowhere) where
  out_first : (a : ℕ) (k : Priority) (r : ℕ) (g rest : Forest) → Stands old nowhere (tree a k r g rest) → ((j : ℕ) → forest_weight (at_place j) (tree a k r g rest) ≤ 1) →
      HasRoot i key rank kids (tree a k r g rest) → p ≡ a → i ≡ head rest → IsWithout (nodes_with_sibling (nodes_with_sibling old i nowhere) p next) i key rank kids (tree a k r g rest)
  out_first a k r g none s once has p_is i_is = absurd (somewhere i_is)
  out_first a k r g (tree b k' r' g' rest) s once has p_is i_is =
      let next_at : next ≡ head rest = next_is ∙ ap (λ z. (node_at old z).sibling) i_is ∙ ap (λ (n : Node). n.sibling) s.3.1 in
      let both = second_out old a b k k' r r' g g' rest s once in
      let here : (b ≡ i) × (k' ≡ key) × (r' ≡ rank) × (g' ≡ kids) =
      ⊎_elim
      (λ e. absurd (omega (arith, once i, same-self i, ap (λ x. same i x) e.0, ap (λ x. same i x) i_is)))
      (λ m. ⊎_elim
      (λ e. e)
      (λ n. absurd (omega (arith, once i, same-self i, ap (λ x. same i x) i_is, root_used i key rank kids rest n)))
      m)
      has in
      let same_tree : tree b k' r' g' none ≡ tree i key rank kids none = λ j. tree (here.0 j) (here.1 j) (here.2 j) (here.3 j) none in
      let same_nodes : nodes_with_sibling (nodes_with_sibling old b nowhere) a (head rest) ≡ nodes_with_sibling (nodes_with_sibling old i nowhere) p next =
      λ j. nodes_with_sibling (nodes_with_sibling old (sym i_is j) nowhere) (sym p_is j) (sym next_at j) in
      record {
        stay = tree a k r g rest;
        head_is = refl;
        rises = λ n h. (h.0, h.1, rises_less (r' + 1) (r + 1) rest (omega (arith, h.2.0)) h.2.2);
        stands = subst (λ ns. Stands ns nowhere (tree a k r g rest)) same_nodes both.0;
        alone = subst (λ f. Stands (nodes_with_sibling (nodes_with_sibling old i nowhere) p next) nowhere f) same_tree
            (subst (λ ns. Stands ns nowhere (tree b k' r' g' none)) same_nodes both.1);
        kept = λ w. omega (arith, ap (λ f. forest_weight w f) same_tree);
      }

  out_later : (a : ℕ) (k : Priority) (r : ℕ) (g rest : Forest) → Stands old nowhere (tree a k r g rest) → ((j : ℕ) → forest_weight (at_place j) (tree a k r g rest) ≤ 1) →
      IsRightBefore p i rest → IsWithout (nodes_with_sibling (nodes_with_sibling old i nowhere) p next) i key rank kids rest →
      IsWithout (nodes_with_sibling (nodes_with_sibling old i nowhere) p next) i key rank kids (tree a k r g rest)
  out_later a k r g rest s once later t =
      let u = before_used p i rest somewhere later in
      let oi = once i in
      let op = once p in
      let not_i : a ≢ i = λ e. absurd (omega (arith, oi, u.1, same-self i, ap (λ x. same i x) e)) in
      let not_p : a ≢ p = λ e. absurd (omega (arith, op, u.0, same-self p, ap (λ x. same p x) e)) in
      let v : Node = record (node_at old i) { parent = nowhere; sibling = nowhere } in
      let mid : List Node = set old i v in
      let w : Node = record (node_at mid p) { parent = nowhere; sibling = next } in
      let node_is : Node = record { key = k; parent = nowhere; child = head g; sibling = head rest; rank = r } in
      record {
        stay = tree a k r g t.stay;
        head_is = refl;
        rises = λ n h. (h.0, h.1, t.rises (r + 1) h.2);
        stands = (
          omega (arith, s.0, length-set old i v, length-set mid p w),
          get_or-set_other mid p a w no_node not_p ∙ get_or-set_other old i a v no_node not_i ∙ s.1
              ∙ ap (λ h. record node_is { sibling = h }) (sym t.head_is),
          stands-set mid p w a g (omega (arith, op, u.0)) (stands-set old i v a g (omega (arith, oi, u.1)) s.2),
          t.stands,
        );
        alone = t.alone;
        kept = λ w. omega (arith, t.kept w);
      }

  out : (f : Forest) → Stands old nowhere f → ((j : ℕ) → forest_weight (at_place j) f ≤ 1) → HasRoot i key rank kids f → IsRightBefore p i f →
      IsWithout (nodes_with_sibling (nodes_with_sibling old i nowhere) p next) i key rank kids f
  out none s once has h = absurd h
  out (tree a k r g rest) s once has h =
      ⊎_elim
      (λ e. out_first a k r g rest s once has e.0 e.1)
      (λ later.
      let u = before_used p i rest somewhere later in
      let inner : HasRoot i key rank kids rest = ⊎_elim (λ e. absurd (omega (arith, once i, u.1, same-self i, ap (λ x. same i x) e.0))) (λ m. m) has in
      out_later a k r g rest s once later (out rest s.3 (λ j. omega (arith, once j)) inner later))
      h

module _ {old : List Node} {link at : ℕ} (can : HasHeapAndRoot old link at) where
  pub root_within : at < length old
  root_within = (root_stands old nowhere at can.key can.rank can.kids can.heap can.parts.stand.0 can.has).within

  root_somewhere : at ≢ nowhere
  root_somewhere e = absurd (omega (arith, root_within, can.small, e))

  module _ (p : ℕ) (is_before : IsRightBefore p at can.heap) where
    before_within : (f : Forest) → Stands old nowhere f → IsRightBefore p at f → p < length old
    before_within none s h = absurd h
    before_within (tree a k r g rest) s h = ⊎_elim (λ e. omega (arith, s.0, e.0)) (λ m. before_within rest s.3 m) h

    pub last_within : p < length old
    last_within = before_within can.heap can.parts.stand.0 is_before

    -- a root that isn't the first
    pub parted_later : {lone new : List Node} {next : ℕ} → next ≡ (node_at old at).sibling → lone ≡ nodes_with_sibling old at nowhere → new ≡ nodes_with_sibling lone p next →
        IsParted new can.heap can.others at can.key can.rank can.kids link
    parted_later {lone} {new} {next} next_is first second =
        let written : new ≡ nodes_with_sibling (nodes_with_sibling old at nowhere) p next = second ∙ ap (λ ns. nodes_with_sibling ns p next) first in
        let t = out old p at next can.key can.rank can.kids next_is root_within root_somewhere can.heap can.parts.stand.0 (λ j. omega (arith, can.parts.once j)) can.has is_before in
        let u = before_used p at can.heap root_somewhere is_before in
        let oi = can.parts.once at in
        let op = can.parts.once p in
        let v : Node = record (node_at old at) { parent = nowhere; sibling = nowhere } in
        let mid : List Node = set old at v in
        let w : Node = record (node_at mid p) { parent = nowhere; sibling = next } in
        let parts : Parts (nodes_with_sibling (nodes_with_sibling old at nowhere) p next) (root t.stay ∷ root (tree at can.key can.rank can.kids none) ∷ can.others) = record {
          stand = (t.stands, (t.alone, stand_all-set mid p w can.others (omega (arith, op, u.0)) (stand_all-set old at v can.others (omega (arith, oi, u.1)) can.parts.stand.1)));
          once = λ j. omega (arith, t.kept (at_place j), can.parts.once j);
        } in
        record {
          stay = t.stay;
          stay_is = can.heap_is ∙ sym t.head_is;
          rises = t.rises 0 can.rises;
          parts = subst (λ ns. Parts ns (root t.stay ∷ root (tree at can.key can.rank can.kids none) ∷ can.others)) (sym written) parts;
          kept = t.kept;
        }

-- the first root
module _ (old new : List Node) (link at next : ℕ) (key : Priority) (rank : ℕ) (kids : Forest) (others : List Part) (here : link ≡ at)
    (next_is : next ≡ (node_at old at).sibling) (written : new ≡ nodes_with_sibling old at nowhere) where
  first_out : (heap : Forest) → link ≡ head heap → HasRoot at key rank kids heap → Rises 0 heap → Parts old (root heap ∷ others) → IsParted new heap others at key rank kids next
  first_out none is has rises parts = absurd has
  first_out (tree a k r g rest) is has rises parts =
      let a_is : a ≡ at = sym is ∙ here in
      let e : (a ≡ at) × (k ≡ key) × (r ≡ rank) × (g ≡ kids) =
      ⊎_elim
      (λ e. e)
      (λ m. absurd (omega (arith, parts.once at, same-self at, ap (λ x. same at x) a_is, root_used at key rank kids rest m)))
      has in
      let same_tree : tree a k r g none ≡ tree at key rank kids none = λ j. tree (e.0 j) (e.1 j) (e.2 j) (e.3 j) none in
      let cut = cut_parts old nowhere a k r g rest others parts in
      let there : Parts new (root (tree a k r g none) ∷ root rest ∷ others) =
      subst (λ ns. Parts ns (root (tree a k r g none) ∷ root rest ∷ others)) (ap (λ z. nodes_with_sibling old z nowhere) a_is ∙ sym written) cut in
      let parts_now : Parts new (root (tree at key rank kids none) ∷ root rest ∷ others) =
      subst (λ f. Parts new (root f ∷ root rest ∷ others)) same_tree there in
      record {
        stay = rest;
        stay_is = next_is ∙ ap (λ z. (node_at old z).sibling) (sym a_is) ∙ ap (λ (n : Node). n.sibling) parts.stand.0.1;
        rises = rises_less (r + 1) 0 rest (omega arith) rises.2;
        parts = record { stand = (parts_now.stand.1.0, (parts_now.stand.0, parts_now.stand.1.1)); once = λ j. omega (arith, parts_now.once j) };
        kept = λ w. omega (arith, ap (λ f. forest_weight w f) same_tree);
      }

pub parted_first : (old new : List Node) (link at next : ℕ) (can : HasHeapAndRoot old link at) → link ≡ at → next ≡ (node_at old at).sibling → new ≡ nodes_with_sibling old at nowhere →
    IsParted new can.heap can.others at can.key can.rank can.kids next
parted_first old new link at next can here next_is written =
    first_out old new link at next can.key can.rank can.kids can.others here next_is written can.heap can.heap_is can.has can.rises can.parts
