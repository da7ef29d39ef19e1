-- A table's first root, and its trees as a list.
use Rattle.std.proofs.Common.{◌≡◌, ◌≢◌, ℕ, zero, suc, ◌+◌, ◌*◌, ◌%◌, ◌^◌, ◌<◌, ◌≤◌, List, [], ◌∷◌, ◌++◌, length, get_or, set, refl, sym, ap, ◌∙◌, subst, arith, ⊎_elim, get_or-set_same, get_or-set_other, w32}
use Rattle.std.proofs.Math.ListN.{length-set}
use Rattle.std.proofs.lemmas.Bool.{cases_lt, cases_eq}
use Rattle.std.proofs.lemmas.List.{get_or_past}
use Rattle.std.proofs.lemmas.Nat.Bits.{bit_at_clear_same, bit_at_clear_other, bit_at-trailing_zeros, same_from_bits_below}
use Rattle.std.specs.Int.{bit_at, bit_not, trailing_zeros}
use Rattle.std.specs.Int.Bits.{bit_and}
use Rattle.std.proofs.lemmas.Nat.{and_le_l}
use Rattle.pf_order.specs.Priority.{Priority, precedes}
use Rattle.pf_order.specs.Counts.{Counts, Compares}
use Rattle.pf_heap.specs.declared.node.Node.{Node}
use Rattle.pf_heap.specs.declared.table.Roots.{Roots}
use Rattle.pf_heap.specs.Forest.{Forest, none, tree, nowhere, head, forest_weight, at_place, some, IsBelow, AllBelow, Falls, IsTreeOrNone}
use Rattle.pf_heap.specs.Memory.{node_at, Stands, Part, root, all_roots, weigh_all, Parts, nodes_with_sibling}
use Rattle.pf_heap.specs.Pops.{IsEarlier}
use Rattle.pf_heap.specs.Table.{mask_of, tree_count, NoneBefore, IsTable, HasTable, IsFirstRoot, IsSeekingIn, IsListing, HasListAbove, IsListed}
use Rattle.pf_order.proofs.Comparing.{compares_none, compares_both}
use Rattle.pf_heap.proofs.Forests.{some-le, below-itself, below_from_precedes, all_below-trans, all_below_from_falls, rises_less}
use Rattle.pf_heap.proofs.Standing.{push_parts}
use Rattle.pf_heap.proofs.Tables.{weigh_all-append, weigh_all-put, tree_out, tree_at, with_front, count-put, mask-lt, ranks_low, bit_of_mask, none_from_some, some_from_tree, bit_some, bit_none, stand_back}

pub no_trees : (fs : List Forest) (k : ℕ) → mask_of fs ≡ 0 → get_or fs k none ≡ none
no_trees [] k h = refl
no_trees (f ∷ fs) zero h = none_from_some f (omega (arith, h))
no_trees (f ∷ fs) (suc k) h = no_trees fs k (omega (arith, h))

pub none_counted : (fs : List Forest) → tree_count fs ≡ 0 → mask_of fs ≡ 0
none_counted [] h = refl
none_counted (f ∷ fs) h = omega (arith, h, none_counted fs (omega (arith, h)))

pub none_before : (p : Priority) (fs : List Forest) → ((k : ℕ) → AllBelow p (get_or fs k none)) → NoneBefore p fs
none_before p [] h = tt
none_before p (f ∷ fs) h = (h zero, none_before p fs (λ k. h (suc k)))

pub count-le-length : (fs : List Forest) → tree_count fs ≤ length fs
count-le-length [] = omega arith
count-le-length (f ∷ fs) = omega (arith, some-le f, count-le-length fs)

-- the mask without its bit of a rank
pub cleared : (fs : List Forest) (k : ℕ) → length fs ≡ 16 → k < 16 → bit_and (mask_of fs) (bit_not w32 (1 * 2 ^ k % 2 ^ 32)) < 2 ^ 32 →
    bit_and (mask_of fs) (bit_not w32 (1 * 2 ^ k % 2 ^ 32)) ≡ mask_of (set fs k none)
cleared fs k long low small =
    let long' : length (set fs k none) ≡ 16 = length-set fs k none ∙ long in
    let lt : mask_of (set fs k none) < 2 ^ 16 = subst (λ n. mask_of (set fs k none) < 2 ^ n) long' (mask-lt (set fs k none)) in
    same_from_bits_below 32 (bit_and (mask_of fs) (bit_not w32 (1 * 2 ^ k % 2 ^ 32))) (mask_of (set fs k none)) small (omega (arith, lt))
    (λ i within. ⊎_elim
    (λ e. subst (λ x. bit_at (bit_and (mask_of fs) (bit_not w32 (1 * 2 ^ k % 2 ^ 32))) x ≡ bit_at (mask_of (set fs k none)) x) (sym e)
    (bit_at_clear_same w32 (mask_of fs) k (omega (arith, low))
    ∙ sym (bit_of_mask (set fs k none) k ∙ ap some (get_or-set_same fs k none none (omega (arith, low, long))))))
    (λ differ. bit_at_clear_other w32 (mask_of fs) k (omega (arith, low)) i within differ
    ∙ bit_of_mask fs i ∙ sym (bit_of_mask (set fs k none) i ∙ ap some (get_or-set_other fs k i none none differ)))
    (cases_eq i k))

-- a rank whose bit is set is below 16
pub bit_low : (fs : List Forest) (k : ℕ) → length fs ≡ 16 → bit_at (mask_of fs) k ≡ 1 → k < 16
bit_low fs k long h =
    ⊎_elim (λ lt. lt) (λ ge. absurd (bit_some fs k h (get_or_past fs k none (omega (arith, ge, long))))) (cases_lt k 16)

-- the tree in a place that isn't empty
pub record IsTreeThere (fs : List Forest) (k at : ℕ) : Type 0 where
  pub key : Priority
  pub kids : Forest
  pub is : get_or fs k none ≡ tree at key k kids none
  pub falls : Falls key k kids

there_by : (k at : ℕ) (f : Forest) → f ≢ none → at ≡ head f → IsTreeOrNone k f → (key : Priority) × (kids : Forest) × (f ≡ tree at key k kids none) × Falls key k kids
there_by k at none h is t = absurd (h refl)
there_by k at (tree a key rank kids none) h is t =
    (key, kids, (λ i. tree (sym is i) key (t.0 i) kids none), subst (λ r. Falls key r kids) t.0 t.1)
there_by k at (tree a key rank kids (tree a' k' r' f' n')) h is t = absurd t

pub tree_there : {table : Roots} (fs : List Forest) (k at : ℕ) → IsTable table fs → bit_at (mask_of fs) k ≡ 1 → at ≡ get_or table.trees k nowhere → IsTreeThere fs k at
tree_there {table} fs k at t bit is =
    let h = bit_some fs k bit in
    let b = there_by k at (get_or fs k none) h (is ∙ t.links k h) (tree_at fs k t.by_rank) in
    record { key = b.0; kids = b.1; is = b.2; falls = b.3 }

tree_below : (p : Priority) (at : ℕ) (key : Priority) (rank : ℕ) (kids f : Forest) → f ≡ tree at key rank kids none → Falls key rank kids → IsBelow p key → AllBelow p f
tree_below p at key rank kids f is falls below =
    subst (λ g. AllBelow p g) (sym is) (below, all_below-trans p key kids below (all_below_from_falls key rank kids falls), tt)

-- ---- the first root

-- what is left of a number's bits is no greater
pub and_low : {table : Roots} {trees : List Forest} → IsTable table trees → (m : ℕ) → bit_and table.ranks m < 2 ^ 32
and_low {table} t m = omega (arith, and_le_l table.ranks m, ranks_low t)

pub rest_and_low : {table : Roots} {trees : List Forest} {best rest steps : ℕ} {before after : Counts} → IsTable table trees → IsSeekingIn trees best rest steps before after → (m : ℕ) → bit_and rest m < 2 ^ 32
rest_and_low {table} {trees} {best} {rest} t s m =
    let long : length s.left ≡ 16 = s.long ∙ t.long in
    let lt : mask_of s.left < 2 ^ 16 = subst (λ n. mask_of s.left < 2 ^ n) long (mask-lt s.left) in
    omega (arith, and_le_l rest m, s.rest_is, lt)

module _ {table : Roots} {trees : List Forest} (t : IsTable table trees) where
  -- the place of the lowest bit
  pub lowest : {rest : ℕ} → (left : List Forest) → rest ≡ mask_of left → length left ≡ length trees → rest ≢ 0 → bit_at (mask_of left) (trailing_zeros w32 rest) ≡ 1
  lowest {rest} left is long some_bit =
      let long' : length left ≡ 16 = long ∙ t.long in
      let lt : mask_of left < 2 ^ 16 = subst (λ n. mask_of left < 2 ^ n) long' (mask-lt left) in
      ap (λ m. bit_at m (trailing_zeros w32 rest)) (sym is) ∙ (bit_at-trailing_zeros w32 rest (omega (arith, some_bit)) (omega (arith, is, lt))).1

  pub lowest_low : {rest : ℕ} (left : List Forest) → rest ≡ mask_of left → length left ≡ length trees → rest ≢ 0 → trailing_zeros w32 rest < 16
  lowest_low {rest} left is long some_bit = bit_low left (trailing_zeros w32 rest) (long ∙ t.long) (lowest left is long some_bit)

  pub seek_begun : {first rest best : ℕ} (counts : Counts) → table.ranks ≢ 0 → first ≡ trailing_zeros w32 table.ranks → best ≡ get_or table.trees first nowhere →
      rest ≡ bit_and table.ranks (bit_not w32 (1 * 2 ^ first % 2 ^ 32)) → rest < 2 ^ 32 → IsSeekingIn trees best rest 0 counts counts
  seek_begun {first} {rest} {best} counts some_bit first_is best_is rest_is small =
      let bit : bit_at (mask_of trees) first ≡ 1 = ap (bit_at (mask_of trees)) first_is ∙ lowest trees t.ranks refl some_bit in
      let low : first < 16 = bit_low trees first t.long bit in
      let there = tree_there trees first best t bit best_is in
      let at_mask : rest ≡ bit_and (mask_of trees) (bit_not w32 (1 * 2 ^ first % 2 ^ 32)) = rest_is ∙ ap (λ m. bit_and m (bit_not w32 (1 * 2 ^ first % 2 ^ 32))) t.ranks in
      let one : some (get_or trees first none) ≡ 1 = some_from_tree (get_or trees first none) (bit_some trees first bit) in
      let c = count-put trees first none (omega (arith, low, t.long)) in
      record {
        key = there.key;
        rank = first;
        kids = there.kids;
        left = set trees first none;
        place = omega (arith, low, t.long);
        tree_is = there.is;
        rest_is = at_mask ∙ cleared trees first t.long low (omega (arith, small, at_mask));
        long = length-set trees first none;
        unseen = λ r h. ⊎_elim
            (λ e. absurd (h (ap (λ x. get_or (set trees first none) x none) e ∙ get_or-set_same trees first none none (omega (arith, low, t.long)))))
            (λ differ. get_or-set_other trees first r none none differ)
            (cases_eq r first);
        seen = λ r h. ⊎_elim
            (λ e. tree_below there.key best there.key first there.kids (get_or trees r none) (ap (λ x. get_or trees x none) e ∙ there.is) there.falls (below-itself there.key))
            (λ differ. subst (λ f. AllBelow there.key f) (sym (sym (get_or-set_other trees first r none none differ) ∙ h)) tt)
            (cases_eq r first);
        few = omega (arith, c, one, count-le-length trees, t.long);
        made = 0;
        made_few = omega (arith, c, one);
        counted = compares_none _;
      }

  module _ {nodes : List Node} {best rest steps : ℕ} {before between : Counts} (small : length nodes < 2 ^ 16) (others : List Part) (parts : Parts nodes (all_roots trees ++ others))
      (m : IsSeekingIn trees best rest steps before between) where
    pub best_node : (best < length nodes) × ((node_at nodes best).key ≡ m.key)
    best_node =
        let s : Stands nodes nowhere (tree best m.key m.rank m.kids none) = subst (λ f. Stands nodes nowhere f) m.tree_is (tree_out trees m.rank m.place others parts).stand.0 in
        (s.0, ap (λ (n : Node). n.key) s.1)

    pub seek_ended : mask_of m.left ≡ 0 → IsFirstRoot trees best before between
    seek_ended done = record {
      key = m.key;
      rank = m.rank;
      kids = m.kids;
      place = m.place;
      tree_is = m.tree_is;
      first = none_before m.key trees (λ k. m.seen k (no_trees m.left k done));
      made = m.made;
      made_few = omega (arith, m.made_few);
      counted = m.counted;
    }

    pub seek_all : 16 ≤ steps → IsFirstRoot trees best before between
    seek_all all = seek_ended (none_counted m.left (omega (arith, m.few, all)))

    module _ {rank x : ℕ} (some_bit : rest ≢ 0) (rank_is : rank ≡ trailing_zeros w32 rest) (x_is : x ≡ get_or table.trees rank nowhere) where
      bit : bit_at (mask_of m.left) rank ≡ 1
      bit = ap (bit_at (mask_of m.left)) rank_is ∙ lowest m.left m.rest_is m.long some_bit

      pub low : rank < 16
      low = bit_low m.left rank (m.long ∙ t.long) bit

      old : get_or m.left rank none ≡ get_or trees rank none
      old = m.unseen rank (bit_some m.left rank bit)

      bit_there : bit_at (mask_of trees) rank ≡ 1
      bit_there = bit_of_mask trees rank ∙ ap some (sym old) ∙ sym (bit_of_mask m.left rank) ∙ bit

      pub there : IsTreeThere trees rank x
      there = tree_there trees rank x t bit_there x_is

      pub there_node : (e : IsTreeThere trees rank x) → (x < length nodes) × ((node_at nodes x).key ≡ e.key)
      there_node e =
          let s : Stands nodes nowhere (tree x e.key rank e.kids none) = subst (λ f. Stands nodes nowhere f) e.is (tree_out trees rank (omega (arith, low, t.long)) others parts).stand.0 in
          (s.0, ap (λ (n : Node). n.key) s.1)

      module _ (e : IsTreeThere trees rank x) {result next : ℕ} {after : Counts} (earlier : IsEarlier nodes best x result) (one : Compares 1 between after)
          (next_is : next ≡ bit_and rest (bit_not w32 (1 * 2 ^ rank % 2 ^ 32))) (next_small : next < 2 ^ 32) where
        at_mask : next ≡ bit_and (mask_of m.left) (bit_not w32 (1 * 2 ^ rank % 2 ^ 32))
        at_mask = next_is ∙ ap (λ n. bit_and n (bit_not w32 (1 * 2 ^ rank % 2 ^ 32))) m.rest_is

        gone : tree_count (set m.left rank none) + 1 ≡ tree_count m.left
        gone =
            let s : some (get_or m.left rank none) ≡ 1 = some_from_tree (get_or m.left rank none) (bit_some m.left rank bit) in
            omega (arith, count-put m.left rank none (omega (arith, low, m.long, t.long)), s)

        test : precedes (node_at nodes x).key (node_at nodes best).key ≡ precedes e.key m.key
        test = λ i. precedes ((there_node e).1 i) (best_node.1 i)

        found : (k : Priority) (r : ℕ) (f : Forest) → r < length trees → get_or trees r none ≡ tree result k r f none → IsBelow k m.key → IsBelow k e.key →
            IsSeekingIn trees result next (steps + 1) before after
        found k r f place tree_is below_best below_there = record {
          key = k;
          rank = r;
          kids = f;
          left = set m.left rank none;
          place = place;
          tree_is = tree_is;
          rest_is = at_mask ∙ cleared m.left rank (m.long ∙ t.long) low (omega (arith, next_small, at_mask));
          long = length-set m.left rank none ∙ m.long;
          unseen = λ j h. ⊎_elim
              (λ here. absurd (h (ap (λ y. get_or (set m.left rank none) y none) here ∙ get_or-set_same m.left rank none none (omega (arith, low, m.long, t.long)))))
              (λ differ.
              let same_tree : get_or (set m.left rank none) j none ≡ get_or m.left j none = get_or-set_other m.left rank j none none differ in
              same_tree ∙ m.unseen j (λ z. h (same_tree ∙ z)))
              (cases_eq j rank);
          seen = λ j h. ⊎_elim
              (λ here. tree_below k x e.key rank e.kids (get_or trees j none) (ap (λ y. get_or trees y none) here ∙ e.is) e.falls below_there)
              (λ differ. all_below-trans k m.key (get_or trees j none) below_best (m.seen j (sym (get_or-set_other m.left rank j none none differ) ∙ h)))
              (cases_eq j rank);
          few = omega (arith, m.few, gone);
          made = m.made + 1;
          made_few = omega (arith, m.made_few, gone);
          counted = compares_both m.counted one;
        }

        pub seek_step : IsSeekingIn trees result next (steps + 1) before after
        seek_step =
            ⊎_elim
            (λ h. found m.key m.rank m.kids m.place (m.tree_is ∙ (λ i. tree (sym h.0 i) m.key m.rank m.kids none)) (below-itself m.key) (sym test ∙ h.1))
            (λ h. found e.key rank e.kids (omega (arith, low, t.long)) (e.is ∙ (λ i. tree (sym h.0 i) e.key rank e.kids none)) (below_from_precedes e.key m.key (sym test ∙ h.1)) (below-itself e.key))
            earlier

-- ---- the trees as a list

pub listing_begun : (nodes : List Node) (table : Roots) (can : HasTable nodes table) → IsListing nodes can.trees can.others nowhere 16
listing_begun nodes table can = record {
  left = can.trees;
  list = none;
  link_is = refl;
  rises = tt;
  long = refl;
  lower = λ r h. refl;
  higher = λ r h. get_or_past can.trees r none (omega (arith, h, can.table_is.long));
  small = can.small;
  parts = record { stand = (tt, can.parts.stand); once = λ i. omega (arith, can.parts.once i) };
  kept = λ w. omega arith;
}

abbrev pub list_above : {nodes now : List Node} {table : Roots} {rank link : ℕ} (can : HasTable nodes table) → IsListing now can.trees can.others link (rank + 1) → HasListAbove now table rank link
list_above can m = record { trees = can.trees; others = can.others; table_is = can.table_is; now = m }

module _ {nodes : List Node} {table : Roots} {rank link : ℕ} (low : rank < 16) (can : HasListAbove nodes table rank link) where
  abbrev m : IsListing nodes can.trees can.others link (rank + 1)
  m = can.now

  pub not_pushed : bit_at table.ranks rank ≢ 1 → IsListing nodes can.trees can.others link rank
  not_pushed vacant =
      let empty : get_or can.trees rank none ≡ none = bit_none can.trees rank (λ e. vacant (ap (λ x. bit_at x rank) can.table_is.ranks ∙ e)) in
      record {
        left = m.left;
        list = m.list;
        link_is = m.link_is;
        rises = rises_less (rank + 1) rank m.list (omega arith) m.rises;
        long = m.long;
        lower = λ r h. m.lower r (omega (arith, h));
        higher = λ r h. ⊎_elim
            (λ e. ap (λ x. get_or m.left x none) e ∙ m.lower rank (omega arith) ∙ empty)
            (λ differ. m.higher r (omega (arith, h, differ)))
            (cases_eq r rank);
        small = m.small;
        parts = m.parts;
        kept = m.kept;
      }

  module _ {at : ℕ} (taken : bit_at table.ranks rank ≡ 1) (at_is : at ≡ get_or table.trees rank nowhere) where
    pub pushed_tree : IsTreeThere can.trees rank at
    pushed_tree = tree_there can.trees rank at can.table_is (ap (λ x. bit_at x rank) (sym can.table_is.ranks) ∙ taken) at_is

    module _ (e : IsTreeThere can.trees rank at) where
      within : rank < length m.left
      within = omega (arith, low, m.long, can.table_is.long)

      left_is : get_or m.left rank none ≡ tree at e.key rank e.kids none
      left_is = m.lower rank (omega arith) ∙ e.is

      apart : Parts nodes (root (tree at e.key rank e.kids none) ∷ root m.list ∷ (all_roots (set m.left rank none) ++ can.others))
      apart =
          let out = tree_out m.left rank within can.others (with_front nodes (root m.list) (all_roots m.left ++ can.others) m.parts) in
          record {
            stand = (subst (λ f. Stands nodes nowhere f) left_is out.stand.0, (m.parts.stand.0, out.stand.1));
            once = λ i. omega (
              arith,
              m.parts.once i,
              ap (λ f. forest_weight (at_place i) f) left_is,
              weigh_all-append (at_place i) (all_roots m.left) can.others,
              weigh_all-append (at_place i) (all_roots (set m.left rank none)) can.others,
              weigh_all-put (at_place i) m.left rank none within,
            );
          }

      pub pushed_within : at < length nodes
      pushed_within = apart.stand.0.0

      pub pushed : {new : List Node} → new ≡ nodes_with_sibling nodes at link → length new < 2 ^ 16 → IsListing new can.trees can.others at rank
      pushed {new} written small = record {
        left = set m.left rank none;
        list = tree at e.key rank e.kids m.list;
        link_is = refl;
        rises = (omega arith, e.falls, m.rises);
        long = length-set m.left rank none ∙ m.long;
        lower = λ r h. get_or-set_other m.left rank r none none (λ z. absurd (omega (arith, h, z))) ∙ m.lower r (omega (arith, h));
        higher = λ r h. ⊎_elim
            (λ z. ap (λ x. get_or (set m.left rank none) x none) z ∙ get_or-set_same m.left rank none none within)
            (λ differ. get_or-set_other m.left rank r none none differ ∙ m.higher r (omega (arith, h, differ)))
            (cases_eq r rank);
        small = small;
        parts = subst (λ ns. Parts ns (root (tree at e.key rank e.kids m.list) ∷ (all_roots (set m.left rank none) ++ can.others)))
            (sym (written ∙ ap (λ z. nodes_with_sibling nodes at z) m.link_is))
            (push_parts nodes nowhere at e.key rank e.kids m.list (all_roots (set m.left rank none) ++ can.others) apart);
        kept = λ w. omega (arith, m.kept w, weigh_all-put w m.left rank none within, ap (λ f. forest_weight w f) left_is);
      }

weighs_none : (w : ℕ → Priority → ℕ) (fs : List Forest) → ((k : ℕ) → get_or fs k none ≡ none) → weigh_all w (all_roots fs) ≡ 0
weighs_none w [] h = refl
weighs_none w (f ∷ fs) h = omega (arith, ap (λ g. forest_weight w g) (h zero), weighs_none w fs (λ k. h (suc k)))

pub listed : {nodes : List Node} {trees : List Forest} {others : List Part} {link : ℕ} → IsListing nodes trees others link 0 → IsListed nodes trees others link
listed {nodes} {trees} {others} m =
    let none_left : (k : ℕ) → get_or m.left k none ≡ none = λ k. m.higher k (omega arith) in
    record {
      list = m.list;
      list_is = m.link_is;
      rises = m.rises;
      small = m.small;
      parts = record {
        stand = (m.parts.stand.0, stand_back nodes (all_roots m.left) others m.parts.stand.1);
        once = λ i. omega (arith, m.parts.once i, weigh_all-append (at_place i) (all_roots m.left) others);
      };
      kept = λ w. omega (arith, m.kept w, weighs_none w m.left none_left);
    }
