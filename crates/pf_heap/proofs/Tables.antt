-- Trees by rank.
use Rattle.std.proofs.Common.{◌≡◌, ◌≢◌, ℕ, zero, suc, ◌+◌, ◌*◌, ◌/◌, ◌%◌, ◌^◌, ◌<◌, ◌≤◌, List, [], ◌∷◌, ◌++◌, length, get_or, set, refl, sym, ap, ◌∙◌, subst, arith, ⊎_elim}
use Rattle.std.proofs.Math.Nat.{add-mul, mul-add}
use Rattle.std.proofs.lemmas.Nat.{pow_below}
use Rattle.std.proofs.lemmas.Nat.Bits.{bit_at_lowest, bit_at-suc, bit_at-zero}
use Rattle.std.specs.Int.{bit_at}
use Rattle.pf_order.specs.Priority.{Priority}
use Rattle.pf_heap.specs.declared.node.Node.{Node}
use Rattle.pf_heap.specs.declared.table.Roots.{Roots}
use Rattle.pf_heap.specs.Forest.{Forest, none, tree, nowhere, head, forest_weight, one_each, at_place, size, roots, some, IsTreeOrNone}
use Rattle.pf_heap.specs.Memory.{Stands, Part, root, all_roots, weigh_all, StandAll, Parts, AreJoined}
use Rattle.pf_heap.specs.Table.{mask_of, tree_count, AreByRank, IsTable}
use Rattle.pf_heap.proofs.Forests.{some-le, double, size_from_falls}

-- ---- parts after parts

pub weigh_all-append : (w : ℕ → Priority → ℕ) (ps qs : List Part) → weigh_all w (ps ++ qs) ≡ weigh_all w ps + weigh_all w qs
weigh_all-append w [] qs = omega arith
weigh_all-append w (p ∷ ps) qs = omega (arith, weigh_all-append w ps qs)

pub stand_append : (nodes : List Node) (ps qs : List Part) → StandAll nodes ps → StandAll nodes qs → StandAll nodes (ps ++ qs)
stand_append nodes [] qs s t = t
stand_append nodes (p ∷ ps) qs s t = (s.0, stand_append nodes ps qs s.1 t)

pub stand_front : (nodes : List Node) (ps qs : List Part) → StandAll nodes (ps ++ qs) → StandAll nodes ps
stand_front nodes [] qs s = tt
stand_front nodes (p ∷ ps) qs s = (s.0, stand_front nodes ps qs s.1)

pub stand_back : (nodes : List Node) (ps qs : List Part) → StandAll nodes (ps ++ qs) → StandAll nodes qs
stand_back nodes [] qs s = s
stand_back nodes (p ∷ ps) qs s = stand_back nodes ps qs s.1

-- ---- one tree of a list

pub weigh_all-put : (w : ℕ → Priority → ℕ) (fs : List Forest) (k : ℕ) (g : Forest) → k < length fs →
    weigh_all w (all_roots (set fs k g)) + forest_weight w (get_or fs k none) ≡ weigh_all w (all_roots fs) + forest_weight w g
weigh_all-put w [] k g h = absurd (omega (arith, h))
weigh_all-put w (f ∷ fs) zero g h = omega arith
weigh_all-put w (f ∷ fs) (suc k) g h = omega (arith, weigh_all-put w fs k g (omega (arith, h)))

pub weigh-le-all : (w : ℕ → Priority → ℕ) (fs : List Forest) (k : ℕ) → forest_weight w (get_or fs k none) ≤ weigh_all w (all_roots fs)
weigh-le-all w [] k = omega arith
weigh-le-all w (f ∷ fs) zero = omega arith
weigh-le-all w (f ∷ fs) (suc k) = omega (arith, weigh-le-all w fs k)

pub tree_stands : (nodes : List Node) (fs : List Forest) (k : ℕ) → StandAll nodes (all_roots fs) → Stands nodes nowhere (get_or fs k none)
tree_stands nodes [] k s = tt
tree_stands nodes (f ∷ fs) zero s = s.0
tree_stands nodes (f ∷ fs) (suc k) s = tree_stands nodes fs k s.1

pub put_stands : (nodes : List Node) (fs : List Forest) (k : ℕ) (g : Forest) → StandAll nodes (all_roots fs) → Stands nodes nowhere g → StandAll nodes (all_roots (set fs k g))
put_stands nodes [] k g s t = tt
put_stands nodes (f ∷ fs) zero g s t = (t, s.1)
put_stands nodes (f ∷ fs) (suc k) g s t = (s.0, put_stands nodes fs k g s.1 t)

-- a tree apart from the others, and back among them
module _ {nodes : List Node} (fs : List Forest) (k : ℕ) (within : k < length fs) (others : List Part) where
  pub tree_out : Parts nodes (all_roots fs ++ others) → Parts nodes (root (get_or fs k none) ∷ (all_roots (set fs k none) ++ others))
  tree_out parts = record {
    stand = (
      tree_stands nodes fs k (stand_front nodes (all_roots fs) others parts.stand),
      stand_append nodes (all_roots (set fs k none)) others
          (put_stands nodes fs k none (stand_front nodes (all_roots fs) others parts.stand) tt)
          (stand_back nodes (all_roots fs) others parts.stand),
    );
    once = λ i. omega (
      arith,
      parts.once i,
      weigh_all-append (at_place i) (all_roots fs) others,
      weigh_all-append (at_place i) (all_roots (set fs k none)) others,
      weigh_all-put (at_place i) fs k none within,
    );
  }

  pub tree_in : (g : Forest) → get_or fs k none ≡ none → Parts nodes (root g ∷ (all_roots fs ++ others)) → Parts nodes (all_roots (set fs k g) ++ others)
  tree_in g vacant parts = record {
    stand = stand_append nodes (all_roots (set fs k g)) others
        (put_stands nodes fs k g (stand_front nodes (all_roots fs) others parts.stand.1) parts.stand.0)
        (stand_back nodes (all_roots fs) others parts.stand.1);
    once = λ i. omega (
      arith,
      parts.once i,
      weigh_all-append (at_place i) (all_roots fs) others,
      weigh_all-append (at_place i) (all_roots (set fs k g)) others,
      weigh_all-put (at_place i) fs k g within,
      ap (λ f. forest_weight (at_place i) f) vacant,
    );
  }

-- a part in front, while the trees go out and in
pub with_front : (nodes : List Node) (p : Part) (ps : List Part) → Parts nodes (p ∷ ps) → Parts nodes ps
with_front nodes p ps parts = record { stand = parts.stand.1; once = λ i. omega (arith, parts.once i) }

-- ---- ranks

pub by_rank_at : (r : ℕ) (fs : List Forest) (k : ℕ) → AreByRank r fs → IsTreeOrNone (r + k) (get_or fs k none)
by_rank_at r [] k h = tt
by_rank_at r (f ∷ fs) zero h = subst (λ n. IsTreeOrNone n f) (let e : r ≡ r + 0 = omega arith in e) h.0
by_rank_at r (f ∷ fs) (suc k) h = subst (λ n. IsTreeOrNone n (get_or fs k none)) (let e : (r + 1) + k ≡ r + suc k = omega arith in e) (by_rank_at (r + 1) fs k h.1)

pub by_rank_put : (r : ℕ) (fs : List Forest) (k : ℕ) (g : Forest) → AreByRank r fs → IsTreeOrNone (r + k) g → AreByRank r (set fs k g)
by_rank_put r [] k g h t = tt
by_rank_put r (f ∷ fs) zero g h t = (subst (λ n. IsTreeOrNone n g) (let e : r + 0 ≡ r = omega arith in e) t, h.1)
by_rank_put r (f ∷ fs) (suc k) g h t =
    (h.0, by_rank_put (r + 1) fs k g h.1 (subst (λ n. IsTreeOrNone n g) (let e : r + suc k ≡ (r + 1) + k = omega arith in e) t))

pub tree_at : (fs : List Forest) (k : ℕ) → AreByRank 0 fs → IsTreeOrNone k (get_or fs k none)
tree_at fs k h = subst (λ n. IsTreeOrNone n (get_or fs k none)) (let e : 0 + k ≡ k = omega arith in e) (by_rank_at 0 fs k h)

pub trees_put : (fs : List Forest) (k : ℕ) (g : Forest) → AreByRank 0 fs → IsTreeOrNone k g → AreByRank 0 (set fs k g)
trees_put fs k g h t = by_rank_put 0 fs k g h (subst (λ n. IsTreeOrNone n g) (let e : k ≡ 0 + k = omega arith in e) t)

-- the sizes of the trees of the ranks from r on are the mask, shifted
pub size_of_tree : (r : ℕ) (f : Forest) → IsTreeOrNone r f → size f ≡ some f * 2 ^ r
size_of_tree r none h = omega arith
size_of_tree r (tree at key rank kids none) h =
    let p : 2 ^ rank ≡ 2 ^ r = ap (λ x. 2 ^ x) h.0 in
    omega (arith, p, size_from_falls key rank kids h.1)
size_of_tree r (tree at key rank kids (tree at' key' rank' kids' rest')) h = absurd h

some_cases : (f : Forest) → (P : ℕ → Type 0) → P 0 → P 1 → P (some f)
some_cases none P zero_is one_is = zero_is
some_cases (tree at key rank kids rest) P zero_is one_is = one_is

-- ---- the mask

pub count-put : (fs : List Forest) (k : ℕ) (g : Forest) → k < length fs → tree_count (set fs k g) + some (get_or fs k none) ≡ tree_count fs + some g
count-put [] k g h = absurd (omega (arith, h))
count-put (f ∷ fs) zero g h = omega arith
count-put (f ∷ fs) (suc k) g h = omega (arith, count-put fs k g (omega (arith, h)))

pub mask-put : (fs : List Forest) (k : ℕ) (g : Forest) → k < length fs → mask_of (set fs k g) + some (get_or fs k none) * 2 ^ k ≡ mask_of fs + some g * 2 ^ k
mask-put [] k g h = absurd (omega (arith, h))
mask-put (f ∷ fs) zero g h = omega arith
mask-put (f ∷ fs) (suc k) g h =
    let s : suc k ≡ k + 1 = omega arith in
    let p : 2 ^ (suc k) ≡ 2 ^ k + 2 ^ k = double k (suc k) s in
    some_cases (get_or fs k none) (λ m. mask_of (set fs k g) + m * 2 ^ k ≡ mask_of fs + some g * 2 ^ k → mask_of (set (f ∷ fs) (suc k) g) + m * 2 ^ (suc k) ≡ mask_of (f ∷ fs) + some g * 2 ^ (suc k))
    (some_cases g (λ n. mask_of (set fs k g) + 0 * 2 ^ k ≡ mask_of fs + n * 2 ^ k → mask_of (set (f ∷ fs) (suc k) g) + 0 * 2 ^ (suc k) ≡ mask_of (f ∷ fs) + n * 2 ^ (suc k))
    (λ e. omega (arith, e)) (λ e. omega (arith, e, p)))
    (some_cases g (λ n. mask_of (set fs k g) + 1 * 2 ^ k ≡ mask_of fs + n * 2 ^ k → mask_of (set (f ∷ fs) (suc k) g) + 1 * 2 ^ (suc k) ≡ mask_of (f ∷ fs) + n * 2 ^ (suc k))
    (λ e. omega (arith, e, p)) (λ e. omega (arith, e, p)))
    (mask-put fs k g (omega (arith, h)))

halved : (s m : ℕ) → s ≤ 1 → (s + 2 * m) / 2 ≡ m
halved s m h = omega arith

pub bit_of_mask : (fs : List Forest) (k : ℕ) → bit_at (mask_of fs) k ≡ some (get_or fs k none)
bit_of_mask [] k = bit_at-zero k
bit_of_mask (f ∷ fs) zero = bit_at_lowest (mask_of (f ∷ fs)) ∙ omega (arith, some-le f)
bit_of_mask (f ∷ fs) (suc k) =
    bit_at-suc (mask_of (f ∷ fs)) k ∙ ap (λ m. bit_at m k) (halved (some f) (mask_of fs) (some-le f)) ∙ bit_of_mask fs k

-- the mask is the number of keys
masked : (r : ℕ) (fs : List Forest) → AreByRank r fs → weigh_all one_each (all_roots fs) ≡ mask_of fs * 2 ^ r
masked r [] h = omega arith
masked r (f ∷ fs) h =
    let p : 2 ^ (r + 1) ≡ 2 ^ r + 2 ^ r = double r (r + 1) refl in
    let whole : (some f + (mask_of fs + mask_of fs)) * 2 ^ r ≡ some f * 2 ^ r + (mask_of fs + mask_of fs) * 2 ^ r = add-mul (some f) (mask_of fs + mask_of fs) (2 ^ r) in
    let halves : (mask_of fs + mask_of fs) * 2 ^ r ≡ mask_of fs * 2 ^ r + mask_of fs * 2 ^ r = add-mul (mask_of fs) (mask_of fs) (2 ^ r) in
    let twice : mask_of fs * 2 ^ (r + 1) ≡ mask_of fs * 2 ^ r + mask_of fs * 2 ^ r = ap (λ x. mask_of fs * x) p ∙ mul-add (mask_of fs) (2 ^ r) (2 ^ r) in
    let same : (some f + 2 * mask_of fs) * 2 ^ r ≡ (some f + (mask_of fs + mask_of fs)) * 2 ^ r = ap (λ x. x * 2 ^ r) (let e : some f + 2 * mask_of fs ≡ some f + (mask_of fs + mask_of fs) = omega arith in e) in
    omega (arith, size_of_tree r f h.0, masked (r + 1) fs h.1, twice, halves, whole, same)

pub mask_is_size : (fs : List Forest) → AreByRank 0 fs → mask_of fs ≡ weigh_all one_each (all_roots fs)
mask_is_size fs h = omega (arith, masked 0 fs h)

pub mask-lt : (fs : List Forest) → mask_of fs < 2 ^ (length fs)
mask-lt [] = omega arith
mask-lt (f ∷ fs) =
    let p : 2 ^ (suc (length fs)) ≡ 2 ^ (length fs) + 2 ^ (length fs) = double (length fs) (suc (length fs)) (omega arith) in
    omega (arith, p, mask-lt fs, some-le f)

pub ranks_low : {table : Roots} {trees : List Forest} → IsTable table trees → table.ranks < 2 ^ 16
ranks_low {table} {trees} t =
    let lt : mask_of trees < 2 ^ 16 = subst (λ n. mask_of trees < 2 ^ n) t.long (mask-lt trees) in
    omega (arith, t.ranks, lt)

-- one bit
pub shifted : (k : ℕ) → k < 16 → 1 * 2 ^ k % 2 ^ 32 ≡ 2 ^ k
shifted k low = let p : 2 ^ k < 2 ^ 16 = pow_below k 16 low in omega (arith, p)

pub none_from_some : (f : Forest) → some f ≡ 0 → f ≡ none
none_from_some none e = refl
none_from_some (tree at key rank kids rest) e = absurd (omega (arith, e))

pub some_from_tree : (f : Forest) → f ≢ none → some f ≡ 1
some_from_tree none h = absurd (h refl)
some_from_tree (tree at key rank kids rest) h = refl

pub roots_of_tree : (r : ℕ) (f : Forest) → IsTreeOrNone r f → some f ≡ 1 → roots f ≡ 1
roots_of_tree r none h e = absurd (omega (arith, e))
roots_of_tree r (tree at key rank kids none) h e = omega arith
roots_of_tree r (tree at key rank kids (tree at' key' rank' kids' rest')) h e = absurd h

pub one_tree : {x : ℕ} (f : Forest) → x ≡ head f → x ≢ nowhere → some f ≡ 1
one_tree none is h = absurd (h is)
one_tree (tree at key rank kids rest) is h = refl

pub no_roots : (f : Forest) → roots f ≡ 0 → f ≡ none
no_roots none e = refl
no_roots (tree at key rank kids rest) e = absurd (omega (arith, e))

pub joined_somewhere : (old new : List Node) (x y result : ℕ) → x ≢ nowhere → y ≢ nowhere → AreJoined old new x y result → result ≢ nowhere
joined_somewhere old new x y result some_x some_y joined e = ⊎_elim (λ h. some_x (sym h.0 ∙ e)) (λ h. some_y (sym h.0 ∙ e)) joined

pub bit_none : (fs : List Forest) (k : ℕ) → bit_at (mask_of fs) k ≢ 1 → get_or fs k none ≡ none
bit_none fs k h = none_from_some (get_or fs k none) (omega (arith, some-le (get_or fs k none), bit_of_mask fs k, h))

not_none : (f : Forest) → some f ≡ 1 → f ≢ none
not_none f e is = absurd (omega (arith, ap some is))

pub bit_some : (fs : List Forest) (k : ℕ) → bit_at (mask_of fs) k ≡ 1 → get_or fs k none ≢ none
bit_some fs k h = not_none (get_or fs k none) (sym (bit_of_mask fs k) ∙ h)
