-- The list of an arena's heaps.
use Rattle.std.proofs.Common.{◌≡◌, ◌≢◌, ℕ, zero, suc, ◌+◌, ◌<◌, ◌≤◌, List, [], ◌∷◌, ◌++◌, map, length, get_or, set, take, drop, refl, sym, ap, ◌∙◌, subst, arith, ⊎_elim, get_or-set_other}
use Rattle.std.specs.Prelude.{replicate}
use Rattle.std.proofs.lemmas.Bool.{cases_lt}
use Rattle.std.proofs.Math.Seq.{take-append_seam}
use Rattle.pf_order.specs.Priority.{Priority}
use Rattle.pf_heap.specs.declared.node.Node.{Node}
use Rattle.pf_heap.specs.Forest.{Forest, none, tree, nowhere, idle, forest_weight, same, at_place, of_task, Rises}
use Rattle.pf_heap.specs.Memory.{node_at, Stands, all_roots, weigh_all, StandAll}
use Rattle.pf_heap.specs.View.{with_trees, side_by_side}
use Rattle.pf_heap.specs.Invariant.{AllRise, IsIdle, AreIdle, misplaced}
use Rattle.pf_heap.proofs.Forests.{same-other, equal_from_same}
use Rattle.pf_heap.proofs.Tables.{weigh_all-put, weigh-le-all}

-- a slice that was lent is back in its Vec
pub written_back : {X : Type 0} (new items : List X) (n : ℕ) → length new ≡ length items → n ≡ length items → take n (new ++ drop (length new) items) ≡ new
written_back new items n same_length whole =
    ap (λ m. take m (new ++ drop (length new) items)) (whole ∙ sym same_length) ∙ take-append_seam new (drop (length new) items)

pub get_or-map_at : {X Y : Type 0} (f : X → Y) (xs : List X) (k : ℕ) (d : X) → get_or (map f xs) k (f d) ≡ f (get_or xs k d)
get_or-map_at f [] k d = refl
get_or-map_at f (x ∷ xs) zero d = refl
get_or-map_at f (x ∷ xs) (suc k) d = get_or-map_at f xs k d

pub length-map_at : {X Y : Type 0} (f : X → Y) (xs : List X) → length (map f xs) ≡ length xs
length-map_at f [] = refl
length-map_at f (x ∷ xs) = ap suc (length-map_at f xs)

pub rises_in : (fs : List Forest) (k : ℕ) → AllRise fs → Rises 0 (get_or fs k none)
rises_in [] k r = tt
rises_in (f ∷ fs) zero r = r.0
rises_in (f ∷ fs) (suc k) r = rises_in fs k r.1

pub all_rise-set : (fs : List Forest) (k : ℕ) (g : Forest) → AllRise fs → Rises 0 g → AllRise (set fs k g)
all_rise-set [] k g r t = tt
all_rise-set (f ∷ fs) zero g r t = (t, r.1)
all_rise-set (f ∷ fs) (suc k) g r t = (r.0, all_rise-set fs k g r.1 t)

-- ---- some heap, and two of them

-- some heap weighs something where all together do
pub some_heap : (w : ℕ → Priority → ℕ) (fs : List Forest) → 1 ≤ weigh_all w (all_roots fs) → (k : ℕ) × (k < length fs) × (1 ≤ forest_weight w (get_or fs k none))
some_heap w [] h = absurd (omega (arith, h))
some_heap w (f ∷ fs) h =
    ⊎_elim
    (λ lt. (0, omega arith, lt))
    (λ le. let m = some_heap w fs (omega (arith, h, le)) in (suc m.0, omega (arith, m.1), m.2))
    (cases_lt 0 (forest_weight w f))

-- two heaps of the list
pub two-le-all : (w : ℕ → Priority → ℕ) (fs : List Forest) (j k : ℕ) → j ≢ k → k < length fs → forest_weight w (get_or fs j none) + forest_weight w (get_or fs k none) ≤ weigh_all w (all_roots fs)
two-le-all w fs j k differ within =
    omega (arith, weigh_all-put w fs k none within, weigh-le-all w (set fs k none) j, ap (λ f. forest_weight w f) (get_or-set_other fs k j none none differ))

-- ---- empty heaps more

pub weigh_all-more : (w : ℕ → Priority → ℕ) (fs : List Forest) (n : ℕ) → weigh_all w (all_roots (fs ++ replicate n none)) ≡ weigh_all w (all_roots fs)
weigh_all-more w [] zero = refl
weigh_all-more w [] (suc n) = omega (arith, weigh_all-more w [] n)
weigh_all-more w (f ∷ fs) n = ap (λ m. forest_weight w f + m) (weigh_all-more w fs n)

pub all_rise-more : (fs : List Forest) (n : ℕ) → AllRise fs → AllRise (fs ++ replicate n none)
all_rise-more [] zero r = tt
all_rise-more [] (suc n) r = (tt, all_rise-more [] n tt)
all_rise-more (f ∷ fs) n r = (r.0, all_rise-more fs n r.1)

pub stand_all-more : (nodes : List Node) (fs : List Forest) (n : ℕ) → StandAll nodes (all_roots fs) → StandAll nodes (all_roots (fs ++ replicate n none))
stand_all-more nodes [] zero s = tt
stand_all-more nodes [] (suc n) s = (tt, stand_all-more nodes [] n tt)
stand_all-more nodes (f ∷ fs) n s = (s.0, stand_all-more nodes fs n s.1)

-- ---- trees side by side

pub with_trees-weight : (w : ℕ → Priority → ℕ) (f g : Forest) → forest_weight w (with_trees f g) ≡ forest_weight w f + forest_weight w g
with_trees-weight w none g = omega arith
with_trees-weight w (tree at key rank kids rest) g = omega (arith, with_trees-weight w rest g)

pub side_by_side-weight : (w : ℕ → Priority → ℕ) (fs : List Forest) → forest_weight w (side_by_side fs) ≡ weigh_all w (all_roots fs)
side_by_side-weight w [] = refl
side_by_side-weight w (f ∷ fs) = omega (arith, with_trees-weight w f (side_by_side fs), side_by_side-weight w fs)

-- ---- each key is in its task's node

pub own_task : (t : ℕ) (f : Forest) → forest_weight misplaced f ≡ 0 → forest_weight (of_task t) f ≡ forest_weight (at_place t) f
own_task t none h = refl
own_task t (tree at key rank kids rest) h =
    let e : key.task ≡ at = equal_from_same key.task at (omega (arith, h)) in
    omega (arith, ap (λ x. same t x) e, own_task t kids (omega (arith, h)), own_task t rest (omega (arith, h)))

pub own_tasks : (t : ℕ) (fs : List Forest) → weigh_all misplaced (all_roots fs) ≡ 0 → weigh_all (of_task t) (all_roots fs) ≡ weigh_all (at_place t) (all_roots fs)
own_tasks t [] h = refl
own_tasks t (f ∷ fs) h = omega (arith, own_task t f (omega (arith, h)), own_tasks t fs (omega (arith, h)))

-- ---- idle nodes

idle_other : (i j : ℕ) (f : Forest) → IsIdle j f → i ≢ j → forest_weight (at_place i) f ≡ 0
idle_other i j none h differ = refl
idle_other i j (tree at key rank kids rest) h differ =
    omega (
      arith,
      same-other i at (λ e. differ (e ∙ h.0)),
      ap (λ g. forest_weight (at_place i) g) h.2,
      ap (λ g. forest_weight (at_place i) g) h.3,
    )

idles_below : (i k : ℕ) (fs : List Forest) → AreIdle k fs → i < k → weigh_all (at_place i) (all_roots fs) ≡ 0
idles_below i k [] h lt = refl
idles_below i k (f ∷ fs) h lt =
    omega (arith, idle_other i k f h.0 (λ e. absurd (omega (arith, lt, e))), idles_below i (suc k) fs h.1 (omega (arith, lt)))

idle_at : (k i : ℕ) (fs : List Forest) → AreIdle k fs → IsIdle (k + i) (get_or fs i none)
idle_at k i [] h = tt
idle_at k zero (f ∷ fs) h = subst (λ n. IsIdle n f) (let e : k ≡ k + 0 = omega arith in e) h.0
idle_at k (suc i) (f ∷ fs) h = subst (λ n. IsIdle n (get_or fs i none)) (let e : suc k + i ≡ k + suc i = omega arith in e) (idle_at (suc k) i fs h.1)

pub own_idle : (t : ℕ) (fs : List Forest) → AreIdle 0 fs → IsIdle t (get_or fs t none)
own_idle t fs h = subst (λ n. IsIdle n (get_or fs t none)) (let e : 0 + t ≡ t = omega arith in e) (idle_at 0 t fs h)

idle_put : (k i : ℕ) (fs : List Forest) (g : Forest) → AreIdle k fs → IsIdle (k + i) g → AreIdle k (set fs i g)
idle_put k i [] g h t = tt
idle_put k zero (f ∷ fs) g h t = (subst (λ n. IsIdle n g) (let e : k + 0 ≡ k = omega arith in e) t, h.1)
idle_put k (suc i) (f ∷ fs) g h t =
    (h.0, idle_put (suc k) i fs g h.1 (subst (λ n. IsIdle n g) (let e : k + suc i ≡ suc k + i = omega arith in e) t))

pub put_idle : (t : ℕ) (fs : List Forest) (g : Forest) → AreIdle 0 fs → IsIdle t g → AreIdle 0 (set fs t g)
put_idle t fs g h i = idle_put 0 t fs g h (subst (λ n. IsIdle n g) (let e : t ≡ 0 + t = omega arith in e) i)

idles_weight : (k i : ℕ) (fs : List Forest) → AreIdle k fs → weigh_all (at_place (k + i)) (all_roots fs) ≡ forest_weight (at_place (k + i)) (get_or fs i none)
idles_weight k i [] h = refl
idles_weight k zero (f ∷ fs) h =
    omega (arith, idles_below (k + 0) (suc k) fs h.1 (omega arith))
idles_weight k (suc i) (f ∷ fs) h =
    let e : suc k + i ≡ k + suc i = omega arith in
    omega (
      arith,
      idle_other (k + suc i) k f h.0 (λ z. absurd (omega (arith, z))),
      idles_weight (suc k) i fs h.1,
      ap (λ x. weigh_all (at_place x) (all_roots fs)) e,
      ap (λ x. forest_weight (at_place x) (get_or fs i none)) e,
    )

-- the idle nodes weigh what the one at its place does
pub idle_weight : (t : ℕ) (fs : List Forest) → AreIdle 0 fs → weigh_all (at_place t) (all_roots fs) ≡ forest_weight (at_place t) (get_or fs t none)
idle_weight t fs h =
    let e : 0 + t ≡ t = omega arith in
    omega (arith, idles_weight 0 t fs h, ap (λ x. weigh_all (at_place x) (all_roots fs)) e, ap (λ x. forest_weight (at_place x) (get_or fs t none)) e)

pub idle_rank : (nodes : List Node) (t : ℕ) (f : Forest) → IsIdle t f → Stands nodes nowhere f → 1 ≤ forest_weight (at_place t) f → (node_at nodes t).rank ≡ idle
idle_rank nodes t none h s has = absurd (omega (arith, has))
idle_rank nodes t (tree at key rank kids rest) h s has = ap (λ x. (node_at nodes x).rank) (sym h.0) ∙ ap (λ (n : Node). n.rank) s.1 ∙ h.1
