-- What joins ask for together: of a slot, of the slots below one, and in all.
use Rattle.std.proofs.Common.{◌≡◌, ◌∙◌, ◌+◌, ◌<◌, ◌≤◌, ◌⊎◌, inl, inr, ℕ, zero, suc, Bool, true, false, not, ◌||◌, nat_lt, cond, List, [], ◌∷◌, All, filter, filter_map, sum_by, arith, refl, sym, ap}
use Rattle.std.proofs.lemmas.Bool.{cases_lt}
use Rattle.std.proofs.lemmas.Bool.Decides.{nat_tests}
use Rattle.std.proofs.lemmas.List.Elements.{All-filter, All-head, All-tail}
use Rattle.std.proofs.lemmas.List.Sorted.{All-permutation, sum_by-IsPermutation}
use Rattle.std.proofs.lemmas.List.Sums.{sum_by-append, sum_by-cons}
use Rattle.pf_weight.specs.Share.{share_of}
use Rattle.pf_scenario.specs.Event.{in_run_order, is_of_slot, run_cmp, slot_of, is_leave_of}
use Rattle.pf_scenario.specs.Scenario.{Plan, events_of, past}
use Rattle.pf_scenario.proofs.Sorting.{sorted_keeps}
use Rattle.pf_scenario.specs.declared.event.Event.{Event}
use Rattle.pf_scenario.specs.declared.event.Event.TheVariants.{Join, Leave, Delay, Limit}
use Rattle.pf_scenario.specs.declared.event.Numbered.{Numbered}
use Rattle.pf_run.specs.Inside.{Joined, has_left, inside, join_of, load_of}
use Rattle.pf_laws.specs.Joins.Joins.{IsJoin, units_asked, units_of}

abbrev pub AreJoins : List Numbered → Type 0
AreJoins xs = All (λ x. IsJoin x.event) xs

pub joins_of_slot : (s : Plan) (t : ℕ) → AreJoins s.events → AreJoins (events_of s t)
unfolding events_of
joins_of_slot s t joins =
    let now = filter (is_of_slot t) s.events in
    All-permutation (λ x. IsJoin x.event) now (in_run_order now) (sorted_keeps run_cmp now) (All-filter (is_of_slot t) (λ x. IsJoin x.event) s.events joins)

-- those below a slot
abbrev below : ℕ → Numbered → Bool
below n x = nat_lt (slot_of x.event) n

-- where these tests tell of an element, one slot more
abbrev Kept : (Numbered → ℕ) → ℕ → Numbered → List Numbered → Bool → Bool → Bool → Type 0
Kept f n x xs a b c =
    sum_by f (cond a (x ∷ filter (below (suc n)) xs) (filter (below (suc n)) xs))
    ≡ sum_by f (cond b (x ∷ filter (below n) xs) (filter (below n) xs)) + sum_by f (cond c (x ∷ filter (is_of_slot n) xs) (filter (is_of_slot n) xs))

abbrev Told : ℕ → Numbered → Bool → Bool → Bool → Type 0
Told n x a b c = (below (suc n) x ≡ a) × (below n x ≡ b) × (is_of_slot n x ≡ c)

told : (n : ℕ) (x : Numbered) → Told n x true true false ⊎ (Told n x true false true ⊎ Told n x false false false)
told n x = elim (cases_lt (slot_of x.event) n) [
  | inl lt ↦ inl (grind (arith, nat_tests, lt), grind (arith, nat_tests, lt), grind (arith, nat_tests, lt))
  | inr ge ↦ inr (elim (cases_lt n (slot_of x.event)) [
    | inl lt ↦ inr (grind (arith, nat_tests, lt), grind (arith, nat_tests, lt), grind (arith, nat_tests, lt))
    | inr le ↦ inl (grind (arith, nat_tests, le), grind (arith, nat_tests, ge), grind (arith, nat_tests, ge, le))
  ])
]

kept : (f : Numbered → ℕ) (n : ℕ) (x : Numbered) (xs : List Numbered) (a b c : Bool) → Told n x a b c → Kept f n x xs a b c
    → sum_by f (filter (below (suc n)) (x ∷ xs)) ≡ sum_by f (filter (below n) (x ∷ xs)) + sum_by f (filter (is_of_slot n) (x ∷ xs))
kept f n x xs a b c t h = rw (t.0, t.1, t.2) h

one_more : (f : Numbered → ℕ) (n : ℕ) (xs : List Numbered) → sum_by f (filter (below (suc n)) xs) ≡ sum_by f (filter (below n) xs) + sum_by f (filter (is_of_slot n) xs)
one_more f n [] = refl
one_more f n (x ∷ xs) =
    let more = one_more f n xs in
    let wide = sum_by-cons f x (filter (below (suc n)) xs) in
    elim (told n x) [
      | inl t ↦ kept f n x xs true true false t (omega (arith, wide, sum_by-cons f x (filter (below n) xs), more))
      | inr (inl t) ↦ kept f n x xs true false true t (omega (arith, wide, sum_by-cons f x (filter (is_of_slot n) xs), more))
      | inr (inr t) ↦ kept f n x xs false false false t more
    ]

none_below : (f : Numbered → ℕ) (xs : List Numbered) → sum_by f (filter (below 0) xs) ≡ 0
none_below f [] = refl
none_below f (x ∷ xs) = let no : below 0 x ≡ false = grind (arith, nat_tests) in rw no (none_below f xs)

pub sum_past : (f : Numbered → ℕ) (s : Plan) (n : ℕ) → sum_by f (past s n) ≡ sum_by f (filter (below n) s.events)
unfolding events_of
sum_past f s zero = sym (none_below f s.events)
sum_past f s (suc n) =
    let now = filter (is_of_slot n) s.events in
    omega (
      arith,
      sum_by-append f (past s n) (events_of s n),
      sum_past f s n,
      sum_by-IsPermutation f now (in_run_order now) (sorted_keeps run_cmp now),
      one_more f n s.events,
    )

sum_filter : (f : Numbered → ℕ) (p : Numbered → Bool) (xs : List Numbered) → sum_by f (filter p xs) ≤ sum_by f xs
sum_filter f p [] = omega arith
sum_filter f p (x ∷ xs) = by (p x) (sum_filter f p xs)
  where
    by : (b : Bool) → sum_by f (filter p xs) ≤ sum_by f xs → sum_by f (cond b (x ∷ filter p xs) (filter p xs)) ≤ sum_by f (x ∷ xs)
    by true more = omega (arith, sum_by-cons f x (filter p xs), sum_by-cons f x xs, more)
    by false more = omega (arith, sum_by-cons f x xs, more)

pub past_within : (f : Numbered → ℕ) (s : Plan) (n : ℕ) → sum_by f (past s n) ≤ sum_by f s.events
past_within f s n = omega (arith, sum_past f s n, sum_filter f (below n) s.events)

all_below : (n : ℕ) (xs : List Numbered) → All (λ x. slot_of x.event < n) xs → filter (below n) xs ≡ xs
all_below n [] all = refl
all_below n (x ∷ xs) all =
    let lt : slot_of x.event < n = All-head (λ y. slot_of y.event < n) x xs all in
    let yes : below n x ≡ true = grind (arith, nat_tests, lt) in
    rw yes (ap (λ (ys : List Numbered). x ∷ ys) (all_below n xs (All-tail (λ y. slot_of y.event < n) x xs all)))

pub past_is_all : (f : Numbered → ℕ) (s : Plan) (n : ℕ) → All (λ x. slot_of x.event < n) s.events → sum_by f (past s n) ≡ sum_by f s.events
past_is_all f s n all = sum_past f s n ∙ ap (sum_by f) (all_below n s.events all)

-- the load after joins is what they ask for
none_left : (xs : List Numbered) (task : ℕ) → AreJoins xs → has_left xs task ≡ false
none_left [] task joins = refl
none_left (x ∷ xs) task joins = by x.event (All-head (λ y. IsJoin y.event) x xs joins) (none_left xs task (All-tail (λ y. IsJoin y.event) x xs joins))
  where
    by : (e : Event) → IsJoin e → has_left xs task ≡ false → (is_leave_of task e || has_left xs task) ≡ false
    by (Join slot task' cost period early) is none = none
    by (Leave slot task') is none = absurd is
    by (Delay slot task' held) is none = absurd is
    by (Limit slot count) is none = absurd is

all_stay : (p : Joined → Bool) (js : List Joined) → ((j : Joined) → p j ≡ true) → filter p js ≡ js
all_stay p [] stays = refl
all_stay p (j ∷ js) stays = rw (stays j) (ap (λ (ys : List Joined). j ∷ ys) (all_stay p js stays))

abbrev units_in : List Joined → ℕ
units_in js = sum_by (λ j. j.weight.units) js

joined_units : (base : ℕ) (xs : List Numbered) → AreJoins xs → units_in (filter_map (join_of base) xs) ≡ units_of base xs
joined_units base [] joins = refl
joined_units base (x ∷ xs) joins =
    one x.id x.event (All-head (λ y. IsJoin y.event) x xs joins) (joined_units base xs (All-tail (λ y. IsJoin y.event) x xs joins))
  where
    one : (id : ℕ) (e : Event) → IsJoin e → units_in (filter_map (join_of base) xs) ≡ units_of base xs
        → units_in (filter_map (join_of base) (record { id = id; event = e } ∷ xs)) ≡ units_of base (record { id = id; event = e } ∷ xs)
    one id (Join slot task cost period early) is rest =
        omega (
          arith,
          sum_by-cons (λ (j : Joined). j.weight.units) (record { task = task; slot = slot; weight = share_of base cost period; early = early })
              (filter_map (join_of base) xs),
          sum_by-cons (λ (z : Numbered). units_asked base z.event) (record { id = id; event = Join slot task cost period early }) xs,
          rest,
        )
    one id (Leave slot task') is rest = absurd is
    one id (Delay slot task' held) is rest = absurd is
    one id (Limit slot count) is rest = absurd is

pub load_is_asked : (base : ℕ) (xs : List Numbered) → AreJoins xs → load_of base xs ≡ units_of base xs
unfolding load_of inside
load_is_asked base xs joins =
    ap units_in (all_stay (λ j. not (has_left xs j.task)) (filter_map (join_of base) xs) (λ j. ap not (none_left xs j.task joins)))
    ∙ joined_units base xs joins
