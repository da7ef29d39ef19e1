-- The numbers of a scenario's events differ, also in the order in which a run takes them.
use Rattle.std.proofs.Common.{◌≡◌, ℕ, zero, suc, ◌<◌, Bool, true, false, ◌||◌, ◌&&◌, ◌==◌, nat_lt, cond, List, [], ◌∷◌, ◌++◌, filter, All, AllPairs, ⊎_elim, zero-le, refl, sym, ap, ap₂, ◌∙◌, arith, eq-eqb}
use Rattle.std.specs.List.{list_any}
use Rattle.std.specs.Ordering.{is_lt}
use Rattle.std.proofs.lemmas.Bool.{or_from, or_parts, or_left, or_right, or_cases, and_left, and_right, and_parts, ne_eqb, eqb-true, eqb-false, le-ltb, ltb-true, true≢false}
use Rattle.std.proofs.lemmas.Bool.Decides.{nat_tests}
use Rattle.std.proofs.lemmas.List.Folds.{list_any-append, list_any_none}
use Rattle.pf_scenario.specs.Sorted.{put_in_order}
use Rattle.pf_scenario.specs.Event.{slot_of, is_of_slot, run_cmp, in_run_order}
use Rattle.pf_scenario.specs.Scenario.{Plan, is_held, events_of, past}
use Rattle.pf_scenario.specs.Edit.{IsScenario}
use Rattle.pf_scenario.specs.declared.event.Numbered.{Numbered}
use Rattle.pf_scenario.proofs.Sorting.{swap_or, list_any-put, list_any-sorted_by}

-- the numbers of these events differ
abbrev pub AreApart : List Numbered → Type 0
AreApart [] = Unit {0}
AreApart (x ∷ xs) = (is_held xs x.id ≡ false) × AreApart xs

pub is_held-append : (xs ys : List Numbered) (id : ℕ) → is_held (xs ++ ys) id ≡ (is_held xs id || is_held ys id)
is_held-append xs ys id = list_any-append (λ x. x.id == id) xs ys

-- of two lists, one before the other
pub apart_right : (xs ys : List Numbered) → AreApart (xs ++ ys) → AreApart ys
apart_right [] ys apart = apart
apart_right (x ∷ xs) ys apart = apart_right xs ys apart.1

pub apart_across : (xs ys : List Numbered) (id : ℕ) → AreApart (xs ++ ys) → is_held xs id ≡ true → is_held ys id ≡ false
apart_across [] ys id apart held = absurd (true≢false (sym held))
apart_across (x ∷ xs) ys id apart held = ⊎_elim
    (λ e. ap (is_held ys) (sym (eqb-true x.id id e)) ∙ (or_parts _ _ (sym (is_held-append xs ys x.id) ∙ apart.0)).1)
    (λ h. apart_across xs ys id apart.1 h)
    (or_cases (x.id == id) (is_held xs id) held)

pub apart_append : (xs ys : List Numbered) → AreApart xs → AreApart ys →
    ((id : ℕ) → is_held xs id ≡ true → is_held ys id ≡ false) → AreApart (xs ++ ys)
apart_append [] ys left right across = right
apart_append (x ∷ xs) ys left right across = (
  is_held-append xs ys x.id ∙ or_from _ _ left.0 (across x.id (or_left _ _ (eq-eqb x.id x.id refl))),
  apart_append xs ys left.1 right (λ id held. across id (or_right _ _ held)),
)

-- numbers that rise differ
none_as_low : (xs : List Numbered) (id : ℕ) → All (λ x. id < x.id) xs → is_held xs id ≡ false
none_as_low xs id above = list_any_none (λ x. x.id == id) xs (λ k d within. ne_eqb _ _ (λ e. absurd (omega (arith, above k d within))))

pub apart_from_rising : (xs : List Numbered) → AllPairs (λ x y. x.id < y.id) xs → AreApart xs
apart_from_rising [] rising = tt
apart_from_rising (x ∷ xs) rising = (
  none_as_low xs x.id (λ k d within. rising 0 (suc k) d (omega arith) (omega arith)),
  apart_from_rising xs (λ i j d before within. rising (suc i) (suc j) d (omega arith) (omega arith)),
)

-- in run order
apart_either : (b : Bool) (x y : Numbered) (ys zs : List Numbered) → AreApart (x ∷ y ∷ ys) → AreApart (y ∷ zs) →
    AreApart (cond b (x ∷ y ∷ ys) (y ∷ zs))
apart_either true x y ys zs first later = first
apart_either false x y ys zs first later = later

apart_placed : (x : Numbered) (xs : List Numbered) → is_held xs x.id ≡ false → AreApart xs → AreApart (put_in_order run_cmp x xs)
apart_placed x [] none apart = (refl, tt)
apart_placed x (y ∷ ys) none apart =
    let parts = or_parts (y.id == x.id) (is_held ys x.id) none in
    apart_either (is_lt (run_cmp x y)) x y ys (put_in_order run_cmp x ys) (none, apart) (
      list_any-put (λ z. z.id == y.id) run_cmp x ys ∙ or_from _ _ (ne_eqb x.id y.id (λ e. eqb-false y.id x.id parts.0 (sym e))) apart.0,
      apart_placed x ys parts.1 apart.1,
    )

held_in_run_order : (xs : List Numbered) (id : ℕ) → is_held (in_run_order xs) id ≡ is_held xs id
held_in_run_order xs id = list_any-sorted_by (λ x. x.id == id) run_cmp xs

pub apart_in_run_order : (xs : List Numbered) → AreApart xs → AreApart (in_run_order xs)
apart_in_run_order [] apart = tt
apart_in_run_order (x ∷ xs) apart =
    apart_placed x (in_run_order xs) (held_in_run_order xs x.id ∙ apart.0) (apart_in_run_order xs apart.1)

-- of some of them
kept_held : (b : Bool) (x : Numbered) (xs : List Numbered) (id : ℕ) →
    is_held (cond b (x ∷ xs) xs) id ≡ ((b && (x.id == id)) || is_held xs id)
kept_held true x xs id = refl
kept_held false x xs id = refl

pub held_filter : (p : Numbered → Bool) (xs : List Numbered) (id : ℕ) →
    is_held (filter p xs) id ≡ list_any (λ x. p x && (x.id == id)) xs
held_filter p [] id = refl
held_filter p (x ∷ xs) id = kept_held (p x) x (filter p xs) id ∙ ap (λ b. (p x && (x.id == id)) || b) (held_filter p xs id)

none_of_filter : (p : Numbered → Bool) (xs : List Numbered) (id : ℕ) → is_held xs id ≡ false → is_held (filter p xs) id ≡ false
none_of_filter p [] id none = refl
none_of_filter p (x ∷ xs) id none =
    let parts = or_parts (x.id == id) (is_held xs id) none in
    kept_held (p x) x (filter p xs) id ∙ or_from _ _ (and_right (p x) _ parts.0) (none_of_filter p xs id parts.1)

apart_kept : (b : Bool) (x : Numbered) (xs : List Numbered) → is_held xs x.id ≡ false → AreApart xs → AreApart (cond b (x ∷ xs) xs)
apart_kept true x xs none apart = (none, apart)
apart_kept false x xs none apart = apart

pub apart_filter : (p : Numbered → Bool) (xs : List Numbered) → AreApart xs → AreApart (filter p xs)
apart_filter p [] apart = tt
apart_filter p (x ∷ xs) apart = apart_kept (p x) x (filter p xs) (none_of_filter p xs x.id apart.0) (apart_filter p xs apart.1)

-- of two tests that no event passes both, at most one keeps an event of this number
apart_tests : (p q : Numbered → Bool) → ((x : Numbered) → p x ≡ true → q x ≡ false) → (xs : List Numbered) (id : ℕ) → AreApart xs →
    is_held (filter p xs) id ≡ true → is_held (filter q xs) id ≡ false
apart_tests p q differ [] id apart held = refl
apart_tests p q differ (x ∷ xs) id apart held =
    kept_held (q x) x (filter q xs) id ∙ ⊎_elim
    (λ own.
    let parts = and_parts (p x) (x.id == id) own in
    or_from _ _ (and_left _ _ (differ x parts.0))
    (ap (is_held (filter q xs)) (sym (eqb-true x.id id parts.1)) ∙ none_of_filter q xs x.id apart.0))
    (λ later. or_from _ _ (and_right (q x) _ (ne_eqb x.id id (λ e.
    true≢false (sym later ∙ ap (is_held (filter p xs)) (sym e) ∙ none_of_filter p xs x.id apart.0))))
    (apart_tests p q differ xs id apart.1 later))
    (or_cases (p x && (x.id == id)) (is_held (filter p xs) id) (sym (kept_held (p x) x (filter p xs) id) ∙ held))

or_regroup : (b c h m n : Bool) → (((b || c) && h) || (m || n)) ≡ (((b && h) || m) || ((c && h) || n))
or_regroup false c h m n = swap_or (c && h) m n
or_regroup true c true m n = refl
or_regroup true false false m n = refl
or_regroup true true false m n = refl

either_test : (p q r : Numbered → Bool) → ((x : Numbered) → r x ≡ (p x || q x)) → (xs : List Numbered) (id : ℕ) →
    is_held (filter r xs) id ≡ (is_held (filter p xs) id || is_held (filter q xs) id)
either_test p q r either [] id = refl
either_test p q r either (x ∷ xs) id =
    kept_held (r x) x (filter r xs) id
    ∙ ap₂ (λ b c. (b && (x.id == id)) || c) (either x) (either_test p q r either xs id)
    ∙ or_regroup (p x) (q x) (x.id == id) (is_held (filter p xs) id) (is_held (filter q xs) id)
    ∙ sym (ap₂ (λ b c. b || c) (kept_held (p x) x (filter p xs) id) (kept_held (q x) x (filter q xs) id))

below_none : (xs : List Numbered) (id : ℕ) → is_held (filter (λ x. nat_lt (slot_of x.event) 0) xs) id ≡ false
below_none [] id = refl
below_none (x ∷ xs) id =
    kept_held (nat_lt (slot_of x.event) 0) x _ id
    ∙ or_from _ _ (and_left _ _ (le-ltb (slot_of x.event) 0 zero-le)) (below_none xs id)

-- the past has the numbers of the events of earlier slots
pub held_past : (s : Plan) (t : ℕ) (id : ℕ) → is_held (past s t) id ≡ is_held (filter (λ x. nat_lt (slot_of x.event) t) s.events) id
unfolding events_of
held_past s zero id = sym (below_none s.events id)
held_past s (suc t) id =
    is_held-append (past s t) (events_of s t) id
    ∙ ap₂ (λ b c. b || c) (held_past s t id) (held_in_run_order (filter (is_of_slot t) s.events) id)
    ∙ sym (either_test (λ x. nat_lt (slot_of x.event) t) (is_of_slot t) (λ x. nat_lt (slot_of x.event) (suc t)) (λ x. grind (arith, nat_tests)) s.events id)

pub apart_events_of : (s : Plan) (t : ℕ) → IsScenario s → AreApart (events_of s t)
unfolding events_of
apart_events_of s t scenario =
    apart_in_run_order (filter (is_of_slot t) s.events) (apart_filter (is_of_slot t) s.events (apart_from_rising s.events scenario.rising))

-- The numbers of the past and of the slot's events differ: what `judged_..` below take, with apart_right and apart_across.
pub apart_past : (s : Plan) (t : ℕ) → IsScenario s → AreApart (past s t)
unfolding events_of
apart_past s zero scenario = tt
apart_past s (suc t) scenario =
    apart_append (past s t) (events_of s t) (apart_past s t scenario) (apart_events_of s t scenario)
    (λ id held. held_in_run_order (filter (is_of_slot t) s.events) id
    ∙ apart_tests (λ x. nat_lt (slot_of x.event) t) (is_of_slot t) (λ x below. ne_eqb _ _ (λ e. absurd (omega (arith, ltb-true _ _ below)))) s.events id (apart_from_rising s.events scenario.rising)
    (sym (held_past s t id) ∙ held))
