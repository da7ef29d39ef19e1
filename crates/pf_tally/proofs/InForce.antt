-- The events in force: how they are found, and what is known of them.
use Rattle.std.proofs.Common.{◌≡◌, ℕ, zero, suc, ◌<◌, ◌≤◌, not, ◌||◌, ◌==◌, Result, Ok, Err, List, [], ◌∷◌, ◌++◌, length, map, filter, get_or, All, AllPairs, ⊎_elim, refl, sym, ap, ap₂, ◌∙◌, arith}
use Rattle.std.specs.List.{list_any}
use Rattle.std.specs.List.Sorted.{IsNonDecreasing, IsBinarySearchResult}
use Rattle.std.specs.Ordering.{nat_cmp}
use Rattle.std.specs.Result.{is_ok}
use Rattle.std.proofs.lemmas.Bool.{cases_lt, eqb-true, ne_eqb, eq-eqb}
use Rattle.std.proofs.lemmas.List.{get_or_default}
use Rattle.std.proofs.lemmas.List.Elements.{All-filter, Contains-get_or, filter_agree, filter-append}
use Rattle.std.proofs.lemmas.List.Folds.{list_any_at, list_any_none}
use Rattle.std.proofs.lemmas.List.Kept.{AllPairs-filter}
use Rattle.std.proofs.lemmas.List.Sorted.{searched, list_any-IsPermutation}
use Rattle.pf_scenario.specs.Event.{slot_of}
use Rattle.pf_scenario.specs.Scenario.{Plan, events_of, past}
use Rattle.pf_scenario.specs.Edit.{IsScenario}
use Rattle.pf_scenario.specs.declared.scenario.TheConstants.{MOST_EVENTS}
use Rattle.pf_scenario.specs.declared.event.Numbered.{Numbered}
use Rattle.pf_run.specs.declared.denied.Denied.{Denied}
use Rattle.pf_run.specs.Record.{is_denied, in_force}
use Rattle.pf_run.proofs.Containing.{pairs_append, pairs_tail}
use Rattle.pf_run.proofs.Joins.{contains_events_of, past_below, joins_once_in_force}
use Rattle.pf_run.proofs.Plans.{past_few, in_force_few}
use Rattle.pf_run.proofs.Within.{in_force_limits}
use Rattle.pf_tally.specs.Log.{RiseFrom, IsLog}
use Rattle.pf_tally.specs.Standing.{AreNumbersOf}

-- what a search among rising numbers says
pub among_from_search : (numbers : List ℕ) (id : ℕ) (r : Result ℕ ℕ) → IsNonDecreasing numbers → IsBinarySearchResult (λ y. nat_cmp y id) numbers r →
    is_ok r ≡ list_any (λ n. n == id) numbers
among_from_search numbers id (Ok i) rising h =
    let at = searched numbers id (Ok i) h (λ i j before within. rising i j 0 before within) in
    sym (list_any_at (λ n. n == id) numbers i 0 at.0 (eq-eqb _ _ at.1))
among_from_search numbers id (Err i) rising h =
    let cut = searched numbers id (Err i) h (λ i j before within. rising i j 0 before within) in
    sym (list_any_none (λ n. n == id) numbers (λ k d within. ne_eqb _ _ (λ e. ⊎_elim
    (λ below. let low : get_or numbers k 0 < id = cut.1 k below in let same : get_or numbers k d ≡ get_or numbers k 0 = get_or_default numbers k d 0 within in omega arith)
    (λ above. let high : id < get_or numbers k 0 = cut.2 k above within in let same : get_or numbers k d ≡ get_or numbers k 0 = get_or_default numbers k d 0 within in omega arith)
    (cases_lt k i))))

-- an event is denied where its number is among those of the denials
denied_among : (denials : List Denied) (x : Numbered) → list_any (λ n. n == x.id) (map (λ (d : Denied). d.id) denials) ≡ is_denied denials x
denied_among [] x = refl
denied_among (d ∷ denials) x = ap (λ b. (d.id == x.id) || b) (denied_among denials x)

pub kept_in_force : (denials : List Denied) (numbers : List ℕ) (xs : List Numbered) → AreNumbersOf denials numbers →
    filter (λ x. not (list_any (λ n. n == x.id) numbers)) xs ≡ in_force denials xs
unfolding in_force
kept_in_force denials numbers xs are =
    filter_agree (λ x. not (list_any (λ n. n == x.id) numbers)) (λ x. not (is_denied denials x))
    (λ x. ap not (sym (list_any-IsPermutation (λ n. n == x.id) (map (λ (d : Denied). d.id) denials) numbers are.same) ∙ denied_among denials x)) xs

pub in_force-append : (denials : List Denied) (xs ys : List Numbered) → in_force denials (xs ++ ys) ≡ in_force denials xs ++ in_force denials ys
unfolding in_force
in_force-append denials xs ys = filter-append (λ x. not (is_denied denials x)) xs ys

-- Use: those of the past's events are kept that are not denied.
pub standing_are : (s : Plan) (denials : List Denied) (numbers used : List ℕ) (t : ℕ) (none xs ys zs : List Numbered) → AreNumbersOf denials numbers → used ≡ numbers →
    none ≡ [] → xs ≡ past s t → ys ≡ xs → zs ≡ none ++ filter (λ x. not (list_any (λ n. n == x.id) used)) ys → zs ≡ in_force denials (past s t)
standing_are s denials numbers used t none xs ys zs are same empty of_xs of_ys is =
    is ∙ ap₂ (λ a b. a ++ b) empty
    (ap (λ ns. filter (λ x. not (list_any (λ n. n == x.id) ns)) ys) same ∙ kept_in_force denials numbers ys are ∙ ap (in_force denials) (of_ys ∙ of_xs))

-- the events of a past rise by slot
past_rises : (s : Plan) (t : ℕ) → AllPairs (λ x y. slot_of x.event ≤ slot_of y.event) (past s t)
past_rises s zero = λ i j d before within. absurd (omega arith)
past_rises s (suc t) =
    pairs_append (λ x y. slot_of x.event ≤ slot_of y.event) (past s t) (events_of s t) (past_rises s t)
    (λ i j d before within.
    let of_i = contains_events_of s t (get_or (events_of s t) i d) (Contains-get_or (events_of s t) i d (omega arith)) in
    let of_j = contains_events_of s t (get_or (events_of s t) j d) (Contains-get_or (events_of s t) j d within) in
    omega (arith, eqb-true _ _ of_i.1, eqb-true _ _ of_j.1))
    (λ x y early last.
    let below : slot_of x.event < t = past_below s t x early in
    let is : slot_of y.event ≡ t = eqb-true _ _ (contains_events_of s t y last).1 in
    omega arith)

rise_from_pairs : (u : ℕ) (xs : List Numbered) → AllPairs (λ x y. slot_of x.event ≤ slot_of y.event) xs → All (λ x. u ≤ slot_of x.event) xs → RiseFrom u xs
rise_from_pairs u [] pairs low = tt
rise_from_pairs u (x ∷ xs) pairs low = (
  low 0 x (omega arith),
  rise_from_pairs (slot_of x.event) xs (pairs_tail (λ x y. slot_of x.event ≤ slot_of y.event) x xs pairs)
      (λ k d within. pairs 0 (suc k) d (omega arith) (omega arith)),
)

in_force_below : (s : Plan) (n : ℕ) (denials : List Denied) → All (λ x. slot_of x.event < n) (in_force denials (past s n))
unfolding in_force
in_force_below s n denials =
    All-filter (λ x. not (is_denied denials x)) (λ x. slot_of x.event < n) (past s n)
    (λ k d within. past_below s n (get_or (past s n) k d) (Contains-get_or (past s n) k d within))

pub in_force_rises : (s : Plan) (n : ℕ) (denials : List Denied) → RiseFrom 0 (in_force denials (past s n))
unfolding in_force
in_force_rises s n denials =
    rise_from_pairs 0 (filter (λ x. not (is_denied denials x)) (past s n))
    (AllPairs-filter (λ x y. slot_of x.event ≤ slot_of y.event) (λ x. not (is_denied denials x)) (past s n) (past_rises s n))
    (λ k d within. omega arith)

-- Use: what the events in force are.
pub standing_is_log : (s : Plan) (n : ℕ) (denials : List Denied) → IsScenario s → n ≤ s.settings.horizon → IsLog s.settings n (in_force denials (past s n))
standing_is_log s n denials scenario within = record {
  settings = scenario.settings;
  within = within;
  rise = in_force_rises s n denials;
  limits = in_force_limits s n denials scenario;
  below = in_force_below s n denials;
  few = let few : length s.events ≤ MOST_EVENTS = scenario.few in
      omega (arith, in_force_few denials (past s n), past_few s n);
  joins_once = joins_once_in_force s n denials scenario;
}
