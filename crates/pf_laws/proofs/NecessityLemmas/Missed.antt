-- Each subtask that has to run in some slots is missed or is among their picks.
use Rattle.std.proofs.Common.{◌≡◌, ◌≢◌, ℕ, zero, suc, ◌+◌, ◌-◌, ◌<◌, ◌≤◌, ◌==◌, ◌&&◌, ◌||◌, Bool, true, false, not, nat_le, Option, None, Some, List, [], ◌∷◌, ◌++◌, length, filter, get_or, Contains, arith, refl, ap, sym, ◌∙◌, subst, ⊎_elim}
use Rattle.std.specs.List.{list_any, flat_map, range_with_len}
use Rattle.std.specs.Option.{option_map_or}
use Rattle.std.proofs.lemmas.Bool.{cases_Bool, cases_lt, and_parts, and_from, eqb-true, eq-eqb, le-leb, not-true, both_ways}
use Rattle.std.proofs.lemmas.List.{length-append}
use Rattle.std.proofs.lemmas.List.Elements.{All-contains, Contains-append_left, Contains-append_right}
use Rattle.std.proofs.lemmas.List.Folds.{list_any-append}
use Rattle.std.proofs.lemmas.List.FromFn.{length-range_with_len, get_or-range_with_len}
use Rattle.std.proofs.lemmas.List.Kept.{AllPairs-filter}
use Rattle.std.proofs.lemmas.List.Quantifiers.{position-Some}
use Rattle.std.proofs.lemmas.List.Sorted.{Contains-permutation}
use Rattle.std.proofs.lemmas.List.Sums.{length-filter}
use Rattle.pf_order.specs.declared.pick.Pick.{Pick}
use Rattle.pf_scenario.specs.Scenario.{Plan}
use Rattle.pf_scenario.specs.Edit.{IsScenario}
use Rattle.pf_scenario.specs.declared.event.Numbered.{Numbered}
use Rattle.pf_scenario.proofs.Sorting.{sorted_keeps}
use Rattle.pf_run.specs.Record.{Slot}
use Rattle.pf_run.specs.Inside.{Joined}
use Rattle.pf_run.specs.Run.{events_in_force, IsRun}
use Rattle.pf_run.proofs.Containing.{from_filter, in_filter}
use Rattle.pf_tally.specs.declared.miss.Miss.{Miss}
use Rattle.pf_tally.specs.Misses.{due_of, ran_in, leaves_after, is_missed, miss_of, misses_of_task, miss_cmp, misses_of}
use Rattle.pf_tally.proofs.Windows.{deadline_late}
use Rattle.pf_tally.proofs.Contents.{list_any-contains, contains-list_any, list_any-map}
use Rattle.pf_laws.proofs.PromiseLemmas.Shifts.{no_slot}
use Rattle.pf_laws.proofs.PromiseLemmas.Joining.{all_joined, is_task}
use Rattle.pf_laws.proofs.PromiseLemmas.Choosing.{picked_next}
use Rattle.pf_laws.specs.Necessity.Bound.{quanta_from, first_of, IsBound, is_among_misses, MoreThanFitIsMissed}
use Rattle.pf_laws.proofs.NecessityLemmas.Pigeonhole.{same_pick, count_both, different_within}
use Rattle.pf_laws.proofs.NecessityLemmas.Eligible.{few_picks, runs_eligible}

list_any-flat_map : {X Y : Type 0} (p : Y → Bool) (f : X → List Y) (xs : List X) →
    list_any p (flat_map f xs) ≡ list_any (λ x. list_any p (f x)) xs
list_any-flat_map p f [] = refl
list_any-flat_map p f (x ∷ xs) = list_any-append p (f x) (flat_map f xs) ∙ ap (λ b. list_any p (f x) || b) (list_any-flat_map p f xs)

-- the picks of the k slots from a on
pub picks_from : List Slot → ℕ → ℕ → List Pick
picks_from r a zero = []
picks_from r a (suc k) = picks_from r a k ++ (get_or r (a + k) no_slot).picks

in_picks : (r : List Slot) (a k u : ℕ) (x : Pick) → a ≤ u → u < a + k → Contains (get_or r u no_slot).picks x →
    Contains (picks_from r a k) x
unfolding picks_from
in_picks r a zero u x from below at = absurd (omega (arith, from, below))
in_picks r a (suc k) u x from below at = ⊎_elim
    (λ (less : u < a + k).
    Contains-append_left (picks_from r a k) (get_or r (a + k) no_slot).picks x (in_picks r a k u x from less at))
    (λ (last : a + k ≤ u).
    let same : u ≡ a + k = omega (arith, last, below) in
    Contains-append_right (picks_from r a k) (get_or r (a + k) no_slot).picks x
    (subst (λ t. Contains (get_or r t no_slot).picks x) same at))
    (cases_lt u (a + k))

module _ (s : Plan) (scenario : IsScenario s) (r : List Slot) (run : IsRun s (length r) r) where
  abbrev end_now : List Numbered
  end_now = events_in_force s r (length r)

  picks_few : (a k : ℕ) → a + k ≤ length r → length (picks_from r a k) ≤ quanta_from s r a k
  unfolding picks_from quanta_from
  picks_few a zero le = omega arith
  picks_few a (suc k) le =
      omega (
        arith,
        length-append (picks_from r a k) (get_or r (a + k) no_slot).picks,
        picks_few a k (omega (arith, le)),
        few_picks s scenario r run (a + k) (omega (arith, le)),
      )

  -- a missed subtask is among the misses
  among_misses : (j : Joined) (i : ℕ) (x : Pick) → Contains (all_joined s r) j → i < length r → j.task ≡ x.task → suc i ≡ x.sub →
      is_missed r end_now j (suc i) ≡ true → is_among_misses s r x ≡ true
  unfolding misses_of
  among_misses j i x at lt number sub missed =
      let test = λ (m : Miss). m.task == x.task && m.sub == x.sub in
      let all = flat_map (misses_of_task r end_now) (all_joined s r) in
      let numbers = filter (is_missed r end_now j) (range_with_len 1 (length r)) in
      let ranged : Contains (range_with_len 1 (length r)) (suc i) =
      (i, omega (arith, lt, length-range_with_len 1 (length r)), omega (arith, get_or-range_with_len 1 (length r) i (suc i) lt)) in
      let passes : test (miss_of r end_now j (suc i)) ≡ true =
      and_from (j.task == x.task) (suc i == x.sub) (eq-eqb j.task x.task number) (eq-eqb (suc i) x.sub sub) in
      let of_task : list_any test (misses_of_task r end_now j) ≡ true =
      list_any-map test (miss_of r end_now j) numbers
      ∙ contains-list_any (λ k. test (miss_of r end_now j k)) numbers (suc i)
      (in_filter (is_missed r end_now j) (range_with_len 1 (length r)) (suc i) ranged missed) passes in
      let of_all : list_any test all ≡ true =
      list_any-flat_map test (misses_of_task r end_now) (all_joined s r)
      ∙ contains-list_any (λ k. list_any test (misses_of_task r end_now k)) (all_joined s r) j at of_task in
      let it = list_any-contains test all of_all in
      contains-list_any test (misses_of s r) it.0 (Contains-permutation all (misses_of s r) it.0 (sorted_keeps miss_cmp all) it.1) it.2

  -- one that is not has run before it was due
  abbrev RanBelow : Joined → ℕ → ℕ → Type 0
  RanBelow j i due =
      (u : ℕ) × (u < due) × (u < length r)
      × (list_any (λ (p : Pick). p.task == j.task && p.sub == i) (get_or r u no_slot).picks ≡ true)

  ran_below : (j : Joined) (i due : ℕ) → due_of r end_now j i ≡ due → due ≤ length r → leaves_after end_now j due ≡ true →
      is_missed r end_now j i ≡ false → RanBelow j i due
  ran_below j i due is within stays served = by (ran_in r j i) refl where
    not_in : Option ℕ → Bool
    not_in o = option_map_or (λ t. nat_le due t) o true

    missed : not_in (ran_in r j i) ≡ true → ⊥
    missed out =
        both_ways (is_missed r end_now j i) served
        (subst (λ t. (nat_le t (length r) && leaves_after end_now j t && option_map_or (λ u. nat_le t u) (ran_in r j i) true) ≡ true)
        (sym is)
        (and_from (nat_le due (length r) && leaves_after end_now j due) (not_in (ran_in r j i))
        (and_from (nat_le due (length r)) (leaves_after end_now j due) (le-leb due (length r) within) stays) out))

    by : (o : Option ℕ) → ran_in r j i ≡ o → RanBelow j i due
    by None none = absurd (missed (ap not_in none))
    by (Some u) some = ⊎_elim
        (λ (early : u < due).
        let it = position-Some (λ (slot : Slot). list_any (λ (p : Pick). p.task == j.task && p.sub == i) slot.picks) r u no_slot some in
        (u, early, it.0, it.1))
        (λ (late : due ≤ u). absurd (missed (ap not_in some ∙ le-leb due u late)))
        (cases_lt u due)

  -- so of subtasks that have to run in some slots each is missed or among their picks
  module _ (a k : ℕ) (le : a + k ≤ length r) (x : Pick) (bound : IsBound s r a (a + k) x)
      (served : is_among_misses s r x ≡ false) where
    abbrev j : Joined
    j = bound.task

    i : ℕ
    i = x.sub - 1

    sub : suc i ≡ x.sub
    unfolding i
    sub = omega (arith, bound.some)

    due : due_of r end_now j (suc i) ≡ due_of r end_now j x.sub
    due = ap (λ n. due_of r end_now j n) sub

    lt : i < length r
    lt = omega (arith, sub, deadline_late j.weight x.sub (is_task s scenario r j bound.joined).share, bound.due, le)

    in_time : is_missed r end_now j (suc i) ≡ false
    in_time = ⊎_elim
        (λ missed. absurd (both_ways (is_among_misses s r x) served (among_misses j i x bound.joined lt bound.number sub missed)))
        (λ h. h) (cases_Bool (is_missed r end_now j (suc i)))

    pub is_picked : Contains (picks_from r a k) x
    is_picked =
        let it = ran_below j (suc i) (due_of r end_now j x.sub) due (omega (arith, bound.due, le)) bound.stays in_time in
        let next = picked_next s scenario r run it.0 it.2 j.task i it.3 in
        let from : first_of r end_now j (suc i) ≤ it.0 =
        runs_eligible s scenario r run it.0 it.2 j i bound.joined next.0 next.1 in
        let first : first_of r end_now j (suc i) ≡ first_of r end_now j x.sub = ap (λ n. first_of r end_now j n) sub in
        let pick = list_any-contains (λ (p : Pick). p.task == j.task && p.sub == suc i) (get_or r it.0 no_slot).picks it.3 in
        let both = and_parts (pick.0.task == j.task) (pick.0.sub == suc i) pick.2 in
        let task : pick.0.task ≡ x.task = eqb-true pick.0.task j.task both.0 ∙ bound.number in
        let number : pick.0.sub ≡ x.sub = eqb-true pick.0.sub (suc i) both.1 ∙ sub in
        let same : pick.0 ≡ x =
        same_pick pick.0 x
        (and_from (pick.0.task == x.task) (pick.0.sub == x.sub) (eq-eqb pick.0.task x.task task) (eq-eqb pick.0.sub x.sub number)) in
        in_picks r a k it.0 x (omega (arith, bound.from, from, first)) (omega (arith, it.1, bound.due))
        (subst (λ p. Contains (get_or r it.0 no_slot).picks p) same pick.1)

pub more_than_fit_is_missed : MoreThanFitIsMissed
more_than_fit_is_missed s n r a k xs scenario run le differ bounds =
    let whole : IsRun s (length r) r = subst (λ t. IsRun s t r) (sym run.slots) run in
    let within : a + k ≤ length r = omega (arith, le, run.slots) in
    let missed = is_among_misses s r in
    let rest = filter (λ x. not (missed x)) xs in
    let few : length rest ≤ length (picks_from r a k) =
    different_within rest (picks_from r a k) (AllPairs-filter (λ x y. x ≢ y) (λ x. not (missed x)) xs differ)
    (λ x at.
    let both = from_filter (λ y. not (missed y)) xs x at in
    is_picked s scenario r whole a k within x (All-contains (IsBound s r a (a + k)) xs x bounds both.0) (not-true (missed x) both.1)) in
    omega (
      arith,
      few,
      picks_few s scenario r whole a k within,
      length-filter (λ x. not (missed x)) xs,
      count_both missed xs,
    )
