-- The first subtasks of a ranking are the picks of the slot.
use Rattle.std.proofs.Common.{◌≡◌, ◌∙◌, ℕ, suc, ◌+◌, ◌-◌, ◌<◌, ◌≤◌, ◌==◌, ◌&&◌, Bool, true, false, cond, max, nat_le, take, filter, filter_map, map, get_or, None, Some, List, [], ◌∷◌, length, AllPairs, Contains, IsPermutation, ⊎_elim, refl, sym, ap, ap₂, subst, subst₂, arith}
use Rattle.std.specs.Prelude.{IsTrue}
use Rattle.std.specs.List.{cons_option}
use Rattle.std.proofs.lemmas.Bool.{cases_lt, true≢false}
use Rattle.std.proofs.lemmas.List.{get_or-take, get_or_default, length-take, take-map}
use Rattle.std.proofs.lemmas.List.Sorted.{Contains-permutation, IsPermutation-map, IsPermutation-sym, sum_by-IsPermutation}
use Rattle.pf_weight.specs.Share.{Share, is_heavy}
use Rattle.pf_window.specs.Window.{bit_of, deadline_of, release_of}
use Rattle.pf_window.specs.Group.{group_of}
use Rattle.pf_order.specs.Priority.{Priority, precedes}
use Rattle.pf_order.specs.First.{AreFirst, first_keys, rank}
use Rattle.pf_order.proofs.Order.{none_precedes_itself, preceding_is_transitive}
use Rattle.pf_scenario.specs.Edit.{IsScenario}
use Rattle.pf_scenario.specs.Scenario.{Plan}
use Rattle.pf_scenario.specs.Sorted.{sorted_by}
use Rattle.pf_scenario.specs.declared.event.Numbered.{Numbered}
use Rattle.pf_scenario.proofs.Sorting.{sorted_keeps}
use Rattle.pf_run.specs.Record.{Slot, denials_of, next_sub}
use Rattle.pf_run.specs.Inside.{Joined, count_of, eligible_from, inside, member_of, next_key, ready, ready_key, shift_of}
use Rattle.pf_run.specs.Run.{pick_of_key, IsRun}
use Rattle.pf_run.proofs.Containing.{pairs_filter_map}
use Rattle.pf_run.proofs.Joins.{joins_once_in_force, ready_differ}
use Rattle.pf_run.proofs.Runs.{first_are_computed}
use Rattle.pf_tally.proofs.Holding.{count_from_cut}
use Rattle.pf_tally.proofs.Sorts.{sorted_rises}
use Rattle.pf_laws.proofs.PromiseLemmas.Choosing.{chosen, chosen_first, chosen_picks, eligible_is, front_length, shift_front, sub_front}
use Rattle.pf_laws.proofs.PromiseLemmas.Shifts.{no_slot}
use Rattle.pf_why.specs.declared.subtask.Subtask.{Subtask}
use Rattle.pf_why.specs.Ranking.{candidates_in, may_run, next_of, priority_of, rank_cmp, ranking_in, standing_in, subtask_of}
use Rattle.pf_why.proofs.Ranked.{none_tie, rank_total, some_of_all}

map_map : {X Y Z : Type 0} (f : X → Y) (g : Y → Z) (xs : List X) → map (λ x. g (f x)) xs ≡ map g (map f xs)
map_map f g [] = refl
map_map f g (x ∷ xs) = ap (λ ys. g (f x) ∷ ys) (map_map f g xs)

pairs_map : {X Y : Type 0} (f : X → Y) (R : Y → Y → Type 0) (xs : List X) → AllPairs (λ x y. R (f x) (f y)) xs → AllPairs R (map f xs)
pairs_map {X} {Y} f R xs all = subst (λ ys. AllPairs R ys) (some_of_all f xs)
    (pairs_filter_map (λ x y. R (f x) (f y)) R (λ x. Some (f x)) (λ x y a b is_x is_y related. carried x y a b is_x is_y related) xs all)
  where
    carried : (x y : X) (a b : Y) → Some (f x) ≡ Some a → Some (f y) ≡ Some b → R (f x) (f y) → R a b
    carried x y a b is_x is_y related =
        let e : f x ≡ a = cc in
        let g : f y ≡ b = cc in
        subst₂ R e g related

-- keys in a strict order: as many precede one as stand before it
abbrev Rises : List Priority → Type 0
Rises ks = AllPairs (λ x y. precedes x y ≡ true) ks

not_back : (x y : Priority) → precedes x y ≡ true → precedes y x ≡ false
not_back x y first = by (precedes y x) refl where
  by : (b : Bool) → precedes y x ≡ b → precedes y x ≡ false
  by false e = e
  by true e = absurd (let t = preceding_is_transitive x y x first e in true≢false (sym t ∙ none_precedes_itself x))

rank_at : (ks : List Priority) (i : ℕ) (d : Priority) → Rises ks → i < length ks → rank ks (get_or ks i d) ≡ i
rank_at ks i d up within =
    let k = get_or ks i d in
    count_from_cut (λ x. precedes x k) ks i (omega (arith, within))
    (λ j e before.
    let same : get_or ks i e ≡ k = get_or_default ks i e d within in
    subst (λ y. precedes (get_or ks j e) y ≡ true) same (up j i e before within))
    (λ j e from lt. ⊎_elim
    (λ (later : i < j).
    let same : get_or ks i e ≡ k = get_or_default ks i e d within in
    subst (λ y. precedes (get_or ks j e) y ≡ false) same (not_back (get_or ks i e) (get_or ks j e) (up i j e later lt)))
    (λ (le : j ≤ i).
    let here : j ≡ i = omega (arith, from, le) in
    let same : get_or ks j e ≡ k = ap (λ n. get_or ks n e) here ∙ get_or_default ks i e d within in
    ap (λ y. precedes y k) same ∙ none_precedes_itself k)
    (cases_lt i j))

-- the first c of them are the first c of any list with the same keys
first_taken : (keys ks : List Priority) (c : ℕ) → IsPermutation keys ks → Rises ks → AreFirst c keys (take c ks)
first_taken keys ks c same up =
    record {
      exactly = λ k. (into k, back k);
      in_order = λ i j d before within.
          let long = length-take c ks in
          let j_low : j < c = omega (arith, within, long) in
          let j_in : j < length ks = omega (arith, within, long) in
          let e : precedes (get_or (take c ks) i d) (get_or (take c ks) j d) ≡ true =
          ap₂ precedes (get_or-take c ks i d (omega (arith, before, j_low))) (get_or-take c ks j d j_low) ∙ up i j d before j_in in
          is_true e;
    }
  where
    is_true : {b : Bool} → b ≡ true → IsTrue b
    is_true e = search e

    ranks : (k : Priority) → rank keys k ≡ rank ks k
    ranks k = sym (sum_by-IsPermutation (λ x. cond (precedes x k) 1 0) keys ks same)

    into : (k : Priority) → Contains (take c ks) k → Contains keys k × (rank keys k < c)
    into k at =
        let i = at.0 in
        let long = length-take c ks in
        let low : i < c = omega (arith, at.1, long) in
        let within : i < length ks = omega (arith, at.1, long) in
        let is : get_or ks i k ≡ k = sym (get_or-take c ks i k low) ∙ at.2 in
        let place : Contains ks k = (i, within, is) in
        let r : rank ks k ≡ i = ap (rank ks) (sym is) ∙ rank_at ks i k up within in
        (Contains-permutation ks keys k (IsPermutation-sym keys ks same) place, omega (arith, ranks k, r, low))

    back : (k : Priority) → Contains keys k × (rank keys k < c) → Contains (take c ks) k
    back k at =
        let place = Contains-permutation keys ks k same at.0 in
        let i = place.0 in
        let r : rank ks k ≡ i = ap (rank ks) (sym place.2) ∙ rank_at ks i k up place.1 in
        let low : i < c = omega (arith, ranks k, r, at.1) in
        (i, omega (arith, length-take c ks, low, place.1), get_or-take c ks i k low ∙ place.2)

-- the key of a task's next subtask
zero_either : (c : Bool) → ◌≡◌ {A = ℕ} (cond c 0 0) 0
zero_either true = refl
zero_either false = refl

key_same : (w : Share) (shift i task : ℕ) (heavy : Bool) (b : ℕ) → is_heavy w ≡ heavy → bit_of w i ≡ b →
    cond (b == 1) (cond heavy (group_of w i + shift) 0) 0 ≡ cond (heavy && b == 1) (group_of w i + shift) 0
key_same w shift i task true b h e = refl
key_same w shift i task false b h e = zero_either (b == 1)

module _ (s : Plan) (scenario : IsScenario s) (r : List Slot) (run : IsRun s (length r) r) (t : ℕ) (lt : t < length r) where
  abbrev base : ℕ
  base = s.settings.base

  abbrev now : List Numbered
  now = standing_in s r t

  abbrev front : List Slot
  front = take t r

  key_is : (j : Joined) → priority_of (next_of r now t j) ≡ next_key j.task (member_of front now j)
  unfolding member_of
  key_is j =
      let i = next_sub front j.task in
      let sub = sub_front s scenario r run t lt j in
      let shift = shift_front s scenario r run t lt j in
      ap₂ (λ n h. priority_of (subtask_of j n h)) (sym sub) (sym shift)
      ∙ (λ k. let p : Priority = record {
        deadline = deadline_of j.weight i + shift_of front now j i;
        bit = bit_of j.weight i;
        group = key_same j.weight (shift_of front now j i) i j.task (is_heavy j.weight) (bit_of j.weight i) refl refl k;
        task = j.task;
        sub = i;
      } in p)

  first_is : (j : Joined) → (next_of r now t j).first ≡ eligible_from (member_of front now j)
  first_is j =
      ap₂ (λ n h. max j.slot (release_of j.weight n + h - j.early)) (sym (sub_front s scenario r run t lt j)) (sym (shift_front s scenario r run t lt j))
      ∙ sym (eligible_is front now j)

  keys_of : (js : List Joined) →
      map priority_of (filter (may_run t) (map (next_of r now t) js))
      ≡ filter_map (λ j. ready_key (length front) j.task (member_of front now j)) js
  keys_of [] = refl
  keys_of (j ∷ js) = by (keys_of js) (nat_le (eligible_from (member_of front now j)) t) refl where
    ys : List Subtask
    ys = filter (may_run t) (map (next_of r now t) js)

    zs : List Priority
    zs = filter_map (λ i. ready_key (length front) i.task (member_of front now i)) js

    each : map priority_of ys ≡ zs → (b : Bool) →
        map priority_of (cond b (next_of r now t j ∷ ys) ys) ≡ cons_option (cond b (Some (next_key j.task (member_of front now j))) None) zs
    each rest true = ap₂ (λ x xs. x ∷ xs) (key_is j) rest
    each rest false = rest

    by : map priority_of ys ≡ zs → (b : Bool) → nat_le (eligible_from (member_of front now j)) t ≡ b →
        map priority_of (cond (may_run t (next_of r now t j)) (next_of r now t j ∷ ys) ys)
        ≡ cons_option (cond (nat_le (eligible_from (member_of front now j)) (length front)) (Some (next_key j.task (member_of front now j))) None) zs
    by rest b e =
        ap (λ c. map priority_of (cond c (next_of r now t j ∷ ys) ys)) (ap (λ m. nat_le m t) (first_is j) ∙ e)
        ∙ each rest b
        ∙ sym (ap (λ c. cons_option (cond c (Some (next_key j.task (member_of front now j))) None) zs)
        (ap (λ m. nat_le (eligible_from (member_of front now j)) m) (front_length s scenario r run t lt) ∙ e))

  keys_are : map priority_of (candidates_in s r t) ≡ ready base front now
  unfolding ready
  keys_are = keys_of (inside base now)

  abbrev ranked : List Subtask
  ranked = sorted_by rank_cmp (candidates_in s r t)

  rises : Rises (map priority_of ranked)
  rises =
      let up = sorted_rises rank_total (candidates_in s r t) (none_tie s r t scenario) in
      pairs_map priority_of (λ x y. precedes x y ≡ true) ranked up

  pub first_ones_run : map (λ x. pick_of_key (priority_of x)) (take (count_of s.settings.processors now) (ranking_in s r t)) ≡ (get_or r t no_slot).picks
  unfolding ranking_in
  first_ones_run =
      let c = count_of s.settings.processors now in
      let keys = ready base front now in
      let same : IsPermutation keys (map priority_of ranked) =
      subst (λ ks. IsPermutation ks (map priority_of ranked)) keys_are
      (IsPermutation-map priority_of (candidates_in s r t) ranked (sorted_keeps rank_cmp (candidates_in s r t))) in
      let differ = ready_differ base front now (joins_once_in_force s (suc t) (denials_of r) scenario) in
      let ours : take c (map priority_of ranked) ≡ first_keys c keys =
      (first_are_computed c keys (take c (map priority_of ranked)) differ).0 (first_taken keys (map priority_of ranked) c same rises) in
      let theirs : chosen s scenario r run t lt ≡ first_keys c keys =
      (first_are_computed c keys (chosen s scenario r run t lt) differ).0 (chosen_first s scenario r run t lt) in
      map_map priority_of pick_of_key (take c ranked)
      ∙ ap (map pick_of_key) (sym (take-map priority_of c ranked) ∙ ours ∙ sym theirs)
      ∙ sym (chosen_picks s scenario r run t lt)
