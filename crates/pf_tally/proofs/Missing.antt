-- The misses of a task: which they are, and in which order.
use Rattle.std.proofs.Common.{◌≡◌, ◌≢◌, ℕ, zero, suc, ◌+◌, ◌-◌, ◌<◌, ◌≤◌, ◌⊎◌, Bool, true, false, ◌&&◌, nat_le, cond, None, Some, List, [], ◌∷◌, ◌++◌, length, take, map, get_or, filter, find, All, AllPairs, Contains, IsPermutation, inl, inr, ⊎_elim, refl, sym, ap, ap₂, ◌∙◌, subst, arith}
use Rattle.std.specs.List.{slice_get, range_with_len, flat_map}
use Rattle.std.specs.List.Sorted.{IsSortedBy}
use Rattle.std.specs.Option.{option_map_or}
use Rattle.std.specs.Ordering.{is_lt}
use Rattle.std.specs.declared.cmp.Ordering.TheVariants.{Equal}
use Rattle.std.specs.Cmp.{IsTotalOrder, nat_cmp_total}
use Rattle.std.proofs.lemmas.Cmp.{on_total, then_total}
use Rattle.std.proofs.lemmas.Bool.{cases_Bool, cond-true, cond-false, le-leb, lt-leb, leb-true, and_left, and_from}
use Rattle.std.proofs.lemmas.Bool.Decides.{nat_tests}
use Rattle.std.proofs.lemmas.List.{append-nil, append_assoc, map-append, length-map, get_or-map, length-take-le, take_more}
use Rattle.std.proofs.lemmas.Option.{slice_get-get_or, slice_get_past}
use Rattle.std.proofs.lemmas.List.Elements.{filter-append, Contains-append_cases}
use Rattle.std.proofs.lemmas.List.FromFn.{length-range_with_len, get_or-range_with_len}
use Rattle.std.proofs.lemmas.List.Kept.{AllPairs-filter}
use Rattle.std.proofs.lemmas.List.Sums.{sum_by-le-sum_by}
use Rattle.pf_lemmas.proofs.Ranges.{range_more}
use Rattle.pf_weight.specs.Share.{IsShare}
use Rattle.pf_window.specs.Window.{deadline_of}
use Rattle.pf_scenario.specs.Scenario.{Plan}
use Rattle.pf_scenario.specs.Edit.{IsScenario}
use Rattle.pf_scenario.specs.declared.event.Event.{Event}
use Rattle.pf_scenario.specs.declared.event.Event.TheVariants.{Join, Leave, Delay, Limit}
use Rattle.pf_scenario.specs.declared.event.Numbered.{Numbered}
use Rattle.pf_run.specs.Record.{Slot}
use Rattle.pf_scenario.specs.Event.{is_leave_of}
use Rattle.pf_run.specs.Inside.{Joined, shift_of}
use Rattle.pf_run.specs.Computed.{run_of}
use Rattle.pf_run.proofs.Counting.{found_counted}
use Rattle.pf_run.proofs.Containing.{contains_none, pairs_append, pairs_tail}
use Rattle.pf_tally.specs.Clock.{next_at}
use Rattle.pf_tally.specs.Held.{held_from}
use Rattle.pf_tally.specs.Late.{hold_of, due_at, is_late, late_miss, late_misses}
use Rattle.pf_tally.specs.Misses.{due_of, ran_in, leaves_after, is_missed, miss_of, misses_of_task, miss_cmp, in_miss_order}
use Rattle.pf_tally.specs.Quanta.{slots_of}
use Rattle.pf_tally.specs.Walk.{late_quantum, late_quanta}
use Rattle.pf_tally.specs.declared.held.Held.{Held}
use Rattle.pf_tally.specs.declared.miss.Miss.{Miss}
use Rattle.pf_tally.proofs.Chains.{all_counted}
use Rattle.pf_tally.proofs.Sorts.{NoTies, one_sorted}
use Rattle.pf_tally.proofs.Subs.{ran_is}
use Rattle.pf_tally.proofs.Walks.{late_push}
use Rattle.pf_tally.proofs.Windows.{deadlines_rise}

-- later subtasks are due later
pub counted_rises : (i k : ℕ) → i ≤ k → (h : Held) → hold_of i h ≤ hold_of k h
counted_rises i k within h = ⊎_elim
    (λ yes. let low : h.sub ≤ i = leb-true h.sub i yes in
    let later : nat_le h.sub k ≡ true = le-leb h.sub k (omega arith) in
    omega (arith, cond-true {A = ℕ} (nat_le h.sub i) h.by 0 yes, cond-true {A = ℕ} (nat_le h.sub k) h.by 0 later))
    (λ no. omega (arith, cond-false {A = ℕ} (nat_le h.sub i) h.by 0 no))
    (cases_Bool (nat_le h.sub i))

pub dues_rise : (j : Joined) (held : List Held) (i k : ℕ) → IsShare j.weight → i < k → due_at j held i < due_at j held k
dues_rise j held i k share below =
    omega (arith, deadlines_rise j.weight i k share below, sum_by-le-sum_by (hold_of i) (hold_of k) held (counted_rises i k (omega arith)))

-- one more subtask, and none once one is due after the last slot
module _ (j : Joined) (ran : List ℕ) (held : List Held) (last : ℕ) where
  pub late_step : (n : ℕ) → late_misses j ran held last (n + 1) ≡ late_misses j ran held last n ++ cond (is_late j ran held last (1 + n)) (late_miss j ran held (1 + n) ∷ []) []
  late_step n =
      ap (λ ks. map (late_miss j ran held) (filter (is_late j ran held last) ks)) (range_more 1 n)
      ∙ ap (map (late_miss j ran held)) (filter-append (is_late j ran held last) (range_with_len 1 n) ((1 + n) ∷ []))
      ∙ map-append (late_miss j ran held) (filter (is_late j ran held last) (range_with_len 1 n)) (filter (is_late j ran held last) ((1 + n) ∷ []))
      ∙ ap (λ ms. late_misses j ran held last n ++ ms) (one_or_none (is_late j ran held last (1 + n)))
    where
      one_or_none : (b : Bool) → map (late_miss j ran held) (cond b ((1 + n) ∷ []) []) ≡ cond b (late_miss j ran held (1 + n) ∷ []) []
      one_or_none true = refl
      one_or_none false = refl

  pub late_yes : (misses after start : List Miss) (i k : ℕ) (m : Miss) → 1 ≤ i → k ≡ i + 1 → is_late j ran held last i ≡ true → m ≡ late_miss j ran held i → after ≡ misses ++ m ∷ [] →
      misses ≡ start ++ late_misses j ran held last (i - 1) → after ≡ start ++ late_misses j ran held last (k - 1)
  late_yes misses after start i k m some next late is push before =
      let n : (i - 1) + 1 ≡ k - 1 = omega arith in
      let this : 1 + (i - 1) ≡ i = omega arith in
      push ∙ ap₂ (λ xs y. xs ++ y ∷ []) before is
      ∙ append_assoc start (late_misses j ran held last (i - 1)) (late_miss j ran held i ∷ [])
      ∙ ap (λ ms. start ++ ms)
      (ap (λ ms. late_misses j ran held last (i - 1) ++ ms) (sym (ap (λ i. cond (is_late j ran held last i) (late_miss j ran held i ∷ []) []) this ∙ cond-true (is_late j ran held last i) (late_miss j ran held i ∷ []) [] late))
      ∙ sym (late_step (i - 1)) ∙ ap (late_misses j ran held last) n)

  none_later : (i d : ℕ) → IsShare j.weight → 1 ≤ i → last < due_at j held i → late_misses j ran held last ((i - 1) + d) ≡ late_misses j ran held last (i - 1)
  none_later i zero share some over = ap (late_misses j ran held last) (let z : i - 1 + 0 ≡ i - 1 = omega arith in z)
  none_later i (suc d) share some over =
      let k : 1 + ((i - 1) + d) ≡ i + d = omega arith in
      let due : due_at j held i ≤ due_at j held (i + d) = ⊎_elim
      (λ same. let e : due_at j held i ≡ due_at j held (i + d) = ap (due_at j held) same in omega arith)
      (λ less. let up : due_at j held i < due_at j held (i + d) = dues_rise j held i (i + d) share less in omega arith)
      (same_or_less i d) in
      let not_due : nat_le (due_at j held (i + d)) last ≡ false = lt-leb (due_at j held (i + d)) last (omega arith) in
      let no : is_late j ran held last (i + d) ≡ false = and_left _ _ not_due in
      ap (late_misses j ran held last) (let z : i - 1 + suc d ≡ i - 1 + d + 1 = omega arith in z)
      ∙ late_step ((i - 1) + d)
      ∙ ap (λ k. late_misses j ran held last ((i - 1) + d) ++ cond (is_late j ran held last k) (late_miss j ran held k ∷ []) []) k
      ∙ ap (λ ms. late_misses j ran held last ((i - 1) + d) ++ ms) (cond-false (is_late j ran held last (i + d)) (late_miss j ran held (i + d) ∷ []) [] no)
      ∙ append-nil (late_misses j ran held last ((i - 1) + d))
      ∙ none_later i d share some over
    where
      same_or_less : (i d : ℕ) → (i ≡ i + d) ⊎ (i < i + d)
      same_or_less i zero = inl (omega arith)
      same_or_less i (suc d) = inr (omega arith)

  pub late_over : (misses start : List Miss) (i n : ℕ) → IsShare j.weight → 1 ≤ i → i ≤ n → last < due_at j held i →
      misses ≡ start ++ late_misses j ran held last (i - 1) → misses ≡ start ++ late_misses j ran held last n
  late_over misses start i n share some within over before =
      before ∙ ap (λ ms. start ++ ms) (sym (ap (late_misses j ran held last) (let z : n ≡ i - 1 + (n - (i - 1)) = omega arith in z) ∙ none_later i (n - (i - 1)) share some over))

-- By the definition: the due slots, the slots in which subtasks ran, and the last slot by which a window is missed.
pub due_is : (r : List Slot) (xs : List Numbered) (j : Joined) (i : ℕ) → due_of r xs j i ≡ due_at j (held_from (next_at r j) j j.slot xs) i
unfolding shift_of
due_is r xs j i = ap (λ n. deadline_of j.weight i + (j.slot + n)) (all_counted r j j.slot i xs)

module _ (s : Plan) (n : ℕ) (scenario : IsScenario s) (long : length (run_of s n) ≡ n) (xs : List Numbered) (j : Joined)
    (ran : List ℕ) (held : List Held) (last : ℕ) (of_ran : ran ≡ slots_of (run_of s n) j.task) (of_held : held ≡ held_from (next_at (run_of s n) j) j j.slot xs)
    (of_last : (t : ℕ) → nat_le t last ≡ (nat_le t n && leaves_after xs j t)) where
  pub due_same : (i : ℕ) → due_of (run_of s n) xs j i ≡ due_at j held i
  due_same i = due_is (run_of s n) xs j i ∙ ap (λ held. due_at j held i) (sym of_held)

  pub ran_same : (i : ℕ) → 1 ≤ i → ran_in (run_of s n) j i ≡ slice_get ran (i - 1)
  ran_same i some = ran_is s n j i scenario some ∙ ap (λ ran. slice_get ran (i - 1)) (sym of_ran)

  pub missed_same : (i : ℕ) → 1 ≤ i → is_missed (run_of s n) xs j i ≡ is_late j ran held last i
  missed_same i some =
      ap₂ (λ d o. nat_le d (length (run_of s n)) && leaves_after xs j d && option_map_or (λ t. nat_le d t) o true) (due_same i) (ran_same i some)
      ∙ ap (λ m. nat_le (due_at j held i) m && leaves_after xs j (due_at j held i) && option_map_or (λ t. nat_le (due_at j held i) t) (slice_get ran (i - 1)) true) long
      ∙ ap (λ b. b && option_map_or (λ t. nat_le (due_at j held i) t) (slice_get ran (i - 1)) true) (sym (of_last (due_at j held i)))

  miss_same : (i : ℕ) → 1 ≤ i → miss_of (run_of s n) xs j i ≡ late_miss j ran held i
  miss_same i some = ap₂ (λ d o. let m : Miss = record { task = j.task; sub = i; deadline = d; ran = o } in m) (due_same i) (ran_same i some)

  same_one : (b c : Bool) (m k : Miss) (ms ks : List Miss) → b ≡ c → m ≡ k → ms ≡ ks → cond b (m ∷ ms) ms ≡ cond c (k ∷ ks) ks
  same_one true c m k ms ks e f g = ap₂ (λ m ms. m ∷ ms) f g ∙ sym (cond-true c (k ∷ ks) ks (sym e))
  same_one false c m k ms ks e f g = g ∙ sym (cond-false c (k ∷ ks) ks (sym e))

  map_cond : (f : ℕ → Miss) (b : Bool) (i : ℕ) (is : List ℕ) → map f (cond b (i ∷ is) is) ≡ cond b (f i ∷ map f is) (map f is)
  map_cond f true i is = refl
  map_cond f false i is = refl

  range_same : (a m : ℕ) → 1 ≤ a →
      map (miss_of (run_of s n) xs j) (filter (is_missed (run_of s n) xs j) (range_with_len a m)) ≡ map (late_miss j ran held) (filter (is_late j ran held last) (range_with_len a m))
  range_same a zero some = refl
  range_same a (suc m) some =
      map_cond (miss_of (run_of s n) xs j) (is_missed (run_of s n) xs j a) a (filter (is_missed (run_of s n) xs j) (range_with_len (a + 1) m))
      ∙ same_one (is_missed (run_of s n) xs j a) (is_late j ran held last a) _ _ _ _ (missed_same a some) (miss_same a some) (range_same (a + 1) m (omega arith))
      ∙ sym (map_cond (late_miss j ran held) (is_late j ran held last a) a (filter (is_late j ran held last) (range_with_len (a + 1) m)))

  pub misses_same : misses_of_task (run_of s n) xs j ≡ late_misses j ran held last n
  misses_same = range_same 1 (length (run_of s n)) (omega arith) ∙ ap (late_misses j ran held last) long

-- The order of misses: no two tie.
pub miss_total : IsTotalOrder miss_cmp
unfolding miss_cmp
miss_total = then_total (on_total (λ (m : Miss). m.deadline) nat_cmp_total) (on_total (λ (m : Miss). m.task) nat_cmp_total)

untied : (x y : Miss) → (x.deadline ≢ y.deadline) ⊎ (x.task ≢ y.task) → miss_cmp x y ≢ Equal
unfolding miss_cmp
untied x y (inl differ) tie = grind (arith, nat_tests)
untied x y (inr differ) tie = grind (arith, nat_tests)

range_rises : (a n : ℕ) → AllPairs (λ x y. x < y) (range_with_len a n)
range_rises a n i j d before within =
    let long = length-range_with_len a n in
    omega (arith, get_or-range_with_len a n i d (omega arith), get_or-range_with_len a n j d (omega arith))

-- the misses of one task differ in their deadlines
task_untied : (j : Joined) (held : List Held) (p : ℕ → Bool) (f : ℕ → Miss) (n : ℕ) → IsShare j.weight → ((i : ℕ) → (f i).deadline ≡ due_at j held i) →
    NoTies miss_total (map f (filter p (range_with_len 1 n)))
task_untied j held p f n share dues i k d before within =
    let subs = filter p (range_with_len 1 n) in
    let long : length (map f subs) ≡ length subs = length-map subs f in
    let up : get_or subs i 0 < get_or subs k 0 = AllPairs-filter (λ x y. x < y) p (range_with_len 1 n) (range_rises 1 n) i k 0 before (omega arith) in
    let of_i = get_or-map f subs i 0 d (omega arith) in
    let of_k = get_or-map f subs k 0 d (omega arith) in
    let later : due_at j held (get_or subs i 0) < due_at j held (get_or subs k 0) = dues_rise j held _ _ share up in
    untied _ _ (inl (λ same. let e : due_at j held (get_or subs i 0) ≡ due_at j held (get_or subs k 0) =
    sym (ap (λ m. m.deadline) of_i ∙ dues _) ∙ same ∙ (ap (λ m. m.deadline) of_k ∙ dues _) in absurd (omega arith)))

task_of_miss : (task : ℕ) (f : ℕ → Miss) (subs : List ℕ) (m : Miss) → ((i : ℕ) → (f i).task ≡ task) → Contains (map f subs) m → m.task ≡ task
task_of_miss task f subs m tasks at =
    let long : length (map f subs) ≡ length subs = length-map subs f in
    let within : at.0 < length (map f subs) = at.1 in
    ap (λ m. m.task) (sym at.2) ∙ ap (λ m. m.task) (get_or-map f subs at.0 0 m (omega arith)) ∙ tasks _

module _ (r : List Slot) (xs : List Numbered) where
  misses_untied : (j : Joined) → IsShare j.weight → NoTies miss_total (misses_of_task r xs j)
  misses_untied j share = task_untied j (held_from (next_at r j) j j.slot xs) (is_missed r xs j) (miss_of r xs j) (length r) share (λ i. due_is r xs j i)

  not_of_task : (js : List Joined) (task : ℕ) (m : Miss) → All (λ j. task ≢ j.task) js → Contains (flat_map (misses_of_task r xs) js) m → task ≢ m.task
  not_of_task [] task m apart at same = absurd (contains_none m at)
  not_of_task (j ∷ js) task m apart at same = ⊎_elim
      (λ here. apart 0 j (omega arith) (same ∙ task_of_miss j.task (miss_of r xs j) (filter (is_missed r xs j) (range_with_len 1 (length r))) m (λ i. refl) here))
      (λ later. not_of_task js task m (λ k d within. apart (suc k) d (omega arith)) later same)
      (Contains-append_cases (misses_of_task r xs j) (flat_map (misses_of_task r xs) js) m at)

  pub all_untied : (js : List Joined) → All (λ j. IsShare j.weight) js → AllPairs (λ a b. a.task ≢ b.task) js → NoTies miss_total (flat_map (misses_of_task r xs) js)
  all_untied [] shares differ = λ i j d before within. absurd (omega arith)
  all_untied (j ∷ js) shares differ =
      pairs_append (λ x y. miss_cmp x y ≢ Equal) (misses_of_task r xs j) (flat_map (misses_of_task r xs) js)
      (misses_untied j (shares 0 j (omega arith)))
      (all_untied js (λ k d within. shares (suc k) d (omega arith)) (pairs_tail (λ a b. a.task ≢ b.task) j js differ))
      (λ x y at_x at_y. untied x y (inr (λ same.
      not_of_task js j.task y (λ k d within. differ 0 (suc k) d (omega arith) (omega arith)) at_y
      (sym (task_of_miss j.task (miss_of r xs j) (filter (is_missed r xs j) (range_with_len 1 (length r))) x (λ i. refl) at_x) ∙ same))))

-- Use: what a sort of all misses leaves.
pub misses_sorted : (r : List Slot) (xs : List Numbered) (js : List Joined) (ms sorted : List Miss) → All (λ j. IsShare j.weight) js → AllPairs (λ a b. a.task ≢ b.task) js →
    ms ≡ flat_map (misses_of_task r xs) js → IsPermutation ms sorted → IsSortedBy (λ x y. is_lt (miss_cmp x y)) sorted → sorted ≡ in_miss_order (flat_map (misses_of_task r xs) js)
misses_sorted r xs js ms sorted shares differ is same up =
    let P : List Miss → Type 0 = λ ms. IsPermutation ms sorted in
    one_sorted miss_total (flat_map (misses_of_task r xs) js) sorted (all_untied r xs js shares differ) (subst P is same) up

-- what was found as a leave is one
leave_passes : (task : ℕ) (x : Event) → is_leave_of task x ≡ true → ((a b : ℕ) → x ≡ Leave a b → ⊥) → ⊥
leave_passes task (Leave slot task') is none = none slot task' refl
leave_passes task (Join slot task' cost period early) is none = cc
leave_passes task (Delay slot task' by) is none = cc
leave_passes task (Limit slot count) is none = cc

pub only_leaves : (task : ℕ) (xs : List Numbered) (x : Numbered) → Some x ≡ find (λ x. is_leave_of task x.event) xs → ((a b : ℕ) → x.event ≡ Leave a b → ⊥) → ⊥
only_leaves task xs x found none = leave_passes task x.event (found_counted (λ x. is_leave_of task x.event) xs x (sym found)).1 none

-- The windows that ran late are the misses among the first subtasks.
due_and_late : (b c : Bool) (m : Miss) (p : Miss → Bool) → p m ≡ b → filter p (cond c (m ∷ []) []) ≡ cond (b && c) (m ∷ []) []
due_and_late true true m p is = cond-true (p m) (m ∷ []) [] is
due_and_late true false m p is = refl
due_and_late false true m p is = cond-false (p m) (m ∷ []) [] is
due_and_late false false m p is = refl

pub late_found : (j : Joined) (ran : List ℕ) (held : List Held) (last n : ℕ) → n ≤ length ran →
    filter (λ m. nat_le m.deadline last) (late_quanta j held 1 (take n ran)) ≡ late_misses j ran held last n
late_found j ran held last zero within = refl
late_found j ran held last (suc n) within =
    let p = λ (m : Miss). nat_le m.deadline last in
    let t = get_or ran n 0 in
    let due = due_at j held (1 + n) in
    let inside : n < length ran = omega arith in
    let long : length (take n ran) ≡ n = length-take-le n ran (let h : n ≤ length ran = omega arith in h) in
    let more : take (suc n) ran ≡ take n ran ++ t ∷ [] = ap (λ k. take k ran) (let z : suc n ≡ n + 1 = omega arith in z) ∙ take_more ran n 0 inside in
    let got : slice_get ran ((1 + n) - 1) ≡ Some t = ap (slice_get ran) (let z : (1 + n) - 1 ≡ n = omega arith in z) ∙ slice_get-get_or ran n 0 inside in
    let m : Miss = record { task = j.task; sub = 1 + n; deadline = due; ran = Some t } in
    ap (λ ts. filter p (late_quanta j held 1 ts)) more
    ∙ ap (filter p) (late_push j held 1 t (take n ran) ∙ ap (λ k. late_quanta j held 1 (take n ran) ++ late_quantum j.task (1 + k) (due_at j held (1 + k)) t) long)
    ∙ filter-append p (late_quanta j held 1 (take n ran)) (late_quantum j.task (1 + n) due t)
    ∙ ap₂ (λ ms ks. ms ++ ks) (late_found j ran held last n (omega arith))
    (due_and_late (nat_le due last) (nat_le due t) m p refl
    ∙ ap (λ o. cond (nat_le due last && option_map_or (λ t. nat_le due t) o true) (let k : Miss = record { task = j.task; sub = 1 + n; deadline = due; ran = o } in k ∷ []) []) (sym got))
    ∙ sym (late_step j ran held last n)
    ∙ ap (late_misses j ran held last) (let z : n + 1 ≡ suc n = omega arith in z)

-- A window that did not run is missed once it is due.
pub unrun_late : (j : Joined) (ran : List ℕ) (held : List Held) (last due i : ℕ) → due ≡ due_at j held i → due ≤ last → length ran < i →
    (is_late j ran held last i ≡ true) × ((let m : Miss = record { task = j.task; sub = i; deadline = due; ran = None } in m) ≡ late_miss j ran held i)
unrun_late j ran held last due i of_due within past =
    let none : slice_get ran (i - 1) ≡ None = slice_get_past ran (i - 1) (omega arith) in (
      and_from _ _ (le-leb (due_at j held i) last (omega arith)) (ap (λ o. option_map_or (λ t. nat_le (due_at j held i) t) o true) none),
      ap₂ (λ d o. let m : Miss = record { task = j.task; sub = i; deadline = d; ran = o } in m) of_due (sym none),
    )
