-- The windows of a task, by what is told of it.
use Rattle.std.proofs.Common.{◌≡◌, ◌∙◌, ℕ, zero, suc, ◌+◌, ◌-◌, ◌*◌, ◌/◌, ◌<◌, ◌≤◌, Bool, true, false, cond, take, filter, filter_map, get_or, subst, Option, None, Result, Ok, Err, List, [], ◌∷◌, ◌++◌, length, refl, sym, ap, ap₂, arith}
use Rattle.std.specs.Prelude.{◌&&◌, ◌||◌, is_some, min, max, nat_le, nat_lt, OnOk, sum_by}
use Rattle.std.specs.List.{flat_map, range_with_len, slice_get}
use Rattle.std.specs.Option.{option_map, option_map_or}
use Rattle.std.proofs.Math.Nat.{le-div_iff_mul-le, le-max_left, le-max_right, min-le_right, mod-eq-sub-div-mul, mod-lt, mul-le-mul_right}
use Rattle.std.proofs.lemmas.Bool.{le-ltb}
use Rattle.std.proofs.lemmas.List.{take_all}
use Rattle.std.proofs.lemmas.List.Concat.{flat_map-cons}
use Rattle.std.proofs.lemmas.Option.{slice_get_past}
use Rattle.pf_lemmas.proofs.Ranges.{flat_map_agree}
use Rattle.pf_weight.specs.Share.{IsShare, is_heavy}
use Rattle.pf_window.specs.Window.{bit_of, deadline_of, release_of}
use Rattle.pf_window.specs.Group.{group_of}
use Rattle.pf_order.specs.declared.pick.Pick.{Pick}
use Rattle.pf_scenario.specs.Event.{slot_of}
use Rattle.pf_scenario.specs.Scenario.{Plan}
use Rattle.pf_scenario.specs.Edit.{IsScenario}
use Rattle.pf_scenario.specs.declared.event.Numbered.{Numbered}
use Rattle.pf_run.specs.Record.{Slot}
use Rattle.pf_run.specs.Inside.{Joined, join_of, shift_of}
use Rattle.pf_run.specs.Run.{events_in_force}
use Rattle.pf_run.specs.Computed.{run_of}
use Rattle.pf_collections.specs.Table.Lists.{noted_of}
use Rattle.pf_tally.specs.Figures.{processors_in}
use Rattle.pf_tally.specs.Held.{CanTally, next_in, held_from}
use Rattle.pf_tally.specs.Lags.{by_task}
use Rattle.pf_tally.specs.Late.{hold_of}
use Rattle.pf_tally.specs.Ledger.{IsLedger}
use Rattle.pf_tally.specs.declared.held.Held.{Held}
use Rattle.pf_tally.specs.declared.ledger.Ledger.{Ledger}
use Rattle.pf_tally.specs.Misses.{leaves_after, ran_in}
use Rattle.pf_tally.specs.Own.{events_of_task}
use Rattle.pf_tally.specs.Quanta.{slots_of}
use Rattle.pf_tally.proofs.Figured.{figures_can, sorted_at}
use Rattle.pf_tally.proofs.Ledgers.{task_diary, task_ran}
use Rattle.pf_tally.proofs.Own.{find_own, leaves_own, shift_own}
use Rattle.pf_courses.specs.Built.{quantum_with, window_by}
use Rattle.pf_courses.specs.Course.{end_of, is_drawn, leave_in, leave_slot, quantum_of, window_of}
use Rattle.pf_courses.specs.declared.window.Window.{Window}
use Rattle.pf_courses.proofs.Tracks.{window_is}
use Rattle.pf_vocabulary.specs.Tasks.Listed.{is_listed}
use Rattle.pf_vocabulary.specs.declared.tasks.task_range.TaskRange.{TaskRange}
use Rattle.pf_vocabulary.proofs.TasksLemmas.Taken.{one_taken, one_left}
use Rattle.pf_vocabulary.specs.declared.names.titles.Titles.{Titles}
use Rattle.pf_vocabulary.specs.NameColumn.Column.{name_fields, with_name}
use Rattle.pf_text.specs.Page.{Page, with_record}
use Rattle.pf_text.specs.Sheets.{AddsAtMostOne}
use Rattle.pf_windows.specs.Told.{NamedTold, Told, named_behind_sub, told_by, told_window, is_shown, sub_count, records_behind_sub}
use Rattle.pf_windows.specs.Windows.{lies_within, window_record, window_records, records_of_task, windows_records}
use Rattle.pf_windows.specs.declared.slots.Slots.{Slots}

enough : {X : Type 0} (f : ℕ → List X) (a m n : ℕ) → m ≤ n → ((i : ℕ) → a + m ≤ i → i < a + n → f i ≡ []) →
    flat_map f (range_with_len a m) ≡ flat_map f (range_with_len a n)
enough f a zero zero le none = refl
enough f a zero (suc n) le none =
    sym (flat_map-cons f a (range_with_len (a + 1) n)
    ∙ ap₂ (λ xs ys. xs ++ ys) (none a (omega arith) (omega arith)) (sym (enough f (a + 1) zero n (omega arith) (λ i above below. none i (omega (arith, above)) (omega (arith, below))))))
enough f a (suc m) zero le none = absurd (omega (arith, le))
enough f a (suc m) (suc n) le none =
    flat_map-cons f a (range_with_len (a + 1) m)
    ∙ ap (λ ys. f a ++ ys) (enough f (a + 1) m n (omega (arith, le)) (λ i above below. none i (omega (arith, above)) (omega (arith, below))))
    ∙ sym (flat_map-cons f a (range_with_len (a + 1) n))

-- one subtask further
module _ (told : Told) (at : ℕ) (within : at < sub_count told) where
  abbrev line : Window → List (List (List ℕ))
  line w = window_records told.slots told.task told.end told.leave w

  first_place : records_behind_sub told at ≡ line (told_window told (at + 1)) ++ records_behind_sub told (at + 1)
  first_place =
      let f : ℕ → List (List (List ℕ)) = λ i. line (told_window told i) in
      ap (λ n. flat_map f (range_with_len (at + 1) n)) (let z : sub_count told - at ≡ suc (sub_count told - (at + 1)) = omega (arith, within) in z)
      ∙ flat_map-cons f (at + 1) (range_with_len (at + 1 + 1) (sub_count told - (at + 1)))

  by_test : (w : Window) (b : Bool) → w ≡ told_window told (at + 1) → is_shown told w ≡ b →
      records_behind_sub told at ≡ cond b (window_record told.task w ∷ []) [] ++ records_behind_sub told (at + 1)
  by_test w b is shown =
      first_place ∙ ap (λ x. line x ++ records_behind_sub told (at + 1)) (sym is)
      ∙ ap (λ x. cond x (window_record told.task w ∷ []) [] ++ records_behind_sub told (at + 1)) shown

  module _ (titles : Titles) where
    abbrev left : ℕ → List (List (List ℕ))
    left k = named_behind_sub (record { told = told; titles = titles }) k

    pub shown_added : {A E : Type 0} (r : Result A E) (w : Window) (old new : Page) → w ≡ told_window told (at + 1) → is_shown told w ≡ true →
        OnOk r (new ≡ with_record old (window_record told.task w ++ name_fields titles told.task.task)) →
        OnOk r (AddsAtMostOne (left at) (left (at + 1)) old new)
    shown_added (Ok x) w old new is shown h = record {
      added = (window_record told.task w ++ name_fields titles told.task.task) ∷ [];
      of_was = ap (with_name titles told.task.task) (by_test w true is shown);
      is = (refl, h);
    }
    shown_added (Err e) w old new is shown h = tt

    pub none_added : (w : Window) (page : Page) → w ≡ told_window told (at + 1) → is_shown told w ≡ false →
        AddsAtMostOne (left at) (left (at + 1)) page page
    none_added w page is shown = record { added = []; of_was = ap (with_name titles told.task.task) (by_test w false is shown); is = refl }

-- a subtask after those that are looked at did not run, and is not released before the end
module _ (j : Joined) (share : IsShare j.weight) (ran on : List ℕ) (held : List Held) (end i : ℕ) where
  not_released : end * j.weight.cost / j.weight.period + 1 < i → end ≤ release_of j.weight i
  unfolding release_of
  not_released above =
      let cost = j.weight.cost in
      let period = j.weight.period in
      let some : 0 < cost = share.some in
      let whole = le-div_iff_mul-le {k = period} {x = end * cost / period + 1} {y = end * cost} (let z : 0 < period = omega (arith, share.some, share.within) in z) in
      let past : end * cost ≤ (end * cost / period + 1) * period = omega (arith, past_it (end * cost) period (omega (arith, share.some, share.within))) in
      let more : (end * cost / period + 1) * period ≤ (i - 1) * period = mul-le-mul_right period (omega (arith, above)) in
      (le-div_iff_mul-le {k = cost} {x = end} {y = (i - 1) * period} some).1 (omega (arith, past, more))
    where
      past_it : (m p : ℕ) → 0 < p → m ≤ (m / p + 1) * p
      past_it m p some = omega (arith, mod-lt m some, mod-eq-sub-div-mul m p)

  undrawn : end * j.weight.cost / j.weight.period + 1 < i → length ran < i → is_drawn end (window_by j ran on held end i) ≡ false
  undrawn above ran_before =
      let none : slice_get ran (i - 1) ≡ None = slice_get_past ran (i - 1) (omega (arith, ran_before)) in
      let not_ran = ap (λ o. is_some (quantum_with o (slice_get on (i - 1)))) none in
      let late : nat_lt (release_of j.weight i + (j.slot + sum_by (hold_of i) held)) end ≡ false = le-ltb _ _ (omega (arith, not_released above)) in
      ap₂ (λ a b. a || b) not_ran late

-- the lines of a task are those of its definition
module _ (s : Plan) (n : ℕ) (scenario : IsScenario s) (long : length (run_of s n) ≡ n) (slots : Slots) (of_slots : slots.now ≡ n)
    (xs : List Numbered) (j : Joined) (ran on : List ℕ) (can : CanTally j ran xs n) (of_ran : ran ≡ slots_of (run_of s n) j.task) where
  abbrev held : List Held
  held = held_from (next_in ran) j j.slot xs

  abbrev line_by : ℕ → List (List (List ℕ))
  line_by i = window_records slots j (end_of xs j n) (leave_slot xs j) (window_by j ran on held (end_of xs j n) i)

  abbrev told : Told
  told = told_by j ran on xs slots

  abbrev count_of : ℕ
  count_of = min (max (end_of xs j n * j.weight.cost / j.weight.period + 1) (length ran)) n

  none_behind : (i : ℕ) → 1 + count_of ≤ i → i < 1 + n → line_by i ≡ []
  none_behind i above below =
      let a = end_of xs j n * j.weight.cost / j.weight.period + 1 in
      let b = length ran in
      let short : max a b < i = by_min (max a b) n i above below in
      let w = window_by j ran on held (end_of xs j n) i in
      let not_drawn = undrawn j can.share ran on held (end_of xs j n) i (omega (arith, short, le-max_left a b)) (omega (arith, short, le-max_right a b)) in
      ap (λ d. cond (d && lies_within slots.from slots.to (leave_slot xs j) w) (window_record j w ∷ []) []) not_drawn
    where
      by_min : (m k i : ℕ) → 1 + min m k ≤ i → i < 1 + k → m < i
      by_min m k i above below = grind (arith, above, below)

  pub records_are : records_behind_sub told 0 ≡ records_of_task slots (run_of s n) on xs j
  records_are =
      ap (λ m. flat_map (λ i. window_records slots j (end_of xs j m) (leave_slot xs j) (window_by j ran on held (end_of xs j m) i))
      (range_with_len 1 (min (max (end_of xs j m * j.weight.cost / j.weight.period + 1) (length ran)) m - 0))) of_slots
      ∙ ap (λ m. flat_map line_by (range_with_len 1 m)) (let z : count_of - 0 ≡ count_of = omega arith in z)
      ∙ enough line_by 1 count_of n (min-le_right (max (end_of xs j n * j.weight.cost / j.weight.period + 1) (length ran)) n) none_behind
      ∙ flat_map_agree line_by (λ i. window_records slots j (end_of xs j n) (leave_slot xs j) (window_of (run_of s n) on xs j i)) 1 n
      (λ i some. ap (window_records slots j (end_of xs j n) (leave_slot xs j)) (window_is s n scenario long xs j ran on held can of_ran refl i some))
      ∙ ap (λ m. flat_map (λ i. window_records slots j (end_of xs j m) (leave_slot xs j) (window_of (run_of s n) on xs j i)) (range_with_len 1 m)) (sym long)

-- a task's own events are enough
own_records : (slots : Slots) (r : List Slot) (on : List ℕ) (xs : List Numbered) (j : Joined) →
    records_of_task slots r on (events_of_task j.task xs) j ≡ records_of_task slots r on xs j
own_records slots r on xs j =
    let own = events_of_task j.task xs in
    let leave : leave_in own j ≡ leave_in xs j = find_own xs j.task in
    let shift : shift_of r own j ≡ shift_of r xs j = shift_own r xs j in
    let leaves : leaves_after own j ≡ leaves_after xs j = leaves_own xs j in
    let end : Option Numbered → ℕ = λ o. option_map_or (λ x. min (slot_of x.event) (length r)) o (length r) in
    λ k. let window : ℕ → Window = λ i. record {
      sub = i;
      release = release_of j.weight i + shift k i;
      deadline = deadline_of j.weight i + shift k i;
      bit = bit_of j.weight i;
      group = cond (is_heavy j.weight) (group_of j.weight i + shift k i) 0;
      late = nat_le (deadline_of j.weight i + shift k i) (length r) && leaves k (deadline_of j.weight i + shift k i)
          && option_map_or (λ t. nat_le (deadline_of j.weight i + shift k i) t) (ran_in r j i) true;
      ran = quantum_of r on j i;
    } in
    flat_map (λ i. window_records slots j (end (leave k)) (option_map (λ x. slot_of x.event) (leave k)) (window i)) (range_with_len 1 (length r))

-- a step over the admitted tasks, by number, of which those of a list are taken
module _ (s : Plan) (n : ℕ) (ledger : Ledger) (known : IsLedger s n ledger) (tasks : List Joined)
    (of_tasks : tasks ≡ by_task (filter_map (join_of ledger.settings.base) ledger.events.items)) (rows : List (List (Option Pick)))
    (ranges : List TaskRange) (titles : Titles) (slots : Slots) (of_slots : slots.now ≡ n) where
  abbrev records : Joined → List (List (List ℕ))
  records j = with_name titles j.task (records_of_task slots (run_of s n) (processors_in rows j.task) ledger.events.items j)

  abbrev kept : NamedTold → List (List (List ℕ))
  kept x = named_behind_sub x 0

  module _ (k : ℕ) (j : Joined) (ran on : List ℕ) (diary : List Numbered) (within : k < length tasks) (is : j ≡ get_or tasks k j)
      (of_ran : ran ≡ noted_of ledger.quanta j.task) (of_diary : diary ≡ noted_of ledger.diaries j.task) (of_on : on ≡ processors_in rows j.task) where
    can_at_now : CanTally j ran diary ledger.now
    can_at_now = figures_can s n ledger known tasks of_tasks k j ran diary within is of_ran of_diary

    pub can_tally : CanTally j ran diary slots.now
    can_tally = subst (λ m. CanTally j ran diary m) (known.now ∙ sym of_slots) can_at_now

    told_is_its : records_behind_sub (told_by j ran on diary slots) 0
        ≡ records_of_task slots (run_of s n) (processors_in rows j.task) ledger.events.items j
    told_is_its =
        let at = sorted_at s n ledger known tasks of_tasks k j within is in
        records_are s n known.scenario known.slots slots of_slots diary j ran on (subst (λ m. CanTally j ran diary m) known.now can_at_now)
        (task_ran s n ledger known j at ran of_ran)
        ∙ ap₂ (λ on xs. records_of_task slots (run_of s n) on xs j) of_on (task_diary s n ledger known j at diary of_diary)
        ∙ own_records slots (run_of s n) (processors_in rows j.task) ledger.events.items j

    one_is : (windows : Told) (sheet : NamedTold) → windows ≡ told_by j ran on diary slots → sheet ≡ record { told = windows; titles = titles } → kept sheet ≡ records j
    one_is windows sheet told_is sheet_is =
        ap kept (sheet_is ∙ ap (λ t. record { told = t; titles = titles }) told_is) ∙ ap (with_name titles j.task) told_is_its

    pub sheet_added : (windows : Told) (sheet : NamedTold) (before after : List NamedTold) → windows ≡ told_by j ran on diary slots
        → sheet ≡ record { told = windows; titles = titles } → is_listed ranges j.task ≡ true → after ≡ before ++ sheet ∷ [] →
        flat_map (λ x. named_behind_sub x 0) before ≡ flat_map records (filter (λ j. is_listed ranges j.task) (take k tasks)) →
        flat_map (λ x. named_behind_sub x 0) after ≡ flat_map records (filter (λ j. is_listed ranges j.task) (take (k + 1) tasks))
    sheet_added windows sheet before after told_is sheet_is has push so_far =
        one_taken (λ (j : Joined). j.task) records kept ranges tasks k j within is has sheet before after (one_is windows sheet told_is sheet_is) push so_far

  pub sheet_left : (k : ℕ) (j : Joined) (before after : List NamedTold) → k < length tasks → j ≡ get_or tasks k j → is_listed ranges j.task ≡ false →
      after ≡ before →
      flat_map (λ x. named_behind_sub x 0) before ≡ flat_map records (filter (λ j. is_listed ranges j.task) (take k tasks)) →
      flat_map (λ x. named_behind_sub x 0) after ≡ flat_map records (filter (λ j. is_listed ranges j.task) (take (k + 1) tasks))
  sheet_left k j before after within is has same so_far =
      one_left (λ (j : Joined). j.task) records kept ranges tasks k j within is has before after same so_far

  pub sheets_all : (k : ℕ) (sheets : List NamedTold) → length tasks ≤ k →
      flat_map (λ x. named_behind_sub x 0) sheets ≡ flat_map records (filter (λ j. is_listed ranges j.task) (take k tasks)) →
      flat_map (λ x. named_behind_sub x 0) sheets ≡ windows_records s (run_of s n) rows ranges titles slots
  sheets_all k sheets over so_far =
      let listed : Joined → Bool = λ j. is_listed ranges j.task in
      let events = known.events ∙ ap (events_in_force s (run_of s n)) (sym known.slots) in
      so_far
      ∙ ap (λ js. flat_map records (filter listed js)) (take_all k tasks over ∙ of_tasks)
      ∙ ap₂ (λ (xs : List Numbered) base. flat_map (λ j. with_name titles j.task (records_of_task slots (run_of s n) (processors_in rows j.task) xs j))
      (filter listed (by_task (filter_map (join_of base) xs))))
      events (ap (λ z. z.base) known.settings)
