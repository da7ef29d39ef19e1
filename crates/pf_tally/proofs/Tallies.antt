-- What a task's tally adds up to.
use Rattle.std.proofs.Common.{◌≡◌, ◌≢◌, ℕ, ◌+◌, ◌-◌, ◌*◌, ◌^◌, ◌<◌, ◌≤◌, Bool, true, false, not, ◌==◌, nat_lt, cond, List, [], ◌∷◌, length, filter, filter_map, count_by, All, AllPairs, IsPermutation, sym, ap, ap₂, ◌∙◌, subst, arith}
use Rattle.std.specs.Ordering.{nat_cmp, is_lt}
use Rattle.std.specs.declared.cmp.Ordering.TheVariants.{Equal}
use Rattle.std.specs.Cmp.{nat_cmp_total}
use Rattle.std.specs.List.Sorted.{IsSortedBy}
use Rattle.std.proofs.lemmas.Cmp.{on_total}
use Rattle.std.proofs.lemmas.Bool.Decides.{nat_tests}
use Rattle.std.proofs.lemmas.List.Elements.{All-nil, All-cons, All-append, All-head, All-tail}
use Rattle.std.proofs.lemmas.List.Sums.{count_by-le-length}
use Rattle.pf_scenario.specs.Edit.{join_alike}
use Rattle.pf_scenario.specs.declared.event.Event.{Event}
use Rattle.pf_scenario.specs.declared.event.Event.TheVariants.{Join, Leave, Delay, Limit}
use Rattle.pf_scenario.specs.declared.event.Numbered.{Numbered}
use Rattle.std.proofs.lemmas.List.{take_all}
use Rattle.pf_run.specs.Record.{Slot, runs, done}
use Rattle.std.specs.Prelude.{pos, ◌-ℤ◌}
use Rattle.pf_scenario.specs.declared.limits.TheConstants.{LONGEST_DELAY}
use Rattle.pf_run.specs.Inside.{Joined, join_of, has_left, inside}
use Rattle.pf_tally.specs.declared.lag.Lag.{Lag}
use Rattle.pf_run.proofs.Joins.{inside_differ}
use Rattle.pf_tally.specs.Clock.{clock_of}
use Rattle.pf_tally.specs.Lags.{by_task, lag_of}
use Rattle.pf_tally.specs.Quanta.{slots_of}
use Rattle.pf_tally.specs.Held.{delay_from, next_in, held_by, held_from, IsSmall, CanTally, stopped_below}
use Rattle.pf_tally.specs.declared.held.Held.{Held}
use Rattle.pf_tally.proofs.Chains.{clock_is}
use Rattle.pf_tally.proofs.Holding.{next_is}
use Rattle.pf_tally.proofs.Places.{length_places}
use Rattle.pf_tally.proofs.Sorts.{one_sorted}

-- the delays of a task are small
module _ (next : ℕ → ℕ) (j : Joined) (some : (u : ℕ) → 1 ≤ next u) (within : (u : ℕ) → next u ≤ 2 ^ 24) where
  small_one : (shift : ℕ) (x : Event) → shift < 2 ^ 40 → delay_from j x ≤ LONGEST_DELAY → All IsSmall (held_by next j shift x)
  small_one shift (Delay slot task by) room short = one_or_none (task == j.task) short
    where
      one_or_none : (b : Bool) → cond b by 0 ≤ LONGEST_DELAY → All IsSmall (cond b (let held : Held = record { sub = next slot; shift = shift; by = by } in held ∷ []) [])
      one_or_none true short = let held : Held = record { sub = next slot; shift = shift; by = by } in
          All-cons IsSmall held [] (record { some = some slot; sub = within slot; shift = room; by = short }) (All-nil IsSmall)
      one_or_none false short = All-nil IsSmall
  small_one shift (Join slot task cost period early) room short = All-nil IsSmall
  small_one shift (Leave slot task) room short = All-nil IsSmall
  small_one shift (Limit slot count) room short = All-nil IsSmall

  small_held : (shift : ℕ) (xs : List Numbered) → shift + length xs * LONGEST_DELAY < 2 ^ 40 → All (λ x. delay_from j x.event ≤ LONGEST_DELAY) xs → All IsSmall (held_from next j shift xs)
  small_held shift [] room short = All-nil IsSmall
  small_held shift (x ∷ xs) room short =
      let here : delay_from j x.event ≤ LONGEST_DELAY = All-head (λ x. delay_from j x.event ≤ LONGEST_DELAY) x xs short in
      All-append IsSmall (held_by next j shift x.event) (held_from next j (shift + delay_from j x.event) xs)
      (small_one shift x.event (omega arith) here)
      (small_held (shift + delay_from j x.event) xs (omega arith) (All-tail (λ x. delay_from j x.event ≤ LONGEST_DELAY) x xs short))

pub all_small : (j : Joined) (ran : List ℕ) (xs : List Numbered) (n : ℕ) → CanTally j ran xs n → All IsSmall (held_from (next_in ran) j j.slot xs)
all_small j ran xs n can =
    small_held (next_in ran) j (λ u. omega arith)
    (λ u. omega (arith, count_by-le-length (λ q. nat_lt q u) ran, can.ran_within, can.within))
    j.slot xs (omega (arith, can.delays.joined, can.delays.few)) can.delays.short

-- the clock, from its slots and its stops
pub clock_from : (j : Joined) (ran : List ℕ) (xs : List Numbered) (n : ℕ) (r : List Slot) → CanTally j ran xs n → slots_of r j.task ≡ ran →
    clock_of r xs j n + stopped_below n j.weight (held_from (next_in ran) j j.slot xs) ≡ n - j.slot
clock_from j ran xs n r can is =
    ap (λ next. clock_of r xs j n + stopped_below n j.weight (held_from next j j.slot xs)) (next_is r j ran is)
    ∙ clock_is r j xs n can.share can.rise can.joined

pub received_is : (r : List Slot) (task : ℕ) (ran : List ℕ) → slots_of r task ≡ ran → length ran ≡ done r task (length r)
unfolding done
received_is r task ran is =
    ap length (sym is) ∙ length_places (runs task) 0 r ∙ sym (ap (count_by (runs task)) (take_all (length r) r (omega arith)))

-- the tasks by number
pub not_tied : (a b : ℕ) → a ≢ b → nat_cmp a b ≢ Equal
not_tied a b differ tie = differ (equal_from_cmp a b tie)
  where
    equal_from_cmp : (a b : ℕ) → nat_cmp a b ≡ Equal → a ≡ b
    equal_from_cmp a b h = grind (arith, nat_tests)

pub tasks_sorted : (base : ℕ) (xs : List Numbered) (js : List Joined) → AllPairs (λ x y. join_alike x.event y.event ≡ false) xs →
    IsPermutation (inside base xs) js → IsSortedBy (λ x y. is_lt (nat_cmp x.task y.task)) js → js ≡ by_task (inside base xs)
tasks_sorted base xs js once same up =
    let differ = inside_differ base xs once in
    one_sorted (on_total (λ (j : Joined). j.task) nat_cmp_total) (inside base xs) js
    (λ i j d before within. not_tied _ _ (differ i j d before within)) same up

pub tasks_from_sort : (base : ℕ) (xs : List Numbered) (joined found stay js : List Joined) → AllPairs (λ x y. join_alike x.event y.event ≡ false) xs →
    joined ≡ filter_map (join_of base) xs → found ≡ joined → stay ≡ filter (λ j. not (has_left xs j.task)) found →
    IsPermutation stay js → IsSortedBy (λ x y. is_lt (nat_cmp x.task y.task)) js → js ≡ by_task (inside base xs)
unfolding inside
tasks_from_sort base xs joined found stay js once of_joined of_found of_stay same up =
    let e : stay ≡ inside base xs = of_stay ∙ ap (filter (λ j. not (has_left xs j.task))) (of_found ∙ of_joined) in
    let P : List Joined → Type 0 = λ ks. IsPermutation ks js in
    tasks_sorted base xs js once (subst P e same) up

-- what a task's lag is
pub lag_is : (r : List Slot) (xs : List Numbered) (j : Joined) (n clock received : ℕ) (lag : Lag) → length r ≡ n → clock_of r xs j n ≡ clock → done r j.task n ≡ received →
    lag ≡ record { task = j.task; cost = j.weight.cost; period = j.weight.period; received = received; scaled = pos (j.weight.cost * clock) -ℤ pos (j.weight.period * received) } →
    lag ≡ lag_of r xs j
lag_is r xs j n clock received lag long of_clock of_received is =
    is
    ∙ ap₂ (λ clock received. let lag : Lag = record { task = j.task; cost = j.weight.cost; period = j.weight.period; received = received; scaled = pos (j.weight.cost * clock) -ℤ pos (j.weight.period * received) } in lag)
    (sym of_clock ∙ ap (clock_of r xs j) (sym long)) (sym of_received ∙ ap (done r j.task) (sym long))

-- Use: the lag of a task, of the clock and the quanta that were counted.
pub lag_counted : (j : Joined) (ran : List ℕ) (xs : List Numbered) (n : ℕ) (held : List Held) (clock : ℕ) (lag : Lag) → CanTally j ran xs n →
    held ≡ held_from (next_in ran) j j.slot xs → clock + stopped_below n j.weight held ≡ n - j.slot →
    lag ≡ record { task = j.task; cost = j.weight.cost; period = j.weight.period; received = length ran; scaled = pos (j.weight.cost * clock) -ℤ pos (j.weight.period * length ran) } →
    (r : List Slot) → length r ≡ n → slots_of r j.task ≡ ran → lag ≡ lag_of r xs j
lag_counted j ran xs n held clock lag can of_held of_clock of_lag r long of_ran =
    lag_is r xs j n clock (length ran) lag long
    (omega (arith, clock_from j ran xs n r can of_ran, of_clock, ap (stopped_below n j.weight) of_held))
    (sym (received_is r j.task ran of_ran ∙ ap (done r j.task) long))
    of_lag
