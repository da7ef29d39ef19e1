-- Periods that are rounded down to the same divisor, and the load of tasks by these.
use Rattle.std.proofs.Common.{◌≡◌, ℕ, zero, suc, ◌+◌, ◌-◌, ◌*◌, ◌/◌, ◌<◌, ◌≤◌, inl, inr, List, length, take, get_or, refl, sym, ◌∙◌, ap, subst, arith}
use Rattle.std.specs.Prelude.{Option, None, Some, MatchOption, All, sum_by}
use Rattle.std.specs.List.{AllWithin}
use Rattle.std.specs.List.Sorted.{IsPermutation, IsNonDecreasingBy}
use Rattle.std.proofs.lemmas.Bool.{cases_lt}
use Rattle.std.proofs.lemmas.List.{get_or_default, get_or-take, length-take-le}
use Rattle.std.proofs.lemmas.List.Sums.{sum_by_more}
use Rattle.std.proofs.lemmas.List.Sorted.{All-permutation, IsPermutation-sym, sum_by-IsPermutation}
use Rattle.pf_weight.specs.declared.base.TheConstants.{LARGEST_BASE}
use Rattle.pf_convert.specs.declared.divided.Divided.{Divided}
use Rattle.pf_convert.specs.declared.loaded.Loaded.{Loaded}
use Rattle.pf_convert.specs.declared.slotted.Slotted.{Slotted}
use Rattle.pf_convert.specs.declared.stretch.Stretch.{Stretch}
use Rattle.pf_convert.specs.declared.total.Total.{Total}
use Rattle.pf_convert.specs.Slots.{IsSlotted}
use Rattle.pf_convert.specs.Smooth.{IsDivided}
use Rattle.pf_convert.specs.Totals.{AreTotals}
use Rattle.pf_convert.specs.Rounding.{rounded, Holds, load_over, IsNoWorse, IsBestBase, HasNoBase}
use Rattle.pf_convert.specs.Stretches.{IsStretch}
use Rattle.pf_convert.proofs.Dividing.{IsGreatest, rounded_is, last_is_rounded}
use Rattle.pf_convert.proofs.Rounding.{units_over, IsLoadSoFar, task_loaded}

-- what `last_within` and `next_divisor` tell makes a stretch, told of the divisors as these were read
pub stretch_is : (d : Divided) (ds es : List ℕ) (i divisor end : ℕ) → IsDivided d → ds ≡ d.divisors.items → es ≡ d.divisors.items → i < length ds
    → divisor ≡ get_or d.divisors.items i divisor → (i + 1 < length es → end ≡ get_or es (i + 1) 0)
    → IsStretch d (record { divisor = divisor; end = end; share = d.base / divisor; index = i })
stretch_is d ds es i divisor end is read again lt at next =
    let there : i < length d.divisors.items = subst (λ xs. i < length xs) read lt in
    let same : get_or d.divisors.items i 0 ≡ divisor = get_or_default d.divisors.items i 0 divisor there ∙ sym at in
    let after : i + 1 < length d.divisors.items → end ≡ get_or d.divisors.items (i + 1) 0 =
    subst (λ xs. i + 1 < length xs → end ≡ get_or xs (i + 1) 0) again next in
    record {
      there = there;
      at = same;
      some = subst (λ v. 1 ≤ v) same (is.divisors.some i 0 there);
      share = refl;
      rounds = λ p ge below.
          last_is_rounded d.base p i d.divisors.items is.divisors is.rising there (omega (arith, same, ge)) (λ more. omega (arith, after more, below)) ∙ same;
    }

pub divisor_is : (d : Divided) (ds : List ℕ) (i divisor period : ℕ) → IsDivided d → ds ≡ d.divisors.items → i < length ds → get_or ds i 0 ≤ period
    → (i + 1 < length ds → period < get_or ds (i + 1) 0) → divisor ≡ get_or d.divisors.items i divisor → divisor ≡ rounded d.base period
divisor_is d ds i divisor period is read lt within last at =
    let there : i < length d.divisors.items = subst (λ xs. i < length xs) read lt in
    at ∙ get_or_default d.divisors.items i divisor 0 there
    ∙ sym (last_is_rounded d.base period i d.divisors.items is.divisors is.rising there (subst (λ xs. get_or xs i 0 ≤ period) read within)
    (subst (λ xs. i + 1 < length xs → period < get_or xs (i + 1) 0) read last))

-- rounding down keeps the order
rounded_rises : (n p q : ℕ) → 1 ≤ p → p ≤ q → rounded n p ≤ rounded n q
rounded_rises n p q some le =
    let low : IsGreatest n p (rounded n p) = rounded_is n p some in
    let high : IsGreatest n q (rounded n q) = rounded_is n q (omega (arith, some, le)) in
    high.greatest (rounded n p) low.some (omega (arith, low.within, le)) low.divides

period_some : (tasks : List Slotted) (i : ℕ) (e : Slotted) → i < length tasks → All IsSlotted tasks → 1 ≤ (get_or tasks i e).period
period_some tasks i e lt slotted =
    let is : IsSlotted (get_or tasks i e) = slotted i e lt in
    omega (arith, is.some, is.within)

-- tasks with periods from that of one on and below the end of its stretch are rounded down as that one is
pub rounds_alike : (d : Divided) (s : Stretch) (tasks : List Slotted) (i j : ℕ) (e : Slotted) → i < length tasks → j ≤ length tasks → All IsSlotted tasks
    → IsNonDecreasingBy (λ t. t.period) tasks → IsStretch d s → s.divisor ≡ rounded d.base (get_or tasks i e).period
    → AllWithin (λ t. t.period < s.end) tasks (i + 1) j → AllWithin (λ t. rounded d.base t.period ≡ s.divisor) tasks i j
rounds_alike d s tasks i j e lt most slotted rising is first below = λ k f from to.
    let same : s.divisor ≡ rounded d.base (get_or tasks i f).period = first ∙ ap (λ t. rounded d.base t.period) (get_or_default tasks i e f lt) in
    elim (cases_lt i k) [
      | inl after ↦
          (let low : rounded d.base (get_or tasks i f).period ≤ (get_or tasks i f).period =
          (rounded_is d.base (get_or tasks i f).period (period_some tasks i f lt slotted)).within in
          let up : (get_or tasks i f).period ≤ (get_or tasks k f).period = rising i k f from (omega (arith, to, most)) in
          is.rounds (get_or tasks k f).period (omega (arith, same, low, up)) (below k f (omega (arith, after)) to))
      | inr here ↦ (let at : i ≡ k = omega (arith, from, here) in subst (λ v. rounded d.base (get_or tasks v f).period ≡ s.divisor) at (sym same))
    ]

-- where the period of one is below the end, so are those of all before it
pub up_to_one : (tasks : List Slotted) (from i end : ℕ) (e : Slotted) → i < length tasks → IsNonDecreasingBy (λ t. t.period) tasks
    → (get_or tasks i e).period < end → AllWithin (λ t. t.period < end) tasks from (i + 1)
up_to_one tasks from i end e lt rising below = λ k d ge to.
    let at : (get_or tasks i d).period ≡ (get_or tasks i e).period = ap (λ t. t.period) (get_or_default tasks i d e lt) in
    omega (arith, rising k i d (omega (arith, to)) lt, at, below)

-- where the period of one is not below the end, no later one is
pub one_and_on : (tasks : List Slotted) (i end : ℕ) (e : Slotted) → IsNonDecreasingBy (λ t. t.period) tasks → end ≤ (get_or tasks i e).period
    → AllWithin (λ t. end ≤ t.period) tasks i (length tasks)
one_and_on tasks i end e rising above = λ k d ge to.
    let at : (get_or tasks i d).period ≡ (get_or tasks i e).period = ap (λ t. t.period) (get_or_default tasks i d e (omega (arith, ge, to))) in
    omega (arith, rising i k d ge to, at, above)

-- a difference, times the share
told_apart : (after before a b share : ℕ) → a ≤ b → after + a * share ≡ before + b * share → after ≡ before + (b - a) * share
told_apart after before a b share le e =
    let parts : b * share ≡ (a + (b - a)) * share = ap (λ v. v * share) (omega (arith, le)) in
    omega (arith, e, parts)

-- what the first k tasks cost
abbrev cost_of : List Slotted → ℕ → ℕ
cost_of tasks k = sum_by (λ t. t.cost) (take k tasks)

-- the load of the first j tasks, in place of that of the first i, where the share of each between is the same
record IsOnward (base : ℕ) (tasks : List Slotted) (i j before share after : ℕ) : Type 0 where
  loaded : IsLoadSoFar base tasks j after
  sum : after + cost_of tasks i * share ≡ before + cost_of tasks j * share
  more : cost_of tasks i ≤ cost_of tasks j

onward : (base divisor : ℕ) (tasks : List Slotted) (i m l : ℕ) (e : Slotted) → base ≤ LARGEST_BASE → i + m ≤ length tasks
    → AllWithin (λ t. rounded base t.period ≡ divisor) tasks i (i + m) → AllWithin (λ t. t.cost ≤ divisor) tasks i (i + m) → IsLoadSoFar base tasks i l
    → (after : ℕ) × IsOnward base tasks i (i + m) l (base / divisor) after
onward base divisor tasks i zero l e within most rounds fits h =
    let at : i ≡ i + 0 = omega arith in
    (l, subst (λ j. IsOnward base tasks i j l (base / divisor) l) at (record { loaded = h; sum = refl; more = omega arith }))
onward base divisor tasks i (suc m) l e within most rounds fits h =
    let prior =
    onward base divisor tasks i m l e within (omega (arith, most)) (λ k f from to. rounds k f from (omega (arith, to)))
    (λ k f from to. fits k f from (omega (arith, to))) h in
    let lt : i + m < length tasks = omega (arith, most) in
    let t = get_or tasks (i + m) e in
    let share = base / divisor in
    let sums : cost_of tasks (i + m + 1) ≡ cost_of tasks (i + m) + t.cost = sum_by_more (λ t. t.cost) tasks (i + m) e lt in
    let at : i + m + 1 ≡ i + suc m = omega arith in (
      prior.0 + t.cost * share,
      subst (λ j. IsOnward base tasks i j l share (prior.0 + t.cost * share)) at
          (record {
            loaded =
                task_loaded base tasks (i + m) prior.0 divisor e lt within prior.1.loaded (sym (rounds (i + m) e (omega arith) (omega arith)))
                (fits (i + m) e (omega arith) (omega arith));
            sum = omega (arith, prior.1.sum, ap (λ v. v * share) sums);
            more = omega (arith, prior.1.more, sums);
          }),
    )

onward_to : (base divisor : ℕ) (tasks : List Slotted) (i j l : ℕ) (e : Slotted) → base ≤ LARGEST_BASE → i ≤ j → j ≤ length tasks
    → AllWithin (λ t. rounded base t.period ≡ divisor) tasks i j → AllWithin (λ t. t.cost ≤ divisor) tasks 0 j → IsLoadSoFar base tasks i l
    → (after : ℕ) × IsOnward base tasks i j l (base / divisor) after
onward_to base divisor tasks i j l e within le most rounds fits h =
    let at : i + (j - i) ≡ j = omega (arith, le) in
    subst (λ v. (after : ℕ) × IsOnward base tasks i v l (base / divisor) after) at
    (onward base divisor tasks i (j - i) l e within (omega (arith, most, le)) (λ k f from to. rounds k f from (omega (arith, to, at)))
    (λ k f from to. fits k f (omega arith) (omega (arith, to, at))) h)

onward_told : (base : ℕ) (tasks : List Slotted) (i j l share after : ℕ) → IsOnward base tasks i j l share after
    → IsLoadSoFar base tasks j (l + (cost_of tasks j - cost_of tasks i) * share)
onward_told base tasks i j l share after h =
    subst (IsLoadSoFar base tasks j) (told_apart after l (cost_of tasks i) (cost_of tasks j) share h.more h.sum) h.loaded

-- no cost of the first j tasks is above what none of their total is
fits_all : (tasks : List Slotted) (totals : List Total) (j m : ℕ) (y : Total) → AreTotals tasks totals → j ≤ length tasks → (get_or totals j y).greatest ≤ m
    → AllWithin (λ t. t.cost ≤ m) tasks 0 j
fits_all tasks totals j m y are most le = λ k e from to.
    subst (λ t. t.cost ≤ m) (get_or-take j tasks k e to)
    (((are.at j y most).greatest m).1 le k e (omega (arith, to, length-take-le j tasks most)))

-- the loop goes on from task i to task j
pub stretch_loaded : (d : Divided) (tasks : List Slotted) (totals : List Total) (i j l share : ℕ) (s : Stretch) (e : Slotted) (x y : Total) → i < length tasks → i < j
    → j ≤ length tasks → All IsSlotted tasks → IsNonDecreasingBy (λ t. t.period) tasks → AreTotals tasks totals → IsDivided d → IsStretch d s
    → s.divisor ≡ rounded d.base (get_or tasks i e).period → AllWithin (λ t. t.period < s.end) tasks (i + 1) j
    → (get_or totals j y).greatest ≤ s.divisor → share ≡ s.share → IsLoadSoFar d.base tasks i l
    → IsLoadSoFar d.base tasks j (l + ((get_or totals j y).cost - (get_or totals i x).cost) * share)
    × ((get_or totals i x).cost ≤ (get_or totals j y).cost)
stretch_loaded d tasks totals i j l share s e x y lt le most slotted rising are is stretch first below fits read h =
    let rounds : AllWithin (λ t. rounded d.base t.period ≡ s.divisor) tasks i j = rounds_alike d s tasks i j e lt most slotted rising stretch first below in
    let all : AllWithin (λ t. t.cost ≤ s.divisor) tasks 0 j = fits_all tasks totals j s.divisor y are most fits in
    let on : (after : ℕ) × IsOnward d.base tasks i j l (d.base / s.divisor) after =
    onward_to d.base s.divisor tasks i j l e is.within (omega (arith, le)) most rounds all h in
    let low : (get_or totals i x).cost ≡ cost_of tasks i = (are.at i x (omega (arith, le, most))).cost in
    let high : (get_or totals j y).cost ≡ cost_of tasks j = (are.at j y most).cost in
    let same : (cost_of tasks j - cost_of tasks i) * (d.base / s.divisor) ≡ ((get_or totals j y).cost - (get_or totals i x).cost) * share =
    ap (λ v. (cost_of tasks j - cost_of tasks i) * v) (sym (read ∙ stretch.share)) ∙ ap (λ v. (v - cost_of tasks i) * share) (sym high)
    ∙ ap (λ v. ((get_or totals j y).cost - v) * share) (sym low) in (
      subst (λ v. IsLoadSoFar d.base tasks j (l + v)) same (onward_told d.base tasks i j l (d.base / s.divisor) on.0 on.1),
      omega (arith, low, high, on.1.more),
    )

-- the base does not hold the tasks where one of the first j costs more than the last of these is rounded down to
pub too_costly : (d : Divided) (tasks : List Slotted) (totals : List Total) (i j : ℕ) (s : Stretch) (e : Slotted) (y : Total) → i < length tasks → i < j
    → j ≤ length tasks → All IsSlotted tasks → IsNonDecreasingBy (λ t. t.period) tasks → AreTotals tasks totals → IsStretch d s
    → s.divisor ≡ rounded d.base (get_or tasks i e).period → AllWithin (λ t. t.period < s.end) tasks (i + 1) j
    → s.divisor < (get_or totals j y).greatest → Holds d.base tasks → ⊥
too_costly d tasks totals i j s x y at lt most slotted rising are stretch first below above holds =
    let rounds : AllWithin (λ t. rounded d.base t.period ≡ s.divisor) tasks i j = rounds_alike d s tasks i j x at most slotted rising stretch first below in
    let long : length (take j tasks) ≡ j = length-take-le j tasks most in
    let all : All (λ t. t.cost ≤ s.divisor) (take j tasks) =
    λ k e to.
    (let there : k < length tasks = omega (arith, to, long, most) in
    let fits : (get_or tasks k e).cost ≤ rounded d.base (get_or tasks k e).period = holds k e there in
    let up : rounded d.base (get_or tasks k e).period ≤ rounded d.base (get_or tasks (j - 1) e).period =
    rounded_rises d.base (get_or tasks k e).period (get_or tasks (j - 1) e).period (period_some tasks k e there slotted)
    (rising k (j - 1) e (omega (arith, to, long)) (omega (arith, lt, most))) in
    let last : rounded d.base (get_or tasks (j - 1) e).period ≡ s.divisor = rounds (j - 1) e (omega (arith, lt)) (omega (arith, lt)) in
    subst (λ t. t.cost ≤ s.divisor) (sym (get_or-take j tasks k e (omega (arith, to, long)))) (omega (arith, fits, up, last))) in
    omega (arith, above, ((are.at j y most).greatest s.divisor).0 all)

-- the order of the tasks changes neither which bases hold them nor what they ask for
holds_moved : (n : ℕ) (tasks moved : List Slotted) → IsPermutation tasks moved → Holds n tasks → Holds n moved
holds_moved n tasks moved h all = All-permutation (λ t. t.cost ≤ rounded n t.period) tasks moved h all

load_moved : (n : ℕ) (tasks moved : List Slotted) → IsPermutation tasks moved → load_over n moved ≡ load_over n tasks
load_moved n tasks moved h = sum_by-IsPermutation (units_over n) tasks moved h

pub best_of_moved : (tasks moved : List Slotted) (best : Option Loaded) → IsPermutation tasks moved
    → MatchOption best (HasNoBase moved) (IsBestBase moved) → MatchOption best (HasNoBase tasks) (IsBestBase tasks)
best_of_moved tasks moved None h none = λ n within smooth holds. none n within smooth (holds_moved n tasks moved h holds)
best_of_moved tasks moved (Some b) h is = record {
  smooth = is.smooth;
  within = is.within;
  holds = holds_moved b.base moved tasks (IsPermutation-sym tasks moved h) is.holds;
  load = is.load ∙ load_moved b.base tasks moved h;
  least = λ n within smooth holds.
      subst (λ l. IsNoWorse b (record { base = n; load = l })) (load_moved n tasks moved h) (is.least n within smooth (holds_moved n tasks moved h holds));
}
