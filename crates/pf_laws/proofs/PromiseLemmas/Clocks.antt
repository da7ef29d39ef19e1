-- What a chain of delays does to a clock: before a subtask's shifted deadline the clock hasn't come to its deadline, and
-- after its shifted release it is past its release.
use Rattle.std.proofs.Common.{◌≡◌, ℕ, zero, suc, ◌+◌, ◌-◌, ◌*◌, ◌/◌, ◌<◌, ◌≤◌, nat_le, List, [], ◌∷◌, sum_by, refl, ap, ◌∙◌, ⊎_elim, arith}
use Rattle.std.proofs.Math.Nat.{lt_of_mul-lt-mul_right}
use Rattle.std.proofs.lemmas.Bool.{cases_lt, cond-true, cond-false, le-leb, lt-leb}
use Rattle.std.proofs.lemmas.List.Sums.{sum_by-cons}
use Rattle.pf_weight.specs.Share.{Share, IsShare}
use Rattle.pf_window.specs.Window.{release_of, deadline_of}
use Rattle.pf_window.proofs.Quotients.{floor_is, ceil_is}
use Rattle.pf_scenario.specs.declared.event.Numbered.{Numbered}
use Rattle.pf_run.specs.Record.{Slot}
use Rattle.pf_run.specs.Inside.{Joined, shift_of}
use Rattle.pf_tally.specs.Clock.{next_at, clock_of}
use Rattle.pf_tally.specs.Log.{RiseFrom}
use Rattle.pf_tally.specs.Held.{held_from, stop_of, part_of, stopped_below, AreSuccessive}
use Rattle.pf_tally.specs.Late.{hold_of}
use Rattle.pf_tally.specs.Misses.{due_of}
use Rattle.pf_tally.specs.declared.held.Held.{Held}
use Rattle.pf_tally.proofs.Windows.{releases_rise, deadline_late}
use Rattle.pf_tally.proofs.Delays.{held_chain, next_rises}
use Rattle.pf_tally.proofs.Chains.{all_counted, clock_is}

-- one time less
pub times_less : (i p : ℕ) → 1 ≤ i → i * p ≡ (i - 1) * p + p
times_less zero p some = absurd (omega (arith, some))
times_less (suc i) p some =
    let less : i ≡ suc i - 1 = omega arith in
    let whole : suc i * p ≡ i * p + p = grind arith in
    whole ∙ ap (λ n. n * p + p) less

-- windows are not empty, and later subtasks are released later
pub window_open : (w : Share) (i : ℕ) → IsShare w → 1 ≤ i → release_of w i < deadline_of w i
unfolding release_of deadline_of
window_open w i share some =
    let first = floor_is ((i - 1) * w.period) w.cost share.some in
    let last = ceil_is (i * w.period) w.cost share.some in
    let whole = times_less i w.period some in
    lt_of_mul-lt-mul_right w.cost (omega (arith, first.within, last.enough, whole, share.some, share.within))

pub releases_apart : (w : Share) (i k : ℕ) → IsShare w → 1 ≤ i → i < k → release_of w i < release_of w k
unfolding release_of
releases_apart w i k share some less =
    let first = floor_is ((i - 1) * w.period) w.cost share.some in
    let second = floor_is (i * w.period) w.cost share.some in
    let whole = times_less i w.period some in
    let next : (i - 1) * w.period / w.cost + 1 < i * w.period / w.cost + 1 = lt_of_mul-lt-mul_right w.cost (omega (arith, first.within, second.next, whole, share.within)) in
    let up : release_of w (i + 1) ≤ release_of w k = releases_rise w (i + 1) k share (omega (arith, less)) in
    let before : i + 1 - 1 ≡ i = omega arith in
    omega (arith, next, up, ap (λ n. n * w.period / w.cost) before)

-- a chain whose first subtask is above i holds it back by nothing
none_held : (i k a : ℕ) (hs : List Held) → AreSuccessive k a hs → i < k → sum_by (hold_of i) hs ≡ 0
none_held i k a [] chain above = refl
none_held i k a (h ∷ hs) chain above =
    let first : k ≤ h.sub = chain.0 in
    omega (
      arith,
      sum_by-cons (hold_of i) h hs,
      cond-false {A = ℕ} (nat_le h.sub i) h.by 0 (lt-leb h.sub i (omega (arith, first, above))),
      none_held i h.sub (a + h.by) hs chain.2 (omega (arith, first, above)),
    )

module _ (w : Share) (share : IsShare w) where
  -- a chain stops the clock only after the release of its first subtask
  stopped_after : (k a t : ℕ) (hs : List Held) → AreSuccessive k a hs → stopped_below t w hs ≤ t - (release_of w k + a)
  stopped_after k a t [] chain = omega arith
  stopped_after k a t (h ∷ hs) chain =
      let up : release_of w k ≤ release_of w h.sub = releases_rise w k h.sub share chain.0 in
      let same : h.shift ≡ a = chain.1 in
      let rest = stopped_after h.sub (a + h.by) t hs chain.2 in
      omega (arith, sum_by-cons (λ (g : Held). part_of t (stop_of w g)) h hs, up, same, rest)

  pub clock_below : (i k a t : ℕ) (hs : List Held) → AreSuccessive k a hs → 1 ≤ i →
      t < deadline_of w i + a + sum_by (hold_of i) hs → t - (a + stopped_below t w hs) < deadline_of w i
  clock_below i k a t [] chain some below = omega (arith, below, deadline_late w i share, some)
  clock_below i k a t (h ∷ hs) chain some below = ⊎_elim
      (λ (later : i < h.sub).
      let none = none_held i h.sub a (h ∷ hs) (omega arith, chain.1, chain.2) later in
      omega (arith, below, none, deadline_late w i share, some))
      (λ (counts : h.sub ≤ i).
      let same : h.shift ≡ a = chain.1 in
      let parts = sum_by-cons (λ (g : Held). part_of t (stop_of w g)) h hs in
      let held = cond-true {A = ℕ} (nat_le h.sub i) h.by 0 (le-leb h.sub i counts) in
      ⊎_elim
      (λ (within : t < release_of w h.sub + h.shift + h.by).
      omega (arith, within, parts, same, releases_rise w h.sub i share counts, window_open w i share some))
      (λ (over : release_of w h.sub + h.shift + h.by ≤ t).
      let rest = clock_below i h.sub (a + h.by) t hs chain.2 some (omega (arith, below, sum_by-cons (hold_of i) h hs, held)) in
      omega (arith, over, parts, same, rest))
      (cases_lt t (release_of w h.sub + h.shift + h.by)))
      (cases_lt i h.sub)

  pub clock_above : (i k a t early : ℕ) (hs : List Held) → AreSuccessive k a hs → 1 ≤ i →
      release_of w i + a + sum_by (hold_of i) hs < t + early → release_of w i + a + stopped_below t w hs < t + early
  clock_above i k a t early [] chain some past = past
  clock_above i k a t early (h ∷ hs) chain some past = ⊎_elim
      (λ (later : i < h.sub).
      let none = none_held i h.sub a (h ∷ hs) (omega arith, chain.1, chain.2) later in
      let most = stopped_after h.sub a t (h ∷ hs) (omega arith, chain.1, chain.2) in
      omega (arith, past, none, most, releases_apart w i h.sub share some later))
      (λ (counts : h.sub ≤ i).
      let same : h.shift ≡ a = chain.1 in
      let parts = sum_by-cons (λ (g : Held). part_of t (stop_of w g)) h hs in
      let held = cond-true {A = ℕ} (nat_le h.sub i) h.by 0 (le-leb h.sub i counts) in
      let rest = clock_above i h.sub (a + h.by) t early hs chain.2 some (omega (arith, past, sum_by-cons (hold_of i) h hs, held)) in
      omega (arith, parts, same, rest))
      (cases_lt i h.sub)

module _ (r : List Slot) (xs : List Numbered) (j : Joined) (share : IsShare j.weight) (rise : RiseFrom 0 xs) where
  abbrev held : List Held
  held = held_from (next_at r j) j j.slot xs

  chain : AreSuccessive (next_at r j 0) j.slot held
  chain = held_chain (next_at r j) (next_rises r j) j 0 j.slot xs rise

  pub shift_held : (i : ℕ) → shift_of r xs j i ≡ j.slot + sum_by (hold_of i) held
  unfolding shift_of
  shift_held i = omega (arith, all_counted r j j.slot i xs)

  -- Use: before its shifted deadline no subtask's deadline is reached by the clock.
  pub clock_before : (i t : ℕ) → 1 ≤ i → j.slot ≤ t → t < due_of r xs j i → clock_of r xs j t < deadline_of j.weight i
  clock_before i t some from below =
      let low = clock_below j.weight share i (next_at r j 0) j.slot t held chain some (omega (arith, below, shift_held i)) in
      omega (arith, low, clock_is r j xs t share rise from)

  -- Use: past its shifted release, or early, the clock is past a subtask's release, or as early.
  pub clock_past : (i t early : ℕ) → 1 ≤ i → j.slot ≤ t → release_of j.weight i + shift_of r xs j i < t + early →
      release_of j.weight i < clock_of r xs j t + early
  clock_past i t early some from past =
      let high = clock_above j.weight share i (next_at r j 0) j.slot t early held chain some (omega (arith, past, shift_held i)) in
      omega (arith, high, clock_is r j xs t share rise from)
