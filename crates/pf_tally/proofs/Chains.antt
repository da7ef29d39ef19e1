-- What a chain of delays adds up to: the shift of each subtask, and the clock.
use Rattle.std.proofs.Common.{◌≡◌, ℕ, zero, suc, ◌+◌, ◌-◌, ◌<◌, ◌≤◌, Bool, true, false, ◌&&◌, ◌||◌, ◌==◌, nat_lt, nat_le, not, cond, List, [], ◌∷◌, length, map, get_or, count_by, sum_by, All, ⊎_elim, refl, sym, ap, ap₂, ◌∙◌, subst, add_assoc, arith}
use Rattle.std.specs.List.{range_with_len}
use Rattle.std.specs.List.Sorted.{IsNonDecreasingBy}
use Rattle.std.proofs.lemmas.Bool.{cases_lt, cond-true, cond-false, lt-ltb, le-ltb, le-leb, lt-leb, or_from}
use Rattle.std.proofs.lemmas.List.Folds.{fold-map}
use Rattle.std.proofs.lemmas.List.Elements.{All-head, All-tail}
use Rattle.std.proofs.lemmas.List.Sums.{sum_by-cons, sum_by_push, sum_by-append}
use Rattle.pf_lemmas.proofs.Ranges.{range_more}
use Rattle.pf_weight.specs.Share.{Share, IsShare}
use Rattle.pf_window.specs.Window.{release_of}
use Rattle.pf_scenario.specs.declared.event.Event.{Event}
use Rattle.pf_scenario.specs.declared.event.Event.TheVariants.{Join, Leave, Delay, Limit}
use Rattle.pf_scenario.specs.declared.event.Numbered.{Numbered}
use Rattle.pf_run.specs.Record.{Slot}
use Rattle.pf_run.specs.Inside.{Joined, hold_back_of}
use Rattle.pf_tally.specs.Clock.{Stop, next_at, is_stopped, clock_of}
use Rattle.pf_tally.specs.Log.{RiseFrom}
use Rattle.pf_tally.specs.Held.{delay_from, next_in, held_by, held_from, stop_of, part_of, stopped_below, AreSuccessive}
use Rattle.pf_tally.specs.Late.{hold_of}
use Rattle.pf_tally.specs.declared.held.Held.{Held}
use Rattle.pf_tally.proofs.Windows.{releases_rise}
use Rattle.pf_tally.proofs.Delays.{stops_are, held_chain, next_rises, next_in_rises}

counted_by : (r : List Slot) (j : Joined) (shift i : ℕ) (x : Event) → hold_back_of r j.task i x ≡ sum_by (hold_of i) (held_by (next_at r j) j shift x)
counted_by r j shift i (Delay slot task by) = one_or_none (task == j.task) (next_at r j slot)
  where
    one_or_none : (b : Bool) (sub : ℕ) → cond (b && nat_le sub i) by 0 ≡ sum_by (hold_of i) (cond b (let held : Held = record { sub = sub; shift = shift; by = by } in held ∷ []) [])
    one_or_none true sub = omega arith
    one_or_none false sub = refl
counted_by r j shift i (Join slot task cost period early) = refl
counted_by r j shift i (Leave slot task) = refl
counted_by r j shift i (Limit slot count) = refl

pub all_counted : (r : List Slot) (j : Joined) (shift i : ℕ) (xs : List Numbered) →
    sum_by (λ x. hold_back_of r j.task i x.event) xs ≡ sum_by (hold_of i) (held_from (next_at r j) j shift xs)
all_counted r j shift i [] = refl
all_counted r j shift i (x ∷ xs) =
    sum_by-cons (λ x. hold_back_of r j.task i x.event) x xs
    ∙ ap₂ (λ a b. a + b) (counted_by r j shift i x.event) (all_counted r j (shift + delay_from j x.event) i xs)
    ∙ sym (sum_by-append (hold_of i) (held_by (next_at r j) j shift x.event) (held_from (next_at r j) j (shift + delay_from j x.event) xs))

-- the shift after the first k delays of a chain
abbrev pub shift_behind : ℕ → List Held → ℕ → ℕ
shift_behind shift hs zero = shift
shift_behind shift [] (suc k) = shift
shift_behind shift (h ∷ hs) (suc k) = shift_behind (h.shift + h.by) hs k

pub none_counted : (i : ℕ) (hs : List Held) → All (λ h. nat_le h.sub i ≡ false) hs → sum_by (hold_of i) hs ≡ 0
none_counted i [] none = refl
none_counted i (h ∷ hs) none =
    omega (
      arith,
      sum_by-cons (hold_of i) h hs,
      cond-false {A = ℕ} (nat_le h.sub i) h.by 0 (All-head (λ h. nat_le h.sub i ≡ false) h hs none),
      none_counted i hs (All-tail (λ h. nat_le h.sub i ≡ false) h hs none),
    )

-- where subtasks up to i are those of the first k delays
pub behind_is : (i k sub shift : ℕ) (hs : List Held) → AreSuccessive sub shift hs → k ≤ length hs →
    ((m : ℕ) (d : Held) → m < k → nat_le (get_or hs m d).sub i ≡ true) →
    ((m : ℕ) (d : Held) → k ≤ m → m < length hs → nat_le (get_or hs m d).sub i ≡ false) →
    shift_behind shift hs k ≡ shift + sum_by (hold_of i) hs
behind_is i zero sub shift hs chain within passes fails = omega (arith, none_counted i hs (λ m d below. fails m d (omega arith) below))
behind_is i (suc k) sub shift [] chain within passes fails = absurd (omega arith)
behind_is i (suc k) sub shift (h ∷ hs) chain within passes fails =
    let rest = behind_is i k h.sub (shift + h.by) hs chain.2 (omega arith) (λ m d below. passes (suc m) d (omega arith)) (λ m d above below. fails (suc m) d (omega arith) (omega arith)) in
    ap (λ n. shift_behind (n + h.by) hs k) chain.1
    ∙ rest
    ∙ add_assoc shift h.by (sum_by (hold_of i) hs)
    ∙ ap (λ n. shift + n) (sym (sum_by-cons (hold_of i) h hs ∙ ap (λ n. n + sum_by (hold_of i) hs) (cond-true {A = ℕ} (nat_le h.sub i) h.by 0 (passes 0 h (omega arith)))))

pub behind_last : (k shift : ℕ) (hs : List Held) (d : Held) → k < length hs → shift_behind shift hs (k + 1) ≡ (get_or hs k d).shift + (get_or hs k d).by
behind_last k shift [] d within = absurd (omega arith)
behind_last zero shift (h ∷ hs) d within = refl
behind_last (suc k) shift (h ∷ hs) d within = behind_step k shift h hs ∙ behind_last k (h.shift + h.by) hs d (omega arith)
  where
    behind_step : (k shift : ℕ) (h : Held) (hs : List Held) → shift_behind shift (h ∷ hs) (suc k + 1) ≡ shift_behind (h.shift + h.by) hs (k + 1)
    behind_step k shift h hs = ap (shift_behind shift (h ∷ hs)) (let z : suc k + 1 ≡ suc (k + 1) = omega arith in z)

-- stops that come one after another
abbrev pub StopsRise : ℕ → List Stop → Type 0
StopsRise from [] = Unit {0}
StopsRise from (t ∷ ss) = (from ≤ t.start) × (t.start ≤ t.end) × StopsRise t.end ss

pub chain_stops : (w : Share) (sub shift : ℕ) (hs : List Held) → IsShare w → AreSuccessive sub shift hs → StopsRise (release_of w sub + shift) (map (stop_of w) hs)
chain_stops w sub shift [] share chain = tt
chain_stops w sub shift (h ∷ hs) share chain =
    let up : release_of w sub ≤ release_of w h.sub = releases_rise w sub h.sub share chain.0 in
    let same : h.shift ≡ shift = chain.1 in
    let e : release_of w h.sub + (shift + h.by) ≡ release_of w h.sub + h.shift + h.by = omega arith in
    let P : ℕ → Type 0 = λ n. StopsRise n (map (stop_of w) hs) in
    (omega arith, omega arith, subst P e (chain_stops w h.sub (shift + h.by) hs share chain.2))

-- before its first stop no clock stands
before_stops : (from t : ℕ) (ss : List Stop) → StopsRise from ss → t < from → is_stopped ss t ≡ false
before_stops from t [] rise below = refl
before_stops from t (s ∷ ss) rise below =
    let first : from ≤ s.start = rise.0 in
    let second : s.start ≤ s.end = rise.1 in
    or_from _ _ (ap (λ b. b && nat_lt t s.end) (lt-leb s.start t (omega arith))) (before_stops s.end t ss rise.2 (omega arith))

part_more : (n : ℕ) (s : Stop) → s.start ≤ s.end → part_of (n + 1) s ≡ part_of n s + cond (nat_le s.start n && nat_lt n s.end) 1 0
part_more n s order = ⊎_elim
    (λ early. let no : nat_le s.start n ≡ false = lt-leb s.start n early in
    omega (arith, ap {B = ℕ} (λ b. cond (b && nat_lt n s.end) 1 0) no))
    (λ begun. ⊎_elim
    (λ inside. let yes : nat_le s.start n ≡ true = le-leb s.start n begun in
    let yes' : nat_lt n s.end ≡ true = lt-ltb n s.end inside in
    omega (arith, ap₂ {C = ℕ} (λ b c. cond (b && c) 1 0) yes yes'))
    (λ over. let yes : nat_le s.start n ≡ true = le-leb s.start n begun in
    let no : nat_lt n s.end ≡ false = le-ltb n s.end over in
    omega (arith, ap₂ {C = ℕ} (λ b c. cond (b && c) 1 0) yes no))
    (cases_lt n s.end))
    (cases_lt n s.start)

pub parts_more : (n from : ℕ) (ss : List Stop) → StopsRise from ss → sum_by (part_of (n + 1)) ss ≡ sum_by (part_of n) ss + cond (is_stopped ss n) 1 0
parts_more n from [] rise = refl
parts_more n from (s ∷ ss) rise =
    let rest = parts_more n s.end ss rise.2 in
    let one = part_more n s rise.1 in
    let wide = sum_by-cons (part_of (n + 1)) s ss in
    let narrow = sum_by-cons (part_of n) s ss in
    ⊎_elim
    (λ inside.
    let none : is_stopped ss n ≡ false = before_stops s.end n ss rise.2 inside in
    omega (arith, wide, narrow, rest, one, ap {B = ℕ} (λ b. cond b 1 0) none, either_false (nat_le s.start n && nat_lt n s.end) (is_stopped ss n) none))
    (λ over.
    let no : nat_lt n s.end ≡ false = le-ltb n s.end over in
    omega (arith, wide, narrow, rest, one, not_own (nat_le s.start n) (nat_lt n s.end) (is_stopped ss n) no))
    (cases_lt n s.end)
  where
    either_false : (a b : Bool) → b ≡ false → cond {A = ℕ} (a || b) 1 0 ≡ cond a 1 0
    either_false true b none = refl
    either_false false b none = ap {B = ℕ} (λ b. cond b 1 0) none

    not_own : (a b c : Bool) → b ≡ false → cond {A = ℕ} ((a && b) || c) 1 0 ≡ cond (a && b) 1 0 + cond c 1 0
    not_own a true c none = cc
    not_own true false c none = omega arith
    not_own false false c none = omega arith

no_part : (a from : ℕ) (ss : List Stop) → StopsRise from ss → a ≤ from → 0 + sum_by (part_of (a + 0)) ss ≡ 0
no_part a from [] rise low = refl
no_part a from (s ∷ ss) rise low =
    let first : from ≤ s.start = rise.0 in
    let second : s.start ≤ s.end = rise.1 in
    omega (arith, sum_by-cons (part_of (a + 0)) s ss, no_part a s.end ss rise.2 (omega arith))

-- the slots in which the clock runs, and those in which it stands
pub runs_and_stands : (a k from : ℕ) (ss : List Stop) → StopsRise from ss → a ≤ from →
    count_by (λ t. not (is_stopped ss t)) (range_with_len a k) + sum_by (part_of (a + k)) ss ≡ k
runs_and_stands a zero from ss rise low = no_part a from ss rise low
runs_and_stands a (suc k) from ss rise low =
    let before = runs_and_stands a k from ss rise low in
    let more : sum_by (part_of (a + suc k)) ss ≡ sum_by (part_of (a + k)) ss + cond (is_stopped ss (a + k)) 1 0 =
    ap (λ n. sum_by (part_of n) ss) (let z : a + suc k ≡ a + k + 1 = omega arith in z) ∙ parts_more (a + k) from ss rise in
    let count : count_by (λ t. not (is_stopped ss t)) (range_with_len a (suc k)) ≡ count_by (λ t. not (is_stopped ss t)) (range_with_len a k) + cond (not (is_stopped ss (a + k))) 1 0 =
    ap (λ n. count_by (λ t. not (is_stopped ss t)) (range_with_len a n)) (let z : suc k ≡ k + 1 = omega arith in z)
    ∙ ap (count_by (λ t. not (is_stopped ss t))) (range_more a k)
    ∙ sum_by_push (λ t. cond (not (is_stopped ss t)) 1 0) (range_with_len a k) (a + k) in
    omega (arith, before, more, count, one_or_other (is_stopped ss (a + k)))
  where
    one_or_other : (b : Bool) → cond (not b) 1 0 + cond b 1 0 ≡ 1
    one_or_other true = refl
    one_or_other false = refl

-- Use: the clock is the slots since the join, less the parts of its stops.
pub clock_is : (r : List Slot) (j : Joined) (xs : List Numbered) (n : ℕ) → IsShare j.weight → RiseFrom 0 xs → j.slot ≤ n →
    clock_of r xs j n + stopped_below n j.weight (held_from (next_at r j) j j.slot xs) ≡ n - j.slot
unfolding clock_of
clock_is r j xs n share rise joined =
    let hs = held_from (next_at r j) j j.slot xs in
    let stops = stops_are r j [] xs 0 j.slot rise (λ k d within. absurd (omega arith)) (omega arith) in
    let up = chain_stops j.weight (next_at r j 0) j.slot hs share (held_chain (next_at r j) (next_rises r j) j 0 j.slot xs rise) in
    let all = runs_and_stands j.slot (n - j.slot) (release_of j.weight (next_at r j 0) + j.slot) (map (stop_of j.weight) hs) up (omega arith) in
    ap₂ (λ ss parts. count_by (λ t. not (is_stopped ss t)) (range_with_len j.slot (n - j.slot)) + parts) stops
    (sym (fold-map (λ a s. a + part_of n s) (stop_of j.weight) 0 hs) ∙ ap (λ m. sum_by (part_of m) (map (stop_of j.weight) hs)) (let z : n ≡ j.slot + (n - j.slot) = omega arith in z))
    ∙ all

-- Use: the stops of a clock are within the slots since the join.
pub stops_within : (j : Joined) (ran : List ℕ) (xs : List Numbered) (n : ℕ) → IsShare j.weight → RiseFrom 0 xs → j.slot ≤ n →
    stopped_below n j.weight (held_from (next_in ran) j j.slot xs) ≤ n - j.slot
stops_within j ran xs n share rise joined =
    let hs = held_from (next_in ran) j j.slot xs in
    let up = chain_stops j.weight (next_in ran 0) j.slot hs share (held_chain (next_in ran) (next_in_rises ran) j 0 j.slot xs rise) in
    let all = runs_and_stands j.slot (n - j.slot) (release_of j.weight (next_in ran 0) + j.slot) (map (stop_of j.weight) hs) up (omega arith) in
    let same : sum_by (part_of (j.slot + (n - j.slot))) (map (stop_of j.weight) hs) ≡ stopped_below n j.weight hs =
    ap (λ m. sum_by (part_of m) (map (stop_of j.weight) hs)) (let z : j.slot + (n - j.slot) ≡ n = omega arith in z) ∙ fold-map (λ a s. a + part_of n s) (stop_of j.weight) 0 hs in
    omega (arith, all, same)

-- the subtasks of a chain rise
chain_above : (sub shift : ℕ) (hs : List Held) → AreSuccessive sub shift hs → All (λ h. sub ≤ h.sub) hs
chain_above sub shift [] chain = λ k d within. absurd (omega arith)
chain_above sub shift (h ∷ hs) chain = λ k d within. above_at k d within chain.0 (chain_above h.sub (shift + h.by) hs chain.2)
  where
    above_at : (k : ℕ) (d : Held) → k < length (h ∷ hs) → sub ≤ h.sub → All (λ g. h.sub ≤ g.sub) hs → sub ≤ (get_or (h ∷ hs) k d).sub
    above_at zero d within first rest = first
    above_at (suc k) d within first rest = let later : h.sub ≤ (get_or hs k d).sub = rest k d (omega arith) in omega arith

pub chain_rises : (sub shift : ℕ) (hs : List Held) → AreSuccessive sub shift hs → IsNonDecreasingBy (λ h. h.sub) hs
chain_rises sub shift [] chain = λ i j d before within. absurd (omega arith)
chain_rises sub shift (h ∷ hs) chain = λ i j d before within. rise_at i j d before within (chain_above h.sub (shift + h.by) hs chain.2) (chain_rises h.sub (shift + h.by) hs chain.2)
  where
    rise_at : (i j : ℕ) (d : Held) → i ≤ j → j < length (h ∷ hs) → All (λ g. h.sub ≤ g.sub) hs → IsNonDecreasingBy (λ h. h.sub) hs → (get_or (h ∷ hs) i d).sub ≤ (get_or (h ∷ hs) j d).sub
    rise_at zero zero d before within first rest = omega arith
    rise_at zero (suc j) d before within first rest = first j d (omega arith)
    rise_at (suc i) zero d before within first rest = absurd (omega arith)
    rise_at (suc i) (suc j) d before within first rest = rest i j d (omega arith) (omega arith)

-- Use: the shift after a cut of the delays.
pub shift_none : (shift i k : ℕ) (hs : List Held) → AreSuccessive 0 shift hs → k ≡ 0 → ((m : ℕ) (d : Held) → k ≤ m → m < length hs → nat_le (get_or hs m d).sub i ≡ false) → shift ≡ shift + sum_by (hold_of i) hs
shift_none shift i k hs chain none fails = behind_is i 0 0 shift hs chain (omega arith) (λ m d below. absurd (omega arith)) (λ m d above below. fails m d (omega arith) below)

pub shift_some : (shift i k : ℕ) (hs : List Held) (d : Held) → AreSuccessive 0 shift hs → 1 ≤ k → k ≤ length hs → ((m : ℕ) (d : Held) → m < k → nat_le (get_or hs m d).sub i ≡ true) →
    ((m : ℕ) (d : Held) → k ≤ m → m < length hs → nat_le (get_or hs m d).sub i ≡ false) →
    (get_or hs (k - 1) d).shift + (get_or hs (k - 1) d).by ≡ shift + sum_by (hold_of i) hs
shift_some shift i k hs d chain some within passes fails =
    sym (behind_last (k - 1) shift hs d (omega arith)) ∙ ap (shift_behind shift hs) (let z : k - 1 + 1 ≡ k = omega arith in z) ∙ behind_is i k 0 shift hs chain within passes fails
