-- Windows and group deadlines a span later: with as many subtasks more as a task is owed in a span, all of them move by the
-- span.
use Rattle.std.proofs.Common.{◌≡◌, ℕ, suc, ◌+◌, ◌-◌, ◌*◌, ◌/◌, ◌<◌, ◌≤◌, ◌==◌, ◌&&◌, Bool, true, false, if◌then◌else◌, arith, refl, ap, sym, ◌∙◌, ⊎_elim}
use Rattle.std.specs.Int.{div_ceil}
use Rattle.std.proofs.lemmas.Bool.{cases_lt, and_parts, ne_eqb, cond-false}
use Rattle.pf_weight.specs.Share.{Share, IsShare, is_heavy}
use Rattle.pf_window.specs.Window.{release_of, deadline_of, bit_of}
use Rattle.pf_window.specs.Group.{group_from, group_of, IsFirstGroupDeadline}
use Rattle.pf_window.proofs.Quotients.{IsFloor, IsCeil, floor_is, floor_only, ceil_is, ceil_only}
use Rattle.pf_window.proofs.Groups.{group_of-is, group_of_whole, group_of_part}
use Rattle.pf_tally.proofs.Windows.{deadline_late}
use Rattle.pf_order.specs.Priority.{Priority}
use Rattle.pf_order.specs.KeyOf.{key_of}

floor_later : (n more e by : ℕ) → 1 ≤ e → more ≡ by * e → (n + more) / e ≡ n / e + by
floor_later n more e by some is =
    let before : IsFloor n e (n / e) = floor_is n e some in
    floor_only (floor_is (n + more) e some) (record { within = omega (arith, before.within, is); next = omega (arith, before.next, is) })

ceil_later : (n more e by : ℕ) → 1 ≤ e → more ≡ by * e → div_ceil (n + more) e ≡ div_ceil n e + by
ceil_later n more e by some is =
    let before : IsCeil n e (div_ceil n e) = ceil_is n e some in
    ceil_only (ceil_is (n + more) e some) (record { enough = omega (arith, before.enough, is); least = omega (arith, before.least, is) })

-- a group deadline, where there is one, a span later
abbrev pub later_group : ℕ → ℕ → ℕ
later_group span group = if group == 0 then 0 else group + span

-- a key a span later, where `owed` tells by task how many subtasks are done in a span
abbrev pub later_key : ℕ → (ℕ → ℕ) → Priority → Priority
later_key span owed k = record {
  deadline = k.deadline + span;
  bit = k.bit;
  group = later_group span k.group;
  task = k.task;
  sub = k.sub + owed k.task;
}

module _ (w : Share) (is : IsShare w) (span more : ℕ) (exact : more * w.period ≡ w.cost * span) where
  whole : more * w.period ≡ span * w.cost
  whole = omega (arith, exact)

  pub release_later : (i : ℕ) → 1 ≤ i → release_of w (i + more) ≡ release_of w i + span
  unfolding release_of
  release_later i some =
      let times : (i + more - 1) * w.period ≡ (i - 1) * w.period + more * w.period =
      ap (λ k. k * w.period) (before i some) ∙ both (i - 1) in
      ap (λ n. n / w.cost) times ∙ floor_later ((i - 1) * w.period) (more * w.period) w.cost span is.some whole
    where
      before : (i : ℕ) → 1 ≤ i → i + more - 1 ≡ i - 1 + more
      before i some = omega (arith, some)

      both : (k : ℕ) → (k + more) * w.period ≡ k * w.period + more * w.period
      both k = omega arith

  times : (i : ℕ) → (i + more) * w.period ≡ i * w.period + more * w.period
  times i = omega arith

  pub deadline_later : (i : ℕ) → deadline_of w (i + more) ≡ deadline_of w i + span
  unfolding deadline_of
  deadline_later i =
      ap (λ n. div_ceil n w.cost) (times i) ∙ ceil_later (i * w.period) (more * w.period) w.cost span is.some whole

  pub bit_later : (i : ℕ) → bit_of w (i + more) ≡ bit_of w i
  unfolding bit_of
  bit_later i =
      let up = ap (λ n. div_ceil n w.cost) (times i) ∙ ceil_later (i * w.period) (more * w.period) w.cost span is.some whole in
      let down = ap (λ n. n / w.cost) (times i) ∙ floor_later (i * w.period) (more * w.period) w.cost span is.some whole in
      omega (arith, up, down)

  -- the span less what is owed, times the period, is what the task leaves free in it
  free : ℕ
  free = w.period - w.cost

  pub deadline_at : deadline_of w more ≡ span
  unfolding deadline_of
  deadline_at =
      ceil_only (ceil_is (more * w.period) w.cost is.some)
      (record { enough = omega (arith, exact); least = omega (arith, exact, is.some) })

  pub release_at : release_of w (suc more) ≡ span
  unfolding release_of
  release_at =
      let before : suc more - 1 ≡ more = omega arith in
      ap (λ i. i * w.period / w.cost) before
      ∙ floor_only (floor_is (more * w.period) w.cost is.some)
      (record { within = omega (arith, exact); next = omega (arith, exact, is.some) })

  pub more_within : more ≤ span
  more_within = omega (arith, deadline_late w more is, deadline_at)

  freed : span * free ≡ (span - more) * w.period
  unfolding free
  freed =
      let rest : ℕ = span - more in
      let all : rest + more ≡ span = omega (arith, more_within) in
      let parts : w.period - w.cost + w.cost ≡ w.period = omega (arith, is.within) in
      let left : (rest + more) * w.period ≡ span * w.period = ap (λ n. n * w.period) all in
      let right : span * (w.period - w.cost + w.cost) ≡ span * w.period = ap (λ n. span * n) parts in
      omega (arith, left, right, exact)

  group_from_later : (d : ℕ) → w.cost < w.period → group_from w (d + span) ≡ group_from w d + span
  unfolding free
  group_from_later d part =
      let some : 1 ≤ w.period = omega (arith, part) in
      let inner : div_ceil ((d + span) * free) w.period ≡ div_ceil (d * free) w.period + (span - more) =
      ap (λ n. div_ceil n w.period) (sum d span free) ∙ ceil_later (d * free) (span * free) w.period (span - more) some freed in
      let product : div_ceil ((d + span) * free) w.period * w.period ≡ div_ceil (d * free) w.period * w.period + span * free =
      ap (λ n. n * w.period) inner ∙ sum (div_ceil (d * free) w.period) (span - more) w.period
      ∙ ap (λ n. div_ceil (d * free) w.period * w.period + n) (sym freed) in
      ap (λ n. div_ceil n free) product
      ∙ ceil_later (div_ceil (d * free) w.period * w.period) (span * free) free span (omega (arith, part)) refl
    where
      sum : (a b c : ℕ) → (a + b) * c ≡ a * c + b * c
      sum a b c = omega arith

  group_later : (i : ℕ) → is_heavy w ≡ true → group_of w (i + more) ≡ group_of w i + span
  group_later i heavy = ⊎_elim whole_weight part_weight (cases_lt w.cost w.period) where
    part_weight : w.period ≤ w.cost → group_of w (i + more) ≡ group_of w i + span
    part_weight from =
        let all : w.cost ≡ w.period = omega (arith, from, is.within) in
        group_of_whole w (i + more) heavy all ∙ deadline_later i ∙ ap (λ d. d + span) (sym (group_of_whole w i heavy all))

    whole_weight : w.cost < w.period → group_of w (i + more) ≡ group_of w i + span
    whole_weight part =
        group_of_part w (i + more) heavy part ∙ ap (group_from w) (deadline_later i)
        ∙ group_from_later (deadline_of w i) part ∙ ap (λ d. d + span) (sym (group_of_part w i heavy part))

  group_some : (i : ℕ) → 1 ≤ i → is_heavy w ≡ true → 1 ≤ group_of w i
  group_some i some heavy =
      let first : IsFirstGroupDeadline w i (group_of w i) = (group_of-is w i is some).heavy heavy in
      omega (arith, some, first.after, deadline_late w i is)

  -- Use: the key of a task's subtask a span later.
  pub key_later : (owed : ℕ → ℕ) (task i : ℕ) → 1 ≤ i → owed task ≡ more →
      key_of w 0 (i + more) task ≡ later_key span owed (key_of w 0 i task)
  key_later owed task i some same = cc (due, bit_later i, grouped, sub) where
    due : deadline_of w (i + more) + 0 ≡ deadline_of w i + 0 + span
    due = omega (arith, deadline_later i)

    sub : i + more ≡ i + owed task
    sub = ap (λ n. i + n) (sym same)

    grouped : (if is_heavy w && bit_of w (i + more) == 1 then group_of w (i + more) + 0 else 0)
        ≡ later_group span (if is_heavy w && bit_of w i == 1 then group_of w i + 0 else 0)
    grouped =
        ap (λ b. if is_heavy w && b == 1 then group_of w (i + more) + 0 else 0) (bit_later i)
        ∙ by (is_heavy w && bit_of w i == 1) refl
      where
        by : (b : Bool) → (is_heavy w && bit_of w i == 1) ≡ b →
            (if b then group_of w (i + more) + 0 else 0) ≡ later_group span (if b then group_of w i + 0 else 0)
        by false none = refl
        by true counted =
            let heavy = (and_parts (is_heavy w) (bit_of w i == 1) counted).0 in
            let differ : (group_of w i + 0 == 0) ≡ false = ne_eqb (group_of w i + 0) 0 (λ none. omega (arith, none, group_some i some heavy)) in
            let is_later : later_group span (group_of w i + 0) ≡ group_of w i + 0 + span =
            cond-false (group_of w i + 0 == 0) 0 (group_of w i + 0 + span) differ in
            omega (arith, group_later i heavy, is_later)
