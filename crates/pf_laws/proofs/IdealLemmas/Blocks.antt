-- Over a block, which is neighbouring holes and the full slot after them, the ideal run gives no more than the schedule
-- does, but for what was asked for beyond what the full slot has.
use Rattle.std.proofs.Common.{◌≡◌, ℕ, zero, suc, ◌+◌, ◌*◌, ◌<◌, ◌≤◌, true, false, ◌||◌, sum_by, count_by, arith, refl, ap, sym, subst, ⊎_elim}
use Rattle.std.proofs.Math.Nat.{mul-le-mul_right}
use Rattle.std.proofs.lemmas.Bool.{cases_lt, cases_Bool, or_left, and_from, leb-true, both_ways}
use Rattle.pf_laws.specs.Ideal.Schedule.{Schedule, IsByReach, overload}
use Rattle.pf_laws.proofs.IdealLemmas.Rising.{rises}
use Rattle.pf_laws.proofs.IdealLemmas.Sums.{one, sum_by-mono, sum_by-plus, sum_by-times, count_by-mono}
use Rattle.pf_laws.proofs.IdealLemmas.Flows.{flow-late}
use Rattle.pf_laws.proofs.IdealLemmas.Windows.{offset-next}
use Rattle.pf_laws.proofs.IdealLemmas.Border.{is_pick, is_full, crosses, is_chosen, border_at}
use Rattle.pf_laws.proofs.IdealLemmas.Relevant as relevant
use Rattle.pf_laws.proofs.IdealLemmas.Gains.{flow_of, asked_of, gain_of_slot, gain_of_chosen, gain_of_chosen_last, gain_of_other, gain_of_other_last}

-- how many relevant subtasks of the task run below slot v
unfoldable pub got_of : Schedule → ℕ → ℕ → ℕ
got_of s t zero = 0
got_of s t (suc v) = got_of s t v + one (is_chosen s v (border_at s (suc v)) t)

-- the same of all tasks, and what the ideal run has given them
abbrev pub all_got : Schedule → ℕ → ℕ
all_got s v = sum_by (λ t. got_of s t v) s.tasks

abbrev pub all_flow : Schedule → ℕ → ℕ
all_flow s v = sum_by (λ t. flow_of s t v) s.tasks

-- up to slot v the ideal run has given no more than the schedule, but for the overload
abbrev pub IsEven : Schedule → ℕ → Type 0
IsEven s v = all_flow s v ≤ s.quantum * all_got s v + overload s v

module _ (s : Schedule) (ok : IsByReach s) where
  pub quanta-mono : (a b : ℕ) → a ≤ b → s.quantum * a ≤ s.quantum * b
  quanta-mono a b le = omega (arith, mul-le-mul_right s.quantum le)

  got-rises : (t a b : ℕ) → a ≤ b → got_of s t a ≤ got_of s t b
  unfolding got_of
  got-rises t a b le = rises (got_of s t) (λ n. omega arith) a b le

  overload-rises : (a b : ℕ) → a ≤ b → overload s a ≤ overload s b
  unfolding overload
  overload-rises a b le = rises (overload s) (λ n. omega arith) a b le

  -- over neighbouring holes a task that is chosen at the first is chosen at each
  got-holes : (t v n : ℕ) → suc n + v ≤ s.end → relevant.AreHoles s ok v n → relevant.IsChosen s v t →
      got_of s t v + suc n ≤ got_of s t (suc n + v)
  unfolding got_of
  got-holes t v zero le holes chosen =
      omega (arith, ap (λ k. got_of s t k) (one_more v), subst (λ b. got_of s t (suc v) ≡ got_of s t v + one b) chosen refl)
    where
      one_more : (k : ℕ) → 1 + k ≡ suc k
      one_more k = omega arith
  got-holes t v (suc n) le holes chosen =
      let last : relevant.IsChosen s (suc n + v) t = relevant.chosen_onward s ok t v (suc n) (omega (arith, le)) holes chosen in
      let front = relevant.holes-front s ok v (suc n) n (omega arith) holes in
      omega (
        arith,
        got-holes t v n (omega (arith, le)) front chosen,
        ap (λ k. got_of s t k) (move n v),
        subst (λ b. got_of s t (suc (suc n + v)) ≡ got_of s t (suc n + v) + one b) last refl,
      )
    where
      move : (a b : ℕ) → suc (suc a) + b ≡ suc (suc a + b)
      move a b = omega arith

  -- one task over a block of n + 1 holes and a full slot
  gain_of_task : (t v n : ℕ) → suc n + v < s.end → relevant.AreHoles s ok v n →
      flow_of s t (suc (suc n + v)) + s.quantum * got_of s t v
      ≤ flow_of s t v + s.quantum * got_of s t (suc n + v) + asked_of s (suc n + v) t
  gain_of_task t v n lt holes = ⊎_elim
      (λ (chosen : is_chosen s v (border_at s (suc v)) t ≡ true).
      omega (
        arith,
        gain_of_chosen s ok t v n lt holes chosen,
        quanta-mono (got_of s t v + suc n) (got_of s t (suc n + v)) (got-holes t v n (omega (arith, lt)) holes chosen),
      ))
      (λ (other : is_chosen s v (border_at s (suc v)) t ≡ false).
      omega (
        arith,
        gain_of_other s ok t v n (omega (arith, lt)) holes
            (λ chosen. both_ways (is_chosen s v (border_at s (suc v)) t) other chosen) lt,
        quanta-mono (got_of s t v) (got_of s t (suc n + v)) (got-rises t v (suc n + v) (omega arith)),
      ))
      (cases_Bool (is_chosen s v (border_at s (suc v)) t))

  -- one task over n + 1 holes up to the end
  gain_of_task_last : (t v n : ℕ) → suc n + v ≡ s.end → relevant.AreHoles s ok v n →
      flow_of s t (suc n + v) + s.quantum * got_of s t v ≤ flow_of s t v + s.quantum * got_of s t (suc n + v)
  gain_of_task_last t v n last holes = ⊎_elim
      (λ (chosen : is_chosen s v (border_at s (suc v)) t ≡ true).
      omega (
        arith,
        gain_of_chosen_last s ok t v n,
        quanta-mono (got_of s t v + suc n) (got_of s t (suc n + v)) (got-holes t v n (omega (arith, last)) holes chosen),
      ))
      (λ (other : is_chosen s v (border_at s (suc v)) t ≡ false).
      omega (
        arith,
        gain_of_other_last s ok t v n (omega (arith, last)) holes
            (λ chosen. both_ways (is_chosen s v (border_at s (suc v)) t) other chosen) last,
        quanta-mono (got_of s t v) (got_of s t (suc n + v)) (got-rises t v (suc n + v) (omega arith)),
      ))
      (cases_Bool (is_chosen s v (border_at s (suc v)) t))

  -- in a full slot as many relevant subtasks run as processors are in use
  got-full : (v : ℕ) → is_full s v (border_at s (suc v)) ≡ true → all_got s v + s.count v ≤ all_got s (suc v)
  unfolding got_of
  got-full v full =
      let b = border_at s (suc v) in
      let all = leb-true (s.count v) (count_by (λ t. is_pick s v b t) s.tasks) full in
      let chosen =
      count_by-mono (λ t. is_pick s v b t) (λ t. is_chosen s v b t) s.tasks
      (λ t pick.
      and_from (is_pick s v b t) (is_full s v b || crosses s v b t) pick (or_left (is_full s v b) (crosses s v b t) full)) in
      omega (arith, all, chosen, sum_by-plus (λ t. got_of s t v) (λ t. one (is_chosen s v b t)) s.tasks)

  -- from the start v of a block to its full slot e
  even_behind : (v e : ℕ) → v ≤ e → is_full s e (border_at s (suc e)) ≡ true →
      ((t : ℕ) → flow_of s t (suc e) + s.quantum * got_of s t v
      ≤ flow_of s t v + s.quantum * got_of s t e + asked_of s e t) →
      IsEven s v → IsEven s (suc e)
  unfolding overload
  even_behind v e le full each even =
      let left = sum_by-plus (λ t. flow_of s t (suc e)) (λ t. s.quantum * got_of s t v) s.tasks in
      let right = sum_by-plus (λ t. flow_of s t v + s.quantum * got_of s t e) (λ t. asked_of s e t) s.tasks in
      let inner = sum_by-plus (λ t. flow_of s t v) (λ t. s.quantum * got_of s t e) s.tasks in
      let all =
      sum_by-mono (λ t. flow_of s t (suc e) + s.quantum * got_of s t v)
      (λ t. flow_of s t v + s.quantum * got_of s t e + asked_of s e t) s.tasks each in
      omega (
        arith,
        left,
        right,
        inner,
        all,
        even,
        overload-rises v e le,
        sum_by-times s.quantum (λ t. got_of s t v) s.tasks,
        sum_by-times s.quantum (λ t. got_of s t e) s.tasks,
        quanta-mono (all_got s e + s.count e) (all_got s (suc e)) (got-full e full),
      )

  -- up to slot v: even up to `from`, and holes from there on
  record IsCovered (v : ℕ) : Type 0 where
    from : ℕ
    holes : ℕ
    sum : holes + from ≡ v
    are_holes : (k : ℕ) → k < holes → relevant.IsHole s (k + from)
    even : IsEven s from

  covered_start : IsCovered 0
  covered_start = record {
    from = 0;
    holes = 0;
    sum = omega arith;
    are_holes = λ k lt. absurd (omega (arith, lt));
    even =
        let none = sum_by-mono (λ t. flow_of s t 0) (λ t. 0) s.tasks at_start in
        omega (arith, none, sum_by-times 0 (λ t. 0) s.tasks);
  } where
    at_start : (t : ℕ) → flow_of s t 0 ≤ 0
    at_start t =
        omega (
          arith,
          flow-late s.quantum (s.offset t) (relevant.is_relevant s t) (0 * s.units t) 0 0 s.end (offset-next s ok t)
              (λ j from upto m. omega arith),
        )

  -- a full slot ends a block
  covered_full : (v : ℕ) → v < s.end → IsCovered v → is_full s v (border_at s (suc v)) ≡ true → IsEven s (suc v)
  covered_full v lt before full = by before.holes before.from before.sum before.are_holes before.even where
    by : (n u : ℕ) → n + u ≡ v → ((k : ℕ) → k < n → relevant.IsHole s (k + u)) → IsEven s u → IsEven s (suc v)
    by zero u sum holes even =
        let same : u ≡ v = omega (arith, sum) in
        even_behind v v (omega arith) full (λ t. omega (arith, gain_of_slot s ok t v lt)) (subst (λ x. IsEven s x) same even)
    by (suc n) u sum holes even =
        let below : suc n + u < s.end = omega (arith, sum, lt) in
        let are : relevant.AreHoles s ok u n = relevant.are_holes s ok u n holes in
        let full' : is_full s (suc n + u) (border_at s (suc (suc n + u))) ≡ true =
        subst (λ x. is_full s x (border_at s (suc x)) ≡ true) (sym sum) full in
        let end : IsEven s (suc (suc n + u)) =
        even_behind u (suc n + u) (omega arith) full' (λ t. gain_of_task t u n below are) even in
        subst (λ x. IsEven s (suc x)) sum end

  covered_next : (v : ℕ) → v < s.end → IsCovered v → IsCovered (suc v)
  covered_next v lt before = ⊎_elim
      (λ full. record {
        from = suc v;
        holes = 0;
        sum = omega arith;
        are_holes = λ k less. absurd (omega (arith, less));
        even = covered_full v lt before full;
      })
      (λ (hole : relevant.IsHole s v). record {
        from = before.from;
        holes = suc before.holes;
        sum = omega (arith, before.sum);
        are_holes = λ k less.
            ⊎_elim (λ (old : k < before.holes). before.are_holes k old)
            (λ (last : before.holes ≤ k).
            let same : v ≡ k + before.from = omega (arith, last, less, before.sum) in
            subst (λ x. relevant.IsHole s x) same hole)
            (cases_lt k before.holes);
        even = before.even;
      })
      (cases_Bool (is_full s v (border_at s (suc v))))

  covered : (v : ℕ) → v ≤ s.end → IsCovered v
  covered zero le = covered_start
  covered (suc v) le = covered_next v le (covered v (omega (arith, le)))

  -- from the start v of n + 1 holes up to the end
  even_last : (v n : ℕ) → suc n + v ≡ s.end → relevant.AreHoles s ok v n → IsEven s v → IsEven s (suc n + v)
  even_last v n last holes even =
      let left = sum_by-plus (λ t. flow_of s t (suc n + v)) (λ t. s.quantum * got_of s t v) s.tasks in
      let right = sum_by-plus (λ t. flow_of s t v) (λ t. s.quantum * got_of s t (suc n + v)) s.tasks in
      let all =
      sum_by-mono (λ t. flow_of s t (suc n + v) + s.quantum * got_of s t v)
      (λ t. flow_of s t v + s.quantum * got_of s t (suc n + v)) s.tasks (λ t. gain_of_task_last t v n last holes) in
      omega (
        arith,
        left,
        right,
        all,
        even,
        overload-rises v (suc n + v) (omega arith),
        sum_by-times s.quantum (λ t. got_of s t v) s.tasks,
        sum_by-times s.quantum (λ t. got_of s t (suc n + v)) s.tasks,
      )

  -- at the end all is even
  pub even_at_end : IsEven s s.end
  even_at_end = by cover.holes cover.from cover.sum cover.are_holes cover.even where
    cover : IsCovered s.end
    cover = covered s.end (omega arith)

    by : (n v : ℕ) → n + v ≡ s.end → ((k : ℕ) → k < n → relevant.IsHole s (k + v)) → IsEven s v → IsEven s s.end
    by zero v sum holes even =
        let same : v ≡ s.end = omega (arith, sum) in
        subst (λ x. IsEven s x) same even
    by (suc n) v sum holes even =
        subst (λ x. IsEven s x) sum (even_last v n sum (relevant.are_holes s ok v n holes) even)
