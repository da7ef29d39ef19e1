-- Overdue subtasks cost quanta: at the end the ideal run has given all relevant subtasks their quanta, these too.
use Rattle.std.proofs.Common.{◌≡◌, ℕ, zero, suc, ◌+◌, ◌-◌, ◌*◌, ◌<◌, ◌≤◌, ◌==◌, Bool, true, false, min, if◌then◌else◌, List, [], ◌∷◌, sum_by, count_by, arith, refl, ap, sym, subst, ⊎_elim}
use Rattle.std.specs.List.{list_any, range_with_len}
use Rattle.std.proofs.Math.Nat.{mul-le-mul_right}
use Rattle.std.proofs.lemmas.Bool.{cases_lt, cases_Bool, or_cases, both_ways, eqb-true, false≢true}
use Rattle.std.proofs.lemmas.List.Sums.{sum_by-cons}
use Rattle.pf_laws.specs.Ideal.Schedule.{Schedule, IsByReach, is_overdue, overdue_of, overload, IsWithin}
use Rattle.pf_laws.specs.Ideal.Laws.{OverdueCostsQuanta, NoneIsOverdue}
use Rattle.pf_laws.proofs.IdealLemmas.Sums.{one, one-mono, sum_by-mono, sum_by-plus, sum_by-times}
use Rattle.pf_laws.proofs.IdealLemmas.Flows.{flow}
use Rattle.pf_laws.proofs.IdealLemmas.Windows.{window-some, deadline-climbs}
use Rattle.pf_laws.proofs.IdealLemmas.Quanta.{done-runs, done-idle, done-few}
use Rattle.pf_laws.proofs.IdealLemmas.Overdue.{overdue_is}
use Rattle.pf_laws.proofs.IdealLemmas.Border.{is_chosen, border_at}
use Rattle.pf_laws.proofs.IdealLemmas.Relevant as relevant
use Rattle.pf_laws.proofs.IdealLemmas.Gains.{flow_of}
use Rattle.pf_laws.proofs.IdealLemmas.Blocks.{got_of, even_at_end, quanta-mono}

-- how many of the n numbers from i on are members
number_of : (ℕ → Bool) → ℕ → ℕ → ℕ
number_of member i zero = 0
number_of member i (suc n) = one (member i) + number_of member (suc i) n

flow-all : (h : ℕ) (offset : ℕ → ℕ) (member : ℕ → Bool) (x i n : ℕ) →
    ((j : ℕ) → i ≤ j → j < n + i → member j ≡ true → offset j + h ≤ x) →
    h * number_of member i n ≤ flow h offset member x i n
unfolding number_of flow
flow-all h offset member x i zero all = omega arith
flow-all h offset member x i (suc n) all =
    head (member i) (number_of member (suc i) n) (flow h offset member x (suc i) n)
    (λ m. all i (omega arith) (omega arith) m)
    (flow-all h offset member x (suc i) n (λ j from upto. all j (omega (arith, from)) (omega (arith, upto))))
  where
    head : (b : Bool) (k f : ℕ) → (b ≡ true → offset i + h ≤ x) → h * k ≤ f →
        h * (one b + k) ≤ (if b then min h (x - offset i) else 0) + f
    head true k f le rest = omega (arith, le refl, rest)
    head false k f le rest = omega (arith, rest)

number-plus : (member : ℕ → Bool) (i m n : ℕ) →
    number_of member i (m + n) ≡ number_of member i m + number_of member (m + i) n
unfolding number_of
number-plus member i zero n =
    omega (arith, ap (λ k. number_of member i k) (plus n), ap (λ k. number_of member k n) (plus i)) where
      plus : (k : ℕ) → 0 + k ≡ k
      plus k = omega arith
number-plus member i (suc m) n =
    omega (arith, number-plus member (suc i) m n, ap (λ k. number_of member i k) (suc_plus m n), ap (λ k. number_of member k n) (move m i))
  where
    suc_plus : (a b : ℕ) → suc a + b ≡ suc (a + b)
    suc_plus a b = omega arith

    move : (a b : ℕ) → suc a + b ≡ a + suc b
    move a b = omega arith

number-one : (member : ℕ → Bool) (n : ℕ) → number_of member 0 (n + 1) ≡ number_of member 0 n + one (member n)
unfolding number_of
number-one member n = omega (arith, number-plus member 0 n 1, ap (λ k. number_of member k 1) (plus n)) where
  plus : (k : ℕ) → k + 0 ≡ k
  plus k = omega arith

number-mono : (p q : ℕ → Bool) (i n : ℕ) → ((j : ℕ) → i ≤ j → j < n + i → p j ≡ true → q j ≡ true) →
    number_of p i n ≤ number_of q i n
unfolding number_of
number-mono p q i zero imp = omega arith
number-mono p q i (suc n) imp =
    omega (
      arith,
      one-mono (p i) (q i) (imp i (omega arith) (omega arith)),
      number-mono p q (suc i) n (λ j from upto. imp j (omega (arith, from)) (omega (arith, upto))),
    )

-- the same as a count over a list
number-range : (p : ℕ → Bool) (i n : ℕ) → count_by p (range_with_len i n) ≡ number_of p i n
unfolding number_of
number-range p i zero = omega arith
number-range p i (suc n) =
    omega (
      arith,
      sum_by-cons (λ j. one (p j)) i (range_with_len (i + 1) n),
      ap (λ k. count_by p (range_with_len k n)) (next i),
      number-range p (suc i) n,
    ) where
      next : (k : ℕ) → k + 1 ≡ suc k
      next k = omega arith

number-none : (i n : ℕ) → number_of (λ j. false) i n ≡ 0
unfolding number_of
number-none i zero = omega arith
number-none i (suc n) = omega (arith, number-none (suc i) n)

number-some : (member : ℕ → Bool) (j i n : ℕ) → i ≤ j → j < n + i → member j ≡ true → 1 ≤ number_of member i n
unfolding number_of
number-some member j i zero from upto m = absurd (omega (arith, from, upto))
number-some member j i (suc n) from upto m = ⊎_elim
    (λ (lt : i < j). omega (arith, number-some member j (suc i) n lt (omega (arith, upto)) m))
    (λ (ge : j ≤ i).
    let same : j ≡ i = omega (arith, from, ge) in
    let here : member i ≡ true = subst (λ k. member k ≡ true) same m in
    subst (λ b. 1 ≤ one b + number_of member (suc i) n) (sym here) (omega arith))
    (cases_lt i j)

module _ (s : Schedule) (ok : IsByReach s) where
  -- the relevant subtasks that ran are among those that ran
  got-number : (t v : ℕ) → v ≤ s.end → got_of s t v ≤ number_of (relevant.is_relevant s t) 0 (s.done t v)
  unfolding got_of
  got-number t zero le = omega arith
  got-number t (suc v) le =
      ⊎_elim (running (got-number t v (omega (arith, le)))) (idle (got-number t v (omega (arith, le)))) (cases_Bool (s.runs t v))
    where
      chosen : Bool
      chosen = is_chosen s v (border_at s (suc v)) t

      running : got_of s t v ≤ number_of (relevant.is_relevant s t) 0 (s.done t v) → s.runs t v ≡ true →
          got_of s t v + one chosen ≤ number_of (relevant.is_relevant s t) 0 (s.done t (suc v))
      running before h =
          let one_more =
          one-mono chosen (relevant.is_relevant s t (s.done t v)) (λ it. relevant.chosen_relevant s ok t v le it) in
          omega (
            arith,
            before,
            one_more,
            number-one (relevant.is_relevant s t) (s.done t v),
            ap (λ k. number_of (relevant.is_relevant s t) 0 k) (done-runs s ok t v h),
          )

      idle : got_of s t v ≤ number_of (relevant.is_relevant s t) 0 (s.done t v) → s.runs t v ≡ false →
          got_of s t v + one chosen ≤ number_of (relevant.is_relevant s t) 0 (s.done t (suc v))
      idle before h =
          let none =
          one-mono chosen false (λ it. absurd (both_ways (s.runs t v) h (relevant.chosen_runs s ok t v le it))) in
          omega (arith, before, none, ap (λ k. number_of (relevant.is_relevant s t) 0 k) (done-idle s ok t v h))

  -- those that ran and the others
  number-parts : (p : ℕ → Bool) (t : ℕ) → number_of p 0 s.end
      ≡ number_of p 0 (s.done t s.end) + number_of p (s.done t s.end + 0) (s.end - s.done t s.end)
  number-parts p t =
      omega (
        arith,
        number-plus p 0 (s.done t s.end) (s.end - s.done t s.end),
        ap (λ k. number_of p 0 k) (whole (s.done t s.end) s.end (done-few s ok t s.end)),
      )
    where
      whole : (a b : ℕ) → a ≤ b → b ≡ a + (b - a)
      whole a b le = omega (arith, le)

  -- they have had their quanta at the end
  flow-end : (t : ℕ) → s.quantum * number_of (relevant.is_relevant s t) 0 s.end ≤ flow_of s t s.end
  flow-end t =
      flow-all s.quantum (s.offset t) (relevant.is_relevant s t) (s.end * s.units t) 0 s.end
      (λ j from upto m.
      omega (
        arith,
        ok.windows.ends t j,
        mul-le-mul_right (s.units t) ((relevant.sound s ok 0 (omega arith)).due t j m),
      ))

  -- none that ran is overdue, and those that are, are relevant
  overdue-number : (t : ℕ) → overdue_of s t ≤ number_of (relevant.is_relevant s t) (s.done t s.end + 0) (s.end - s.done t s.end)
  overdue-number t =
      let ran = number-mono (is_overdue s t) (λ i. false) 0 (s.done t s.end)
      (λ i from upto late. absurd (omega (arith, upto, (overdue_is s t i late).2))) in
      let left = number-mono (is_overdue s t) (relevant.is_relevant s t) (s.done t s.end + 0) (s.end - s.done t s.end)
      (λ i from upto late. relevant.overdue_relevant s ok t i late) in
      omega (
        arith,
        number-range (is_overdue s t) 0 s.end,
        number-parts (is_overdue s t) t,
        ran,
        number-none 0 (s.done t s.end),
        left,
      )

  task_end : (t : ℕ) → s.quantum * got_of s t s.end + s.quantum * overdue_of s t ≤ flow_of s t s.end
  task_end t =
      omega (
        arith,
        flow-end t,
        quanta-mono s ok (got_of s t s.end + overdue_of s t) (number_of (relevant.is_relevant s t) 0 s.end)
            (omega (arith, number-parts (relevant.is_relevant s t) t, overdue-number t, got-number t s.end (omega arith))),
      )

  -- all is even at the end, so that the overload has the quanta of the overdue ones
  pub cost : s.quantum * sum_by (overdue_of s) s.tasks ≤ overload s s.end
  cost =
      let each =
      sum_by-mono (λ t. s.quantum * got_of s t s.end + s.quantum * overdue_of s t) (λ t. flow_of s t s.end) s.tasks task_end in
      omega (
        arith,
        each,
        sum_by-plus (λ t. s.quantum * got_of s t s.end) (λ t. s.quantum * overdue_of s t) s.tasks,
        sum_by-times s.quantum (λ t. got_of s t s.end) s.tasks,
        sum_by-times s.quantum (overdue_of s) s.tasks,
        even_at_end s ok,
      )

pub overdue_costs_quanta : OverdueCostsQuanta
overdue_costs_quanta s ok = cost s ok

overload-none : (s : Schedule) → IsWithin s → (v : ℕ) → v ≤ s.end → overload s v ≡ 0
unfolding overload
overload-none s within zero le = omega arith
overload-none s within (suc v) le = omega (arith, overload-none s within v (omega (arith, le)), within v le)

-- one that is overdue is counted
overdue_counted : (s : Schedule) (ok : IsByReach s) (t i : ℕ) → is_overdue s t i ≡ true → 1 ≤ overdue_of s t
overdue_counted s ok t i late =
    let small : i < s.end =
    omega (arith, deadline-climbs s ok t 0 i (omega arith), window-some s ok t 0, (overdue_is s t i late).1) in
    omega (arith, number-range (is_overdue s t) 0 s.end, number-some (is_overdue s t) i 0 s.end (omega arith) (omega (arith, small)) late)

sum_by-some : (f : ℕ → ℕ) (t : ℕ) (xs : List ℕ) → list_any (λ u. t == u) xs ≡ true → f t ≤ sum_by f xs
sum_by-some f t [] known = absurd (false≢true known)
sum_by-some f t (x ∷ xs) known = ⊎_elim
    (λ same. omega (arith, sum_by-cons f x xs, ap f (eqb-true t x same)))
    (λ rest. omega (arith, sum_by-cons f x xs, sum_by-some f t xs rest))
    (or_cases (t == x) (list_any (λ u. t == u) xs) known)

pub none_is_overdue : NoneIsOverdue
none_is_overdue s t i ok within known = ⊎_elim late (λ not. not) (cases_Bool (is_overdue s t i)) where
  late : is_overdue s t i ≡ true → is_overdue s t i ≡ false
  late it =
      let some : 1 ≤ sum_by (overdue_of s) s.tasks =
      omega (arith, overdue_counted s ok t i it, sum_by-some (overdue_of s) t s.tasks known) in
      let real : 1 ≤ s.quantum = omega (arith, ok.windows.some t, ok.windows.within t) in
      absurd
      (omega (arith, overdue_costs_quanta s ok, overload-none s within s.end (omega arith), mul-le-mul_right s.quantum some, real))
