-- How many subtasks of a task ran: one more in each slot in which it runs, and the next one runs there.
use Rattle.std.proofs.Common.{◌≡◌, ℕ, zero, suc, ◌+◌, ◌<◌, ◌≤◌, true, false, arith, subst, ⊎_elim}
use Rattle.std.proofs.lemmas.Bool.{cases_lt, cases_Bool}
use Rattle.pf_laws.specs.Ideal.Schedule.{Schedule, IsByReach}
use Rattle.pf_laws.proofs.IdealLemmas.Sums.{one}
use Rattle.pf_laws.proofs.IdealLemmas.Rising.{rises}

module _ (s : Schedule) (ok : IsByReach s) where
  pub done-runs : (t v : ℕ) → s.runs t v ≡ true → s.done t (suc v) ≡ s.done t v + 1
  done-runs t v running = subst (λ b. s.done t (suc v) ≡ s.done t v + one b) running (ok.choice.counted t v)

  pub done-idle : (t v : ℕ) → s.runs t v ≡ false → s.done t (suc v) ≡ s.done t v
  done-idle t v idle = omega (arith, subst (λ b. s.done t (suc v) ≡ s.done t v + one b) idle (ok.choice.counted t v))

  pub done-next : (t v : ℕ) → s.done t v ≤ s.done t (suc v)
  done-next t v = omega (arith, ok.choice.counted t v)

  pub done-rises : (t v u : ℕ) → v ≤ u → s.done t v ≤ s.done t u
  done-rises t v u le = rises (s.done t) (done-next t) v u le

  pub done-few : (t v : ℕ) → s.done t v ≤ v
  done-few t zero = omega (arith, ok.choice.none t)
  done-few t (suc v) = ⊎_elim
      (λ running. omega (arith, done-few t v, done-runs t v running))
      (λ idle. omega (arith, done-few t v, done-idle t v idle))
      (cases_Bool (s.runs t v))

  -- the subtask that ran by the end of a slot, but not before, is the next one in that slot
  pub runs_now : (t i v : ℕ) → s.done t v ≤ i → i < s.done t (suc v) → (s.runs t v ≡ true) × (s.done t v ≡ i)
  runs_now t i v from below = ⊎_elim
      (λ running. (running, omega (arith, done-runs t v running, from, below)))
      (λ idle. absurd (omega (arith, done-idle t v idle, from, below)))
      (cases_Bool (s.runs t v))

  -- a subtask that ran below b, but not below a, runs in a slot between
  pub runs_between : (t i a b : ℕ) → s.done t a ≤ i → i < s.done t b →
      (v : ℕ) × (a ≤ v) × (v < b) × (s.runs t v ≡ true) × (s.done t v ≡ i)
  runs_between t i a zero from below =
      absurd (omega (arith, below, from, ok.choice.none t, done-rises t 0 a (omega arith)))
  runs_between t i a (suc b) from below = ⊎_elim
      (λ (earlier : i < s.done t b).
      let it = runs_between t i a b from earlier in (it.0, it.1, omega (arith, it.2), it.3, it.4))
      (λ (last : s.done t b ≤ i).
      let now = runs_now t i b last below in
      let within : a ≤ b = ⊎_elim
      (λ (past : b < a). absurd (omega (arith, from, below, done-rises t (suc b) a past))) (λ le. le) (cases_lt b a) in
      (b, within, omega arith, now.0, now.1))
      (cases_lt i (s.done t b))
