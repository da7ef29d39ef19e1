-- Which numbers of slots are spans.
use Rattle.std.proofs.Common.{◌≡◌, ℕ, ◌*◌, ◌/◌, ◌%◌, ◌≤◌, Contains, arith, ap}
use Rattle.std.proofs.Math.Nat.{mul-le-mul_right}
use Rattle.std.proofs.lemmas.List.Elements.{All-weaker, All-contains_itself, All-contains}
use Rattle.pf_window.proofs.Quotients.{floor_is, floor_only}
use Rattle.pf_run.specs.Inside.{Joined}
use Rattle.pf_laws.proofs.PromiseLemmas.Joining.{IsTask, is_task}
use Rattle.pf_laws.specs.Repetition.Synchronous.{tasks_in}
use Rattle.pf_laws.specs.Repetition.Laws.{BaseIsSpan, CommonMultipleIsSpan, MultipleIsSpan, TheseAreSpans}

-- a product is whole
whole_of : (q n p : ℕ) → 1 ≤ p → q * p ≡ n → n % p ≡ 0
whole_of q n p real is =
    let same : q ≡ n / p = floor_only (record { within = omega (arith, is); next = omega (arith, is, real) }) (floor_is n p real) in
    omega (arith, real, is, ap (λ k. k * p) same)

real_of : (base : ℕ) (j : Joined) → IsTask base j → 1 ≤ j.weight.period
real_of base j task = omega (arith, task.share.some, task.share.within)

base_is_span : BaseIsSpan
base_is_span s r scenario = record {
  some = scenario.settings.limits.base.some;
  whole = All-weaker (Contains (tasks_in s r)) (λ j. j.weight.cost * s.settings.base % j.weight.period ≡ 0)
      (λ j at.
      let task = is_task s scenario r j at in
      whole_of j.weight.units (j.weight.cost * s.settings.base) j.weight.period (real_of s.settings.base j task) task.exact)
      (tasks_in s r) (All-contains_itself (tasks_in s r));
}

common_is_span : CommonMultipleIsSpan
common_is_span s r span scenario some divided = record {
  some = some;
  whole = All-weaker (Contains (tasks_in s r)) (λ j. j.weight.cost * span % j.weight.period ≡ 0)
      (λ j at.
      let real : 1 ≤ j.weight.period = real_of s.settings.base j (is_task s scenario r j at) in
      let none : span % j.weight.period ≡ 0 = All-contains (λ i. span % i.weight.period ≡ 0) (tasks_in s r) j divided at in
      let parts : span / j.weight.period * j.weight.period ≡ span = omega (arith, real, none) in
      whole_of (j.weight.cost * (span / j.weight.period)) (j.weight.cost * span) j.weight.period real
      (omega (arith, ap (λ n. j.weight.cost * n) parts)))
      (tasks_in s r) (All-contains_itself (tasks_in s r));
}

pub multiple_is_span : MultipleIsSpan
multiple_is_span s r span q scenario is some = record {
  some = omega (arith, is.some, mul-le-mul_right span some);
  whole = All-weaker (Contains (tasks_in s r)) (λ j. j.weight.cost * (q * span) % j.weight.period ≡ 0)
      (λ j at.
      let real : 1 ≤ j.weight.period = real_of s.settings.base j (is_task s scenario r j at) in
      let none : j.weight.cost * span % j.weight.period ≡ 0 =
      All-contains (λ i. i.weight.cost * span % i.weight.period ≡ 0) (tasks_in s r) j is.whole at in
      let parts : j.weight.cost * span / j.weight.period * j.weight.period ≡ j.weight.cost * span = omega (arith, real, none) in
      whole_of (q * (j.weight.cost * span / j.weight.period)) (j.weight.cost * (q * span)) j.weight.period real
      (omega (arith, ap (λ n. q * n) parts)))
      (tasks_in s r) (All-contains_itself (tasks_in s r));
}

pub these_are_spans : TheseAreSpans
these_are_spans = record { base = base_is_span; common = common_is_span; multiple = multiple_is_span }
