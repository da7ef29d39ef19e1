-- What is sound at a border, and who is not next at a hole: a member that is released, and within the bound.
use Rattle.std.proofs.Common.{◌≡◌, ℕ, suc, ◌<◌, ◌≤◌, ◌⊎◌, true, false, ◌&&◌, count_by, arith, subst, sym, ⊎_elim}
use Rattle.std.proofs.lemmas.Bool.{cases_Bool, and_parts, and_from, le-leb, both_ways}
use Rattle.pf_laws.specs.Ideal.Schedule.{Schedule, IsByReach, is_overdue}
use Rattle.pf_laws.proofs.IdealLemmas.Sums.{count_by-mono}
use Rattle.pf_laws.proofs.IdealLemmas.Quanta.{done-runs, runs_between}
use Rattle.pf_laws.proofs.IdealLemmas.Overdue.{overdue_is}
use Rattle.pf_laws.proofs.IdealLemmas.Border.{Border, is_pick, is_full}

-- what holds at the border before slot v. A member that is next there, and was released before, is within the bound.
pub record IsSound (s : Schedule) (v : ℕ) (b : Border) : Type 0 where
  pub within : (t i : ℕ) → b.bound t i ≡ true → s.deadline t i ≤ s.end
  pub closed : (t i u j : ℕ) → s.no_later t i u j ≡ true → b.bound u j ≡ true → b.bound t i ≡ true
  pub behind : (t i : ℕ) → b.member t i ≡ true → s.done t v ≤ i
  pub due : (t i : ℕ) → b.member t i ≡ true → s.deadline t i ≤ s.end
  pub lives : (t i : ℕ) → b.member t i ≡ true → (i < s.done t s.end) ⊎ (is_overdue s t i ≡ true)
  pub waits : (t i : ℕ) → b.member t i ≡ true → s.done t v ≡ i → s.release t i < v → b.bound t i ≡ true

module _ (s : Schedule) (ok : IsByReach s) where
  -- the task of a subtask that runs later, or is overdue, is inside where this is released
  pub inside_waiting : (t i v : ℕ) → v < s.end → (i < s.done t s.end) ⊎ (is_overdue s t i ≡ true) → s.done t v ≤ i →
      s.release t i ≤ v → s.inside t v ≡ true
  inside_waiting t i v below lives from early = ⊎_elim
      (λ (ran : i < s.done t s.end).
      let run = runs_between s ok t i v s.end from ran in ok.presence.until t i v run.0 early run.1 run.2 run.3)
      (λ late. ok.presence.stays t i v below early (overdue_is s t i late).0)
      lives

  -- otherwise it would have run, or the slot were full
  pub not_next : (t i v : ℕ) (b : Border) → IsSound s (suc v) b → v < s.end → is_full s v b ≡ false →
      b.member t i ≡ true → s.release t i ≤ v → b.bound t i ≡ true → s.done t v ≡ i → ⊥
  not_next t i v b sound below hole member early bounded next =
      let here = inside_waiting t i v below (sound.lives t i member) (omega (arith, next)) early in
      let many = ok.choice.first t v below here (subst (λ x. s.release t x ≤ v) (sym next) early) idle in
      let more =
      count_by-mono (λ u. s.runs u v && s.no_later u (s.done u v) t (s.done t v)) (λ u. is_pick s v b u) s.tasks
      picked in
      both_ways (is_full s v b) hole
      (le-leb (s.count v) (count_by (λ u. is_pick s v b u) s.tasks) (omega (arith, many, more)))
    where
      idle : s.runs t v ≡ false
      idle = ⊎_elim
          (λ (running : s.runs t v ≡ true).
          absurd (omega (arith, done-runs s ok t v running, next, sound.behind t i member)))
          (λ h. h) (cases_Bool (s.runs t v))

      picked : (u : ℕ) → (s.runs u v && s.no_later u (s.done u v) t (s.done t v)) ≡ true → is_pick s v b u ≡ true
      picked u h =
          let both = and_parts (s.runs u v) (s.no_later u (s.done u v) t (s.done t v)) h in
          and_from (s.runs u v) (b.bound u (s.done u v)) both.0
          (sound.closed u (s.done u v) t (s.done t v) both.1 (subst (λ x. b.bound t x ≡ true) (sym next) bounded))
