-- Of the events in force in a run each join comes before the leave of its task.
use Rattle.std.proofs.Common.{◌≡◌, ℕ, ◌<◌, ◌≤◌, true, false, List, [], ◌∷◌, ◌++◌, length, take, cond, get_or, arith, sym, ap, ◌∙◌, subst, ⊎_elim}
use Rattle.std.proofs.lemmas.Bool.{cases_lt}
use Rattle.std.proofs.lemmas.List.{get_or_append_left, get_or_push, length_push, take-append-le, take_all}
use Rattle.pf_scenario.specs.Event.{is_join_of}
use Rattle.pf_scenario.specs.Scenario.{Plan}
use Rattle.pf_scenario.specs.Edit.{IsScenario}
use Rattle.pf_scenario.specs.declared.event.Numbered.{Numbered}
use Rattle.pf_run.specs.Record.{Slot}
use Rattle.pf_run.specs.Inside.{has_left, joins_of}
use Rattle.pf_run.specs.Denials.{denial_of}
use Rattle.pf_run.specs.Run.{events_in_force, IsRun}
use Rattle.pf_run.proofs.Counting.{count_by-cons}
use Rattle.pf_tally.proofs.Points.{IsBetween, along_points}
use Rattle.std.proofs.Common.{None}

-- where the next of these events joins a task, none before it is this task's leave
abbrev pub AreFresh : List Slot → List Numbered → Type 0
AreFresh q xs = (k task : ℕ) (d : Numbered) → k < length xs → is_join_of task (get_or xs k d).event ≡ true →
    has_left (take k xs) task ≡ false

module _ (s : Plan) (scenario : IsScenario s) where
  fresh_none : AreFresh [] []
  fresh_none k task d lt joins = absurd (omega (arith, lt))

  fresh_event : (q : List Slot) (xs : List Numbered) (x : Numbered) (ys : List Numbered) → IsRun s (length q) q →
      IsBetween s q xs (x ∷ ys) → denial_of s.settings q xs x.event ≡ None → AreFresh q xs → AreFresh q (xs ++ x ∷ [])
  fresh_event q xs x ys run between admitted fresh k task d lt joins = ⊎_elim
      (λ (old : k < length xs).
      let same : get_or (xs ++ x ∷ []) k d ≡ get_or xs k d = get_or_append_left xs (x ∷ []) d k old in
      subst (λ zs. has_left zs task ≡ false) (sym (take-append-le k xs (x ∷ []) (omega (arith, old))))
      (fresh k task d old (subst (λ (y : Numbered). is_join_of task y.event ≡ true) same joins)))
      (λ (ge : length xs ≤ k).
      let last : length xs ≡ k = omega (arith, ge, lt, length_push xs x) in
      let now : is_join_of task x.event ≡ true =
      subst (λ (y : Numbered). is_join_of task y.event ≡ true) (get_or_push xs x d k last) joins in
      let none : joins_of task xs ≡ 0 =
      omega (
        arith,
        between.once task,
        count_by-cons (λ y. is_join_of task y.event) x ys,
        ap {B = ℕ} (λ b. cond b 1 0) now,
      ) in
      let front : take k (xs ++ x ∷ []) ≡ xs =
      take-append-le k xs (x ∷ []) (omega (arith, last)) ∙ take_all k xs (omega (arith, last)) in
      subst (λ zs. has_left zs task ≡ false) (sym front) (between.point.fresh task none).0)
      (cases_lt k (length xs))

  pub are_fresh : (n : ℕ) (r : List Slot) → IsRun s n r → AreFresh r (events_in_force s r (length r))
  are_fresh n r run =
      along_points s scenario AreFresh fresh_none fresh_event (λ q d xs is next stands between fresh. fresh) n r run
