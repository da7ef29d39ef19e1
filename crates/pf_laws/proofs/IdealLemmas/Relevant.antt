-- The relevant subtasks, which are the members before slot 0, and how they pass through neighbouring holes.
use Rattle.std.proofs.Common.{◌≡◌, ℕ, zero, suc, ◌+◌, ◌-◌, ◌*◌, ◌<◌, ◌≤◌, ◌⊎◌, Bool, true, false, ◌||◌, nat_le, arith, refl, ap, sym, subst, ⊎_elim}
use Rattle.std.proofs.Math.Nat.{lt_of_mul-lt-mul_right}
use Rattle.std.proofs.lemmas.Bool.{cases_lt, cases_Bool, or_cases, or_right, and_parts, and_from, leb-true, le-leb, both_ways}
use Rattle.pf_laws.specs.Ideal.Schedule.{Schedule, IsByReach, Reaches, is_overdue}
use Rattle.pf_laws.proofs.IdealLemmas.Windows.{offset-next, deadline-next, release-next, release-rises, asked-rises}
use Rattle.pf_laws.proofs.IdealLemmas.Quanta.{done-runs, done-idle, done-next, runs_now, runs_between}
use Rattle.pf_laws.proofs.IdealLemmas.Overdue.{overdue_is, is_overdue_from}
use Rattle.pf_laws.proofs.IdealLemmas.Border.{Border, is_pick, is_full, crosses, is_chosen, border_back, border_at}
use Rattle.pf_laws.proofs.IdealLemmas.Holes.{IsSound, not_next}
use Rattle.pf_laws.proofs.IdealLemmas.Borders as borders

-- slot v is a hole
abbrev pub IsHole : Schedule → ℕ → Type 0
IsHole s v = is_full s v (border_at s (suc v)) ≡ false

-- the task's next subtask in slot v is relevant and runs there
abbrev pub IsChosen : Schedule → ℕ → ℕ → Type 0
IsChosen s v t = is_chosen s v (border_at s (suc v)) t ≡ true

abbrev pub is_relevant : Schedule → ℕ → ℕ → Bool
is_relevant s t i = (border_at s 0).member t i

module _ (s : Schedule) (ok : IsByReach s) where
  pub sound : (v : ℕ) → v ≤ s.end → IsSound s v (border_at s v)
  sound v le = borders.border_sound s ok v le

  pub chosen_runs : (t v : ℕ) → v < s.end → IsChosen s v t → s.runs t v ≡ true
  chosen_runs t v lt chosen = borders.chosen_runs s ok v (border_at s (suc v)) (sound (suc v) lt) lt t chosen

  pub chosen-done : (t v : ℕ) → v < s.end → IsChosen s v t → s.done t (suc v) ≡ s.done t v + 1
  chosen-done t v lt chosen = done-runs s ok t v (chosen_runs t v lt chosen)

  -- from a border to the one before it

  member_before : (t i v : ℕ) → v < s.end → (border_at s v).member t i ≡ true →
      ((border_at s (suc v)).member t i ≡ true) ⊎ (IsChosen s v t × (i ≡ s.done t v))
  member_before t i v lt m =
      borders.member_before s ok v (border_at s (suc v)) (sound (suc v) lt) lt t i
      (subst (λ (b : Border). b.member t i ≡ true) (borders.border_at-before s ok v lt) m)

  member_stays : (t i v : ℕ) → v < s.end → (border_at s (suc v)).member t i ≡ true → (border_at s v).member t i ≡ true
  member_stays t i v lt m =
      subst (λ (b : Border). b.member t i ≡ true) (sym (borders.border_at-before s ok v lt))
      (borders.member_stays s ok v (border_at s (suc v)) (sound (suc v) lt) lt t i m)

  chosen_is_member : (t v : ℕ) → v < s.end → IsChosen s v t → (border_at s v).member t (s.done t v) ≡ true
  chosen_is_member t v lt chosen =
      subst (λ (b : Border). b.member t (s.done t v) ≡ true) (sym (borders.border_at-before s ok v lt))
      (borders.chosen_is_member s ok v (border_at s (suc v)) (sound (suc v) lt) lt t chosen)

  bound_behind : (t i v : ℕ) → v < s.end → (border_at s v).bound t i ≡ true → (border_at s (suc v)).bound t i ≡ true
  bound_behind t i v lt h =
      borders.bound_behind s ok v (border_at s (suc v)) (sound (suc v) lt) lt t i
      (subst (λ (b : Border). b.bound t i ≡ true) (borders.border_at-before s ok v lt) h)

  -- members and relevant subtasks

  pub member_relevant : (t i v : ℕ) → v ≤ s.end → (border_at s v).member t i ≡ true → is_relevant s t i ≡ true
  member_relevant t i zero le m = m
  member_relevant t i (suc v) le m = member_relevant t i v (omega (arith, le)) (member_stays t i v (omega (arith, le)) m)

  -- what has not run before a border is a member of it
  pub relevant_member : (t i v : ℕ) → v ≤ s.end → is_relevant s t i ≡ true → s.done t v ≤ i →
      (border_at s v).member t i ≡ true
  relevant_member t i zero le m from = m
  relevant_member t i (suc v) le m from = ⊎_elim (λ k. k)
      (λ (it : IsChosen s v t × (i ≡ s.done t v)). absurd (omega (arith, chosen-done t v le it.0, it.1, from)))
      (member_before t i v le (relevant_member t i v (omega (arith, le)) m (omega (arith, from, done-next s ok t v))))

  pub relevant_chosen : (t v : ℕ) → v < s.end → is_relevant s t (s.done t v) ≡ true → s.runs t v ≡ true → IsChosen s v t
  relevant_chosen t v lt m running = ⊎_elim
      (λ (k : (border_at s (suc v)).member t (s.done t v) ≡ true).
      absurd (omega (arith, (sound (suc v) lt).behind t (s.done t v) k, done-runs s ok t v running)))
      (λ (it : IsChosen s v t × (s.done t v ≡ s.done t v)). it.0)
      (member_before t (s.done t v) v lt (relevant_member t (s.done t v) v (omega (arith, lt)) m (omega arith)))

  pub chosen_relevant : (t v : ℕ) → v < s.end → IsChosen s v t → is_relevant s t (s.done t v) ≡ true
  chosen_relevant t v lt chosen = member_relevant t (s.done t v) v (omega (arith, lt)) (chosen_is_member t v lt chosen)

  -- what has run before a border is within its bound
  ran_bounded : (t i v : ℕ) → v ≤ s.end → is_relevant s t i ≡ true → i < s.done t v → (border_at s v).bound t i ≡ true
  ran_bounded t i zero le m before = absurd (omega (arith, before, ok.choice.none t))
  ran_bounded t i (suc v) le m before = ⊎_elim
      (λ (lt : i < s.done t v). bound_behind t i v le (ran_bounded t i v (omega (arith, le)) m lt))
      (λ (ge : s.done t v ≤ i).
      let run = runs_now s ok t i v ge before in
      let chosen : IsChosen s v t = relevant_chosen t v le (subst (λ x. is_relevant s t x ≡ true) (sym run.1) m) run.0 in
      subst (λ x. (border_at s (suc v)).bound t x ≡ true) run.1
      (borders.chosen_bounded s ok v (border_at s (suc v)) (sound (suc v) le) le t chosen))
      (cases_lt i (s.done t v))

  -- the overdue subtasks are relevant
  pub overdue_relevant : (t i : ℕ) → is_overdue s t i ≡ true → is_relevant s t i ≡ true
  unfolding border_back
  overdue_relevant t i late =
      let none_left : s.end - s.end ≡ 0 = omega arith in
      member_relevant t i s.end (omega arith) (subst (λ n. (border_back s n).member t i ≡ true) (sym none_left) late)

  -- what waits

  -- a task that runs where the subtask after the next one is a member, and released, is chosen
  chosen_ahead : (t v : ℕ) → v < s.end → s.runs t v ≡ true → (border_at s (suc v)).member t (suc (s.done t v)) ≡ true →
      s.release t (suc (s.done t v)) ≤ v → IsChosen s v t
  chosen_ahead t v lt running member early =
      let i = s.done t v in
      let b = border_at s (suc v) in
      let all = sound (suc v) lt in
      let after = all.waits t (suc i) member (omega (arith, done-runs s ok t v running)) (omega (arith, early)) in
      let bounded = all.closed t i t (suc i) (ok.order.earlier t i t (suc i) (deadline-next s ok t i)) after in
      and_from (is_pick s v b t) (is_full s v b || crosses s v b t)
      (and_from (s.runs t v) (b.bound t i) running bounded)
      (or_right (is_full s v b) (crosses s v b t)
      (and_from (b.member t (suc i)) (nat_le (s.release t (suc i)) v) member (le-leb (s.release t (suc i)) v early)))

  -- where a relevant subtask waits at a border, so does the one before it, which is relevant too
  relevant_before : (t j v : ℕ) → v ≤ s.end → is_relevant s t (suc j) ≡ true → s.done t v ≤ j →
      s.release t (suc j) < v → is_relevant s t j ≡ true
  relevant_before t j v le m from early = ⊎_elim ran late (cases_lt j (s.done t s.end)) where
    ran : j < s.done t s.end → is_relevant s t j ≡ true
    ran less =
        let run = runs_between s ok t j v s.end from less in
        let u = run.0 in
        let same : suc j ≡ suc (s.done t u) = ap suc (sym run.4) in
        let member : (border_at s (suc u)).member t (suc (s.done t u)) ≡ true =
        subst (λ x. (border_at s (suc u)).member t x ≡ true) same
        (relevant_member t (suc j) (suc u) run.2 m (omega (arith, done-runs s ok t u run.3, run.4))) in
        let chosen : IsChosen s u t =
        chosen_ahead t u run.2 run.3 member (subst (λ x. s.release t x ≤ u) same (omega (arith, early, run.1))) in
        subst (λ x. is_relevant s t x ≡ true) run.4 (chosen_relevant t u run.2 chosen)

    late : s.done t s.end ≤ j → is_relevant s t j ≡ true
    late none = ⊎_elim (λ (less : suc j < s.done t s.end). absurd (omega (arith, less, none)))
        (λ over.
        let it = overdue_is s t (suc j) over in
        overdue_relevant t j (is_overdue_from s t j it.0 (omega (arith, it.1, deadline-next s ok t j)) none))
        ((sound 0 (omega arith)).lives t (suc j) m)

  -- and so does the next one
  relevant_next : (t v n : ℕ) → v ≤ s.end → is_relevant s t (n + s.done t v) ≡ true → s.release t (n + s.done t v) < v →
      is_relevant s t (s.done t v) ≡ true
  relevant_next t v zero le m early = subst (λ x. is_relevant s t x ≡ true) (omega arith) m
  relevant_next t v (suc n) le m early =
      let j = n + s.done t v in
      let same : suc n + s.done t v ≡ suc j = omega arith in
      let before =
      relevant_before t j v le (subst (λ x. is_relevant s t x ≡ true) same m) (omega arith)
      (subst (λ x. s.release t x < v) same early) in
      relevant_next t v n le before
      (omega (arith, subst (λ x. s.release t x < v) same early, release-rises s ok t j (suc j) (omega arith)))

  -- holes

  -- where a member waits at a hole, its task runs there, a subtask before it, and is chosen
  pub waits_at : (t i v : ℕ) → v < s.end → IsHole s v → (border_at s (suc v)).member t i ≡ true → s.release t i ≤ v →
      (s.done t v < i) × IsChosen s v t
  waits_at t i v lt hole m early = ⊎_elim running idle (cases_Bool (s.runs t v)) where
    behind : s.done t (suc v) ≤ i
    behind = (sound (suc v) lt).behind t i m

    next : is_relevant s t (s.done t (suc v)) ≡ true
    next =
        let same : i ≡ (i - s.done t (suc v)) + s.done t (suc v) = omega (arith, behind) in
        relevant_next t (suc v) (i - s.done t (suc v)) lt
        (subst (λ x. is_relevant s t x ≡ true) same (member_relevant t i (suc v) lt m))
        (subst (λ x. s.release t x < suc v) same (omega (arith, early)))

    member : (border_at s (suc v)).member t (s.done t (suc v)) ≡ true
    member = relevant_member t (s.done t (suc v)) (suc v) lt next (omega arith)

    released : s.release t (s.done t (suc v)) ≤ v
    released = omega (arith, early, release-rises s ok t (s.done t (suc v)) i behind)

    running : s.runs t v ≡ true → (s.done t v < i) × IsChosen s v t
    running h =
        let same : s.done t (suc v) ≡ suc (s.done t v) = omega (arith, done-runs s ok t v h) in (
          omega (arith, same, behind),
          chosen_ahead t v lt h (subst (λ x. (border_at s (suc v)).member t x ≡ true) same member)
              (subst (λ x. s.release t x ≤ v) same released),
        )

    idle : s.runs t v ≡ false → (s.done t v < i) × IsChosen s v t
    idle h =
        absurd
        (not_next s ok t (s.done t (suc v)) v (border_at s (suc v)) (sound (suc v) lt) lt hole member released
        ((sound (suc v) lt).waits t (s.done t (suc v)) member refl (omega (arith, released)))
        (sym (done-idle s ok t v h)))

  -- of what is chosen at a hole: its successor is a member that waits there, so it is due by the slot's end
  pub record Crosses (t v : ℕ) : Type 0 where
    pub member : (border_at s (suc v)).member t (suc (s.done t v)) ≡ true
    pub released : s.release t (suc (s.done t v)) ≤ v
    pub due : s.deadline t (s.done t v) ≤ suc v

  pub crossing : (t v : ℕ) → IsHole s v → IsChosen s v t → Crosses t v
  crossing t v hole chosen =
      let b = border_at s (suc v) in
      let either = (and_parts (is_pick s v b t) (is_full s v b || crosses s v b t) chosen).1 in
      ⊎_elim (λ full. absurd (both_ways (is_full s v b) hole full))
      (λ cross.
      let both = and_parts (b.member t (suc (s.done t v))) (nat_le (s.release t (suc (s.done t v))) v) cross in
      let early : s.release t (suc (s.done t v)) ≤ v = leb-true (s.release t (suc (s.done t v))) v both.1 in
      record { member = both.0; released = early; due = omega (arith, early, release-next s ok t (s.done t v)) })
      (or_cases (is_full s v b) (crosses s v b t) either)

  -- what has run before a hole comes no later in the order than something that was chosen there
  pub ran_under : (t i v : ℕ) → v < s.end → IsHole s v → is_relevant s t i ≡ true → i < s.done t v →
      (u : ℕ) × IsChosen s v u × (s.no_later t i u (s.done u v) ≡ true)
  unfolding borders.IsUnder
  ran_under t i v lt hole m before =
      borders.under_hole s ok v (border_at s (suc v)) (sound (suc v) lt) lt t i hole
      (subst (λ (b : Border). b.bound t i ≡ true) (borders.border_at-before s ok v lt)
      (ran_bounded t i v (omega (arith, lt)) m before))

  pub ran_due : (t i v : ℕ) → v < s.end → IsHole s v → is_relevant s t i ≡ true → i < s.done t v →
      s.deadline t i ≤ suc v
  ran_due t i v lt hole m before =
      let it = ran_under t i v lt hole m before in
      omega (arith, ok.order.deadline t i it.0 (s.done it.0 v) it.2, (crossing it.0 v hole it.1).due)

  -- neighbouring holes

  onward : (t v : ℕ) → suc v < s.end → IsHole s v → IsHole s (suc v) → IsChosen s v t → IsChosen s (suc v) t
  onward t v lt hole next chosen =
      let cross = crossing t v hole chosen in
      ⊎_elim
      (λ m.
      let waits = waits_at t (suc (s.done t v)) (suc v) lt next m (omega (arith, cross.released)) in
      absurd (omega (arith, waits.0, chosen-done t v (omega (arith, lt)) chosen)))
      (λ it. it.0) (member_before t (suc (s.done t v)) (suc v) lt cross.member)

  backward : (t v : ℕ) → suc v < s.end → IsHole s v → IsHole s (suc v) → IsChosen s (suc v) t → IsChosen s v t
  backward t v lt hole next chosen =
      let i = s.done t (suc v) in
      let cross = crossing t (suc v) next chosen in
      let begins : (s.release t (suc i) + 1) * s.units t ≤ (suc v + 1) * s.units t =
      asked-rises s ok t (s.release t (suc i) + 1) (suc v + 1) (omega (arith, cross.released)) in
      let early : s.release t i < suc v =
      lt_of_mul-lt-mul_right (s.units t)
      (omega (arith, ok.windows.released t i, offset-next s ok t i, ok.windows.within t, ok.windows.begins t (suc i), begins)) in
      (waits_at t i v (omega (arith, lt)) hole (chosen_is_member t (suc v) lt chosen) (omega (arith, early))).1

  -- where one that is chosen is due right after its hole, so is the one that is chosen at the next hole
  due_next : (t v : ℕ) → suc v < s.end → IsHole s v → IsHole s (suc v) → IsChosen s v t →
      s.deadline t (s.done t v) ≡ suc v → s.deadline t (s.done t (suc v)) ≡ suc (suc v)
  due_next t v lt hole next chosen due =
      let step : s.done t (suc v) ≡ suc (s.done t v) = omega (arith, chosen-done t v (omega (arith, lt)) chosen) in
      omega (
        arith,
        due,
        (crossing t (suc v) next (onward t v lt hole next chosen)).due,
        deadline-next s ok t (s.done t v),
        ap (λ j. s.deadline t j) step,
      )

  -- n + 1 neighbouring holes from v on
  pub AreHoles : ℕ → ℕ → Type 0
  AreHoles v n = (k : ℕ) → k ≤ n → IsHole s (k + v)

  holes-tail : (v n : ℕ) → AreHoles v (suc n) → AreHoles (suc v) n
  unfolding AreHoles
  holes-tail v n holes k le = subst (λ x. IsHole s x) (omega arith) (holes (suc k) (omega (arith, le)))

  pub holes-first : (v n : ℕ) → AreHoles v n → IsHole s v
  unfolding AreHoles
  holes-first v n holes = subst (λ x. IsHole s x) (omega arith) (holes 0 (omega arith))

  pub holes-last : (v n : ℕ) → AreHoles v n → IsHole s (n + v)
  unfolding AreHoles
  holes-last v n holes = holes n (omega arith)

  pub holes-front : (v n k : ℕ) → k ≤ n → AreHoles v n → AreHoles v k
  unfolding AreHoles
  holes-front v n k le holes = λ q less. holes q (omega (arith, le, less))

  pub are_holes : (v n : ℕ) → ((k : ℕ) → k < suc n → IsHole s (k + v)) → AreHoles v n
  unfolding AreHoles
  are_holes v n holes = λ k le. holes k (omega (arith, le))

  -- what is chosen at the first of them, and due right after it, reaches past them all
  pub reaches : (t v n : ℕ) → n + v < s.end → AreHoles v n → IsChosen s v t → s.deadline t (s.done t v) ≡ suc v →
      Reaches s t (s.done t v) n
  reaches t v zero lt holes chosen due =
      let i = s.done t v in
      let cross = crossing t v (holes-first v 0 holes) chosen in
      let begins : (s.release t (suc i) + 1) * s.units t ≤ suc v * s.units t =
      asked-rises s ok t (s.release t (suc i) + 1) (suc v) (omega (arith, cross.released)) in
      omega (arith, offset-next s ok t i, ok.windows.begins t (suc i), begins, ap (λ z. z * s.units t) due)
  reaches t v (suc n) lt holes chosen due =
      let i = s.done t v in
      let hole : IsHole s v = holes-first v (suc n) holes in
      let next : IsHole s (suc v) = holes-first (suc v) n (holes-tail v n holes) in
      let then : IsChosen s (suc v) t = onward t v (omega (arith, lt)) hole next chosen in
      let step : s.done t (suc v) ≡ suc i = omega (arith, chosen-done t v (omega (arith, lt)) chosen) in
      let then_due : s.deadline t (s.done t (suc v)) ≡ suc (suc v) =
      due_next t v (omega (arith, lt)) hole next chosen due in
      let far : Reaches s t (suc i) n =
      subst (λ j. Reaches s t j n) step (reaches t (suc v) n (omega (arith, lt)) (holes-tail v n holes) then then_due) in
      let after : s.deadline t (suc i) ≡ suc (suc v) = subst (λ j. s.deadline t j ≡ suc (suc v)) step then_due in
      omega (
        arith,
        far,
        offset-next s ok t i,
        ap (λ z. (z + suc n) * s.units t) due,
        ap (λ z. (z + n) * s.units t) after,
      )

  -- at holes up to the end nothing that is chosen is due right after its slot: else so it went on to the end, and what
  -- follows the last one were a member that is due after the end
  pub due_before : (t v n : ℕ) → suc (n + v) ≡ s.end → AreHoles v n → IsChosen s v t → s.deadline t (s.done t v) ≤ v
  due_before t v n last holes chosen = ⊎_elim
      (λ (less : s.deadline t (s.done t v) < suc v). omega (arith, less))
      (λ (ge : suc v ≤ s.deadline t (s.done t v)).
      let due : s.deadline t (s.done t v) ≡ suc v =
      omega (arith, ge, (crossing t v (holes-first v n holes) chosen).due) in
      absurd (never t v n (omega (arith, last)) holes chosen due))
      (cases_lt (s.deadline t (s.done t v)) (suc v))
    where
      never : (u w k : ℕ) → suc (k + w) ≡ s.end → AreHoles w k → IsChosen s w u → s.deadline u (s.done u w) ≡ suc w → ⊥
      never u w zero end are picked due =
          let cross = crossing u w (holes-first w 0 are) picked in
          omega (
            arith,
            end,
            due,
            deadline-next s ok u (s.done u w),
            (sound (suc w) (omega (arith, end))).due u (suc (s.done u w)) cross.member,
          )
      never u w (suc k) end are picked due =
          let hole : IsHole s w = holes-first w (suc k) are in
          let next : IsHole s (suc w) = holes-first (suc w) k (holes-tail w k are) in
          let below : suc w < s.end = omega (arith, end) in
          never u (suc w) k (omega (arith, end)) (holes-tail w k are) (onward u w below hole next picked)
          (due_next u w below hole next picked due)

  -- the chosen of the first of them are those of the last

  pub chosen_onward : (t v n : ℕ) → n + v < s.end → AreHoles v n → IsChosen s v t → IsChosen s (n + v) t
  chosen_onward t v zero lt holes chosen = subst (λ x. IsChosen s x t) (omega arith) chosen
  chosen_onward t v (suc n) lt holes chosen =
      let next : IsHole s (suc v) = holes-first (suc v) n (holes-tail v n holes) in
      subst (λ x. IsChosen s x t) (omega arith)
      (chosen_onward t (suc v) n (omega (arith, lt)) (holes-tail v n holes)
      (onward t v (omega (arith, lt)) (holes-first v (suc n) holes) next chosen))

  pub chosen_backward : (t v n : ℕ) → n + v < s.end → AreHoles v n → IsChosen s (n + v) t → IsChosen s v t
  chosen_backward t v zero lt holes chosen = subst (λ x. IsChosen s x t) (omega arith) chosen
  chosen_backward t v (suc n) lt holes chosen =
      let next : IsHole s (suc v) = holes-first (suc v) n (holes-tail v n holes) in
      backward t v (omega (arith, lt)) (holes-first v (suc n) holes) next
      (chosen_backward t (suc v) n (omega (arith, lt)) (holes-tail v n holes)
      (subst (λ x. IsChosen s x t) (omega arith) chosen))
