-- What a task gains in the ideal run over a block: over neighbouring holes and the full slot after them.
use Rattle.std.proofs.Common.{◌≡◌, ℕ, zero, suc, ◌+◌, ◌-◌, ◌*◌, ◌<◌, ◌≤◌, ◌==◌, ◌⊎◌, Bool, true, false, ◌&&◌, min, if◌then◌else◌, arith, inl, inr, ap, sym, subst, ⊎_elim}
use Rattle.std.proofs.Math.Nat.{lt_of_mul-lt-mul_right, mul-le-mul_right}
use Rattle.std.proofs.lemmas.Bool.{cases_lt, cases_Bool, and_parts, and_from, eqb-true, eq-eqb, both_ways, cond-true}
use Rattle.pf_laws.specs.Ideal.Schedule.{Schedule, IsByReach, Reaches}
use Rattle.pf_laws.proofs.IdealLemmas.Flows.{flow, flow-rate, flow-late, flow-still, flow-early, flow-plus}
use Rattle.pf_laws.proofs.IdealLemmas.Windows.{offset-next, offset-rises, window-some, deadline-climbs, asked-rises}
use Rattle.pf_laws.proofs.IdealLemmas.Quanta.{done-rises, done-few, runs_between}
use Rattle.pf_laws.proofs.IdealLemmas.Overdue.{overdue_is}
use Rattle.pf_laws.proofs.IdealLemmas.Holes.{inside_waiting}
use Rattle.pf_laws.proofs.IdealLemmas.Relevant as relevant

-- what the relevant subtasks of a task have had of the ideal run where the task has asked for x, and by slot v
abbrev pub flow_at : Schedule → ℕ → ℕ → ℕ
flow_at s t x = flow s.quantum (s.offset t) (relevant.is_relevant s t) x 0 s.end

abbrev pub flow_of : Schedule → ℕ → ℕ → ℕ
flow_of s t v = flow_at s t (v * s.units t)

-- what a task asks of slot v
abbrev pub asked_of : Schedule → ℕ → ℕ → ℕ
asked_of s v t = if s.inside t v then s.units t else 0

-- one of the first n numbers passes the test, or none does
search_below : (test : ℕ → Bool) (n : ℕ) →
    ((i : ℕ) × (i < n) × (test i ≡ true)) ⊎ ((i : ℕ) → i < n → test i ≡ false)
search_below test zero = inr (λ i lt. absurd (omega (arith, lt)))
search_below test (suc n) = ⊎_elim
    (λ (one : (i : ℕ) × (i < n) × (test i ≡ true)). inl (one.0, omega (arith, one.1), one.2))
    (λ (none : (i : ℕ) → i < n → test i ≡ false).
    ⊎_elim (λ (here : test n ≡ true). inl (n, omega arith, here))
    (λ (not : test n ≡ false).
    inr (λ i lt.
    ⊎_elim (λ (less : i < n). none i less)
    (λ (ge : n ≤ i).
    let same : n ≡ i = omega (arith, ge, lt) in subst (λ x. test x ≡ false) same not)
    (cases_lt i n)))
    (cases_Bool (test n)))
    (search_below test n)

module _ (s : Schedule) (ok : IsByReach s) where
  -- k slots of a task are at most k quanta
  slow : (t k : ℕ) → k * s.units t ≤ k * s.quantum
  slow t zero = omega arith
  slow t (suc k) = omega (arith, slow t k, ok.windows.within t)

  is_inside : (t i v : ℕ) → v < s.end → relevant.is_relevant s t i ≡ true → s.release t i ≤ v → v < s.deadline t i →
      s.inside t v ≡ true
  is_inside t i v below m from upto = ⊎_elim
      (λ ran. ok.presence.through t i v below from upto ran)
      (λ late. ok.presence.stays t i v below from (overdue_is s t i late).0)
      ((relevant.sound s ok 0 (omega arith)).lives t i m)

  asked-inside : (t v : ℕ) → s.inside t v ≡ true → asked_of s v t ≡ s.units t
  asked-inside t v there = cond-true (s.inside t v) (s.units t) 0 there

  flow-slots : (t a b : ℕ) → a ≤ b → flow_of s t b ≤ flow_of s t a + (b * s.units t - a * s.units t)
  flow-slots t a b le =
      flow-rate s.quantum (s.offset t) (relevant.is_relevant s t) (a * s.units t) (b * s.units t) 0 s.end
      (offset-next s ok t) (asked-rises s ok t a b le)

  -- in one slot
  pub gain_of_slot : (t v : ℕ) → v < s.end → flow_of s t (suc v) ≤ flow_of s t v + asked_of s v t
  gain_of_slot t v below = ⊎_elim
      (λ (there : s.inside t v ≡ true). omega (arith, asked-inside t v there, flow-slots t v (suc v) (omega arith)))
      (λ (away : s.inside t v ≡ false).
      omega (
        arith,
        flow-still s.quantum (s.offset t) (relevant.is_relevant s t) (v * s.units t) (suc v * s.units t) 0 s.end
            (λ j from upto m. still away j m),
      ))
      (cases_Bool (s.inside t v))
    where
      still : s.inside t v ≡ false → (j : ℕ) → relevant.is_relevant s t j ≡ true →
          min s.quantum (suc v * s.units t - s.offset t j) ≤ min s.quantum (v * s.units t - s.offset t j)
      still away j m = ⊎_elim
          (λ (lt : v < s.release t j).
          omega (arith, asked-rises s ok t (suc v) (s.release t j) lt, ok.windows.released t j))
          (λ (from : s.release t j ≤ v).
          ⊎_elim
          (λ (upto : v < s.deadline t j). absurd (both_ways (s.inside t v) away (is_inside t j v below m from upto)))
          (λ (past : s.deadline t j ≤ v).
          omega (arith, asked-rises s ok t (s.deadline t j) v past, ok.windows.ends t j, asked-rises s ok t v (suc v) (omega arith)))
          (cases_lt v (s.deadline t j)))
          (cases_lt v (s.release t j))

  -- a task that is chosen at n + 1 holes
  pub gain_of_chosen : (t v n : ℕ) → suc n + v < s.end → relevant.AreHoles s ok v n → relevant.IsChosen s v t →
      flow_of s t (suc (suc n + v)) ≤ flow_of s t v + suc n * s.quantum + asked_of s (suc n + v) t
  gain_of_chosen t v n lt holes chosen =
      let e = suc n + v in
      let last : relevant.IsChosen s (n + v) t = relevant.chosen_onward s ok t v n (omega (arith, lt)) holes chosen in
      let cross = relevant.crossing s ok t (n + v) (relevant.holes-last s ok v n holes) last in
      let i = s.done t (n + v) in
      let behind = relevant.sound s ok (suc (n + v)) (omega (arith, lt)) in
      let there : s.inside t e ≡ true =
      inside_waiting s ok t (suc i) e lt (behind.lives t (suc i) cross.member)
      (omega (arith, behind.behind t (suc i) cross.member, ap (λ x. s.done t x) (plus n v)))
      (omega (arith, cross.released)) in
      omega (arith, asked-inside t e there, slow t (suc n), flow-slots t v (suc e) (omega arith))
    where
      plus : (a b : ℕ) → suc a + b ≡ suc (a + b)
      plus a b = omega arith

  -- one that is chosen at n + 1 holes up to the end
  pub gain_of_chosen_last : (t v n : ℕ) → flow_of s t (suc n + v) ≤ flow_of s t v + suc n * s.quantum
  gain_of_chosen_last t v n = omega (arith, slow t (suc n), flow-slots t v (suc n + v) (omega arith))

  -- quanta and gaps add up
  offset-later : (t j n : ℕ) →
      (x : ℕ) × (s.offset t (suc (n + j)) ≡ s.offset t j + s.quantum + n * s.quantum + s.units t * x)
  offset-later t j zero = (s.gap t j, omega (arith, ok.windows.next t j, ap (λ k. s.offset t (suc k)) (plus j))) where
    plus : (k : ℕ) → 0 + k ≡ k
    plus k = omega arith
  offset-later t j (suc n) =
      let before = offset-later t j n in (
        before.0 + s.gap t (suc (n + j)),
        omega (arith, before.1, ok.windows.next t (suc (n + j)), ap (λ k. s.offset t (suc k)) (move n j)),
      ) where
        move : (a b : ℕ) → suc a + b ≡ suc (a + b)
        move a b = omega arith

  -- where subtask j, due at slot v, reaches n slots past it, what is released after those has an offset n + 1 slots later
  late_offset : (t j l v n : ℕ) → j < l → s.deadline t j ≡ suc v → Reaches s t j n → suc n + v ≤ s.release t l →
      s.offset t j + s.quantum + suc n * s.units t ≤ s.offset t l
  late_offset t j l v n lt due far late =
      let between : ℕ = l - suc j in
      let later = offset-later t j between in
      let same : suc (between + j) ≡ l = omega (arith, lt) in
      let is : s.offset t l ≡ s.offset t j + s.quantum + between * s.quantum + s.units t * later.0 =
      subst (λ x. s.offset t x ≡ s.offset t j + s.quantum + between * s.quantum + s.units t * later.0) same later.1 in
      let from : (suc n + v) * s.units t ≤ s.offset t l =
      omega (arith, asked-rises s ok t (suc n + v) (s.release t l) late, ok.windows.released t l) in
      let reach : s.offset t j + (n + 1) * s.quantum < (suc v + n) * s.units t =
      subst (λ x. s.offset t j + (n + 1) * s.quantum < (x + n) * s.units t) due far in
      ⊎_elim
      (λ (less : between ≤ n). few between (n - between) later.0 (omega (arith, less)) is from reach)
      (λ (ge : n < between). omega (arith, is, mul-le-mul_right s.quantum ge, slow t (suc n)))
      (at_most between n)
    where
      at_most : (a b : ℕ) → (a ≤ b) ⊎ (b < a)
      at_most a b = ⊎_elim (λ lt. inr lt) (λ ge. inl ge) (cases_lt b a)

      few : (k d x : ℕ) → n ≡ k + d → s.offset t l ≡ s.offset t j + s.quantum + k * s.quantum + s.units t * x →
          (suc n + v) * s.units t ≤ s.offset t l → s.offset t j + (n + 1) * s.quantum < (suc v + n) * s.units t →
          s.offset t j + s.quantum + suc n * s.units t ≤ s.offset t l
      few k d x sum is from reach =
          let n_quanta : n * s.quantum ≡ (k + d) * s.quantum = ap (λ y. y * s.quantum) sum in
          let n_units : n * s.units t ≡ (k + d) * s.units t = ap (λ y. y * s.units t) sum in
          let short : d * s.quantum < x * s.units t = omega (arith, is, from, reach, n_quanta, n_units) in
          let more : d < x = lt_of_mul-lt-mul_right (s.units t) (omega (arith, short, slow t d)) in
          omega (arith, is, n_units, asked-rises s ok t (suc d) x more, slow t k)

  -- the members that ran before a slot and the others apart: what those have had by `early`, and these from `late` on
  flow-apart : (t v y early late : ℕ) → v ≤ s.end → v * s.units t ≤ early →
      ((j : ℕ) → j < s.done t v → relevant.is_relevant s t j ≡ true → s.offset t j + s.quantum ≤ early) →
      ((j : ℕ) → s.done t v ≤ j → relevant.is_relevant s t j ≡ true → late ≤ s.offset t j) →
      flow_at s t y ≤ flow_of s t v + (early - v * s.units t) + (y - late)
  flow-apart t v y early late le up first last =
      let d = s.done t v in
      let rest : ℕ = s.end - d in
      let all : s.end ≡ d + rest = omega (arith, done-few s ok t v, le) in
      let parts = λ (x : ℕ). flow-plus s.quantum (s.offset t) (relevant.is_relevant s t) x 0 d rest in
      let whole = λ (x : ℕ). ap (λ k. flow s.quantum (s.offset t) (relevant.is_relevant s t) x 0 k) all in
      omega (
        arith,
        whole y,
        whole (v * s.units t),
        parts y,
        parts (v * s.units t),
        flow-early s.quantum (s.offset t) (relevant.is_relevant s t) (v * s.units t) y early 0 d (offset-next s ok t) up
            (λ j from upto m. first j (omega (arith, upto)) m),
        flow-late s.quantum (s.offset t) (relevant.is_relevant s t) y late (d + 0) rest (offset-next s ok t)
            (λ j from upto m. last j (omega (arith, from)) m),
      )

  -- a task that is not chosen at n + 1 holes
  module _ (t v n : ℕ) (le : suc n + v ≤ s.end) (holes : relevant.AreHoles s ok v n) (not : relevant.IsChosen s v t → ⊥) where
    e : ℕ
    e = suc n + v

    hole : relevant.IsHole s v
    hole = relevant.holes-first s ok v n holes

    -- what has not run before the holes doesn't run in them ..
    unrun : (l : ℕ) → relevant.is_relevant s t l ≡ true → s.done t v ≤ l → s.done t (suc (n + v)) ≤ l
    unrun l m from = ⊎_elim
        (λ (ran : l < s.done t (suc (n + v))).
        let run = runs_between s ok t l v (suc (n + v)) from ran in
        let k : ℕ = run.0 - v in
        let same : run.0 ≡ k + v = omega (arith, run.1) in
        let m' : relevant.is_relevant s t (s.done t run.0) ≡ true =
        subst (λ y. relevant.is_relevant s t y ≡ true) (sym run.4) m in
        let chosen : relevant.IsChosen s run.0 t =
        relevant.relevant_chosen s ok t run.0 (omega (arith, run.2, le)) m' run.3 in
        let front = relevant.holes-front s ok v n k (omega (arith, run.2, run.1)) holes in
        absurd
        (not (relevant.chosen_backward s ok t v k (omega (arith, run.2, run.1, le)) front
        (subst (λ z. relevant.IsChosen s z t) same chosen))))
        (λ ge. ge) (cases_lt l (s.done t (suc (n + v))))

    -- .. but is released after them
    released_after : (l : ℕ) → relevant.is_relevant s t l ≡ true → s.done t v ≤ l → e ≤ s.release t l
    unfolding e
    released_after l m from = ⊎_elim
        (λ (early : s.release t l < suc n + v).
        let member = relevant.relevant_member s ok t l (suc (n + v)) (omega (arith, le)) m (unrun l m from) in
        let waits =
        relevant.waits_at s ok t l (n + v) (omega (arith, le)) (relevant.holes-last s ok v n holes) member
        (omega (arith, early)) in
        absurd (not (relevant.chosen_backward s ok t v n (omega (arith, le)) holes waits.1)))
        (λ ge. ge) (cases_lt (s.release t l) (suc n + v))

    ran_due : (j : ℕ) → j < s.done t v → relevant.is_relevant s t j ≡ true → s.deadline t j ≤ suc v
    ran_due j before m = relevant.ran_due s ok t j v (omega (arith, le)) hole m before

    offset_after : (j : ℕ) → s.done t v ≤ j → relevant.is_relevant s t j ≡ true → e * s.units t ≤ s.offset t j
    offset_after j from m =
        omega (arith, asked-rises s ok t e (s.release t j) (released_after j m from), ok.windows.released t j)

    -- at holes up to the end: all that ran was due before, and nothing else is left
    pub gain_of_other_last : suc n + v ≡ s.end → flow_of s t (suc n + v) ≤ flow_of s t v
    unfolding e
    gain_of_other_last last =
        omega (
          arith,
          flow-apart t v (e * s.units t) (v * s.units t) (e * s.units t) (omega (arith, le)) (omega arith) first none_left,
        )
      where
        first : (j : ℕ) → j < s.done t v → relevant.is_relevant s t j ≡ true → s.offset t j + s.quantum ≤ v * s.units t
        first j before m =
            let u = relevant.ran_under s ok t j v (omega (arith, le)) hole m before in
            let due : s.deadline t j ≤ v =
            omega (
              arith,
              ok.order.deadline t j u.0 (s.done u.0 v) u.2,
              relevant.due_before s ok u.0 v n (omega (arith, last)) holes u.1,
            ) in
            omega (arith, ok.windows.ends t j, asked-rises s ok t (s.deadline t j) v due)

        none_left : (j : ℕ) → s.done t v ≤ j → relevant.is_relevant s t j ≡ true → e * s.units t ≤ s.offset t j
        none_left j from m =
            absurd
            (omega (
              arith,
              last,
              released_after j m from,
              window-some s ok t j,
              (relevant.sound s ok 0 (omega arith)).due t j m,
            ))

    -- at holes that a full slot follows
    module _ (lt : suc n + v < s.end) where
      -- a subtask that ran is due right after the first hole
      is_due : ℕ → Bool
      is_due j = relevant.is_relevant s t j && (s.deadline t j == suc v)

      -- where none is
      gain_of_none : ((i : ℕ) → i < s.done t v → is_due i ≡ false) → flow_of s t (suc e) ≤ flow_of s t v + asked_of s e t
      unfolding e is_due
      gain_of_none none = ⊎_elim
          (λ (there : s.inside t e ≡ true).
          omega (
            arith,
            asked-inside t e there,
            flow-apart t v (suc e * s.units t) (v * s.units t) (e * s.units t) (omega (arith, lt)) (omega arith) over offset_after,
          ))
          (λ (away : s.inside t e ≡ false).
          omega (
            arith,
            flow-apart t v (suc e * s.units t) (v * s.units t) (suc e * s.units t) (omega (arith, lt)) (omega arith) over (later away),
          ))
          (cases_Bool (s.inside t e))
        where
          over : (j : ℕ) → j < s.done t v → relevant.is_relevant s t j ≡ true → s.offset t j + s.quantum ≤ v * s.units t
          over j before m = ⊎_elim
              (λ (same : s.deadline t j ≡ suc v).
              absurd
              (both_ways (is_due j) (none j before)
              (and_from (relevant.is_relevant s t j) (s.deadline t j == suc v) m (eq-eqb (s.deadline t j) (suc v) same))))
              (λ (le : s.deadline t j ≤ v). omega (arith, ok.windows.ends t j, asked-rises s ok t (s.deadline t j) v le))
              (same_or_less (s.deadline t j) v (ran_due j before m)) where
                same_or_less : (a b : ℕ) → a ≤ suc b → (a ≡ suc b) ⊎ (a ≤ b)
                same_or_less a b le = ⊎_elim (λ x. inl (omega (arith, x, le))) (λ x. inr x) (cases_lt b a)

          later : s.inside t e ≡ false → (j : ℕ) → s.done t v ≤ j → relevant.is_relevant s t j ≡ true →
              suc e * s.units t ≤ s.offset t j
          later away j from m =
              let late : e ≤ s.release t j = released_after j m from in
              ⊎_elim
              (λ (more : e < s.release t j).
              omega (arith, asked-rises s ok t (suc e) (s.release t j) more, ok.windows.released t j))
              (λ (le : s.release t j ≤ e).
              absurd (both_ways (s.inside t e) away (is_inside t j e lt m le (omega (arith, late, window-some s ok t j)))))
              (cases_lt e (s.release t j))

      -- where one is: by its reach the task is still inside, and what follows it comes late
      gain_of_due : (j : ℕ) → j < s.done t v → is_due j ≡ true → flow_of s t (suc e) ≤ flow_of s t v + asked_of s e t
      unfolding e is_due
      gain_of_due j before is =
          let both = and_parts (relevant.is_relevant s t j) (s.deadline t j == suc v) is in
          let due : s.deadline t j ≡ suc v = eqb-true (s.deadline t j) (suc v) both.1 in
          let u = relevant.ran_under s ok t j v (omega (arith, lt)) hole both.0 before in
          let last : s.deadline u.0 (s.done u.0 v) ≡ suc v =
          omega (arith, due, ok.order.deadline t j u.0 (s.done u.0 v) u.2, (relevant.crossing s ok u.0 v hole u.1).due) in
          let far : Reaches s t j n =
          ok.order.reach t j u.0 (s.done u.0 v) n u.2 (omega (arith, due, last))
          (relevant.reaches s ok u.0 v n (omega (arith, lt)) holes u.1 last) in
          let there : s.inside t e ≡ true =
          ok.presence.past t j e n lt (omega (arith, before, done-rises s ok t v e (omega arith))) (omega (arith, due)) far in
          let due_asked : s.deadline t j * s.units t ≡ suc v * s.units t = ap (λ z. z * s.units t) due in
          omega (
            arith,
            asked-inside t e there,
            ok.windows.ends t j,
            ok.windows.due t j,
            due_asked,
            flow-apart t v (suc e * s.units t) (s.offset t j + s.quantum) (s.offset t j + s.quantum + suc n * s.units t)
                (omega (arith, lt)) (omega (arith, ok.windows.due t j, due_asked))
                (λ i ran m. no_later i (ran_due i ran m) due)
                (λ l from m. late_offset t j l v n (omega (arith, before, from)) due far (released_after l m from)),
          )
        where
          no_later : (i : ℕ) → s.deadline t i ≤ suc v → s.deadline t j ≡ suc v →
              s.offset t i + s.quantum ≤ s.offset t j + s.quantum
          no_later i le due = ⊎_elim
              (λ (more : j < i). absurd (omega (arith, le, due, deadline-climbs s ok t j i (omega (arith, more)), more)))
              (λ (up : i ≤ j). omega (arith, offset-rises s ok t i j up)) (cases_lt j i)

      pub gain_of_other : flow_of s t (suc (suc n + v)) ≤ flow_of s t v + asked_of s (suc n + v) t
      unfolding e
      gain_of_other = ⊎_elim (λ it. gain_of_due it.0 it.1 it.2) gain_of_none (search_below is_due (s.done t v))
