-- Checkpoints that fit a run: the next one kept, one slot more, another scenario with the same past, and the first ones.
use Rattle.std.proofs.Common.{◌≡◌, ℕ, zero, suc, refl, length-drop, get_or-drop, ◌+◌, ◌*◌, ◌/◌, ◌-◌, ◌<◌, ◌≤◌, ◌⊎◌, inl, inr, Option, List, [], ◌∷◌, ◌++◌, length, take, drop, get_or, sym, ap, ap₂, ◌∙◌, subst, arith, length-append}
use Rattle.std.proofs.Math.Nat.{div-lt_iff_lt-mul, div-mul-le_self}
use Rattle.std.proofs.lemmas.Bool.{cases_lt, le-ltb, lt-ltb}
use Rattle.std.proofs.lemmas.Nat.{mul-le}
use Rattle.std.proofs.lemmas.List.{get_or-take, get_or_append_left, length-take-le}
use Rattle.std.proofs.Math.Seq.{get_or-append_seam}
use Rattle.pf_order.specs.declared.pick.Pick.{Pick}
use Rattle.pf_scenario.specs.Scenario.{Plan}
use Rattle.pf_run.specs.declared.denied.Denied.{Denied}
use Rattle.pf_scenario.specs.Edit.{IsScenario}
use Rattle.pf_engine.specs.Fits.{Kept}
use Rattle.pf_timeline.specs.declared.checkpoint.Checkpoint.{Checkpoint}
use Rattle.pf_timeline.specs.Checkpoints.{most_near, most_near_slots, near_distance, near_slots}
use Rattle.pf_timeline.specs.Timeline.{KeptRun, StandsFor, AgreesBelow, past_below}
use Rattle.pf_timeline.specs.Keeping.{Points, slot_at, next_due, last_at, points_up_to, Trims, kept_run, KeepsRun, KeepsTimeline, IsCheckpoint, FitRun, AreFew, IsLastAt, IsLastOf}
use Rattle.pf_timeline.proofs.Fronts.{front_keeps, point_now}
use Rattle.pf_timeline.proofs.Grown.{row_each}
use Rattle.pf_timeline.proofs.Past.{past_agrees, past_narrowed, same_fit, same_denials}

-- none yet, of which the first is due at slot t
pub no_points : (s : Plan) (t every : ℕ) → 1 ≤ every → FitRun s t (record { start = t; every = every; points = [] })
no_points s t every apart = record {
  apart = apart;
  each = λ i d below. absurd (omega (arith, below));
  not_behind = λ i below. absurd (omega (arith, below));
  begun = omega arith;
  reach = omega arith;
}

checkpoint_alike : (s q : Plan) (t : ℕ) (c : Checkpoint) → IsScenario s → IsScenario q → past_below t s ≡ past_below t q →
    IsCheckpoint s t c → IsCheckpoint q t c
checkpoint_alike s q t c of_s of_q same point =
    let settings = ap (λ past. past.settings) same in
    let events = ap (λ past. past.events) same in
    record {
      engine = same_fit s q t settings events c.engine of_s of_q point.engine;
      denials = point.denials ∙ ap length (same_denials s q t settings events of_s of_q);
    }

-- Use: checkpoints that fit the run of a scenario fit that of each one with the same past.
pub points_alike : (s q : Plan) (n : ℕ) (c : Points) → IsScenario s → IsScenario q → past_below n s ≡ past_below n q →
    FitRun s n c → FitRun q n c
points_alike s q n c of_s of_q same fit = record {
  apart = fit.apart;
  each = λ i d below.
      checkpoint_alike s q (slot_at c i) (get_or c.points i d) of_s of_q
      (past_narrowed s q (slot_at c i) n (fit.not_behind i below) same) (fit.each i d below);
  not_behind = fit.not_behind;
  begun = fit.begun;
  reach = fit.reach;
}

-- Use: with one that is due they reach beyond n.
pub record ReachBeyond (s : Plan) (n : ℕ) (c : Points) : Type 0 where
  pub fit : FitRun s n c
  pub beyond : n < next_due c

point_more : (s : Plan) (n : ℕ) (c : Points) (p : Checkpoint) → FitRun s n c → IsCheckpoint s n p → next_due c ≤ n →
    ReachBeyond s n (record c { points = c.points ++ p ∷ [] })
point_more s n c p fit point due =
    let k = length c.points in
    let long : length (c.points ++ p ∷ []) ≡ k + 1 = length-append c.points (p ∷ []) in
    let apart : 1 ≤ c.every = fit.apart in
    let at : n ≡ c.start + k * c.every = omega (arith, due, fit.reach) in
    let next : (k + 1) * c.every ≡ k * c.every + c.every = omega arith in
    let last : (i : ℕ) → i < length (c.points ++ p ∷ []) → i * c.every ≤ k * c.every =
    λ i below. mul-le i c.every k c.every (omega arith) (omega arith) in
    record {
      fit = record {
        apart = apart;
        each = λ i d below. each_more i d below (cases_lt i k);
        not_behind = λ i below. omega (arith, last i below, at);
        begun = fit.begun;
        reach = omega (arith, at, next, ap (λ x. x * c.every) long);
      };
      beyond = omega (arith, at, next, ap (λ x. x * c.every) long);
    } where
      each_more : (i : ℕ) (d : Checkpoint) → i < length (c.points ++ p ∷ []) → (i < length c.points) ⊎ (length c.points ≤ i) →
          IsCheckpoint s (slot_at c i) (get_or (c.points ++ p ∷ []) i d)
      each_more i d below (inl early) =
          subst (IsCheckpoint s (slot_at c i)) (sym (get_or_append_left c.points (p ∷ []) d i early)) (fit.each i d early)
      each_more i d below (inr past) =
          let same : i ≡ length c.points = omega (arith, below, length-append c.points (p ∷ [])) in
          let at : n ≡ next_due c = omega (arith, due, fit.reach) in
          rw (same, get_or-append_seam c.points p [] d, ← at) point

pub point_kept : (s : Plan) (n : ℕ) (c c' : Points) (p : Checkpoint) → FitRun s n c → IsCheckpoint s n p →
    (next_due c ≤ n → c' ≡ record c { points = c.points ++ p ∷ [] }) → (n < next_due c → c' ≡ c) →
    ReachBeyond s n c'
point_kept s n c c' p fit point due early = by_case (cases_lt n (next_due c)) where
  by_case : (n < next_due c) ⊎ (next_due c ≤ n) → ReachBeyond s n c'
  by_case (inl before) = subst (ReachBeyond s n) (sym (early before)) (record { fit = fit; beyond = before })
  by_case (inr at) = subst (ReachBeyond s n) (sym (due at)) (point_more s n c p fit point at)

-- Use: they fit one slot more.
pub points_longer : (s : Plan) (n : ℕ) (c : Points) → ReachBeyond s n c → FitRun s (n + 1) c
points_longer s n c reach = record {
  apart = reach.fit.apart;
  each = reach.fit.each;
  not_behind = λ i below. let behind : slot_at c i ≤ n = reach.fit.not_behind i below in omega arith;
  begun = let begun : c.start ≤ n = reach.fit.begun in omega arith;
  reach = let beyond : n < next_due c = reach.beyond in omega arith;
}

-- Use: the next one is due soon.
pub due_soon : (s : Plan) (n : ℕ) (c : Points) → FitRun s n c → next_due c ≤ n + c.every
due_soon s n c fit = by_case (cases_lt 0 (length c.points)) where
  by_case : (0 < length c.points) ⊎ (length c.points ≤ 0) → next_due c ≤ n + c.every
  by_case (inl some) =
      let split : length c.points ≡ length c.points - 1 + 1 = omega (arith, some) in
      let last : c.start + (length c.points - 1) * c.every ≤ n = fit.not_behind (length c.points - 1) (omega (arith, some)) in
      let whole : length c.points * c.every ≡ (length c.points - 1) * c.every + c.every = ap (λ x. x * c.every) split ∙ omega arith in
      omega (arith, last, whole)
  by_case (inr none) =
      let empty : length c.points ≡ 0 = omega (arith, none) in
      let nothing : length c.points * c.every ≡ 0 = ap (λ x. x * c.every) empty ∙ omega arith in
      omega (arith, nothing, fit.begun)

-- Use: so do those that are left without the first ones.
pub points_trimmed : (s : Plan) (n : ℕ) (c c' : Points) → FitRun s n c → Trims c c' → FitRun s n c'
points_trimmed s n c c' fit (inl same) = subst (FitRun s n) (sym same) fit
points_trimmed s n c c' fit (inr t) = subst (FitRun s n) (sym t.new_is) (record {
  apart = fit.apart;
  each = λ i d below.
      subst (λ (p : Checkpoint). IsCheckpoint s (c.start + t.dropped * c.every + i * c.every) p) (sym (get_or-drop t.dropped c.points i d))
      (subst (λ (x : ℕ). IsCheckpoint s x (get_or c.points (t.dropped + i) d)) (omega (arith, sum i))
      (fit.each (t.dropped + i) d (omega (arith, below, long, t.few))));
  not_behind = λ i below. omega (arith, sum i, fit.not_behind (t.dropped + i) (omega (arith, below, long, t.few)));
  begun = omega (arith, t.back, due_soon s n c fit);
  reach = omega (arith, fit.reach, whole, long, ap (λ x. x * c.every) long);
}) where
  long : length (drop t.dropped c.points) ≡ length c.points - t.dropped
  long = length-drop t.dropped c.points

  sum : (i : ℕ) → (t.dropped + i) * c.every ≡ t.dropped * c.every + i * c.every
  sum i = omega arith

  whole : length c.points * c.every ≡ t.dropped * c.every + (length c.points - t.dropped) * c.every
  whole =
      let split : length c.points ≡ t.dropped + (length c.points - t.dropped) = omega (arith, t.few) in
      omega (arith, ap (λ x. x * c.every) split)

-- Use: those up to slot t fit the run up to it, of each scenario with the same past there.
pub points_front : (s q : Plan) (n t : ℕ) (c : Points) → IsScenario s → IsScenario q → t < n → c.start ≤ t →
    past_below t s ≡ past_below t q → FitRun s n c → FitRun q t (record c { points = take (last_at c t + 1) c.points })
points_front s q n t c of_s of_q below begun same fit =
    let k = last_at c t in
    let reach : t - c.start < length c.points * c.every = omega (arith, fit.reach, below, begun) in
    let some : k < length c.points = (div-lt_iff_lt-mul fit.apart).1 reach in
    let long : length (take (k + 1) c.points) ≡ k + 1 = length-take-le (k + 1) c.points (omega arith) in
    let last : k * c.every ≤ t - c.start = div-mul-le_self (t - c.start) c.every in
    let next : t - c.start < (k + 1) * c.every = (div-lt_iff_lt-mul fit.apart).0 (omega arith) in
    let not_behind : (i : ℕ) → i < length (take (k + 1) c.points) → c.start + i * c.every ≤ t =
    λ i below. let few : i * c.every ≤ k * c.every = mul-le i c.every k c.every (omega arith) (omega arith) in omega (arith, few, last, begun) in
    record {
      apart = fit.apart;
      each = λ i d below.
          let early : i < k + 1 = omega arith in
          subst (IsCheckpoint q (slot_at c i)) (sym (get_or-take (k + 1) c.points i d early))
          (checkpoint_alike s q (slot_at c i) (get_or c.points i d) of_s of_q
          (past_narrowed s q (slot_at c i) t (not_behind i below) same) (fit.each i d (omega arith)));
      not_behind = not_behind;
      begun = begun;
      reach = omega (arith, next, ap (λ x. x * c.every) long);
    }

-- Use: so they do where they may begin after t.
pub points_up_to_fit : (s q : Plan) (n t : ℕ) (c : Points) → IsScenario s → IsScenario q → t < n → past_below t s ≡ past_below t q →
    FitRun s n c → FitRun q t (points_up_to t c)
points_up_to_fit s q n t c of_s of_q below same fit = by_case (cases_lt t c.start) where
  by_case : (t < c.start) ⊎ (c.start ≤ t) → FitRun q t (points_up_to t c)
  by_case (inl before) = rw (lt-ltb t c.start before) (no_points q t c.every fit.apart)
  by_case (inr begun) = rw (le-ltb t c.start begun) (points_front s q n t c of_s of_q below begun same fit)

-- Use: how many near ones there are.
pub few_none : (n t every : ℕ) → AreFew n (record { start = t; every = every; points = [] })
few_none n t every = record { few = omega arith; room = λ _. omega arith }

pub few_kept : (s : Plan) (n : ℕ) (c c' : Points) (p : Checkpoint) → AreFew n c → ReachBeyond s n c' →
    (next_due c ≤ n → c' ≡ record c { points = c.points ++ p ∷ [] }) → (n < next_due c → c' ≡ c) → AreFew n c'
few_kept s n c c' p are reach due early = by_case (cases_lt n (next_due c)) where
  by_case : (n < next_due c) ⊎ (next_due c ≤ n) → AreFew n c'
  by_case (inl before) = subst (AreFew n) (sym (early before)) are
  by_case (inr at) = record {
    few = omega (arith, are.room at, ap (λ (d : Points). length d.points) (due at), length-append c.points (p ∷ []));
    room = λ again. let beyond : n < next_due c' = reach.beyond in absurd (omega (arith, beyond, again));
  }

pub few_trimmed : (n : ℕ) (c : Points) → length c.points < most_near → AreFew n c
few_trimmed n c less = record { few = omega (arith, less); room = λ _. less }

pub few_front : (n t : ℕ) (c : Points) → 1 ≤ c.every → AreFew n c → t < next_due c → AreFew t (points_up_to t c)
few_front n t c apart are below = by_case (cases_lt t c.start) where
  by_case : (t < c.start) ⊎ (c.start ≤ t) → AreFew t (points_up_to t c)
  by_case (inl before) = rw (lt-ltb t c.start before) (few_none t t c.every)
  by_case (inr begun) =
      let k = last_at c t in
      let reach : t - c.start < length c.points * c.every = omega (arith, below, begun) in
      let some : k < length c.points = (div-lt_iff_lt-mul apart).1 reach in
      let long : length (take (k + 1) c.points) ≡ k + 1 = length-take-le (k + 1) c.points (omega arith) in
      let next : t - c.start < (k + 1) * c.every = (div-lt_iff_lt-mul apart).0 (omega arith) in
      rw (le-ltb t c.start begun) (record {
        few = omega (arith, are.few, long, some);
        room = λ again. absurd (omega (arith, again, next, begun, ap (λ x. x * c.every) long));
      })

-- Use: over how many slots they are.
pub near_held : (s : Plan) (n : ℕ) (c : Points) → FitRun s n c → c.every ≡ near_distance → length c.points < most_near → n ≤ c.start + most_near_slots
near_held s n c fit every less = omega (arith, fit.reach, ap (λ x. length c.points * x) every, less)

-- Use: the checkpoint of an engine that fits the run, with the number of its denials.
pub point_now_fits : (s : Plan) (n k : ℕ) (rows : List (List (Option Pick))) (denials : List Denied) (e : Kept) → KeepsRun s n rows denials e →
    k ≡ length denials → IsCheckpoint s n (record { engine = e; denials = k })
point_now_fits s n k rows denials e keeps long = record { engine = keeps.engine; denials = long ∙ ap length keeps.of_run.are_denials }

-- Use: the checkpoints fit the run of each scenario that the timeline stands for.
pub points_standing : (s q : Plan) (n every near : ℕ) (rows : List (List (Option Pick))) (denials : List Denied) (e : Kept) (t : KeptRun) (c : Points) →
    KeepsRun q e.now rows denials e → kept_run q every near rows denials e ≡ t → StandsFor s n t → FitRun q e.now c → FitRun s e.now c
points_standing s q n every near rows denials e t c keeps shows stands fit =
    let here : StandsFor s n (kept_run q every near rows denials e) = subst (StandsFor s n) (sym shows) stands in
    points_alike q s e.now c keeps.of_run.scenario stands.of_run.scenario
    (here.past ∙ ap (λ now. past_below now s) (sym here.slots)) fit

-- Use: a timeline's past agrees with a scenario that agrees with it below `from`.
pub agreed_past : (s q : Plan) (from every near : ℕ) (rows : List (List (Option Pick))) (denials : List Denied) (e : Kept) (t : KeptRun) →
    from ≤ e.now → kept_run q every near rows denials e ≡ t → AgreesBelow s from t → past_below from q ≡ past_below from s
agreed_past s q from every near rows denials e t within shows agrees =
    let here : AgreesBelow s from (kept_run q every near rows denials e) = subst (AgreesBelow s from) (sym shows) agrees in
    let events = sym (past_agrees from e.now q.events within) ∙ here.events in
    λ i. record { settings = here.settings i; events = events i }

-- the last checkpoint not after `from`, and the front of the run up to it, for a scenario with the same past there
module _ (q s : Plan) (n from : ℕ) (rows : List (List (Option Pick))) (denials : List Denied) (e : Kept) (c near : Points) (keeps : KeepsTimeline q n rows denials e c near) (below : from < n) (of_s : IsScenario s) (same : past_below from q ≡ past_below from s) (p : Checkpoint) (is : IsLastOf c near from p) where
  abbrev t : ℕ
  t = slot_at is.among is.number

  among_fits : (is.among ≡ c) ⊎ (is.among ≡ near) → FitRun q n is.among
  among_fits (inl first) = subst (FitRun q n) (sym first) keeps.points
  among_fits (inr second) = subst (FitRun q n) (sym second) keeps.near

  point : IsCheckpoint q t p
  point = subst (IsCheckpoint q t) (sym is.last.is) ((among_fits is.one).each is.number p is.last.some)

  before : t < n
  before = let early : t ≤ from = is.last.not_after in omega arith

  now_is : p.engine.now ≡ t
  now_is = point_now q n t rows denials e p (omega (arith, before)) keeps.run point

  -- Use: it is not after `from`, and not too far before it.
  pub front_not_behind : p.engine.now ≤ from
  front_not_behind = omega (arith, now_is, is.last.not_after)

  pub front_distance : from < p.engine.now + c.every
  front_distance = omega (arith, now_is, is.last.near, is.within)

  pub front_close : near.start ≤ from → from < p.engine.now + near_distance
  front_close back = omega (arith, now_is, is.last.near, is.close back)

  -- Use: there are so many rows.
  pub front_rows_few : p.engine.now ≤ length rows
  front_rows_few = omega (arith, now_is, before, row_each q n rows denials keeps.run.of_run)

  past_there : past_below t q ≡ past_below t s
  past_there = past_narrowed q s t from is.last.not_after same

  run_there : KeepsRun s t (take t rows) (take p.denials denials) p.engine
  run_there = front_keeps s q n t rows denials e p (omega (arith, before)) past_there of_s keeps.run point

  -- Use: what is kept of the front.
  pub front_run : KeepsRun s p.engine.now (take p.engine.now rows) (take p.denials denials) p.engine
  front_run = subst (λ t. KeepsRun s t (take t rows) (take p.denials denials) p.engine) (sym now_is) run_there

  -- Use: the checkpoints up to it.
  pub front_points : FitRun s p.engine.now (record c { points = take (last_at c p.engine.now + 1) c.points })
  front_points =
      points_front q s n p.engine.now c keeps.run.of_run.scenario of_s (omega (arith, now_is, before)) (omega (arith, keeps.from_start))
      (subst (λ (x : ℕ). past_below x q ≡ past_below x s) (sym now_is) past_there) keeps.points

  pub front_near : FitRun s p.engine.now (points_up_to p.engine.now near)
  front_near =
      points_up_to_fit q s n p.engine.now near keeps.run.of_run.scenario of_s (omega (arith, now_is, before))
      (subst (λ (x : ℕ). past_below x q ≡ past_below x s) (sym now_is) past_there) keeps.near

  pub front_few : AreFew p.engine.now (points_up_to p.engine.now near)
  front_few = few_front n p.engine.now near keeps.near.apart keeps.few (omega (arith, now_is, before, keeps.near.reach))

-- Use: which of them is the last one not after slot t.
pub last_below : (c : Points) (t : ℕ) → 1 ≤ c.every → t < next_due c → c.start ≤ t → last_at c t < length c.points
last_below c t apart below begun = (div-lt_iff_lt-mul apart).1 (omega (arith, below, begun))

-- Use: it is a near one, or one of the others.
pub near_last : (c d : Points) (from k : ℕ) (p : Checkpoint) → IsLastAt d from k p → d.every ≡ near_distance → near_distance ≤ c.every → IsLastOf c d from p
near_last c d from k p last every closer =
    record { among = d; one = inr refl; number = k; last = last; within = omega (arith, every, closer); close = λ _. omega (arith, every) }

pub far_last : (c d : Points) (from k : ℕ) (p : Checkpoint) → IsLastAt c from k p → (d.start ≤ from → c.every ≤ near_distance) → IsLastOf c d from p
far_last c d from k p last closer = record { among = c; one = inl refl; number = k; last = last; within = omega arith; close = closer }

none_of : {X : Type 0} (k : ℕ) → take {A = X} k [] ≡ []
none_of zero = refl
none_of (suc k) = refl

-- Use: the first ones of two lists, one after the other.
pub first_of_both : {X : Type 0} (k : ℕ) (xs ys : List X) → take k xs ++ take (k - length xs) ys ≡ take k (xs ++ ys)
first_of_both k [] ys =
    let all : k - 0 ≡ k = omega arith in
    ap₂ (λ us n. us ++ take n ys) (none_of k) all
first_of_both zero (x ∷ xs) ys =
    let none : 0 - length (x ∷ xs) ≡ 0 = omega arith in
    ap (λ n. take n ys) none
first_of_both (suc k) (x ∷ xs) ys =
    let less : suc k - length (x ∷ xs) ≡ k - length xs = omega arith in
    ap (λ n. x ∷ (take k xs ++ take n ys)) less ∙ ap (λ zs. x ∷ zs) (first_of_both k xs ys)

-- Use: where they begin, with one that is due, and up to a slot.
pub start_kept : (n : ℕ) (c c' : Points) (p : Checkpoint) → (next_due c ≤ n → c' ≡ record c { points = c.points ++ p ∷ [] }) →
    (n < next_due c → c' ≡ c) → c'.start ≡ c.start
start_kept n c c' p due early = by_case (cases_lt n (next_due c)) where
  by_case : (n < next_due c) ⊎ (next_due c ≤ n) → c'.start ≡ c.start
  by_case (inl before) = ap (λ (d : Points). d.start) (early before)
  by_case (inr at) = ap (λ (d : Points). d.start) (due at)

pub start_up_to : (t : ℕ) (c : Points) → (points_up_to t c).start ≤ c.start
start_up_to t c = by_case (cases_lt t c.start) where
  by_case : (t < c.start) ⊎ (c.start ≤ t) → (points_up_to t c).start ≤ c.start
  by_case (inl before) = rw (lt-ltb t c.start before) (omega (arith, before))
  by_case (inr begun) = rw (le-ltb t c.start begun) (omega arith)

-- Use: without the first ones they begin at the same slot, or reach back 256 slots from n.
pub start_trimmed : (s : Plan) (n : ℕ) (c c' : Points) → FitRun s n c → Trims c c' → (c'.start ≡ c.start) ⊎ (c'.start + near_slots ≤ n)
start_trimmed s n c c' fit (inl same) = inl (ap (λ (d : Points). d.start) same)
start_trimmed s n c c' fit (inr t) =
    inr (omega (arith, t.back, due_soon s n c fit, ap (λ (d : Points). d.start) t.new_is))

pub start_moved : (s : Plan) (n now near : ℕ) (c c' c'' : Points) → FitRun s n c' → Trims c' c'' → c'.start ≡ c.start → c.start ≡ near → n ≡ now →
    (c''.start ≡ near) ⊎ (c''.start + near_slots ≤ now)
start_moved s n now near c c' c'' fit trims kept is at = by_case (start_trimmed s n c' c'' fit trims) where
  by_case : (c''.start ≡ c'.start) ⊎ (c''.start + near_slots ≤ n) → (c''.start ≡ near) ⊎ (c''.start + near_slots ≤ now)
  by_case (inl same) = inl (same ∙ kept ∙ is)
  by_case (inr back) = inr (omega (arith, back, at))
