-- The schedule repeats: where each task has its share after a span, the same subtasks are released a span later, but for
-- their numbers, in the same order; so the same tasks run, slot after slot.
use Rattle.std.proofs.Common.{◌≡◌, ℕ, zero, suc, ◌+◌, ◌*◌, ◌/◌, ◌%◌, ◌<◌, ◌≤◌, ◌==◌, Bool, true, false, nat_le, if◌then◌else◌, Option, None, Some, option_map, List, [], ◌∷◌, length, map, filter_map, find, get_or, All, Contains, arith, refl, ap, ap₂, sym, ◌∙◌, ⊎_elim}
use Rattle.std.specs.List.{list_any, cons_option}
use Rattle.std.specs.Option.{option_map_or}
use Rattle.std.proofs.Math.Nat.{lt_of_mul-lt-mul_right}
use Rattle.std.proofs.lemmas.Bool.{cases_lt}
use Rattle.std.proofs.lemmas.Bool.Decides.{nat_tests}
use Rattle.std.proofs.lemmas.List.Elements.{All-head, All-tail, All-weaker, All-contains_itself, All-contains}
use Rattle.pf_window.specs.Window.{release_of}
use Rattle.pf_order.specs.Priority.{Priority}
use Rattle.pf_order.specs.KeyOf.{key_of}
use Rattle.pf_order.specs.First.{first_keys}
use Rattle.pf_order.specs.declared.pick.Pick.{Pick}
use Rattle.pf_scenario.specs.Scenario.{Plan}
use Rattle.pf_scenario.specs.Edit.{IsScenario}
use Rattle.pf_run.specs.Record.{Slot, runs, done}
use Rattle.pf_run.specs.Inside.{Joined}
use Rattle.pf_run.specs.Run.{events_in_force, pick_of_key, IsRun}
use Rattle.pf_run.proofs.Counting.{map_map}
use Rattle.pf_tally.proofs.Contents.{list_any-map}
use Rattle.pf_laws.proofs.PromiseLemmas.Shifts.{no_slot}
use Rattle.pf_tally.proofs.Members.{found_is, find_joined}
use Rattle.pf_laws.proofs.PromiseLemmas.Joining.{joins_at_most, is_task}
use Rattle.pf_laws.proofs.PromiseLemmas.Choosing.{counted}
use Rattle.pf_laws.specs.Repetition.Synchronous.{IsSynchronous, tasks_in, IsSpan, owed_in, owed_to, later_pick}
use Rattle.pf_laws.specs.Repetition.Laws.{RepeatsAfter, FirstSpanIsAll, SpansEndEven}
use Rattle.pf_laws.proofs.RepetitionLemmas.Shifted.{later_key, release_later, key_later}
use Rattle.pf_laws.proofs.RepetitionLemmas.Ordered.{precedes-later, first_keys-kept}
use Rattle.pf_laws.proofs.RepetitionLemmas.Choices.{next_in, keys_in, picks_are}
use Rattle.pf_laws.proofs.RepetitionLemmas.Lags.{HaveShares, shares_at_first, shares_to_even}
use Rattle.pf_laws.proofs.RepetitionLemmas.Multiples.{multiple_is_span}
use Rattle.pf_laws.proofs.RepetitionLemmas.Spans.{task_is, owed-exact, fits_to_none, none_to_even, full, span_decides}

-- what a function gives of each element, changed alike
filter_map-later : {X Y : Type 0} (f g : X → Option Y) (h : Y → Y) (xs : List X) →
    All (λ x. f x ≡ option_map h (g x)) xs → filter_map f xs ≡ map h (filter_map g xs)
filter_map-later {Y = Y} f g h [] same = refl
filter_map-later {Y = Y} f g h (x ∷ xs) same =
    ap₂ (λ o ys. cons_option o ys) (All-head (λ y. f y ≡ option_map h (g y)) x xs same)
    (filter_map-later f g h xs (All-tail (λ y. f y ≡ option_map h (g y)) x xs same))
    ∙ one (g x) (filter_map g xs)
  where
    one : (o : Option Y) (ys : List Y) → cons_option (option_map h o) (map h ys) ≡ map h (cons_option o ys)
    one None ys = refl
    one (Some y) ys = refl

leb-plus : (a b c : ℕ) → nat_le (a + c) (b + c) ≡ nat_le a b
leb-plus a b c = grind (arith, nat_tests)

one_product : (p a b : ℕ) → 1 ≤ p → a * p ≡ b * p → a ≡ b
one_product p a b real e =
    let up : a < b + 1 = lt_of_mul-lt-mul_right p (omega (arith, e, real)) in
    let down : b < a + 1 = lt_of_mul-lt-mul_right p (omega (arith, e, real)) in
    omega (arith, up, down)

module _ (s : Plan) (scenario : IsScenario s) (start : IsSynchronous s) (r : List Slot) (run : IsRun s (length r) r) (span : ℕ)
    (is : IsSpan s r span) (even : HaveShares s r span) where
  abbrev owed : ℕ → ℕ
  owed = owed_to s r span

  owed_is : (j : Joined) → Contains (tasks_in s r) j → owed j.task ≡ owed_in span j
  owed_is j at =
      ap (λ o. option_map_or (owed_in span) o 0)
      (find_joined s.settings.base (events_in_force s r (length r)) j (joins_at_most s scenario r j.task) at)

  -- each task has had what it is owed
  IsAhead : ℕ → Type 0
  IsAhead t = All (λ j. done r j.task (t + span) ≡ done r j.task t + owed_in span j) (tasks_in s r)

  -- the next subtasks a span later
  next_later : (t : ℕ) (j : Joined) → Contains (tasks_in s r) j → done r j.task (t + span) ≡ done r j.task t + owed_in span j →
      next_in r (t + span) j ≡ option_map (later_key span owed) (next_in r t j)
  next_later t j at ahead =
      let share = (task_is s scenario start r run j at).share in
      let exact = owed-exact s scenario start r run span is j at in
      let i : ℕ = done r j.task t + 1 in
      let some : 1 ≤ i = omega arith in
      let sub : done r j.task (t + span) + 1 ≡ i + owed_in span j = omega (arith, ahead) in
      let released : release_of j.weight (done r j.task (t + span) + 1) ≡ release_of j.weight i + span =
      ap (release_of j.weight) sub ∙ release_later j.weight share span (owed_in span j) exact i some in
      let key : key_of j.weight 0 (done r j.task (t + span) + 1) j.task ≡ later_key span owed (key_of j.weight 0 i j.task) =
      ap (λ k. key_of j.weight 0 k j.task) sub
      ∙ key_later j.weight share span (owed_in span j) exact owed j.task i some (owed_is j at) in
      ap₂ (λ b k. if b then Some k else None)
      (ap (λ from. nat_le from (t + span)) released ∙ leb-plus (release_of j.weight i) t span) key
      ∙ moved (nat_le (release_of j.weight i) t) (key_of j.weight 0 i j.task)
    where
      moved : (b : Bool) (k : Priority) →
          (if b then Some (later_key span owed k) else None) ≡ option_map (later_key span owed) (if b then Some k else None)
      moved true k = refl
      moved false k = refl

  keys_later : (t : ℕ) → IsAhead t → keys_in s r (t + span) ≡ map (later_key span owed) (keys_in s r t)
  unfolding IsAhead
  keys_later t ahead =
      filter_map-later (next_in r (t + span)) (next_in r t) (later_key span owed) (tasks_in s r)
      (All-weaker (Contains (tasks_in s r)) (λ j. next_in r (t + span) j ≡ option_map (later_key span owed) (next_in r t j))
      (λ j at.
      next_later t j at (All-contains (λ i. done r i.task (t + span) ≡ done r i.task t + owed_in span i) (tasks_in s r) j ahead at))
      (tasks_in s r) (All-contains_itself (tasks_in s r)))

  -- the picks of a slot a span later
  picks_later : (t : ℕ) (d e : Slot) → t + span < length r → IsAhead t →
      (get_or r (t + span) d).picks ≡ map (later_pick s r span) (get_or r t e).picks
  picks_later t d e lt ahead =
      let keys = keys_in s r t in
      let m = s.settings.processors in
      picks_are s scenario start r run (t + span) lt d
      ∙ ap (λ ks. map pick_of_key (first_keys m ks)) (keys_later t ahead)
      ∙ ap (map pick_of_key) (first_keys-kept (later_key span owed) (precedes-later span owed) m keys)
      ∙ map_map pick_of_key (later_key span owed) (first_keys m keys)
      ∙ sym (map_map (later_pick s r span) pick_of_key (first_keys m keys))
      ∙ ap (map (later_pick s r span)) (sym (picks_are s scenario start r run t (omega (arith, lt)) e))

  runs_later : (t task : ℕ) → t + span < length r → IsAhead t →
      runs task (get_or r (t + span) no_slot) ≡ runs task (get_or r t no_slot)
  runs_later t task lt ahead =
      ap (list_any (λ (p : Pick). p.task == task)) (picks_later t no_slot no_slot lt ahead)
      ∙ list_any-map (λ (p : Pick). p.task == task) (later_pick s r span) (get_or r t no_slot).picks

  ahead_next : (t : ℕ) → t + span < length r → IsAhead t → IsAhead (suc t)
  unfolding IsAhead
  ahead_next t lt ahead =
      All-weaker (λ j. done r j.task (t + span) ≡ done r j.task t + owed_in span j)
      (λ j. done r j.task (suc t + span) ≡ done r j.task (suc t) + owed_in span j)
      (λ j before.
      let next : suc t + span ≡ suc (t + span) = omega arith in
      omega (
        arith,
        before,
        ap (λ u. done r j.task u) next,
        counted s scenario r run j.task (t + span),
        counted s scenario r run j.task t,
        ap {B = ℕ} (λ b. if b then 1 else 0) (runs_later t j.task lt ahead),
      ))
      (tasks_in s r) ahead

  ahead_first : IsAhead 0
  unfolding IsAhead done
  ahead_first =
      All-weaker (Contains (tasks_in s r)) (λ j. done r j.task (0 + span) ≡ done r j.task 0 + owed_in span j) first (tasks_in s r)
      (All-contains_itself (tasks_in s r))
    where
      first : (j : Joined) → Contains (tasks_in s r) j → done r j.task (0 + span) ≡ done r j.task 0 + owed_in span j
      first j at =
          let share = (task_is s scenario start r run j at).share in
          let own : j.weight.period * done r j.task span ≡ j.weight.cost * span =
          All-contains (λ i. i.weight.period * done r i.task span ≡ i.weight.cost * span) (tasks_in s r) j even at in
          let exact = owed-exact s scenario start r run span is j at in
          let real : 1 ≤ j.weight.period = omega (arith, share.some, share.within) in
          let same : done r j.task span ≡ owed_in span j = one_product j.weight.period (done r j.task span) (owed_in span j) real (omega (arith, own, exact)) in
          let none : 0 + span ≡ span = omega arith in
          omega (arith, same, ap (λ u. done r j.task u) none)

  ahead : (t : ℕ) → t + span ≤ length r → IsAhead t
  ahead zero le = ahead_first
  ahead (suc t) le = ahead_next t (omega (arith, le)) (ahead t (omega (arith, le)))

  pub repeats : (t : ℕ) (d : Slot) → t + span < length r → (get_or r (t + span) d).picks ≡ map (later_pick s r span) (get_or r t d).picks
  repeats t d lt = picks_later t d d lt (ahead t (omega (arith, lt)))

pub repeats_after : RepeatsAfter
repeats_after s n r span t d scenario run start is fits lt =
    let whole = full s n r run in
    let long : t + span < length r = omega (arith, lt, run.slots) in
    let none = fits_to_none s scenario start r whole span is.some (omega (arith, long)) fits in
    repeats s scenario start r whole span is (none_to_even s scenario start r whole span is.some (omega (arith, long)) is none) t d long

abbrev pick_of : ℕ → ℕ → Pick
pick_of task sub = record { task = task; sub = sub }

-- no pick is later by no slots
later_by_none : (s : Plan) (r : List Slot) (p : Pick) → IsScenario s → later_pick s r 0 p ≡ p
later_by_none s r p scenario = ap (λ (n : ℕ). pick_of p.task n) (omega (arith, none)) where
  none : owed_to s r 0 p.task ≡ 0
  none = by (find (λ j. j.task == p.task) (tasks_in s r)) refl where
    by : (o : Option Joined) → find (λ j. j.task == p.task) (tasks_in s r) ≡ o → option_map_or (owed_in 0) o 0 ≡ 0
    by None is = refl
    by (Some j) is =
        let share = (is_task s scenario r j (found_is (λ i. i.task == p.task) (tasks_in s r) j is).0).share in
        let real : 1 ≤ j.weight.period = omega (arith, share.some, share.within) in
        omega (arith, real)

pub first_span_is_all : FirstSpanIsAll
first_span_is_all s n r span t d scenario run start is fits lt = ⊎_elim
    (λ (none : t / span < 1).
    let q : t / span ≡ 0 = omega (arith, none) in
    let place : t ≡ t % span = omega (arith, is.some, ap (λ k. k * span) q) in
    let by : t / span * span ≡ 0 = omega (arith, ap (λ k. k * span) q) in
    ap (λ k. (get_or r k d).picks) place
    ∙ sym (all_same (λ p. later_by_none s r p scenario) (get_or r (t % span) d).picks)
    ∙ ap (λ k. map (later_pick s r k) (get_or r (t % span) d).picks) (sym by))
    (λ (some : 1 ≤ t / span).
    let place : t ≡ t % span + t / span * span = omega (arith, is.some) in
    ap (λ k. (get_or r k d).picks) place
    ∙ repeats_after s n r (t / span * span) (t % span) d scenario run start (multiple_is_span s r span (t / span) scenario is some) fits
    (omega (arith, place, lt)))
    (cases_lt (t / span) 1)
  where
    all_same : {X : Type 0} {f : X → X} → ((x : X) → f x ≡ x) → (xs : List X) → map f xs ≡ xs
    all_same same [] = refl
    all_same same (x ∷ xs) = ap₂ (λ y ys. y ∷ ys) (same x) (all_same same xs)

pub spans_end_even : SpansEndEven
spans_end_even s n r span zero scenario run start is fits le =
    shares_to_even s start r (0 * span) (shares_at_first s r (0 * span) (omega arith))
spans_end_even s n r span (suc q) scenario run start is fits le =
    let more = multiple_is_span s r span (suc q) scenario is (omega arith) in
    let decided = span_decides s n r (suc q * span) scenario run start more le in
    decided.by_lags.0 (decided.by_load.1 fits)
