-- Where a table repeats: all that is in force is there from the first slot on, however long the run.
use Rattle.std.proofs.Common.{◌≡◌, ◌∙◌, ℕ, suc, zero, ◌*◌, ◌/◌, ◌%◌, ◌==◌, ◌≤◌, Bool, true, false, not, cond, if◌then◌else◌, List, [], ◌∷◌, ◌++◌, length, take, map, filter, filter_map, get_or, All, refl, sym, ap, subst, arith, append-nil}
use Rattle.std.specs.List.{list_all}
use Rattle.std.proofs.lemmas.Bool.{and_parts, eqb-true, eqb-false, ltb-false, ne_eqb}
use Rattle.std.proofs.lemmas.List.Elements.{All-cons, All-head, All-nil, All-tail}
use Rattle.pf_order.specs.declared.pick.Pick.{Pick}
use Rattle.pf_scenario.specs.Event.{slot_of, is_of_slot, in_run_order}
use Rattle.pf_scenario.specs.Scenario.{Plan, events_of, past}
use Rattle.pf_scenario.specs.Edit.{IsScenario}
use Rattle.pf_scenario.specs.declared.event.Event.{Event}
use Rattle.pf_scenario.specs.declared.event.Event.TheVariants.{Join, Leave, Delay, Limit}
use Rattle.pf_scenario.specs.declared.event.Numbered.{Numbered}
use Rattle.pf_run.specs.Computed.{run_of}
use Rattle.pf_run.specs.Inside.{join_of, load_of}
use Rattle.pf_run.specs.Record.{Slot, denials_of, in_force}
use Rattle.pf_run.specs.Run.{IsRun, events_in_force}
use Rattle.pf_run.proofs.Runs.{one_run, run_is_computed, runs_begin}
use Rattle.pf_tally.specs.Lags.{by_task}
use Rattle.pf_tally.specs.Load.{load_in}
use Rattle.pf_tally.proofs.Fronts.{standing-take}
use Rattle.pf_desk.specs.Desk.{Seen}
use Rattle.pf_laws.specs.Repetition.Laws.{FirstSpanIsAll, LoadFits}
use Rattle.pf_laws.specs.Repetition.Synchronous.{IsSpan, IsSynchronous, JoinsAtStart, later_pick, tasks_in}
use Rattle.pf_code.specs.Laws.{TableRepeats}
use Rattle.pf_code.specs.Repetition.{admitted_in, first_load, is_synchronous, joins_at_start, repetition_with, span_of}
use Rattle.pf_code.specs.Span.{least_span}
use Rattle.pf_code.specs.declared.repetition.Repetition.TheVariants.{Every, OtherEvents, NoSlot, Overload, OutOfRange}
use Rattle.pf_code.proofs.Owed.{least_is_span}

-- the events that are held are such joins

joins : (event : Event) → joins_at_start event ≡ true → JoinsAtStart event
joins (Join slot task cost period early) is =
    let parts = and_parts (slot == 0) (early == 0) is in
    (eqb-true slot 0 parts.0, eqb-true early 0 parts.1)
joins (Leave slot task) is = cc
joins (Delay slot task by) is = cc
joins (Limit slot count) is = cc

all_join : (xs : List Numbered) → list_all (λ x. joins_at_start x.event) xs ≡ true → All (λ x. JoinsAtStart x.event) xs
all_join [] is = All-nil (λ x. JoinsAtStart x.event)
all_join (x ∷ xs) is =
    let parts = and_parts (joins_at_start x.event) (list_all (λ y. joins_at_start y.event) xs) is in
    All-cons (λ y. JoinsAtStart y.event) x xs (joins x.event parts.0) (all_join xs parts.1)

at_start : (event : Event) → JoinsAtStart event → slot_of event ≡ 0
at_start (Join slot task cost period early) joins = joins.0
at_start (Leave slot task) joins = absurd joins
at_start (Delay slot task by) joins = absurd joins
at_start (Limit slot count) joins = absurd joins

none_of_slot : (t : ℕ) (xs : List Numbered) → All (λ x. JoinsAtStart x.event) xs → filter (is_of_slot (suc t)) xs ≡ []
none_of_slot t [] all = refl
none_of_slot t (x ∷ xs) all =
    let at : slot_of x.event ≡ 0 = at_start x.event (All-head (λ y. JoinsAtStart y.event) x xs all) in
    ap (λ b. cond b (x ∷ filter (is_of_slot (suc t)) xs) (filter (is_of_slot (suc t)) xs))
    (ne_eqb (slot_of x.event) (suc t) (λ e. omega (arith, at, e)))
    ∙ none_of_slot t xs (All-tail (λ y. JoinsAtStart y.event) x xs all)

module _ (s : Plan) (scenario : IsScenario s) (start : IsSynchronous s) where
  none_after : (t : ℕ) → events_of s (suc t) ≡ []
  unfolding events_of
  none_after t = ap in_run_order (none_of_slot t s.events start)

  same_past : (t : ℕ) → past s (suc t) ≡ past s 1
  same_past zero = refl
  same_past (suc t) = ap (λ xs. past s (suc t) ++ xs) (none_after t) ∙ append-nil (past s (suc t)) ∙ same_past t

  same_events : (r : List Slot) (t : ℕ) → 1 ≤ t → events_in_force s r t ≡ events_in_force s r 1
  same_events r zero some = absurd (omega (arith, some))
  same_events r (suc t) some = ap (in_force (denials_of r)) (same_past t)

  -- those of any run are those of its first slot
  first_events : (n : ℕ) (r : List Slot) → IsRun s n r → 1 ≤ n → events_in_force s r 1 ≡ events_in_force s (run_of s 1) 1
  first_events n r run some =
      standing-take s n r scenario run 1 (omega (arith, run.slots, some))
      ∙ ap (λ q. events_in_force s q 1) (one_run s 1 (take 1 r) (run_of s 1) scenario (runs_begin s n 1 r run some) (run_is_computed s 1 scenario))

  same_tasks : (n k : ℕ) (r q : List Slot) → IsRun s n r → IsRun s k q → 1 ≤ n → 1 ≤ k → tasks_in s r ≡ tasks_in s q
  same_tasks n k r q of_r of_q some_r some_q =
      ap (filter_map (join_of s.settings.base))
      (same_events r (length r) (omega (arith, of_r.slots, some_r)) ∙ first_events n r of_r some_r
      ∙ sym (same_events q (length q) (omega (arith, of_q.slots, some_q)) ∙ first_events k q of_q some_q))

  same_load : (n k : ℕ) (r q : List Slot) → IsRun s n r → IsRun s k q → 1 ≤ n → 1 ≤ k → load_in s r 0 ≡ load_in s q 0
  same_load n k r q of_r of_q some_r some_q =
      ap (load_of s.settings.base) (first_events n r of_r some_r ∙ sym (first_events k q of_q some_q))

-- what a table that repeats was found to be
pub record IsRepeating (seen : Seen) (found span : ℕ) : Type 0 where
  pub start : is_synchronous seen.state.plan ≡ true
  pub some : 1 ≤ seen.state.now
  pub fits : first_load seen ≤ seen.state.plan.settings.base * seen.state.plan.settings.processors
  pub same : found ≡ span

by_tests : (a b c d : Bool) (found span : ℕ) →
    (if not a then OtherEvents else if b then NoSlot else if c then Overload else if d then Every found else OutOfRange found) ≡ Every span →
    (a ≡ true) × (b ≡ false) × (c ≡ false) × (found ≡ span)
by_tests false b c d found span e = cc
by_tests true true c d found span e = cc
by_tests true false true d found span e = cc
by_tests true false false false found span e = cc
by_tests true false false true found span e = (refl, refl, refl, cc)

repeating : (seen : Seen) (found from to span : ℕ) → repetition_with seen found from to ≡ Every span → IsRepeating seen found span
unfolding repetition_with
repeating seen found from to span is =
    let tests = by_tests (is_synchronous seen.state.plan) (seen.state.now == 0) _ _ found span is in
    record {
      start = tests.0;
      some = omega (arith, eqb-false seen.state.now 0 tests.1);
      fits = ltb-false (seen.state.plan.settings.base * seen.state.plan.settings.processors) (first_load seen) tests.2;
      same = tests.3;
    }

-- the tasks of picks that are later
tasks_later : (s : Plan) (r : List Slot) (by : ℕ) (picks : List Pick) → map (λ (p : Pick). p.task) (map (later_pick s r by) picks) ≡ map (λ (p : Pick). p.task) picks
tasks_later s r by [] = refl
tasks_later s r by (p ∷ ps) = ap (λ ts. p.task ∷ ts) (tasks_later s r by ps)

pub table_repeats : FirstSpanIsAll → TableRepeats
unfolding admitted_in first_load
table_repeats whole seen from to span scenario is n r t d run lt =
    let s = seen.state.plan in
    let q = run_of s seen.state.now in
    let found = repeating seen (span_of seen) from to span is in
    let start = all_join s.events found.start in
    let of_q = run_is_computed s seen.state.now scenario in
    let some : 1 ≤ n = omega (arith, lt) in
    let tasks = same_tasks s scenario start n seen.state.now r q run of_q some found.some in
    let of_span : IsSpan s r span = subst (λ (k : ℕ). IsSpan s r k)
    (ap (λ js. least_span s.settings.base (by_task js)) tasks ∙ found.same) (least_is_span s r scenario) in
    let fits : LoadFits s r = omega (arith, same_load s scenario start n seen.state.now r q run of_q some found.some, found.fits) in
    ap (map (λ (p : Pick). p.task)) (whole s n r span t d scenario run start of_span fits lt)
    ∙ tasks_later s r (t / span * span) (get_or r (t % span) d).picks
