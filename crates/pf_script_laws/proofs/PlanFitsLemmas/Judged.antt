-- The verdict on the desk at the end of a plan's script.
use Rattle.std.proofs.Common.{◌≡◌, ◌∙◌, ◌*◌, ◌<◌, ◌≤◌, ◌==◌, ◌&&◌, ℕ, zero, suc, Bool, true, false, nat_le, cond, Option, List, [], ◌∷◌, All, count_by, filter_map, length, map, sum_by, arith, refl, sym, ap, ap₂, subst}
use Rattle.std.specs.Prelude.{if◌then◌else◌, ◌↔◌}
use Rattle.std.specs.List.{flat_map}
use Rattle.std.proofs.lemmas.Bool.{and_parts, eqb-true}
use Rattle.std.proofs.lemmas.Bool.Decides.{nat_tests}
use Rattle.std.proofs.lemmas.List.{length-append}
use Rattle.std.proofs.lemmas.List.Elements.{All-cons, All-head, All-nil, All-tail}
use Rattle.std.proofs.lemmas.List.Sorted.{All-permutation, length_permutation}
use Rattle.std.proofs.lemmas.List.Sums.{sum_by-cons}
use Rattle.pf_lemmas.proofs.Lists.{none_long}
use Rattle.pf_order.specs.declared.pick.Pick.{Pick}
use Rattle.pf_convert.specs.declared.plan.Plan.{Plan}
use Rattle.pf_scenario.specs.System.{System}
use Rattle.pf_scenario.specs.Event.{slot_of}
use Rattle.pf_scenario.specs.Scenario as scenario
use Rattle.pf_scenario.specs.declared.event.Event.{Event}
use Rattle.pf_scenario.specs.declared.event.Event.TheVariants.{Join, Leave, Delay, Limit}
use Rattle.pf_scenario.specs.declared.event.Numbered.{Numbered}
use Rattle.pf_scenario.proofs.Sorting.{sorted_keeps}
use Rattle.pf_run.specs.Record.{Slot}
use Rattle.pf_run.specs.Inside.{Joined, join_of}
use Rattle.pf_run.specs.Run.{events_in_force}
use Rattle.pf_run.specs.Computed.{run_of}
use Rattle.pf_run.proofs.Runs.{run_is_computed}
use Rattle.pf_tally.specs.Figures.{figures_of, figures_of_task, processors_in}
use Rattle.pf_tally.specs.Lags.{by_task, task_cmp}
use Rattle.pf_tally.specs.Misses.{in_miss_order, miss_cmp, misses_of, misses_of_task}
use Rattle.pf_tally.specs.declared.figures.Figures.{Figures}
use Rattle.pf_tally.specs.declared.miss.Miss.{Miss}
use Rattle.pf_tally.specs.Load.{load_in, room_in}
use Rattle.pf_tally.specs.Room.{LeavesRoom}
use Rattle.pf_laws.proofs.PromiseLemmas.Promises.{no_window_is_missed}
use Rattle.pf_laws.proofs.PromiseLemmas.Settings.{settings_suffice}
use Rattle.pf_desk.specs.Desk.{Seen, StandsForHistory}
use Rattle.pf_desk.specs.Machine.{State}
use Rattle.pf_desk.specs.History.{IsLegal, last_state}
use Rattle.pf_desk.specs.declared.entry.Entry.{Entry}
use Rattle.pf_convert.specs.declared.list.listed.Listed.{Listed}
use Rattle.pf_verdict.specs.Findings.{grounds_of}
use Rattle.pf_verdict.specs.Strain.{above_of, is_above}
use Rattle.pf_verdict.specs.Verdict.{is_clean, is_settled, verdict_of}
use Rattle.pf_verdict.specs.declared.verdict.Grounds.{Grounds}
use Rattle.pf_verdict.specs.declared.verdict.Verdict.TheVariants.{Fits, FitsSoFar, DoesNotFit}
use Rattle.pf_script_run.specs.Carried.{asked_in}
use Rattle.pf_convert.specs.Conversion.Script.{steps_of}
use Rattle.pf_script_laws.specs.Conversions.Read.{IsWritten}
use Rattle.pf_script_laws.specs.Conversions.Written.{IsMeasured}
use Rattle.pf_laws.specs.Joins.Joins.{HasJoinsAlone, IsJoin, units_of}
use Rattle.pf_laws.proofs.JoinsLemmas.Courses.{joins_are_let_in, joins_stay_within_room}
use Rattle.pf_script_laws.specs.PlanFits.Laws.{PlansFitWhereTheyAreSaidTo, PlansMissNothing, plan_commands, plan_settings}
use Rattle.pf_script_laws.proofs.PlanFitsLemmas.Answered.{state_with}
use Rattle.pf_script_laws.proofs.PlanFitsLemmas.Held.{ends_at, held, held_joins, held_reached, held_units, next_behind}

-- where no slot is asked for more than its room, none is counted
none_above : (s : scenario.Plan) (r : List Slot) (n : ℕ) → ((t : ℕ) → t < n → load_in s r t ≤ room_in s r t) → above_of s r n ≡ 0
unfolding above_of
none_above s r zero within = refl
none_above s r (suc n) within =
    let here : load_in s r n ≤ room_in s r n = within n (omega arith) in
    let no : is_above s r n ≡ false = grind (arith, nat_tests, here) in
    rw no (let more = none_above s r n (λ t lt. within t (omega (arith, lt))) in omega (arith, more))

-- where each event is reached, none is counted
none_unreached : (xs : List Numbered) (n : ℕ) → All (λ x. slot_of x.event < n) xs → count_by (λ x. nat_le n (slot_of x.event)) xs ≡ 0
none_unreached [] n all = refl
none_unreached (x ∷ xs) n all =
    let lt : slot_of x.event < n = All-head (λ y. slot_of y.event < n) x xs all in
    let no : nat_le n (slot_of x.event) ≡ false = grind (arith, nat_tests, lt) in
    omega (
      arith,
      sum_by-cons (λ (y : Numbered). cond (nat_le n (slot_of y.event)) 1 0) x xs,
      ap {B = ℕ} (λ b. cond b 1 0) no,
      none_unreached xs n (All-tail (λ y. slot_of y.event < n) x xs all),
    )

-- where no window is missed, no task has a missed one
none_of_each : {X : Type 0} (f : X → List Miss) (xs : List X) → length (flat_map f xs) ≡ 0 → All (λ x. length (f x) ≡ 0) xs
none_of_each f [] none = All-nil (λ x. length (f x) ≡ 0)
none_of_each f (x ∷ xs) none =
    let both = length-append (f x) (flat_map f xs) in
    All-cons (λ y. length (f y) ≡ 0) x xs (omega (arith, none, both)) (none_of_each f xs (omega (arith, none, both)))

none_in_sum : (r : List Slot) (rows : List (List (Option Pick))) (xs : List Numbered) (js : List Joined) → All (λ j. length (misses_of_task r xs j) ≡ 0) js
    → sum_by (λ f. f.missed) (map (λ j. figures_of_task r (processors_in rows j.task) xs j) js) ≡ 0
none_in_sum r rows xs [] all = refl
none_in_sum r rows xs (j ∷ js) all =
    omega (
      arith,
      sum_by-cons (λ (f : Figures). f.missed) (figures_of_task r (processors_in rows j.task) xs j) (map (λ i. figures_of_task r (processors_in rows i.task) xs i) js),
      All-head (λ i. length (misses_of_task r xs i) ≡ 0) j js all,
      none_in_sum r rows xs js (All-tail (λ i. length (misses_of_task r xs i) ≡ 0) j js all),
    )

none_missed : (s : scenario.Plan) (r : List Slot) (rows : List (List (Option Pick))) → misses_of s r ≡ [] → sum_by (λ f. f.missed) (figures_of s r rows) ≡ 0
unfolding misses_of figures_of
none_missed s r rows none =
    let xs = events_in_force s r (length r) in
    let js = filter_map (join_of s.settings.base) xs in
    let all = flat_map (misses_of_task r xs) js in
    let empty : length all ≡ 0 = sym (length_permutation all (in_miss_order all) (sorted_keeps miss_cmp all)) ∙ ap length none in
    none_in_sum r rows xs (by_task js)
    (All-permutation (λ j. length (misses_of_task r xs j) ≡ 0) js (by_task js) (sorted_keeps task_cmp js) (none_of_each (misses_of_task r xs) js empty))

-- the grounds of the verdict `fits`
all_zero : (g : Grounds) → g.refused ≡ 0 → g.denied ≡ 0 → g.missed ≡ 0 → g.above ≡ 0 → g.unreached ≡ 0 → verdict_of g ≡ Fits
all_zero g a b c d e = rw (a, b, c, d, e) refl

fits_denies_none : (g : Grounds) → verdict_of g ≡ Fits → g.denied ≡ 0
fits_denies_none g fits = by (is_clean g) (is_settled g) refl fits
  where
    by : (a b : Bool) → is_clean g ≡ a → (if a then (if b then Fits else FitsSoFar) else DoesNotFit) ≡ Fits → g.denied ≡ 0
    by true b clean e = let parts = and_parts (g.refused == 0 && g.denied == 0) (g.missed == 0) clean in eqb-true g.denied 0 (and_parts (g.refused == 0) (g.denied == 0) parts.0).1
    by false b clean e = cc

-- what is seen of a desk in which tasks only join
judged : (seen : Seen) (history : List Entry) (m base : ℕ) → seen.state.plan.settings ≡ plan_settings m base → StandsForHistory history seen
    → HasJoinsAlone seen.state.plan seen.state.now → (verdict_of (grounds_of seen 0) ≡ Fits) ↔ (units_of base seen.state.plan.events ≤ m * base)
judged seen history m base settings stands alone =
    let s = seen.state.plan in
    let n = seen.state.now in
    let r = run_of s n in
    let run = run_is_computed s n alone.scenario in
    let law = joins_are_let_in s n alone in
    let base_is : s.settings.base ≡ base = ap (λ q. q.base) settings in
    let cap_is : s.settings.cap ≡ m * base = ap (λ q. q.cap) settings in
    let processors_is : s.settings.processors ≡ m = ap (λ q. q.processors) settings in
    let units : units_of s.settings.base s.events ≡ units_of base s.events = ap (λ (b : ℕ). units_of b s.events) base_is in
    let room : s.settings.base * s.settings.processors ≡ base * m = ap₂ (λ (a b : ℕ). a * b) base_is processors_is in (
      (λ fits. omega (arith, units, cap_is, law.0 (sym stands.of_run.are_denials ∙ none_long seen.denials (fits_denies_none (grounds_of seen 0) fits)))),
      (λ within.
          let low : units_of s.settings.base s.events ≤ s.settings.cap = omega (arith, units, cap_is, within) in
          let carries : s.settings.cap ≤ s.settings.base * s.settings.processors = omega (arith, cap_is, room) in
          let rooms = joins_stay_within_room s n alone low carries in
          let none = no_window_is_missed s n r alone.scenario run rooms in
          all_zero (grounds_of seen 0) refl (ap length (stands.of_run.are_denials ∙ law.1 low)) (none_missed s r seen.rows none)
          (none_above s r n (λ t lt. rooms t (omega (arith, lt, run.slots)))) (none_unreached s.events n alone.reached)),
    )

-- what is seen of a desk that was asked the commands of a plan
record IsSeenOf (m : ℕ) (plan : Plan) (seen : Seen) : Type 0 where
  events : seen.state.plan.events ≡ held 1 plan.tasks.items
  alone : HasJoinsAlone seen.state.plan seen.state.now

seen_of : (m quantum : ℕ) (tasks : List Listed) (plan : Plan) (history : List Entry) (seen : Seen) → IsWritten m quantum tasks plan → IsMeasured plan
    → seen.state.plan.settings ≡ plan_settings m plan.base → asked_in history ≡ plan_commands plan → StandsForHistory history seen → IsSeenOf m plan seen
seen_of m quantum tasks plan history seen written measured settings asked stands =
    let slots = plan.tasks.items in
    let ends = ends_at m quantum tasks plan history written measured (subst (λ q. IsLegal q history) settings stands.legal) asked in
    let state : seen.state ≡ state_with (plan_settings m plan.base) (held 1 slots) (next_behind 1 slots) (steps_of plan.base slots) =
    sym stands.last ∙ ap (λ q. last_state q history) settings ∙ ends.state in
    let events : seen.state.plan.events ≡ held 1 slots = ap (λ (q : State). q.plan.events) state in
    let now : seen.state.now ≡ steps_of plan.base slots = ap (λ (q : State). q.now) state in
    record {
      events = events;
      alone = record {
        scenario = stands.of_run.scenario;
        joins = subst (All (λ x. IsJoin x.event)) (sym events) (held_joins 1 slots);
        reached = subst (λ (n : ℕ). All (λ x. slot_of x.event < n) seen.state.plan.events) (sym now)
            (subst (All (λ x. slot_of x.event < steps_of plan.base slots)) (sym events) (held_reached plan.base 1 slots written.some_base written.slotted));
      };
    }

pub plans_fit : PlansFitWhereTheyAreSaidTo
plans_fit m quantum tasks plan history seen written measured settings asked stands =
    let of = seen_of m quantum tasks plan history seen written measured settings asked stands in
    let both = judged seen history m plan.base settings stands of.alone in
    let load : units_of plan.base seen.state.plan.events ≡ plan.load =
    ap (units_of plan.base) of.events ∙ held_units plan.base 1 plan.tasks.items ∙ sym measured.asks in
    (λ fits. subst (λ (u : ℕ). u ≤ m * plan.base) load (both.0 fits), λ within. both.1 (subst (λ (u : ℕ). u ≤ m * plan.base) (sym load) within))

-- joins leave the processors as they are
joins_leave : (settings : System) (event : Event) → IsJoin event → LeavesRoom settings event
joins_leave settings (Join slot task cost period early) is = tt
joins_leave settings (Leave slot task) is = absurd is
joins_leave settings (Delay slot task held) is = absurd is
joins_leave settings (Limit slot count) is = absurd is

pub plans_miss_nothing : PlansMissNothing
plans_miss_nothing m quantum tasks plan history seen written measured settings asked stands n r run =
    let s = seen.state.plan in
    let of = seen_of m quantum tasks plan history seen written measured settings asked stands in
    let base_is : s.settings.base ≡ plan.base = ap (λ q. q.base) settings in
    let cap_is : s.settings.cap ≡ m * plan.base = ap (λ q. q.cap) settings in
    let processors_is : s.settings.processors ≡ m = ap (λ q. q.processors) settings in
    let room : s.settings.base * s.settings.processors ≡ plan.base * m = ap₂ (λ (a b : ℕ). a * b) base_is processors_is in
    settings_suffice s n r of.alone.scenario run (omega (arith, cap_is, room)) (λ k d lt. joins_leave s.settings _ (of.alone.joins k d lt))
