-- What a timeline keeps rests on the settings and on the events of its slots.
use Rattle.std.proofs.Common.{◌≡◌, ℕ, zero-le, ◌+◌, ◌<◌, ◌≤◌, Option, List, [], ◌∷◌, ◌++◌, length, refl, sym, ap, ap₂, ◌∙◌, subst, arith, length-append}
use Rattle.std.specs.Prelude.{nat_lt}
use Rattle.std.proofs.lemmas.Bool.{cond-false, le-ltb, lt-ltb, ltb-true}
use Rattle.pf_order.specs.declared.pick.Pick.{Pick}
use Rattle.pf_place.specs.RunRows.{rows_of}
use Rattle.pf_scenario.specs.Event.{slot_of}
use Rattle.pf_scenario.specs.Scenario.{Plan}
use Rattle.pf_scenario.specs.Edit.{IsScenario}
use Rattle.pf_scenario.specs.declared.event.Numbered.{Numbered}
use Rattle.pf_run.specs.declared.denied.Denied.{Denied}
use Rattle.pf_run.specs.Record.{Slot, denials_of, in_force}
use Rattle.pf_run.specs.Inside.{count_of}
use Rattle.pf_run.specs.Run.{events_in_force, IsRun}
use Rattle.pf_run.specs.Computed.{run_of}
use Rattle.pf_engine.specs.Fits.{Kept, kept_after, Fits}
use Rattle.pf_run.specs.Laws.{events_below}
use Rattle.pf_run.specs.RunRows.{AreOfRun, count_in_last, turns_behind, turns_of, rows_in, denials_in}
use Rattle.pf_run.proofs.Runs.{narrowed, same_past, run_is_computed, computed_length, computed_alike}
use Rattle.pf_timeline.specs.Timeline.{KeptRun, StandsFor, AgreesBelow, past_below}
use Rattle.pf_timeline.specs.Keeping.{kept_run, KeepsRun}
use Rattle.pf_timeline.proofs.Grown.{kept_now}
use Rattle.pf_timeline.specs.Laws.{TimelinesRestOnPast}

-- between plans with the same settings, and the same events below n
module _ (s q : Plan) (n : ℕ) (settings : s.settings ≡ q.settings) (same : events_below n s.events ≡ events_below n q.events) where
  same_count : (r : List Slot) → length r ≤ n → count_in_last s r ≡ count_in_last q r
  same_count r within =
      ap₂ (λ m events. count_of m (in_force (denials_of r) events)) (ap (λ system. system.processors) settings) (same_past s q n (length r) same within)

  same_turns : (r slots : List Slot) → length r + length slots ≤ n → turns_behind s r slots ≡ turns_behind q r slots
  same_turns r [] within = refl
  same_turns r (slot ∷ slots) within =
      let long : length (r ++ slot ∷ []) ≡ length r + 1 = length-append r (slot ∷ []) in
      ap₂ (λ count turns. (count, slot.picks) ∷ turns) (same_count (r ++ slot ∷ []) (omega arith))
      (same_turns (r ++ slot ∷ []) slots (omega arith))

  same_run : IsScenario s → IsScenario q → run_of s n ≡ run_of q n
  same_run of_s of_q =
      computed_alike s q n of_s of_q (record {
        processors = ap (λ system. system.processors) settings;
        base = ap (λ system. system.base) settings;
        cap = ap (λ system. system.cap) settings;
      }) same

  same_rows : IsScenario s → IsScenario q → rows_in s n ≡ rows_in q n
  unfolding rows_in
  same_rows of_s of_q =
      let long : length (run_of s n) ≡ n = computed_length s n of_s in
      ap₂ (λ m turns. rows_of m turns) (ap (λ system. system.processors) settings) (same_turns [] (run_of s n) (omega arith))
      ∙ ap (λ r. rows_of q.settings.processors (turns_of q r)) (same_run of_s of_q)

  -- Use: the same denials.
  pub same_denials : IsScenario s → IsScenario q → denials_in s n ≡ denials_in q n
  unfolding denials_in
  same_denials of_s of_q = ap denials_of (same_run of_s of_q)

  -- Use: an engine fits both runs.
  pub same_fit : (e : Kept) → IsScenario s → IsScenario q → Fits s (run_of s n) e → Fits q (run_of q n) e
  same_fit e of_s of_q fits =
      let long : length (run_of s n) ≡ n = computed_length s n of_s in
      let alike : run_of s n ≡ run_of q n = same_run of_s of_q in
      let run : IsRun q n (run_of q n) = run_is_computed q n of_q in
      record {
        is_run = subst (λ k. IsRun q k (run_of q n)) (sym run.slots) run;
        keeps = fits.keeps
            ∙ ap₂ (λ system events. kept_after system (run_of s n) (in_force (denials_of (run_of s n)) events)) settings
            (same_past s q n (length (run_of s n)) same (omega arith))
            ∙ ap (λ r. kept_after q.settings r (events_in_force q r (length r))) alike;
      }

  pub of_run_alike : (rows : List (List (Option Pick))) (denials : List Denied) → IsScenario q → AreOfRun s n rows denials → AreOfRun q n rows denials
  of_run_alike rows denials of_q of_run = record {
    scenario = of_q;
    within = let within : n ≤ s.settings.horizon = of_run.within in subst (λ system. n ≤ system.horizon) settings within;
    are_rows = of_run.are_rows ∙ same_rows of_run.scenario of_q;
    are_denials = of_run.are_denials ∙ same_denials of_run.scenario of_q;
  }

  -- Use: the same is kept of both.
  pub keeps_alike : (rows : List (List (Option Pick))) (denials : List Denied) (e : Kept) → IsScenario q → KeepsRun s n rows denials e → KeepsRun q n rows denials e
  keeps_alike rows denials e of_q keeps = record {
    of_run = of_run_alike rows denials of_q keeps.of_run;
    engine = same_fit e keeps.of_run.scenario of_q keeps.engine;
  }

pub timelines_rest_on_past : TimelinesRestOnPast
timelines_rest_on_past s q n t of_q same stands = record {
  slots = stands.slots;
  past = stands.past ∙ same;
  of_run = of_run_alike s q n (ap (λ past. past.settings) same) (ap (λ past. past.events) same) t.rows t.denials of_q stands.of_run;
}

-- Use: what is kept is of each scenario that the timeline stands for.
pub keeps_standing : (s q : Plan) (n every near : ℕ) (rows : List (List (Option Pick))) (denials : List Denied) (e : Kept) (t : KeptRun) →
    KeepsRun q e.now rows denials e → kept_run q every near rows denials e ≡ t → StandsFor s n t → KeepsRun s n rows denials e
keeps_standing s q n every near rows denials e t keeps shows stands =
    let here : StandsFor s n (kept_run q every near rows denials e) = subst (StandsFor s n) (sym shows) stands in
    let same : past_below n q ≡ past_below n s = ap (λ now. past_below now q) (sym here.slots) ∙ here.past in
    keeps_alike q s n (ap (λ past. past.settings) same) (ap (λ past. past.events) same) rows denials e stands.of_run.scenario
    (subst (λ now. KeepsRun q now rows denials e) here.slots keeps)

-- Use: as many slots as it has.
pub stands_now : (s : Plan) (n : ℕ) (t : KeptRun) → StandsFor s n t → StandsFor s t.now t
stands_now s n t stands = subst (λ k. StandsFor s k t) (sym stands.slots) stands

-- Use: what is kept, where the scenario it is of has the same past, stands for this one.
pub stands_kept : (s q : Plan) (n every near : ℕ) (rows : List (List (Option Pick))) (denials : List Denied) (e : Kept) → KeepsRun s n rows denials e →
    past_below n q ≡ past_below n s → StandsFor s n (kept_run q every near rows denials e)
stands_kept s q n every near rows denials e keeps same =
    let now = kept_now s n rows denials e keeps in
    record { slots = now; past = ap (λ now. past_below now q) now ∙ same; of_run = keeps.of_run }

-- Use: what is below `from` is the same in the past of more slots.
pub past_agrees : (from n : ℕ) (xs : List Numbered) → from ≤ n → events_below from (events_below n xs) ≡ events_below from xs
past_agrees from n [] within = refl
past_agrees from n (x ∷ xs) within =
    narrowed (nat_lt (slot_of x.event) n) (λ y. nat_lt (slot_of y.event) from) x (events_below n xs) xs
    (λ is. lt-ltb (slot_of x.event) n (let below : slot_of x.event < from = ltb-true (slot_of x.event) from is in omega arith))
    (past_agrees from n xs within)

-- Use: the same past of n slots is the same one of fewer.
pub past_narrowed : (s q : Plan) (t n : ℕ) → t ≤ n → past_below n s ≡ past_below n q → past_below t s ≡ past_below t q
past_narrowed s q t n within same =
    let events = sym (past_agrees t n s.events within) ∙ ap (λ past. events_below t past.events) same ∙ past_agrees t n q.events within in
    λ i. record { settings = (same i).settings; events = events i }

-- Use: a scenario with the same settings and the same events below `from` agrees with a timeline that has so many slots.
pub agrees_below : (s q : Plan) (from n : ℕ) (t : KeptRun) → from ≤ n → past_below from s ≡ past_below from q → StandsFor s n t →
    AgreesBelow q from t
agrees_below s q from n t within same stands = record {
  settings = ap (λ past. past.settings) stands.past ∙ ap (λ past. past.settings) same;
  events = ap (λ past. events_below from past.events) stands.past ∙ past_agrees from n s.events within ∙ ap (λ past. past.events) same;
}

-- no event is of a slot below 0
pub none_below : (xs : List Numbered) → events_below 0 xs ≡ []
none_below [] = refl
none_below (x ∷ xs) = cond-false (nat_lt (slot_of x.event) 0) _ _ (le-ltb (slot_of x.event) 0 zero-le) ∙ none_below xs

-- Use: scenarios in the same settings have the same past of no slots.
pub no_past : (s q : Plan) → q.settings ≡ s.settings → past_below 0 q ≡ past_below 0 s
no_past s q same =
    let events = none_below q.events ∙ sym (none_below s.events) in
    λ i. record { settings = same i; events = events i }
