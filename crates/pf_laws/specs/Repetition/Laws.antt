-- The laws of repetition, each the contract of a public function.
use Rattle.std.specs.Prelude.{◌≡◌, ◌↔◌, ℕ, ◌+◌, ◌*◌, ◌/◌, ◌%◌, ◌<◌, ◌≤◌, List, [], All, map, take, slice_index_or}
use Rattle.pf_scenario.specs.Scenario.{Plan}
use Rattle.pf_scenario.specs.Edit.{IsScenario}
use Rattle.pf_run.specs.Record.{Slot}
use Rattle.pf_run.specs.Run.{IsRun}
use Rattle.pf_tally.specs.Misses.{misses_of}
use Rattle.pf_tally.specs.Load.{load_in}
use Rattle.pf_laws.specs.Repetition.Synchronous.{IsSynchronous, tasks_in, IsSpan, later_pick, AreEven}

-- the load is within the processors
abbrev pub LoadFits : Plan → List Slot → Type 0
LoadFits s r = load_in s r 0 ≤ s.settings.base * s.settings.processors

-- what one span tells: no window is missed in it, just where the load is within the processors, and just where every lag
-- is 0 at its end
pub record IsDecided (s : Plan) (r : List Slot) (span : ℕ) : Type 0 where
  pub by_load : (misses_of s (take span r) ≡ []) ↔ LoadFits s r
  pub by_lags : (misses_of s (take span r) ≡ []) ↔ AreEven s r span

-- A span decides.
abbrev pub SpanDecides : Type 0
SpanDecides = (s : Plan) (n : ℕ) (r : List Slot) (span : ℕ) → IsScenario s → IsRun s n r → IsSynchronous s →
    IsSpan s r span → span ≤ n → IsDecided s r span

-- No window is missed beyond a span: where none is in the first one, none ever is.
abbrev pub NoneBeyond : Type 0
NoneBeyond = (s : Plan) (n : ℕ) (r : List Slot) (span : ℕ) → IsScenario s → IsRun s n r → IsSynchronous s →
    IsSpan s r span → span ≤ n → misses_of s (take span r) ≡ [] → misses_of s r ≡ []

-- The schedule repeats: where the load is within the processors, slot t + span has the picks of slot t, in the same order,
-- each with the number that its task has reached by then.
abbrev pub RepeatsAfter : Type 0
RepeatsAfter = (s : Plan) (n : ℕ) (r : List Slot) (span t : ℕ) (d : Slot) → IsScenario s → IsRun s n r → IsSynchronous s →
    IsSpan s r span → LoadFits s r → t + span < n →
    (slice_index_or r (t + span) d).picks ≡ map (later_pick s r span) (slice_index_or r t d).picks

-- The first span is the whole schedule: where the load is within the processors, each slot has the picks of its place in the
-- first span, in the same order, each later by the spans between.
abbrev pub FirstSpanIsAll : Type 0
FirstSpanIsAll = (s : Plan) (n : ℕ) (r : List Slot) (span t : ℕ) (d : Slot) → IsScenario s → IsRun s n r → IsSynchronous s →
    IsSpan s r span → LoadFits s r → t < n →
    (slice_index_or r t d).picks ≡ map (later_pick s r (t / span * span)) (slice_index_or r (t % span) d).picks

-- Each span ends even: where the load is within the processors, every lag is 0 at every multiple of a span.
abbrev pub SpansEndEven : Type 0
SpansEndEven = (s : Plan) (n : ℕ) (r : List Slot) (span q : ℕ) → IsScenario s → IsRun s n r → IsSynchronous s →
    IsSpan s r span → LoadFits s r → q * span ≤ n → AreEven s r (q * span)

-- The base is a span, and so is any common multiple of the periods, and any multiple of a span.
abbrev pub BaseIsSpan : Type 0
BaseIsSpan = (s : Plan) (r : List Slot) → IsScenario s → IsSpan s r s.settings.base

abbrev pub CommonMultipleIsSpan : Type 0
CommonMultipleIsSpan = (s : Plan) (r : List Slot) (span : ℕ) → IsScenario s → 1 ≤ span →
    All (λ j. span % j.weight.period ≡ 0) (tasks_in s r) → IsSpan s r span

abbrev pub MultipleIsSpan : Type 0
MultipleIsSpan = (s : Plan) (r : List Slot) (span q : ℕ) → IsScenario s → IsSpan s r span → 1 ≤ q → IsSpan s r (q * span)

pub record TheseAreSpans : Type 0 where
  pub base : BaseIsSpan
  pub common : CommonMultipleIsSpan
  pub multiple : MultipleIsSpan
