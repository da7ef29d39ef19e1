-- What each of several quanta gives, and which quanta are tried where none is given.
use Rattle.std.specs.Prelude.{ℕ, ◌≡◌, ◌<◌, ◌^◌, ◌||◌, Bool, false, nat_le, min, Option, None, Some, is_some, unwrap_or, MatchOption, List, [], ◌∷◌, All, length, map, slice_index, slice_index_or}
use Rattle.std.specs.Bool.{MatchBool}
use Rattle.std.specs.Int.{div_ceil}
use Rattle.pf_convert.specs.declared.outcome.Outcome.{Outcome}
use Rattle.pf_convert.specs.declared.quantum.Quantum.{Quantum}
use Rattle.pf_convert.specs.declared.quantum.TheConstants.{LONGEST_QUANTUM}
use Rattle.pf_convert.specs.declared.terms.Terms.{Terms}
use Rattle.pf_convert.specs.Outcomes.{IsBestQuantum, NoneFits, least_billionths_of, outcome_at}
use Rattle.pf_convert.specs.Quotients.{all_quotients, whole_quotients}
use Rattle.pf_convert.specs.Slots.{due_of}
use Rattle.pf_convert.specs.declared.list.listed.Listed.{Listed}
use Rattle.pf_convert.specs.declared.conversion.planned.Planned.{Planned}
use Rattle.pf_convert.specs.Conversion.Planned.{HoldsPlan, IsPlannedAt}

-- a quantum of this length, of which a switch takes so much
abbrev pub quantum_of : ℕ → ℕ → Quantum
quantum_of switch length = record { length = length; switch = switch }

-- each is what the quantum at its place gives these tasks
pub record ArePlanned (terms : Terms) (tasks : List Listed) (quanta : List ℕ) (all : List Planned) : Type 0 where
  pub as_many : length all ≡ length quanta
  pub each : (k : ℕ) (d : Planned) → k < length all → IsPlannedAt (quantum_of terms.switch (slice_index quanta k)) terms.arrivals tasks (slice_index_or all k d)

abbrev pub HoldAll : List Planned → Type 0
HoldAll all = All (λ p. HoldsPlan p.plan) all

-- it is what its quantum gives these tasks
pub record IsPlannedUnder (terms : Terms) (tasks : List Listed) (p : Planned) : Type 0 where
  pub switch : p.quantum.switch ≡ terms.switch
  pub planned : IsPlannedAt p.quantum terms.arrivals tasks p
  pub holds : HoldsPlan p.plan

abbrev pub outcome_of : Planned → Outcome
outcome_of p = record { quantum = p.quantum.length; needed = p.needed; faults = length p.faults.items }

-- the shortest time that a job is due after, and a second at most
unfoldable pub shortest_time : List Listed → ℕ
shortest_time [] = LONGEST_QUANTUM
shortest_time (task ∷ tasks) = min (due_of task.times) (shortest_time tasks)

-- the best of some quanta is good enough where processors are given, and else where no fewer could carry the work
abbrev pub is_enough : Terms → ℕ → List Outcome → Option ℕ → Bool
is_enough terms work outcomes None = false
is_enough terms work outcomes (Some best) = is_some terms.processors || nat_le (unwrap_or (outcome_at outcomes best).needed 0) (div_ceil work (10 ^ 9))

-- whether these quanta are enough
pub record IsEnough (terms : Terms) (tasks : List Listed) (outcomes : List Outcome) (enough : Bool) : Type 0 where
  pub best : Option ℕ
  pub is_best : MatchOption best (NoneFits terms.processors outcomes) (IsBestQuantum terms.processors outcomes)
  pub told : enough ≡ is_enough terms (least_billionths_of (map (λ t. t.times) tasks)) outcomes best

-- what is given by the quotients of the shortest time that leave no rest, and by all of them where those are not enough
pub record AreTried (terms : Terms) (tasks : List Listed) (all : List Planned) : Type 0 where
  pub whole : List Planned
  pub planned : ArePlanned terms tasks (whole_quotients terms.switch (shortest_time tasks)) whole
  pub enough : Bool
  pub is_enough : IsEnough terms tasks (map outcome_of whole) enough
  pub gives : MatchBool enough (all ≡ whole) (ArePlanned terms tasks (all_quotients terms.switch (shortest_time tasks)) all)

-- what the quanta give that are given, or else those that are tried
abbrev pub ArePlannedFor : Terms → List ℕ → List Listed → List Planned → Type 0
ArePlannedFor terms [] tasks all = AreTried terms tasks all
ArePlannedFor terms (quantum ∷ quanta) tasks all = ArePlanned terms tasks (quantum ∷ quanta) all
