-- Worked examples: what the definitions say of tasks whose numbers were worked out by hand.
use Rattle.std.proofs.Common.{◌≡◌, ℕ, List, [], ◌∷◌, Ok, Err, Result, None, Some, refl}
use Rattle.pf_convert.specs.declared.quantum.Quantum.{Quantum}
use Rattle.pf_convert.specs.declared.slot_fault.SlotFault.{SlotFault}
use Rattle.pf_convert.specs.declared.slot_fault.SlotFault.TheVariants.{DueTooSoon, CostAbovePeriod, JoinBeyondHorizon, TooEarly, BeforeArrival}
use Rattle.pf_convert.specs.declared.slotted.Slotted.{Slotted}
use Rattle.pf_convert.specs.declared.timed.Timed.{Timed}
use Rattle.pf_convert.specs.declared.words.arrivals.Arrivals.TheVariants.{Aligned, Any}
use Rattle.pf_convert.specs.Outcomes.{billionths_of}
use Rattle.pf_convert.specs.Quotients.{all_quotients, quotients_to, whole_quotients}
use Rattle.pf_convert.specs.Rounding.{rounded, load_over}
use Rattle.pf_convert.specs.Slots.{slots_or_fault}

-- half a millisecond, and what a switch takes of it
abbrev half : ℕ → Quantum
half switch = record { length = 500000; switch = switch }

abbrev job : ℕ → ℕ → Timed
job work every = record { work = work; every = every; deadline = None; first = 0; early = 0 }

abbrev plain : ℕ → ℕ → Result Slotted SlotFault
plain cost period = Ok (record { cost = cost; period = period; join = 0; early = 0 })

-- 18 ms each 33.3 ms are 36 quanta in 66 slots, and 38 where each loses 20 us
lidar : slots_or_fault (half 0) Aligned (job 18000000 33300000) ≡ plain 36 66
lidar = refl

lidar-switched : slots_or_fault (half 20000) Aligned (job 18000000 33300000) ≡ plain 38 66
lidar-switched = refl

-- 0.4 ms are less than a slot; 3 ms each 2 ms are 6 quanta in 4 slots
too_short : slots_or_fault (half 0) Aligned (job 1000000 400000) ≡ Err DueTooSoon
too_short = refl

too_dear : slots_or_fault (half 0) Aligned (job 3000000 2000000) ≡ Err (CostAbovePeriod 6 4)
too_dear = refl

too_late : slots_or_fault (half 0) Aligned (record { work = 1000000; every = 10000000; deadline = None; first = 2097152000000; early = 0 }) ≡ Err (JoinBeyondHorizon 4194304)
too_late = refl

too_early : slots_or_fault (half 0) Aligned (record { work = 1000000; every = 10000000; deadline = None; first = 0; early = 524288500000 }) ≡ Err (TooEarly 1048577)
too_early = refl

-- 4 ms each 33.333333 ms, due in 20 ms, are 8 quanta in 40 slots, and in 39 where jobs come at any time
abbrev camera : Timed
camera = record { work = 4000000; every = 33333333; deadline = Some 20000000; first = 0; early = 0 }

aligned-camera : slots_or_fault (half 0) Aligned camera ≡ plain 8 40
aligned-camera = refl

any-camera : slots_or_fault (half 0) Any camera ≡ plain 8 39
any-camera = refl

-- 0.9 ms are less than two slots; half a millisecond early is before a job that comes at any time
below_two : slots_or_fault (half 0) Any (job 1000000 900000) ≡ Err DueTooSoon
below_two = refl

before_arrival : slots_or_fault (half 0) Any (record { work = 1000000; every = 10000000; deadline = None; first = 0; early = 500000 }) ≡ Err BeforeArrival
before_arrival = refl

-- of 12 ns and a switch of 2 the quotients by 1, 2, 3 and 4 leave no rest; without a switch each is tried once
whole-twelve : whole_quotients 2 12 ≡ 12 ∷ 6 ∷ 4 ∷ 3 ∷ []
unfolding quotients_to
whole-twelve = refl

all-twelve : all_quotients 0 12 ≡ 12 ∷ 6 ∷ 4 ∷ 3 ∷ 2 ∷ 1 ∷ []
unfolding quotients_to
all-twelve = refl

all-ten : all_quotients 0 10 ≡ 10 ∷ 5 ∷ 3 ∷ 2 ∷ 1 ∷ []
unfolding quotients_to
all-ten = refl

-- seven tasks whose periods are primes, over 604,800
abbrev slotted : ℕ → ℕ → Slotted
slotted cost period = record { cost = cost; period = period; join = 0; early = 0 }

abbrev seven : List Slotted
seven = slotted 2 101 ∷ slotted 3 103 ∷ slotted 4 107 ∷ slotted 5 109 ∷ slotted 6 113 ∷ slotted 7 127 ∷ slotted 8 131 ∷ []

below_101 : rounded 604800 101 ≡ 100
unfolding rounded
below_101 = refl

below_131 : rounded 604800 131 ≡ 128
unfolding rounded
below_131 = refl

seven-load : load_over 604800 seven ≡ 185080
unfolding rounded
seven-load = refl

-- and their work in billionths: 2 / 101 and so on, each rounded up
seven-work : billionths_of
    (job 2 101 ∷ job 3 103 ∷ job 4 107 ∷ job 5 109 ∷ job 6 113 ∷ job 7 127 ∷ job 8 131 ∷ []) ≡ 301467093
seven-work = refl
