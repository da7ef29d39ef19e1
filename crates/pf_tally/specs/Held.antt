-- The delays of a task, one after another.
use Rattle.std.specs.Prelude.{◌≡◌, ℕ, ◌+◌, ◌-◌, ◌^◌, min, sum_by, ◌<◌, ◌≤◌, ◌==◌, if◌then◌else◌, List, [], ◌∷◌, ◌++◌, length, All, count_by, nat_lt}
use Rattle.std.specs.List.Sorted.{IsNonDecreasing}
use Rattle.pf_weight.specs.Share.{Share, IsShare}
use Rattle.pf_weight.specs.declared.task.TheConstants.{LARGEST_TASK}
use Rattle.pf_window.specs.Window.{release_of}
use Rattle.pf_tally.specs.Clock.{Stop}
use Rattle.pf_tally.specs.Log.{RiseFrom}
use Rattle.pf_scenario.specs.declared.scenario.TheConstants.{MOST_EVENTS}
use Rattle.pf_scenario.specs.declared.settings.TheConstants.{WIDE_HORIZON}
use Rattle.pf_scenario.specs.declared.event.Event.{Event}
use Rattle.pf_scenario.specs.declared.event.Event.TheVariants.{Delay}
use Rattle.pf_scenario.specs.declared.event.Numbered.{Numbered}
use Rattle.pf_scenario.specs.declared.limits.TheConstants.{LONGEST_DELAY}
use Rattle.pf_run.specs.Inside.{Joined}
use Rattle.pf_tally.specs.declared.held.Held.{Held}

-- by how much an event delays the task
abbrev pub delay_from : Joined → Event → ℕ
delay_from j (Delay slot task by) = if task == j.task then by else 0
delay_from j event = 0

-- the subtask that is next at slot u, where the task ran in these slots
abbrev pub next_in : List ℕ → ℕ → ℕ
next_in ran u = count_by (λ q. nat_lt q u) ran + 1

-- what a delay holds back: the subtask that is next at its slot, whose shift was this before it
abbrev pub held_by : (ℕ → ℕ) → Joined → ℕ → Event → List Held
held_by next j shift (Delay slot task by) =
    if task == j.task then record { sub = next slot; shift = shift; by = by } ∷ [] else []
held_by next j shift event = []

-- the same of these events, the first of which finds this shift
abbrev pub held_from : (ℕ → ℕ) → Joined → ℕ → List Numbered → List Held
held_from next j shift [] = []
held_from next j shift (x ∷ xs) = held_by next j shift x.event ++ held_from next j (shift + delay_from j x.event) xs

-- the numbers of these events are small enough to be added to the task's join slot
pub record AreDelays (j : Joined) (xs : List Numbered) : Type 0 where
  pub joined : j.slot < WIDE_HORIZON
  pub short : All (λ x. delay_from j x.event ≤ LONGEST_DELAY) xs
  pub few : length xs ≤ MOST_EVENTS

-- each delay finds the shift that the one before it left, and no earlier subtask
abbrev pub AreSuccessive : ℕ → ℕ → List Held → Type 0
AreSuccessive sub shift [] = Unit {0}
AreSuccessive sub shift (h ∷ hs) = (sub ≤ h.sub) × (h.shift ≡ shift) × AreSuccessive h.sub (shift + h.by) hs

-- where a delay stops the clock of a task of this weight
abbrev pub stop_of : Share → Held → Stop
stop_of w h = record { start = release_of w h.sub + h.shift; end = release_of w h.sub + h.shift + h.by }

-- how much of a stop lies below n
abbrev pub part_of : ℕ → Stop → ℕ
part_of n s = min s.end n - min s.start n

-- how many slots below n these delays stop the clock
abbrev pub stopped_below : ℕ → Share → List Held → ℕ
stopped_below n w held = sum_by (λ h. part_of n (stop_of w h)) held

-- the numbers of a delay are small enough to be added
pub record IsSmall (h : Held) : Type 0 where
  pub some : 1 ≤ h.sub
  pub sub : h.sub ≤ 2 ^ 24
  pub shift : h.shift < 2 ^ 40
  pub by : h.by ≤ LONGEST_DELAY

-- what is known of a task that is tallied after n slots: it joined before, it ran in no more slots, and these and its
-- delays are small enough to be added
pub record CanTally (j : Joined) (ran : List ℕ) (xs : List Numbered) (n : ℕ) : Type 0 where
  pub number : j.task ≤ LARGEST_TASK
  pub share : IsShare j.weight
  pub joined : j.slot ≤ n
  pub ran_rise : IsNonDecreasing ran
  pub ran_within : length ran ≤ n
  pub within : n ≤ WIDE_HORIZON
  pub rise : RiseFrom 0 xs
  pub delays : AreDelays j xs
