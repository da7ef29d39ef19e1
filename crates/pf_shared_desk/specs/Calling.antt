-- What callers of a shared desk do.
use Rattle.std.specs.Prelude.{ℕ, ◌≡◌, ◌<◌}
use Rattle.pf_scenario.specs.System.{System}
use Rattle.pf_desk.specs.declared.entry.Entry.{Entry}
use Rattle.pf_board.specs.Passes.{Boarding, Passing}
use Rattle.pf_board.specs.Takes.{Takes}
use Rattle.pf_desk_board.specs.Entered.{FindsQuantum, found_empty}
use Rattle.pf_desk_board.specs.Histories.{IsHistory, quanta_of}
use Rattle.pf_shared_desk.specs.declared.slot_take.SlotTake.{SlotTake}
use Rattle.pf_shared_desk.specs.declared.slot_take.SlotTake.TheVariants.{NotYet, Past, Found}
use Rattle.pf_shared_desk.specs.declared.unanswered.Unanswered.{Unanswered}
use Rattle.pf_shared_desk.specs.declared.unanswered.Unanswered.TheVariants.{Busy, Pending, NoMemory}

-- a caller: the board of its desk, and its pass
pub record Calling : Type 0 where
  pub board : Boarding System
  pub pass : Passing Entry System

-- why a step is no entry, and what is left of the pass: another caller was at the desk, and nothing was done; or a quantum
-- was found on the named processor, the lowest of m with one; or none was found, and memory was wanting
abbrev pub Refuses : ℕ → Passing Entry System → Unanswered → Passing Entry System → Type 0
Refuses m v Busy w = w ≡ v
Refuses m v (Pending processor) w = (processor < m) × FindsQuantum processor v w
Refuses m v NoMemory w = w ≡ found_empty m v

-- what a take of processor p of m in a slot answers, and what it leaves of the pass: nothing is done but where the slot is the
-- last one stepped, and then what a take does
abbrev pub TakesIn : (m p : ℕ) → Passing Entry System → SlotTake → Passing Entry System → Type 0
TakesIn m p v NotYet w = w ≡ v
TakesIn m p v Past w = w ≡ v
TakesIn m p v (Found take) w = Takes IsHistory quanta_of m p v take w
