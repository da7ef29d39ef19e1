-- The laws of reach, each the contract of a public function. They say what bits and group deadlines are for.
use Rattle.std.specs.Prelude.{◌≡◌, ℕ, ◌+◌, ◌<◌, ◌≤◌, true, false, ◌↔◌}
use Rattle.pf_weight.specs.Share.{Share, IsShare, is_heavy}
use Rattle.pf_window.specs.Window.{deadline_of, bit_of}
use Rattle.pf_window.specs.Group.{group_of}
use Rattle.pf_order.specs.Priority.{precedes}
use Rattle.pf_order.specs.KeyOf.{key_of}
use Rattle.pf_laws.specs.Ideal.Schedule.{Schedule, HasWindows, RanksByReach}
use Rattle.pf_laws.specs.Reach.Reach.{WindowsReach}
use Rattle.pf_laws.specs.Reach.Demand.{Demand, IsDemand, Service, schedule_of}

-- A subtask reaches its deadline where its bit is 1. That of a light task reaches no further; that of a heavy task
-- reaches the slots below its group deadline.
pub record GroupDeadlineEndsReach (w : Share) (i : ℕ) : Type 0 where
  pub bit : WindowsReach w i 0 ↔ (bit_of w i ≡ 1)
  pub light : is_heavy w ≡ false → (n : ℕ) → WindowsReach w i n → n ≡ 0
  pub heavy : is_heavy w ≡ true → bit_of w i ≡ 1 → (n : ℕ) → WindowsReach w i n ↔ (deadline_of w i + n < group_of w i)

abbrev pub GroupDeadlinesEndReach : Type 0
GroupDeadlinesEndReach = (w : Share) (i : ℕ) → IsShare w → 1 ≤ i → GroupDeadlineEndsReach w i

-- PD2's order ranks by reach: of two subtasks with one shifted deadline, the one that the other doesn't precede reaches
-- as far as the other. Here subtask i of the task t is shifted by q, and subtask j of the task u by r.
abbrev pub OrderRanksByReach : Type 0
OrderRanksByReach = (x y : Share) (q r i j t u n : ℕ) → IsShare x → IsShare y → 1 ≤ i → 1 ≤ j →
    precedes (key_of y r j u) (key_of x q i t) ≡ false → deadline_of x i + q ≡ deadline_of y j + r →
    WindowsReach y j n → WindowsReach x i n

-- PD2 is by reach: the windows of any demand, however it is served, are those of constant rates, and the order of PD2
-- is by the earlier deadline and, of one deadline, by the longer reach.
pub record IsByDeadlineAndReach (s : Schedule) : Type 0 where
  pub windows : HasWindows s
  pub order : RanksByReach s

abbrev pub PD2IsByReach : Type 0
PD2IsByReach = (d : Demand) (g : Service) → IsDemand d → IsByDeadlineAndReach (schedule_of d g)
