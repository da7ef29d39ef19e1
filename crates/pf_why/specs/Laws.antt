-- The laws of rankings, each the contract of a public function.
use Rattle.std.specs.Prelude.{◌≡◌, ℕ, ◌<◌, true, take, map, slice_index_or}
use Rattle.pf_order.specs.declared.pick.Pick.{Pick}
use Rattle.pf_order.specs.Priority.{precedes}
use Rattle.pf_scenario.specs.Scenario.{Plan}
use Rattle.pf_scenario.specs.Edit.{IsScenario}
use Rattle.pf_run.specs.Record.{Slot}
use Rattle.pf_run.specs.Inside.{count_of}
use Rattle.pf_run.specs.Computed.{run_of}
use Rattle.pf_why.specs.declared.subtask.Subtask.{Subtask}
use Rattle.pf_why.specs.declared.rule.Rule.{Rule}
use Rattle.pf_why.specs.declared.rule.Rule.TheVariants.{Deadline, Bit, Group, Task}
use Rattle.pf_why.specs.Ranking.{priority_of, ranking_in, standing_in}
use Rattle.pf_why.specs.Rule.{rule_of}

abbrev pub pick_of_subtask : Subtask → Pick
pick_of_subtask x = record { task = x.task; sub = x.sub }

-- of the ranking of a slot the first ones, as many as there are processors in use, are those that run in it, in this order
abbrev pub FirstOnesRun : Type 0
FirstOnesRun = (s : Plan) (n t : ℕ) (d : Slot) → IsScenario s → t < n →
    map pick_of_subtask (take (count_of s.settings.processors (standing_in s (run_of s n) t)) (ranking_in s (run_of s n) t))
    ≡ (slice_index_or (run_of s n) t d).picks

-- x comes before y by this component, and those that the order looks at before it are equal
abbrev pub DecidesBy : Subtask → Subtask → Rule → Type 0
DecidesBy x y Deadline = x.deadline < y.deadline
DecidesBy x y Bit = (x.deadline ≡ y.deadline) × (y.bit < x.bit)
DecidesBy x y Group = (x.deadline ≡ y.deadline) × (x.bit ≡ 1) × (y.bit ≡ 1) × (y.group < x.group)
DecidesBy x y Task = (x.deadline ≡ y.deadline) × (x.bit ≡ y.bit) × (x.bit ≡ 1 → x.group ≡ y.group) × (x.task < y.task)

-- of two subtasks, one before the other in the order of PD2, the rule decides
abbrev pub RulesDecide : Type 0
RulesDecide = (x y : Subtask) → precedes (priority_of x) (priority_of y) ≡ true → DecidesBy x y (rule_of x y)
