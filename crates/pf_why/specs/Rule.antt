-- The rule by which one subtask comes before another.
use Rattle.std.specs.Prelude.{ℕ, List, ◌==◌, ◌&&◌, not, if◌then◌else◌, codes}
use Rattle.pf_why.specs.declared.subtask.Subtask.{Subtask}
use Rattle.pf_why.specs.declared.rule.Rule.{Rule}
use Rattle.pf_why.specs.declared.rule.Rule.TheVariants.{Deadline, Bit, Group, Task}

-- the first component in which the two differ, group deadlines beside two bits of 1
abbrev pub rule_of : Subtask → Subtask → Rule
rule_of x y =
    if not (x.deadline == y.deadline) then Deadline
    else if not (x.bit == y.bit) then Bit
    else if x.bit == 1 && not (x.group == y.group) then Group
    else Task

abbrev pub rule_word : Rule → List ℕ
rule_word Deadline = codes "deadline"
rule_word Bit = codes "bit"
rule_word Group = codes "group"
rule_word Task = codes "task"
