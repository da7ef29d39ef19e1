-- What a subtask of a ranking does in the slot, and why, in words.
use Rattle.std.specs.Prelude.{ℕ, ◌+◌, ◌-◌, ◌==◌, nat_le, nat_lt, if◌then◌else◌, Option, None, Some, List, [], ◌++◌, codes}
use Rattle.std.specs.Option.{option_map_or}
use Rattle.std.specs.Fmt.{decimal}
use Rattle.pf_vocabulary.specs.declared.names.named.Named.{Named}
use Rattle.pf_vocabulary.specs.Names.Names.{name_of}
use Rattle.pf_why.specs.declared.subtask.Subtask.{Subtask}
use Rattle.pf_why.specs.declared.rule.Rule.{Rule}
use Rattle.pf_why.specs.declared.rule.Rule.TheVariants.{Deadline, Bit, Group, Task}
use Rattle.pf_why.specs.declared.seat.Choice.{Choice}
use Rattle.pf_why.specs.declared.seat.Choice.TheVariants.{Kept, LowestFree, OutOfUse}
use Rattle.pf_why.specs.declared.seat.Seat.{Seat}
use Rattle.pf_why.specs.Rule.{rule_of}

-- a subtask: `T/I`, with the task's name in place of T where it has one
abbrev pub subtask_text : List Named → ℕ → ℕ → List ℕ
subtask_text names task i = option_map_or (λ name. name) (name_of names task) (decimal task) ++ (codes "/" ++ decimal i)

-- where it runs, and why there
abbrev pub choice_text : Choice → List ℕ
choice_text Kept = codes ", kept"
choice_text LowestFree = codes ", lowest free"
choice_text (OutOfUse q) = codes ", lowest free, p" ++ (decimal q ++ codes " is out of use")

abbrev pub seat_text : Seat → List ℕ
seat_text seat = codes "runs on p" ++ (decimal seat.processor ++ choice_text seat.choice)

-- the rule by which y comes after x
abbrev pub rule_text : Rule → Subtask → Subtask → List ℕ
rule_text Deadline x y = codes "deadline " ++ (decimal y.deadline ++ (codes " after " ++ decimal x.deadline))
rule_text Bit x y = codes "same deadline, bit 0 after 1"
rule_text Group x y =
    codes "same deadline, both bits 1, group deadline " ++ (decimal y.group ++ (codes " after " ++ decimal x.group))
rule_text Task x y =
    (if y.bit == 1 then codes "same deadline, both bits 1, same group deadline, task " else codes "same deadline, both bits 0, task ")
    ++ (decimal y.task ++ (codes " after " ++ decimal x.task))

-- it waits behind x, the last that runs
abbrev pub behind_text : List Named → Subtask → Subtask → List ℕ
behind_text names y x =
    codes "waits behind " ++ (subtask_text names x.task x.sub ++ (codes ": " ++ rule_text (rule_of x y) x y))

-- by how many slots it is before its release in slot t, or past the last slot of its window
abbrev pub early_text : ℕ → Subtask → List ℕ
early_text t y = if nat_lt t y.release then codes "; early by " ++ decimal (y.release - t) else []

abbrev pub late_text : ℕ → Subtask → List ℕ
late_text t y = if nat_le y.deadline t then codes "; late by " ++ decimal (t + 1 - y.deadline) else []

-- where it runs, or else after which one it waits, the last that runs
abbrev pub does_text : List Named → Option Subtask → Option Seat → Subtask → List ℕ
does_text names last (Some seat) y = seat_text seat
does_text names last None y = option_map_or (behind_text names y) last []

abbrev pub answer_text : List Named → ℕ → Option Subtask → Option Seat → Subtask → List ℕ
answer_text names t last seat y = does_text names last seat y ++ (early_text t y ++ late_text t y)
