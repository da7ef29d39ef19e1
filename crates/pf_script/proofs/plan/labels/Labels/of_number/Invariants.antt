use Rattle.std.proofs.Common.{◌≡◌, drop}
use Rattle.pf_script.specs.Plan.Labels.{label_of_number}
use Rattle.pf_script.proofs.plan.labels.Labels.of_number.Given as goal

-- the event is none of those before
abbrev pub invariant-loop-labelled : goal.invariant-loop-labelled
invariant-loop-labelled l = label_of_number (drop l.labelled-index l.self) l.id ≡ label_of_number l.self l.id
