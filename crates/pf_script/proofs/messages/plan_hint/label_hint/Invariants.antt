use Rattle.std.proofs.Common.{◌≡◌, ◌++◌, drop, map}
use Rattle.pf_script.specs.Messages.PlanHints.{label_texts}
use Rattle.pf_script.proofs.messages.plan_hint.label_hint.Given as goal

-- the labels so far, and those that are left, are all
abbrev pub invariant-loop-labelled : goal.invariant-loop-labelled
invariant-loop-labelled l = record {
  same : l.labelled-items ≡ l.labels;
  texts : map (λ t. t.now) l.texts.items ++ label_texts (drop l.labelled-index l.labelled-items) ≡ label_texts l.labels;
}
