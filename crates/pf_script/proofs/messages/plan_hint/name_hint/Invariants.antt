use Rattle.std.proofs.Common.{◌≡◌, ◌++◌, drop, map}
use Rattle.pf_script.specs.Messages.PlanHints.{name_texts}
use Rattle.pf_script.proofs.messages.plan_hint.name_hint.Given as goal

-- the names so far, and those that are left, are all
abbrev pub invariant-loop-named : goal.invariant-loop-named
invariant-loop-named l = record {
  same : l.named-items ≡ l.names;
  texts : map (λ t. t.now) l.texts.items ++ name_texts (drop l.named-index l.named-items) ≡ name_texts l.names;
}
