use Rattle.std.proofs.Common.{◌≡◌, drop}
use Rattle.std.specs.List.{list_any}
use Rattle.pf_script.specs.Messages.PlanHints.{is_above_ascii}
use Rattle.pf_script.proofs.messages.plan_hint.has_above_ascii.Given as goal

-- none of those so far is above ASCII
abbrev pub invariant-loop-byte : goal.invariant-loop-byte
invariant-loop-byte l = list_any is_above_ascii (drop l.byte-index l.at) ≡ list_any is_above_ascii l.at
