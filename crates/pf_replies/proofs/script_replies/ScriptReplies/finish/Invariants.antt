use Rattle.std.proofs.Common.{◌≡◌}
use Rattle.pf_replies.specs.Carried.{outcome_left, turns_to_come}
use Rattle.pf_replies.proofs.script_replies.ScriptReplies.finish.Given as goal

abbrev pub invariant-rest : goal.invariant-rest
invariant-rest l = outcome_left l.self ≡ outcome_left l.fn.self

abbrev pub decreases-rest : goal.decreases-rest
decreases-rest l = turns_to_come l.self
