use Rattle.std.proofs.Common.{◌≡◌, ◌++◌}
use Rattle.pf_replies.specs.Carried.{outcome_left, text_left, turns_to_come}
use Rattle.pf_replies.proofs.script_replies.ScriptReplies.fill.Given as goal

-- the piece and what is to come are the piece and what was to come
abbrev pub invariant-lines : goal.invariant-lines
invariant-lines l = record {
  text : l.fn.piece.items ++ text_left l.fn.self ≡ l.piece.items ++ text_left l.self;
  outcome : outcome_left l.self ≡ outcome_left l.fn.self;
}

abbrev pub decreases-lines : goal.decreases-lines
decreases-lines l = turns_to_come l.self
