use Rattle.std.proofs.Common.{◌≡◌, drop}
use Rattle.pf_replies.proofs.Courses.{has_refusal}
use Rattle.pf_commands.proofs.failing.has_refusal.Given as goal

-- what was refused is among the entries left
abbrev pub invariant-loop-k : goal.invariant-loop-k
invariant-loop-k l = has_refusal (drop l.k l.history.entries) ≡ has_refusal l.history.entries
