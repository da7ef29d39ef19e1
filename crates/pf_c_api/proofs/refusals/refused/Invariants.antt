use Rattle.std.proofs.Common.{◌≡◌, ◌++◌, ◌+◌, drop}
use Rattle.pf_c_api.specs.Refused.{refusals_from}
use Rattle.pf_c_api.proofs.refusals.refused.Given as goal

-- the refused commands to come are those of the entries left
abbrev pub invariant-loop-k : goal.invariant-loop-k
invariant-loop-k l = l.refusals.items ++ refusals_from (l.k + 1) (drop l.k l.history.entries) ≡ refusals_from 1 l.history.entries
