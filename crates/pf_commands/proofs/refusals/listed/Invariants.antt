use Rattle.std.proofs.Common.{◌≡◌, ◌++◌, drop, map}
use Rattle.pf_commands.specs.Refusals.{refusal_of}
use Rattle.pf_commands.proofs.refusals.listed.Given as goal

-- those so far, and those that are left
abbrev pub invariant-loop-refused : goal.invariant-loop-refused
invariant-loop-refused l = l.refusals.items ++ map refusal_of (drop l.refused-index l.records) ≡ map refusal_of l.records
