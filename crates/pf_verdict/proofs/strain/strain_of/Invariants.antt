use Rattle.std.proofs.Common.{◌≡◌, ℕ, ◌≤◌, List, All, drop}
use Rattle.pf_scenario.specs.Scenario.{Plan}
use Rattle.pf_run.specs.Record.{Slot}
use Rattle.pf_verdict.specs.Strain.{strain_of}
use Rattle.pf_verdict.specs.Stretches.{Cover, IsEven}
use Rattle.pf_verdict.proofs.strain.strain_of.Given as goal

-- the walk has passed the slots below u
abbrev pub invariant-loop-stretch : goal.invariant-loop-stretch
invariant-loop-stretch l =
    (u : ℕ) × (Cover u l.now (drop l.stretch-index l.stretches) × (l.strain.above ≤ u)
    × ((s : Plan) (r : List Slot) → All (IsEven s r) l.stretches → l.strain ≡ strain_of s r u))
