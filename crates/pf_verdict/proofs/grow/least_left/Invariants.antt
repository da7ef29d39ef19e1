use Rattle.std.proofs.Common.{◌≡◌, ℕ, ◌≤◌, List, All, drop}
use Rattle.pf_scenario.specs.Scenario.{Plan}
use Rattle.pf_run.specs.Record.{Slot}
use Rattle.pf_verdict.specs.Grow.{least_left}
use Rattle.pf_verdict.specs.Stretches.{Cover, IsEven}
use Rattle.pf_verdict.proofs.grow.least_left.Given as goal

-- the least of the slots passed, which are those below u
abbrev pub invariant-loop-stretch : goal.invariant-loop-stretch
invariant-loop-stretch l = record {
  within : l.least ≤ l.most;
  least : (s : Plan) (r : List Slot) (n : ℕ) → s.settings.base ≡ l.most → s.settings.cap ≡ l.cap → Cover 0 n l.stretches →
      All (IsEven s r) l.stretches → (u : ℕ) × (Cover u n (drop l.stretch-index l.stretches) × (l.least ≡ least_left s r l.fn.task l.last u));
}
