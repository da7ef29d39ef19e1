use Rattle.std.proofs.Common.{◌≡◌, ◌≤◌, ℕ, map, take, min}
use Rattle.pf_desk.specs.Plain.{ArePlainFrom}
use Rattle.pf_desk.specs.Gathered.{IsBatch}
use Rattle.pf_desk.proofs.desk.Desk.edit_all.Given as goal

abbrev pub invariant-loop-command : goal.invariant-loop-command
invariant-loop-command l = record {
  batch : IsBatch l.fn.self l.batch;
  caller : l.batch.caller ≡ l.caller;
  commands : map (λ e. e.command) l.batch.entries.items ≡ take l.command-index l.commands;
  from : (s : ℕ) → ArePlainFrom s l.fn.self.state (take l.command-index l.commands) → min s l.fn.self.state.now ≤ l.batch.from;
}
