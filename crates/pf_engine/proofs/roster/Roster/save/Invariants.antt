use Rattle.std.proofs.Common.{◌≡◌, ◌+◌, ◌≤◌, map, take, length, vec_len, vec_capacity}
use Rattle.pf_engine.specs.Saved.{saved_of}
use Rattle.pf_engine.proofs.roster.Roster.save.Given as goal

abbrev pub invariant-loop-kept : goal.invariant-loop-kept
invariant-loop-kept l = record {
  saved : l.saved.items ≡ map saved_of (take l.kept-index l.self.tasks);
  room : vec_len l.saved + length l.self.tasks ≤ vec_capacity l.saved + l.kept-index;
}
