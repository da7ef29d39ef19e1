use Rattle.std.proofs.Common.{◌≡◌, ◌≤◌}
use Rattle.pf_picture.specs.Strips.{greatest_over}
use Rattle.pf_picture.proofs.strips.greatest_over.Given as goal

-- the slots so far and those that are left are all
abbrev pub invariant-loop-t : goal.invariant-loop-t
invariant-loop-t l = record {
  value : greatest_over l.course l.t l.behind l.most ≡ greatest_over l.course l.first l.behind l.least;
  least : l.least ≤ l.most;
  from : l.first ≤ l.t;
}
