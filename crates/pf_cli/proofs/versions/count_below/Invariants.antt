use Rattle.std.proofs.Common.{◌≡◌, ◌≤◌, ◌+◌, drop}
use Rattle.pf_cli.specs.Versions.{count_below}
use Rattle.pf_cli.proofs.versions.count_below.Given as goal

-- those so far, and those that are left
abbrev pub invariant-loop-origin : goal.invariant-loop-origin
invariant-loop-origin l = record {
  count : l.count + count_below l.number (drop l.origin-index l.origins) ≡ count_below l.number l.origins;
  within : l.count ≤ l.origin-index;
}
