use Rattle.std.proofs.Common.{◌≡◌, ◌+◌, ◌++◌, drop, None}
use Rattle.pf_why_text.specs.Ranks.{ranks_cells, seating_of}
use Rattle.pf_why_text.proofs.ranks.push_ranks.Given as goal

-- the rows added, and after them those of the ranks left, are all
abbrev pub invariant-loop-x : goal.invariant-loop-x
invariant-loop-x l = record {
  whole : l.rows.items ++ ranks_cells l.names (seating_of l.seating) l.last l.rank l.before (drop l.x-index l.ranking)
      ≡ l.fn.rows.items ++ ranks_cells l.names (seating_of l.seating) l.last 1 None l.ranking;
  rank_is : l.rank ≡ l.x-index + 1;
}
