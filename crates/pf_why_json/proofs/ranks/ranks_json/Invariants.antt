use Rattle.std.proofs.Common.{◌≡◌, ◌+◌, ◌++◌, drop, map, None}
use Rattle.pf_why_text.specs.Ranks.{seating_of}
use Rattle.pf_why_json.specs.Ranks.{ranks_json}
use Rattle.pf_why_json.proofs.ranks.ranks_json.Given as goal

-- those made, and after them those of the ranks left, are all
abbrev pub invariant-loop-x : goal.invariant-loop-x
invariant-loop-x l = record {
  whole : map (λ v. v.items) l.texts.items ++ ranks_json l.names (seating_of l.seating) l.last l.rank l.before (drop l.x-index l.ranking)
      ≡ ranks_json l.names (seating_of l.seating) l.last 1 None l.ranking;
  rank_is : l.rank ≡ l.x-index + 1;
}
