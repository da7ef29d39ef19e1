use Rattle.std.proofs.Common.{◌≡◌, take, filter}
use Rattle.pf_why.specs.Ranking.{is_until}
use Rattle.pf_why.proofs.ranking.events_until.Given as goal

abbrev pub invariant-loop-numbered : goal.invariant-loop-numbered
invariant-loop-numbered l = l.until.items ≡ filter (is_until l.t) (take l.numbered-index l.events)
