use Rattle.std.proofs.Common.{◌≡◌, length, take, filter_map}
use Rattle.std.specs.Option.{option_and_then}
use Rattle.pf_run.specs.Computed.{run_of}
use Rattle.pf_run.specs.Inside.{join_of}
use Rattle.pf_why.proofs.Candidates.{candidate_of}
use Rattle.pf_why.proofs.ranking.candidates.Given as goal

-- what was found are those of the joins so far
abbrev pub invariant-loop-numbered : goal.invariant-loop-numbered
invariant-loop-numbered l =
    l.found.items
    ≡ filter_map
    (λ x. option_and_then (candidate_of (run_of l.scenario (length l.rows)) l.numbered-items l.t) (join_of l.ledger.settings.base x))
    (take l.numbered-index l.numbered-items)
