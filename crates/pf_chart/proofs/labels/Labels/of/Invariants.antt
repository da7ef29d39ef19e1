use Rattle.std.proofs.Common.{◌≡◌, drop}
use Rattle.std.specs.Prelude.{max}
use Rattle.std.specs.List.{fold}
use Rattle.pf_chart.specs.Labels.{places_for, places_of}
use Rattle.pf_chart.proofs.labels.Labels.of.Given as goal

-- the labels so far and those that are left are all
abbrev pub invariant-loop-listing : goal.invariant-loop-listing
invariant-loop-listing l =
    fold (λ most listing. max most (places_for l.names listing.task)) l.places (drop l.listing-index l.listed) ≡ places_of l.names l.listed
