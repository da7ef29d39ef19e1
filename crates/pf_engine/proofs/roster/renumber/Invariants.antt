use Rattle.std.proofs.Common.{◌≡◌}
use Rattle.pf_collections.specs.Table.Grown.{size_of}
use Rattle.pf_engine.specs.Places.{IsListedTo}
use Rattle.pf_engine.proofs.roster.renumber.Given as goal

abbrev pub invariant-loop-place : goal.invariant-loop-place
invariant-loop-place l = record { listed : IsListedTo l.place l.places l.tasks; size : size_of l.places ≡ size_of l.initial.places }
