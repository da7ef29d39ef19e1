use Rattle.std.proofs.Common.{◌≡◌, All}
use Rattle.pf_shelf.proofs.shelf.Shelf.new.Given as goal

-- each place that was made has the tag
abbrev pub invariant-loop : goal.invariant-loop
invariant-loop g l = All (λ t. t ≡ l.fn.tag) l.places.items
