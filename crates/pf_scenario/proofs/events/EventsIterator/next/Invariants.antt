use Rattle.std.proofs.Common.{◌≡◌, length}
use Rattle.pf_scenario.specs.Cards.{listed}
use Rattle.pf_scenario.proofs.events.EventsIterator.next.Given as goal

-- the cards passed over are struck
abbrev pub invariant-cards : goal.invariant-cards
invariant-cards l = listed l.self-inside.cards.now ≡ l.fn.self

abbrev pub decreases-cards : goal.decreases-cards
decreases-cards l = length l.self-inside.cards.now
