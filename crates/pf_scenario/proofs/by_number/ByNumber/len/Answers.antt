use Rattle.std.proofs.Common.{◌<◌}
use Rattle.pf_scenario.specs.Cards.{listed}
use Rattle.pf_scenario.proofs.Lists.{Pairs-from_all, AllPairs-from_pairs}
use Rattle.pf_scenario.proofs.Numbering.{rising_listed}
use Rattle.pf_scenario.proofs.by_number.ByNumber.len.Goals as goal

pub returns-clause-rising : goal.returns-clause-rising
returns-clause-rising c =
    let cards = c.self.inside.cards.items in
    rw (← c.self.view_is) (AllPairs-from_pairs (λ x y. x.id < y.id) (listed cards) (rising_listed cards (Pairs-from_all (λ x y. x.id < y.id) cards c.self.invariant.rising)))
