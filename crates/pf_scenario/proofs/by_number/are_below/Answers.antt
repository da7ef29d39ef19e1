use Rattle.std.proofs.Common.{◌≡◌, ◌-◌, ◌<◌, length, get_or, refl, rules}
use Rattle.std.proofs.lemmas.Option.{slice_get_read}
use Rattle.pf_scenario.proofs.Finding.{below_last}
use Rattle.pf_scenario.proofs.by_number.are_below.Goals as goal

pub returns-in-Some : goal.returns-in-Some
returns-in-Some c = λ h.
    let low : c.in-Some.card.now.id < c.args.id = search rules in
    let inside : (c.args.at - 1) < length c.args.cards.now = search rules in
    let read : c.in-Some.card.now ≡ get_or c.args.cards.now (c.args.at - 1) c.in-Some.card.now = search rules in
    let here = slice_get_read c.args.cards.now (length c.args.cards.now) (c.args.at - 1) c.in-Some.card.now refl inside read in
    below_last c.args.cards.now c.args.id c.args.at c.in-Some.card.now c.requires here low
