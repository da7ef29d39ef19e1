use Rattle.std.proofs.Common.{◌≡◌, ◌<◌, ◌≤◌, length, get_or, refl, rules}
use Rattle.std.proofs.lemmas.Option.{slice_get_read}
use Rattle.pf_scenario.proofs.Finding.{behind_first}
use Rattle.pf_scenario.proofs.by_number.are_behind.Goals as goal

pub returns-in-Some : goal.returns-in-Some
returns-in-Some c = λ h.
    let high : c.args.id ≤ c.in-Some.card.now.id = search rules in
    let inside : c.args.at < length c.args.cards.now = search rules in
    let read : c.in-Some.card.now ≡ get_or c.args.cards.now c.args.at c.in-Some.card.now = search rules in
    let here = slice_get_read c.args.cards.now (length c.args.cards.now) c.args.at c.in-Some.card.now refl inside read in
    behind_first c.args.cards.now c.args.id c.args.at c.in-Some.card.now c.requires here high
