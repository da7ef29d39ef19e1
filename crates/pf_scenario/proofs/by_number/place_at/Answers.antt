use Rattle.std.proofs.Common.{◌≡◌, ◌≢◌, ◌<◌, length, get_or, refl, rules}
use Rattle.std.proofs.lemmas.Option.{slice_get_read}
use Rattle.pf_scenario.proofs.Finding.{absent_at_cut}
use Rattle.pf_scenario.proofs.by_number.place_at.Goals as goal

pub returns-else-id : goal.returns-else-id
returns-else-id c =
    let card = c.in_ok-get.field-0.now in
    let other : card.id ≢ c.args.id = search rules in
    let inside : c.args.at < length c.args.cards.now = search rules in
    let read : card ≡ get_or c.args.cards.now c.args.at card = search rules in
    let here = slice_get_read c.args.cards.now (length c.args.cards.now) c.args.at card refl inside read in
    absent_at_cut c.args.cards.now c.args.id c.args.at card c.requires.rising c.requires.cut here other
