use Rattle.std.proofs.Common.{None, arith}
use Rattle.std.specs.Option.{is_none}
use Rattle.std.proofs.lemmas.List.Sums.{fails_before_first}
use Rattle.pf_place.proofs.Positions.{found_behind, missing_behind}
use Rattle.pf_place.proofs.seating.free_from.Goals as goal

pub returns-in-Some : goal.returns-in-Some
returns-in-Some c =
    let places = c.args.places.now in
    (found_behind is_none places c.args.from None c.requires.within
    (λ k l. fails_before_first is_none places k None (omega (arith, l, c.requires.taken))) c.in-Some.behind c.in-Some.ensures).0

pub returns-in-None : goal.returns-in-None
returns-in-None c =
    let places = c.args.places.now in
    missing_behind is_none places c.args.from None c.requires.within
    (λ k l. fails_before_first is_none places k None (omega (arith, l, c.requires.taken))) c.in-None.ensures
