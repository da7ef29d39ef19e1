use Rattle.std.proofs.Common.{◌≡◌, ◌++◌, map, take, drop, ap, ap₂, ◌∙◌, length}
use Rattle.std.specs.List.{range_with_len}
use Rattle.pf_place.specs.Lent.{lent_row}
use Rattle.pf_place.specs.Occupancy.{next_pick, sitter, others, kept_at}
use Rattle.pf_place.specs.Seating.{seats_filled_with}
use Rattle.pf_place.proofs.Seats.{keepers_earlier, row_from_kept}
use Rattle.pf_place.proofs.seating.seat.Goals as goal

pub returns : goal.returns
returns c =
    let before = lent_row c.args.before in
    let picks = c.args.picks.now in
    let count = c.args.count in
    let m = length c.args.places.now in
    let earlier = c.first-earlier.ensures in
    let kept : c.keep.new.places ≡ map (kept_at count before picks) (range_with_len 0 m) =
    c.keep.ensures.kept
    ∙ ap₂ (λ row ps. map (λ q. next_pick ps (sitter row q)) (range_with_len 0 m)) earlier c.of-index.ensures
    ∙ keepers_earlier count before picks m in
    let seated = c.seat_others.ensures ∙ ap₂ (λ sat ps. seats_filled_with (take count c.keep.new.places) (others sat ps)) earlier c.of-index.ensures in
    ap (λ front. front ++ drop count c.keep.new.places) seated
    ∙ row_from_kept count before picks m c.keep.new.places c.requires.in_use kept
