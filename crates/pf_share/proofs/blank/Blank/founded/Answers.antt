use Rattle.std.proofs.Common.{◌≡◌, refl, sym, ap, ◌∙◌}
use Rattle.pf_share.proofs.blank.Blank.founded.Goals as goal

pub invariant_of-result : goal.invariant_of-result
invariant_of-result g c =
    let desk = c.requires.desk in
    let keeper = c.in_ok-board.ensures.keeper in
    let shown = c.in_ok-publication.ensures in
    let settings : c.args.desk.state.plan.settings ≡ c.in_ok-board.board.terms = ap (λ s. s.plan.settings) desk.1 ∙ sym c.in_ok-board.ensures.board.0 in (
      record {
        is_shown_desk = record {
          is_desk = desk.0;
          settings = settings;
          processors = c.in_ok-board.ensures.board.1 ∙ (c.processors-processors.ensures.value ∙ ap (λ s. s.processors) (sym c.in_ok-board.ensures.board.0));
          keeper_board = ap (λ k. k.board) keeper;
          has_turn = ap (λ k. k.has_turn) keeper;
          no_loads = ap (λ k. k.loads) keeper;
          seen = rw (keeper, desk.2) refl;
          press_book = refl;
          stamp_is = rw (sym settings) shown.stamp;
          is_shown = shown.shown;
        };
        none_left = ap (λ k. k.left) keeper;
      },
      desk.2,
    )
