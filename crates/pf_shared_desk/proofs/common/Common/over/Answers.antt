use Rattle.std.proofs.Common.{◌≡◌, refl, sym, ap, ◌∙◌, subst}
use Rattle.pf_shared_desk.specs.Kept.{IsCore}
use Rattle.pf_shared_desk.specs.declared.desk_core.DeskCore.{DeskCore}
use Rattle.pf_shared_desk.proofs.common.Common.over.Goals as goal

pub new-room-requires : goal.new-room-requires
new-room-requires c =
    let desk = c.requires.desk in
    let keeper = c.in_ok-board.ensures.keeper in
    let settings : c.args.desk.state.plan.settings ≡ c.in_ok-board.board.terms = ap (λ s. s.plan.settings) desk.1 ∙ sym c.in_ok-board.ensures.board.0 in
    subst (λ (k : DeskCore). IsCore c.in_ok-board.board k) (sym c.in_ok-core.ensures.ok) (record {
      is_kept = record {
        is_desk = desk.0;
        settings = settings;
        processors = c.in_ok-board.ensures.board.1 ∙ (c.processors-processors.ensures.value ∙ ap (λ s. s.processors) (sym c.in_ok-board.ensures.board.0));
        keeper_board = ap (λ k. k.board) keeper;
        has_turn = ap (λ k. k.has_turn) keeper;
        no_loads = ap (λ k. k.loads) keeper;
        seen = rw (keeper, desk.2) refl;
      };
      none_left = ap (λ k. k.left) keeper;
    })
