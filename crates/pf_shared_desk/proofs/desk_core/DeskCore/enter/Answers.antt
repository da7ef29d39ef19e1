use Rattle.std.proofs.Common.{◌++◌, ◌∷◌, [], refl, ap, sym, ◌∙◌, subst}
use Rattle.pf_board.specs.Passes.{IsIn}
use Rattle.pf_board.specs.Quanta.{is_step}
use Rattle.pf_desk.specs.Desk.{entry_of}
use Rattle.pf_desk.specs.Machine.{reply_to}
use Rattle.pf_desk_board.specs.Histories.{numbered, quanta_of, asks_step, is_step_command}
use Rattle.pf_desk_board.proofs.Awaiting.{awaits}
use Rattle.pf_desk_board.proofs.Entering.{committed, committed_history, committed_numbered, entered, keeper_after, settings_stay}
use Rattle.pf_desk_board.proofs.Rising.{steps_ask}
use Rattle.pf_shared_desk.proofs.desk_core.DeskCore.enter.Goals as goal

pub note-front-requires-clause-legal : goal.note-front-requires-clause-legal
note-front-requires-clause-legal c =
    let d0 = c.args.self.now.desk in let d1 = c.prepare.new.self in let d2 = c.commit-reply.new.self in
    let before = c.in_ok-prepared.ensures.before.rest in let kept = c.requires.core.is_kept in
    let e = entry_of c.me-caller.result c.args.command c.commit-reply.result in
    let is = committed c.args.pass.now.me c.me-caller.result c.args.command d0 d1 d2 c.args.self.now.keeper c.turn-turn.result c.in_ok-prepared.prepared c.commit-reply.result
    c.in_ok-prepared.ensures.desk c.commit-reply.ensures.desk c.me-caller.ensures.number c.in_ok-prepared.ensures.ok.entry c.commit-reply.ensures.answers (kept.seen ∙ ap (λ d. numbered d.history) (sym before)) c.turn-turn.ensures.turn in
    committed_history c.args.board.now.terms c.args.pass.now.me c.args.command d1 d2 c.turn-turn.result.whole c.commit-reply.result e (ap (λ d. d.state.plan.settings) before ∙ kept.settings) is

pub note-front-requires-clause-step : goal.note-front-requires-clause-step
note-front-requires-clause-step c step =
    let d0 = c.args.self.now.desk in let d1 = c.prepare.new.self in let d2 = c.commit-reply.new.self in
    let before = c.in_ok-prepared.ensures.before.rest in let kept = c.requires.core.is_kept in
    let is = committed c.args.pass.now.me c.me-caller.result c.args.command d0 d1 d2 c.args.self.now.keeper c.turn-turn.result c.in_ok-prepared.prepared c.commit-reply.result
    c.in_ok-prepared.ensures.desk c.commit-reply.ensures.desk c.me-caller.ensures.number c.in_ok-prepared.ensures.ok.entry c.commit-reply.ensures.answers (kept.seen ∙ ap (λ d. numbered d.history) (sym before)) c.turn-turn.ensures.turn in
    let asks = steps_ask d1.state c.args.pass.now.me c.args.command c.commit-reply.result is.answers.answer (ap (is_step quanta_of asks_step) (sym is.entry) ∙ step) in (
      ap (λ t. t.left) c.turn-turn.ensures.turn ∙ c.requires.core.none_left,
      λ p lt. subst (λ xs. IsIn xs p) (sym (ap (λ t. t.empty) c.turn-turn.ensures.turn)) (c.requires.step asks p lt),
    )

pub returns-clause-entered : goal.returns-clause-entered
returns-clause-entered c =
    let d0 = c.args.self.now.desk in let d1 = c.prepare.new.self in let d2 = c.commit-reply.new.self in
    let before = c.in_ok-prepared.ensures.before.rest in let kept = c.requires.core.is_kept in
    let is = committed c.args.pass.now.me c.me-caller.result c.args.command d0 d1 d2 c.args.self.now.keeper c.turn-turn.result c.in_ok-prepared.prepared c.commit-reply.result
    c.in_ok-prepared.ensures.desk c.commit-reply.ensures.desk c.me-caller.ensures.number c.in_ok-prepared.ensures.ok.entry c.commit-reply.ensures.answers (kept.seen ∙ ap (λ d. numbered d.history) (sym before)) c.turn-turn.ensures.turn in
    let pass = rw is.entry at c.note-front.ensures.pass in
    entered c.args.board.now.terms d1 d2 c.turn-turn.result.whole c.args.command _ c.args.pass.now c.note-front.new.pass
    c.in_ok-prepared.ensures.desk c.commit-reply.ensures.desk (ap (λ d. d.state.plan.settings) before ∙ kept.settings) is.answers is.whole_is c.note-front.ensures.grew pass c.note-front.ensures.count

pub returns-clause-kept : goal.returns-clause-kept
returns-clause-kept c =
    let d0 = c.args.self.now.desk in let d1 = c.prepare.new.self in let d2 = c.commit-reply.new.self in
    let before = c.in_ok-prepared.ensures.before.rest in let kept = c.requires.core.is_kept in
    let e = entry_of c.me-caller.result c.args.command c.commit-reply.result in
    let is = committed c.args.pass.now.me c.me-caller.result c.args.command d0 d1 d2 c.args.self.now.keeper c.turn-turn.result c.in_ok-prepared.prepared c.commit-reply.result
    c.in_ok-prepared.ensures.desk c.commit-reply.ensures.desk c.me-caller.ensures.number c.in_ok-prepared.ensures.ok.entry c.commit-reply.ensures.answers (kept.seen ∙ ap (λ d. numbered d.history) (sym before)) c.turn-turn.ensures.turn in
    let keeper = keeper_after c.args.self.now.keeper c.args.self.now.keeper c.turn-turn.new.keeper c.note-front.new.keeper c.turn-turn.result c.note-front.new.pass.seen c.args.pass.now.me c.args.command c.commit-reply.result e
    refl c.requires.core.none_left kept.has_turn is.entry (ap (λ w. w.seen) c.note-front.ensures.pass) c.turn-turn.ensures.turn c.turn-turn.ensures.keeper c.note-front.ensures.keeper in (
      record {
        is_desk = c.commit-reply.ensures.desk;
        settings = settings_stay c.args.board.now.terms c.args.pass.now.me c.args.command d1 c.commit-reply.result d2 is.answers (ap (λ d. d.state.plan.settings) before ∙ kept.settings);
        processors = kept.processors;
        keeper_board = ap (λ k. k.board) keeper ∙ kept.keeper_board;
        has_turn = ap (λ k. k.has_turn) keeper ∙ kept.has_turn;
        no_loads = ap (λ k. k.loads) keeper ∙ kept.no_loads;
        seen = ap (λ k. k.seen) c.note-front.ensures.keeper ∙ committed_numbered c.args.pass.now.me c.args.command d1 d2 c.turn-turn.result.whole c.commit-reply.result e is;
      },
      ap (λ k. k.left) keeper,
    )

pub returns-clause-awaits : goal.returns-clause-awaits
returns-clause-awaits c step =
    let d0 = c.args.self.now.desk in let d1 = c.prepare.new.self in let d2 = c.commit-reply.new.self in
    let before = c.in_ok-prepared.ensures.before.rest in let kept = c.requires.core.is_kept in
    let e = entry_of c.me-caller.result c.args.command c.commit-reply.result in
    let is = committed c.args.pass.now.me c.me-caller.result c.args.command d0 d1 d2 c.args.self.now.keeper c.turn-turn.result c.in_ok-prepared.prepared c.commit-reply.result
    c.in_ok-prepared.ensures.desk c.commit-reply.ensures.desk c.me-caller.ensures.number c.in_ok-prepared.ensures.ok.entry c.commit-reply.ensures.answers (kept.seen ∙ ap (λ d. numbered d.history) (sym before)) c.turn-turn.ensures.turn in
    let keeper = keeper_after c.args.self.now.keeper c.args.self.now.keeper c.turn-turn.new.keeper c.note-front.new.keeper c.turn-turn.result c.note-front.new.pass.seen c.args.pass.now.me c.args.command c.commit-reply.result e
    refl c.requires.core.none_left kept.has_turn is.entry (ap (λ w. w.seen) c.note-front.ensures.pass) c.turn-turn.ensures.turn c.turn-turn.ensures.keeper c.note-front.ensures.keeper in
    awaits c.args.board.now.processors c.args.pass.now.me d1 e c.commit-reply.result c.note-front.new.keeper c.in_ok-prepared.ensures.desk
    (is.answers.answer ∙ ap (reply_to d1.state) step)
    (record {
      processors = kept.processors ∙ ap (λ t. t.processors) (sym (ap (λ d. d.state.plan.settings) before ∙ kept.settings));
      seen = ap (λ k. k.seen) c.note-front.ensures.keeper ∙ ap (λ w. w ++ (c.args.pass.now.me, e) ∷ []) is.whole_is;
      reply_is = ap (λ x. x.reply) is.entry;
      left = ap (λ k. k.left) keeper;
      empty = λ p lt. subst (λ xs. IsIn xs p) (sym (ap (λ k. k.empty) keeper)) (c.requires.step (ap is_step_command step) p lt);
    })
