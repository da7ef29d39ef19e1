use Rattle.std.proofs.Common.{◌++◌, ◌∷◌, [], length, length-append, ap, sym, ◌∙◌, subst, arith}
use Rattle.pf_board.specs.Passes.{IsIn}
use Rattle.pf_board.specs.Quanta.{is_step}
use Rattle.pf_desk.specs.Desk.{entry_of}
use Rattle.pf_desk.specs.Machine.{reply_to}
use Rattle.pf_share.specs.Histories.{quanta_of, asks_step, is_step_command}
use Rattle.pf_share.specs.Locked.{origin_of}
use Rattle.pf_share.proofs.Awaiting.{awaits}
use Rattle.pf_share.proofs.Entering.{stamp_after, committed, committed_history, committed_numbered, entered, keeper_after, settings_stay}
use Rattle.pf_share.proofs.Numbering.{length_numbered}
use Rattle.pf_share.proofs.Rising.{steps_ask}
use Rattle.pf_share.proofs.shown_desk.ShownDesk.enter.Goals as goal

pub publish-requires-clause-grows : goal.publish-requires-clause-grows
publish-requires-clause-grows g c =
    let s = c.self.inside in
    let before = c.in_ok-prepared.ensures.desk.rest in
    let desk = ap (λ x. x.desk) c.self.view_is in
    let e = c.in_ok-prepared.prepared.entry in
    let h = ap (λ x. x.history) (c.self.invariant.is_shown ∙ c.self.invariant.stamp_is) ∙ (ap (λ x. x.history) desk ∙ ap (λ x. x.history) before) in
    (e ∷ [], ap (λ xs. xs ++ e ∷ []) h ∙ sym (ap (λ x. x.history) c.in_ok-prepared.ensures.shown))

pub note-front-requires-clause-legal : goal.note-front-requires-clause-legal
note-front-requires-clause-legal g c =
    let s = c.self.inside in
    let e = entry_of c.me-caller.result c.args.command c.commit-reply.result in
    let is = committed c.args.pass.now.me c.me-caller.result c.args.command c.args.self.now.desk s.desk c.commit-reply.new.self s.keeper c.turn-turn.result c.in_ok-prepared.prepared c.commit-reply.result
    c.self.invariant.is_desk c.commit-reply.ensures.desk c.me-caller.ensures.number c.in_ok-prepared.ensures.entry c.commit-reply.ensures.answers c.self.invariant.seen c.turn-turn.ensures.turn in
    committed_history c.args.board.now.terms c.args.pass.now.me c.args.command s.desk c.commit-reply.new.self c.turn-turn.result.whole c.commit-reply.result e
    (c.self.invariant.settings ∙ ap (λ b. b.terms) (sym c.requires.board.0)) is

pub note-front-requires-clause-room : goal.note-front-requires-clause-room
note-front-requires-clause-room g c =
    let s = c.self.inside in
    let e = entry_of c.me-caller.result c.args.command c.commit-reply.result in
    let is = committed c.args.pass.now.me c.me-caller.result c.args.command c.args.self.now.desk s.desk c.commit-reply.new.self s.keeper c.turn-turn.result c.in_ok-prepared.prepared c.commit-reply.result
    c.self.invariant.is_desk c.commit-reply.ensures.desk c.me-caller.ensures.number c.in_ok-prepared.ensures.entry c.commit-reply.ensures.answers c.self.invariant.seen c.turn-turn.ensures.turn in
    let whole = committed_numbered c.args.pass.now.me c.args.command s.desk c.commit-reply.new.self c.turn-turn.result.whole c.commit-reply.result e is in
    let counted = c.len.ensures.value ∙ ap length c.history.ensures.value in
    let small = c.len.ensures.small in
    omega (arith, small, counted, ap length whole, length-append c.turn-turn.result.whole ((c.args.pass.now.me, e) ∷ []), length_numbered c.commit-reply.new.self.history)

pub note-front-requires-clause-step : goal.note-front-requires-clause-step
note-front-requires-clause-step g c step =
    let s = c.self.inside in
    let is = committed c.args.pass.now.me c.me-caller.result c.args.command c.args.self.now.desk s.desk c.commit-reply.new.self s.keeper c.turn-turn.result c.in_ok-prepared.prepared c.commit-reply.result
    c.self.invariant.is_desk c.commit-reply.ensures.desk c.me-caller.ensures.number c.in_ok-prepared.ensures.entry c.commit-reply.ensures.answers c.self.invariant.seen c.turn-turn.ensures.turn in
    let asks = steps_ask s.desk.state c.args.pass.now.me c.args.command c.commit-reply.result is.answers.answer (ap (is_step quanta_of asks_step) (sym is.entry) ∙ step) in
    let keeper = ap (λ x. x.keeper) c.self.view_is ∙ c.in_ok-prepared.ensures.keeper in (
      ap (λ t. t.left) c.turn-turn.ensures.turn ∙ (ap (λ k. k.left) keeper ∙ c.requires.none_left),
      λ p lt. subst (λ xs. IsIn xs p) (sym (ap (λ t. t.empty) c.turn-turn.ensures.turn ∙ ap (λ k. k.empty) keeper)) (c.requires.step asks p (rw (← c.requires.board.0) lt)),
    )

pub invariant_of-self-2 : goal.invariant_of-self-2
invariant_of-self-2 g c =
    let s = c.self.inside in
    let e = entry_of c.me-caller.result c.args.command c.commit-reply.result in
    let inv = c.self.invariant in
    let d' = c.commit-reply.new.self in
    let is = committed c.args.pass.now.me c.me-caller.result c.args.command c.args.self.now.desk s.desk d' s.keeper c.turn-turn.result c.in_ok-prepared.prepared c.commit-reply.result
    inv.is_desk c.commit-reply.ensures.desk c.me-caller.ensures.number c.in_ok-prepared.ensures.entry c.commit-reply.ensures.answers inv.seen c.turn-turn.ensures.turn in
    let keeper = c.note-front.ensures.keeper in
    let stamp = c.again-stamp.ensures ∙ c.stamp.ensures in
    let before = ap (λ x. x.history) (ap (λ x. x.desk) c.self.view_is ∙ c.in_ok-prepared.ensures.desk.rest) in record {
      is_desk = c.commit-reply.ensures.desk;
      settings = settings_stay g.N.Naming.board.terms c.args.pass.now.me c.args.command s.desk c.commit-reply.result d' is.answers inv.settings;
      processors = inv.processors;
      keeper_board = ap (λ k. k.board) keeper ∙ (ap (λ k. k.board) c.turn-turn.ensures.keeper ∙ inv.keeper_board);
      has_turn = ap (λ k. k.has_turn) keeper;
      no_loads = ap (λ k. k.loads) keeper ∙ (ap (λ k. k.loads) c.turn-turn.ensures.keeper ∙ inv.no_loads);
      seen = ap (λ k. k.seen) keeper ∙ committed_numbered c.args.pass.now.me c.args.command s.desk d' c.turn-turn.result.whole c.commit-reply.result e is;
      press_book = inv.press_book;
      stamp_is = stamp_after (origin_of g.N.Naming.board g.N.Naming.book) c.args.self.now.desk s.desk d' c.in_ok-prepared.prepared.entry c.commit-reply.result c.again-stamp.result c.in_ok-prepared.shown
          stamp c.in_ok-prepared.ensures.shown before c.commit-reply.ensures.reply c.commit-reply.ensures.answers.entered;
      is_shown = c.in-Ok.ensures ∙ sym stamp;
    }

pub returns-clause-entered : goal.returns-clause-entered
returns-clause-entered g c =
    let s = c.self.inside in
    let inv = c.self.invariant in
    let d' = c.commit-reply.new.self in
    let is = committed c.args.pass.now.me c.me-caller.result c.args.command c.args.self.now.desk s.desk d' s.keeper c.turn-turn.result c.in_ok-prepared.prepared c.commit-reply.result
    inv.is_desk c.commit-reply.ensures.desk c.me-caller.ensures.number c.in_ok-prepared.ensures.entry c.commit-reply.ensures.answers inv.seen c.turn-turn.ensures.turn in
    let pass = rw is.entry at c.note-front.ensures.pass in
    entered g.N.Naming.board.terms s.desk d' c.turn-turn.result.whole c.args.command _ c.args.pass.now c.note-front.new.pass
    inv.is_desk c.commit-reply.ensures.desk inv.settings is.answers is.whole_is c.note-front.ensures.grew pass c.note-front.ensures.count

pub returns-clause-keeper : goal.returns-clause-keeper
returns-clause-keeper g c =
    let s = c.self.inside in
    let e = entry_of c.me-caller.result c.args.command c.commit-reply.result in
    let inv = c.self.invariant in
    let d' = c.commit-reply.new.self in
    let is = committed c.args.pass.now.me c.me-caller.result c.args.command c.args.self.now.desk s.desk d' s.keeper c.turn-turn.result c.in_ok-prepared.prepared c.commit-reply.result
    inv.is_desk c.commit-reply.ensures.desk c.me-caller.ensures.number c.in_ok-prepared.ensures.entry c.commit-reply.ensures.answers inv.seen c.turn-turn.ensures.turn in
    keeper_after c.args.self.now.keeper s.keeper c.turn-turn.new.keeper c.note-front.new.keeper c.turn-turn.result c.note-front.new.pass.seen c.args.pass.now.me c.args.command c.commit-reply.result e
    (ap (λ x. x.keeper) c.self.view_is ∙ c.in_ok-prepared.ensures.keeper) c.requires.none_left inv.has_turn is.entry (ap (λ w. w.seen) c.note-front.ensures.pass)
    c.turn-turn.ensures.turn c.turn-turn.ensures.keeper c.note-front.ensures.keeper

pub returns-clause-awaits : goal.returns-clause-awaits
returns-clause-awaits g c step =
    let s = c.self.inside in
    let e = entry_of c.me-caller.result c.args.command c.commit-reply.result in
    let inv = c.self.invariant in
    let d' = c.commit-reply.new.self in
    let is = committed c.args.pass.now.me c.me-caller.result c.args.command c.args.self.now.desk s.desk d' s.keeper c.turn-turn.result c.in_ok-prepared.prepared c.commit-reply.result
    inv.is_desk c.commit-reply.ensures.desk c.me-caller.ensures.number c.in_ok-prepared.ensures.entry c.commit-reply.ensures.answers inv.seen c.turn-turn.ensures.turn in
    let keeper0 = ap (λ x. x.keeper) c.self.view_is ∙ c.in_ok-prepared.ensures.keeper in
    let keeper = keeper_after c.args.self.now.keeper s.keeper c.turn-turn.new.keeper c.note-front.new.keeper c.turn-turn.result c.note-front.new.pass.seen c.args.pass.now.me c.args.command c.commit-reply.result e
    keeper0 c.requires.none_left inv.has_turn is.entry (ap (λ w. w.seen) c.note-front.ensures.pass)
    c.turn-turn.ensures.turn c.turn-turn.ensures.keeper c.note-front.ensures.keeper in
    awaits g.N.Naming.board.processors c.args.pass.now.me s.desk e c.commit-reply.result c.note-front.new.keeper inv.is_desk
    (is.answers.answer ∙ ap (reply_to s.desk.state) step)
    (record {
      processors = inv.processors ∙ ap (λ t. t.processors) (sym inv.settings);
      seen = ap (λ k. k.seen) c.note-front.ensures.keeper ∙ ap (λ w. w ++ (c.args.pass.now.me, e) ∷ []) is.whole_is;
      reply_is = ap (λ x. x.reply) is.entry;
      left = ap (λ k. k.left) keeper;
      empty = λ p lt. subst (λ xs. IsIn xs p) (sym (ap (λ k. k.empty) keeper)) (c.requires.step (ap is_step_command step) p lt);
    })
