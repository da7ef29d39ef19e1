use Rattle.std.proofs.Common.{false, [], ◌∷◌, ◌++◌, take, sym, ap, ◌∙◌, refl, le_refl}
use Rattle.std.proofs.lemmas.List.{take_more}
use Rattle.std.proofs.lemmas.Result.{IfOk-from_err, MatchResult-from_err}
use Rattle.pf_desk.specs.declared.command.Command.TheVariants.{Edit}
use Rattle.pf_desk.proofs.Gathering.{plain_at, from_turn, plain_whole, counts_later}
use Rattle.pf_desk.proofs.Entering.{is_desk}
use Rattle.pf_desk.proofs.Uncounted.{counts_none}
use Rattle.pf_desk.proofs.desk.Desk.edit_all.Goals as goal

pub returns-in_err-copy-clause-ok : goal.returns-in_err-copy-clause-ok
returns-in_err-copy-clause-ok c = IfOk-from_err _ _ c.from_residual.ensures.0

pub returns-in_err-copy-clause-err : goal.returns-in_err-copy-clause-err
returns-in_err-copy-clause-err c = MatchResult-from_err _ _ _ c.from_residual.ensures.0 (λ _. record { rest = refl; room = le_refl _ })

pub returns-in_err-copy-clause-desk : goal.returns-in_err-copy-clause-desk
returns-in_err-copy-clause-desk c = rw (← c.self.view_is) (is_desk _ _ _ _ c.self.invariant.keeps)

pub returns-in_err-copy-clause-within : goal.returns-in_err-copy-clause-within
returns-in_err-copy-clause-within c = counts_none _ _

pub returns-in_err-copy-clause-from : goal.returns-in_err-copy-clause-from
returns-in_err-copy-clause-from c = λ _ _. counts_none _ _

pub returns-in_err-copy-clause-compared : goal.returns-in_err-copy-clause-compared
returns-in_err-copy-clause-compared c = le_refl _

pub returns-in_err-judge-in-Edit-clause-ok : goal.returns-in_err-judge-in-Edit-clause-ok
returns-in_err-judge-in-Edit-clause-ok c = IfOk-from_err _ _ c.from_residual-in_err-judge-in-Edit.ensures.0

pub returns-in_err-judge-in-Edit-clause-err : goal.returns-in_err-judge-in-Edit-clause-err
returns-in_err-judge-in-Edit-clause-err c = MatchResult-from_err _ _ _ c.from_residual-in_err-judge-in-Edit.ensures.0 (λ _. record { rest = refl; room = le_refl _ })

pub returns-in_err-judge-in-Edit-clause-desk : goal.returns-in_err-judge-in-Edit-clause-desk
returns-in_err-judge-in-Edit-clause-desk c = rw (← c.self.view_is) (is_desk _ _ _ _ c.self.invariant.keeps)

pub returns-in_err-judge-in-Edit-clause-within : goal.returns-in_err-judge-in-Edit-clause-within
returns-in_err-judge-in-Edit-clause-within c = counts_none _ _

pub returns-in_err-judge-in-Edit-clause-from : goal.returns-in_err-judge-in-Edit-clause-from
returns-in_err-judge-in-Edit-clause-from c = λ _ _. counts_none _ _

pub loop-command-preserved : goal.loop-command-preserved
loop-command-preserved c =
    let i = c.loop-command.command-index in
    let commands = c.args.commands.now in
    let edit = plain_at commands i _ c.in-Edit.change c.in-Edit.strict c.loop-command-test.true c.requires c.in-Edit.is in
    record {
      batch = c.in_ok-judge-in-Edit.ensures.batch c.args.self.now c.loop-command.invariant.batch;
      caller = c.in_ok-judge-in-Edit.ensures.caller ∙ c.loop-command.invariant.caller;
      commands = c.in_ok-judge-in-Edit.ensures.commands
          ∙ ap (λ cs. cs ++ Edit c.in-Edit.change false ∷ []) c.loop-command.invariant.commands
          ∙ ap (λ x. take i commands ++ x ∷ []) (sym edit)
          ∙ sym (take_more commands i _ c.loop-command-test.true);
      from = from_turn c.args.self.now c.loop-command.batch c.judge.new.self commands i _ _ c.loop-command.invariant.batch c.loop-command.invariant.commands c.loop-command-test.true
          edit c.loop-command.invariant.from c.in_ok-judge-in-Edit.ensures.from;
    }

pub enter-requires : goal.enter-requires
enter-requires c = c.loop-command.invariant.batch

pub returns-clause-err : goal.returns-clause-err
returns-clause-err c = c.enter.ensures.err

pub returns-clause-desk : goal.returns-clause-desk
returns-clause-desk c = c.enter.ensures.desk

pub returns-clause-from : goal.returns-clause-from
returns-clause-from c = λ s plain.
    counts_later _ _ s _ _ _
    (c.loop-command.invariant.from s (plain_whole s c.args.self.now.state c.args.commands.now _ c.loop-command-test.false plain))
    c.enter.ensures.at_most

pub returns-clause-compared : goal.returns-clause-compared
returns-clause-compared c = c.enter.ensures.compared
