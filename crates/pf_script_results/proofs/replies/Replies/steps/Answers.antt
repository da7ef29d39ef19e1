use Rattle.std.proofs.Common.{◌∙◌, refl, arith}
use Rattle.std.proofs.lemmas.Result.{err_from_is_err_and}
use Rattle.pf_desk.specs.declared.command.Command.TheVariants.{Step}
use Rattle.pf_script_results.proofs.Walking.{answer_rest, legal_more, none_left, one_left, refused_more}
use Rattle.pf_script_results.proofs.replies.Replies.steps.Goals as goal

pub loop-turn-preserved : goal.loop-turn-preserved
loop-turn-preserved c =
    let i = c.loop-turn.invariant in
    record {
      few = omega (arith, i.few, c.one_if_refused-refused.ensures.most);
      refused = λ st legal.
          refused_more c.loop-turn._turn st c.in_ok-outcome.outcome c.loop-turn.self c.answer.new.self c.in_ok-outcome.ensures.taken (i.legal st legal)
          c.loop-turn.refused _ (i.refused st legal) (omega (arith, c.one_if_refused-refused.ensures.value));
      legal = λ st legal.
          legal_more c.loop-turn._turn st c.in_ok-outcome.outcome c.loop-turn.self c.answer.new.self c.in_ok-outcome.ensures.taken (i.legal st legal);
      rest = λ rest is.
          answer_rest Step c.in_ok-outcome.outcome c.loop-turn.self c.answer.new.self c.in_ok-outcome.ensures.taken _
          (i.rest rest is ∙ one_left c.args.count c.loop-turn._turn rest (omega arith));
    }

pub returns-in_err-outcome-clause-own : goal.returns-in_err-outcome-clause-own
returns-in_err-outcome-clause-own c = λ rest is.
    let p = err_from_is_err_and c.from_residual.result c.from_residual.ensures.1 in
    rw (p.1, p.2)
    (c.in_err-outcome.ensures.own _ (c.loop-turn.invariant.rest rest is ∙ one_left c.args.count c.loop-turn._turn rest (omega arith)))
