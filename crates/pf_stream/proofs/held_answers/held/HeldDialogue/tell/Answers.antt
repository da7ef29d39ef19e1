use Rattle.std.proofs.Common.{arith, refl, rules}
use Rattle.pf_stream.proofs.HeldAnswersLemmas.Handing.{took_all}
use Rattle.pf_stream.proofs.held_answers.held.HeldDialogue.tell.Goals as goal

pub returns-in-Err-clause-err : goal.returns-in-Err-clause-err
returns-in-Err-clause-err g c = (
  record { reader = refl; writer = refl; prompted = refl },
  record {
    answers = search rules;
    output = took_all _ _ _ c.args.text.now c.in-Ok.ensures.ok c.in-Err.ensures.bytes;
    writes = omega (arith, c.in-Ok.ensures.count, c.in-Err.ensures.count);
  },
)
