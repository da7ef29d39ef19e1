use Rattle.std.proofs.lemmas.Result.{on_ok_weaker}
use Rattle.pf_replies.proofs.Batches.{answered_taken}
use Rattle.pf_replies.proofs.batching_desk.BatchingDesk.take.Goals as goal

pub returns : goal.returns
returns c =
    on_ok_weaker c.answer.result
    (answered_taken c.args.command c.args.self.now c.answer_waiting.new.self c.answer.new.self c.in_ok-answer_waiting.ensures.answered) c.answer.ensures
