use Rattle.std.proofs.Common.{subst}
use Rattle.pf_replies.specs.Batched.{HasTaken}
use Rattle.pf_replies.proofs.Batches.{batched, one_waits, taken_answered}
use Rattle.pf_replies.proofs.batching_desk.BatchingDesk.wait.Goals as goal

pub returns-then-len-lt-MOST_EDITS : goal.returns-then-len-lt-MOST_EDITS
returns-then-len-lt-MOST_EDITS c =
    subst (λ b. HasTaken c.args.edit b (batched c.self.inside.desk c.push.new.self.items c.self.inside.shown)) c.self.view_is
    (one_waits c.self.inside.desk c.self.inside.waiting.items c.self.inside.shown c.args.edit c.push.new.self.items c.in_ok-push.ensures.items)

pub returns : goal.returns
returns c =
    let desk = c.self.inside.desk in
    let more = c.push.new.self.items in
    taken_answered c.args.edit c.args.self.now (batched desk more c.self.inside.shown) c.answer_waiting.new.self
    (subst (λ b. HasTaken c.args.edit b (batched desk more c.self.inside.shown)) c.self.view_is
    (one_waits desk c.self.inside.waiting.items c.self.inside.shown c.args.edit more c.in_ok-push.ensures.items))
    c.in_ok-answer_waiting.ensures.answered
