use Rattle.std.proofs.Common.{◌++◌, ℕ, List, subst}
use Rattle.pf_stream.specs.Dialogue.Ahead.{ahead_of}
use Rattle.pf_stream.specs.Dialogue.Answered.{AnswersAhead}
use Rattle.pf_stream.proofs.DialogueLemmas.Pieces.{left_more}
use Rattle.pf_stream.proofs.dialogue.ahead.Ahead.take.Goals as goal

pub returns-in-Ok-clause-ok : goal.returns-in-Ok-clause-ok
returns-in-Ok-clause-ok g c =
    subst
    (λ (left : List ℕ). AnswersAhead g.A.Answers.answers c.args.answers.now (ahead_of c.args.self.now) c.take_bytes.new.text.items c.in-Ok.going
    c.take_bytes.new.answers (c.take_bytes.new.line.items ++ left))
    (left_more c.args.self.now.piece.items c.args.self.now.from c.args.self.now.to c.in-Ok.count (rw c.deref.ensures.value at c.in-Ok.ensures.count))
    (rw c.deref.ensures.value at c.in-Ok.ensures.ok)
