use Rattle.pf_stream.proofs.DialogueLemmas.Answering.{last_taken}
use Rattle.pf_stream.proofs.dialogue.lines.take_last.Goals as goal

pub returns-clause-ok : goal.returns-clause-ok
returns-clause-ok g c =
    last_taken g.A.Answers.answers c.args.answers.now c.args.line.now c.args.text.now.items c.take.new.text.items c.take.new.self c.take.result
    c.is_empty.result c.requires c.is_empty.ensures c.if-is_empty.false c.take.ensures.ok
