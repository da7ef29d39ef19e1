use Rattle.pf_session_turns.proofs.Answered.{stopped, taken}
use Rattle.pf_session_turns.proofs.sitter.SitterAnswers.take.Goals as goal

pub returns-clause-ok : goal.returns-clause-ok
returns-clause-ok g c = taken g.V.Shows.shows g.S.Saver.saves c.self.inside.session c.args.self.now c.self.inside.saver c.args.line.now c.answer.result c.answer.new.session
    c.answer.new.saver c.args.text.now.items c.answer.new.text.items c.self.view_is c.answer.ensures.ok

pub returns-clause-stop : goal.returns-clause-stop
returns-clause-stop g c = stopped c.self.inside.session c.args.self.now c.args.line.now c.answer.result c.answer.new.session c.self.view_is c.answer.ensures.stopped
