use Rattle.pf_script_desk.proofs.Answered.{all_taken}
use Rattle.pf_script_desk.proofs.carrying_desk.CarryingDesk.take.Goals as goal

pub returns-in_ok-answer_waiting-in-Steps : goal.returns-in_ok-answer_waiting-in-Steps
returns-in_ok-answer_waiting-in-Steps c =
    let waited = c.in_ok-answer_waiting-in-Steps.ensures in
    rw c.in-Steps.is
    (all_taken c.take_steps.result _ c.args.self.now c.answer_waiting.new.self _ c.take_steps.new.desk waited.answered waited.none c.self-in-Steps.view_is
    c.take_steps.ensures)
