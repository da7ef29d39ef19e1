use Rattle.pf_plain_script.specs.Carried.{state_to_be}
use Rattle.pf_plain_script.proofs.Behind.{line_more}
use Rattle.pf_plain_script.proofs.carried.Carried.wait.Goals as goal

pub returns : goal.returns
returns c = rw (← c.self.view_is) (line_more (state_to_be c.self.inside.desk) c.self.inside.waiting.items c.push.new.self.items c.args.line c.in_ok-push.ensures.items)
