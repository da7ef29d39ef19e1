use Rattle.pf_engine.proofs.Places.{member_at_place, no_member}
use Rattle.pf_engine.proofs.roster.Roster.get.Goals as goal

pub returns-in_default : goal.returns-in_default
returns-in_default c = no_member c.args.self.now.tasks c.args.task c.in_default.ensures

pub returns : goal.returns
returns c =
    rw (← c.self.view_is)
    (member_at_place c.self.inside.tasks.items c.args.task c.in-Some.place c.index.result.now (rw (← c.self.view_is) at c.in-Some.ensures)
    c.index.ensures)
