use Rattle.pf_place.proofs.Index.{number_found, number_missing}
use Rattle.pf_place.proofs.pick_index.PickIndex.number.Goals as goal

pub returns-in-Some : goal.returns-in-Some
returns-in-Some c =
    rw (← c.self.view_is) (number_found c.self.inside.starts.now c.self.inside.picks.now c.self.invariant c.args.task c.in-Some.behind c.in-Some.ensures)

pub returns-in-None : goal.returns-in-None
returns-in-None c =
    rw (← c.self.view_is) (number_missing c.self.inside.starts.now c.self.inside.picks.now c.self.invariant c.args.task c.in-None.ensures)
