use Rattle.pf_laws.proofs.JoinsLemmas.Courses.{joins_stay_within_room}
use Rattle.pf_laws.proofs.joins.joins_stay_within_room.Goals as goal

pub returns : goal.returns
returns c = joins_stay_within_room
