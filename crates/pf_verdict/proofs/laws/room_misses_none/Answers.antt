use Rattle.pf_verdict.proofs.Rooms as rooms
use Rattle.pf_verdict.proofs.laws.room_misses_none.Goals as goal

pub returns : goal.returns
returns c = rooms.room_misses_none
