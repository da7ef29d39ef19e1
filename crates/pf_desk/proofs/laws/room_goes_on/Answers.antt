use Rattle.pf_desk.proofs.Rooms as rooms
use Rattle.pf_desk.proofs.laws.room_goes_on.Goals as goal

pub returns : goal.returns
returns c = rooms.room_goes_on
