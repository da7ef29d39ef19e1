-- What holds of a desk whose processors carry the cap, whatever is asked of it within that.
use Rattle.pf_desk.specs.Machine.{State}
use Rattle.pf_desk.specs.Room.{HasRoom, MissesNoneAfter}

-- Room misses none: no window is missed in any run of any scenario that commands lead to which keep the room.
abbrev pub RoomMissesNone : Type 0
RoomMissesNone = (st : State) → HasRoom st.plan → MissesNoneAfter st
