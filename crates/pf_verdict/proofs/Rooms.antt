-- Commands that keep the room of a scenario leave it enough to miss no window.
use Rattle.pf_desk.specs.History.{state_behind}
use Rattle.pf_desk.specs.Room.{HasRoom}
use Rattle.pf_desk.proofs.Rooms.{room_goes_on}
use Rattle.pf_laws.proofs.PromiseLemmas.Settings.{settings_suffice}
use Rattle.pf_verdict.specs.Room.{RoomMissesNone}

pub room_misses_none : RoomMissesNone
room_misses_none st room entries within n r run =
    let after : HasRoom (state_behind st entries).plan = room_goes_on st entries room within in
    settings_suffice (state_behind st entries).plan n r after.scenario run after.carries.carries after.carries.leaves
