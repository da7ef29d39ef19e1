use Rattle.std.proofs.Common.{rules, ◌≡◌, ◌≤◌, true, false, [], ◌∷◌}
use Rattle.std.specs.Int.{div_ceil}
use Rattle.pf_scenario.specs.Edit.{IsScenario}
use Rattle.pf_desk.specs.Room.{leaves_needed}
use Rattle.pf_desk.proofs.Rooms.{room_further, room_ends, room_stays}
use Rattle.pf_desk.proofs.never_misses.has_room.Goals as goal

pub returns-then-not-leaves-clause-room : goal.returns-then-not-leaves-clause-room
returns-then-not-leaves-clause-room c =
    let split : c.loop-numbered.numbered-iterator ≡ c.in-Some.numbered ∷ c.next.new.self = search rules in
    let needed : c.div_ceil-needed.result ≡ div_ceil c.args.scenario.now.settings.cap c.args.scenario.now.settings.base = search rules in
    let leaves : leaves_needed c.div_ceil-needed.result c.in-Some.numbered.event ≡ false = search rules in
    let scenario : IsScenario c.args.scenario.now = search rules in
    room_ends c.args.scenario.now scenario c.div_ceil-needed.result needed c.loop-numbered.numbered-iterator c.next.new.self
    c.in-Some.numbered split leaves c.loop-numbered.invariant

pub loop-numbered-preserved : goal.loop-numbered-preserved
loop-numbered-preserved c =
    let split : c.loop-numbered.numbered-iterator ≡ c.in-Some.numbered ∷ c.next.new.self = search rules in
    let leaves : leaves_needed c.div_ceil-needed.result c.in-Some.numbered.event ≡ true = search rules in
    room_further c.div_ceil-needed.result c.loop-numbered.numbered-iterator c.next.new.self c.args.scenario.now.events
    c.in-Some.numbered split leaves c.loop-numbered.invariant

pub returns-clause-room : goal.returns-clause-room
returns-clause-room c =
    let done : c.loop-numbered.numbered-iterator ≡ [] = search rules in
    let needed : c.div_ceil-needed.result ≡ div_ceil c.args.scenario.now.settings.cap c.args.scenario.now.settings.base = search rules in
    let enough : c.div_ceil-needed.result ≤ c.args.scenario.now.settings.processors = search rules in
    let scenario : IsScenario c.args.scenario.now = search rules in
    room_stays c.args.scenario.now scenario c.div_ceil-needed.result needed c.loop-numbered.numbered-iterator done enough
    c.loop-numbered.invariant
