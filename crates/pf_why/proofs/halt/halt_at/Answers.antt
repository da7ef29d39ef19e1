use Rattle.std.proofs.Common.{arith}
use Rattle.pf_scenario.specs.declared.event.Event.TheVariants.{Join}
use Rattle.pf_scenario.specs.declared.event.Numbered.{Numbered}
use Rattle.pf_why.proofs.Halts.{shift_room}
use Rattle.pf_why.proofs.halt.halt_at.Goals as goal

abbrev no_event : Numbered
no_event = record { id = 0; event = Join 0 0 0 0 0 }

pub halt_held-halt-requires-clause-shift : goal.halt_held-halt-requires-clause-shift
halt_held-halt-requires-clause-shift c =
    shift_room c.args.task c.args.events.now c.loop-numbered.shift c.loop-numbered.numbered-index c.requires.delays (omega arith) c.loop-numbered.invariant.shift_is

pub overflow_add-shift : goal.overflow_add-shift
overflow_add-shift c =
    let room = shift_room c.args.task c.args.events.now c.loop-numbered.shift c.loop-numbered.numbered-index c.requires.delays (omega arith) c.loop-numbered.invariant.shift_is in
    let most = c.requires.delays.short c.loop-numbered.numbered-index no_event (omega arith) in
    omega (arith, room, most, c.delay_from-shift.ensures)
