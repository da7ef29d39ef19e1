use Rattle.std.specs.List.{filter}
use Rattle.pf_scenario.proofs.Slots.{IsRead}
use Rattle.pf_scenario.specs.TimeOrder.{in_time_order, is_between}
use Rattle.pf_scenario.proofs.agenda.Agenda.of_slots.Given as goal

abbrev pub invariant-loop-place : goal.invariant-loop-place
invariant-loop-place l = IsRead l.self (filter (is_between l.from l.to) (in_time_order l.self)) l.events.items l.place-iterator
